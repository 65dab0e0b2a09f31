-- The first element that passes a test.
use Rattle.std.proofs.Common.{◌≡◌, ◌≢◌, ℕ, zero, suc, ◌+◌, ◌*◌, ◌<◌, ◌==◌, Bool, true, false, cond, List, [], ◌∷◌, map, Option, Some, None, refl, ap, ◌∙◌, arith, slice_get, slice_index, option_map, option_and_then}
use Rattle.std.specs.List.{find}
use Rattle.std.proofs.lemmas.Option.{slice_get-map}
use Rattle.std.proofs.lemmas.Bool.Decides.{nat_tests}
use Rattle.cs_model.specs.ImageFile.{FileObject, address_in}
use Rattle.cs_image.specs.declared.file.Placed.{Placed}
use Rattle.cs_image.specs.declared.file.FileHeap.TheInside.{Inside}
use Rattle.cs_image.specs.Heap.{placed_object, file_in, IsFileHeap}
use Rattle.cs_image.specs.Loading.{number_that}

pub number_none : {X : Type 0} (p : X → Bool) (xs : List X) → ((k : ℕ) (x : X) → slice_get xs k ≡ Some x → p x ≡ false) → number_that p xs ≡ None
number_none p [] none = refl
number_none p (x ∷ xs) none = rw (none 0 x refl) (ap (option_map suc) (number_none p xs (λ k y e. none (suc k) y e)))

pub number_at : {X : Type 0} (p : X → Bool) (xs : List X) (k : ℕ) (x : X) → slice_get xs k ≡ Some x → p x ≡ true
    → ((j : ℕ) (y : X) → j < k → slice_get xs j ≡ Some y → p y ≡ false) → number_that p xs ≡ Some k
number_at p [] k x e passes before = absurd (cc)
number_at p (y ∷ xs) zero x e passes before = let same : y ≡ x = cc in rw (same, passes) refl
number_at p (y ∷ xs) (suc k) x e passes before =
    rw (before 0 y (omega arith) refl) (ap (option_map suc) (number_at p xs k x e passes (λ j z h f. before (suc j) z (omega (arith, h)) f)))

-- the first element that passes is the one of that number
pub find-number : {X : Type 0} (p : X → Bool) (xs : List X) → find p xs ≡ option_and_then (slice_get xs) (number_that p xs)
find-number p [] = refl
find-number p (x ∷ xs) = go (p x) (number_that p xs) (find-number p xs)
  where
    go : (b : Bool) (r : Option ℕ) → find p xs ≡ option_and_then (slice_get xs) r
        → cond b (Some x) (find p xs) ≡ option_and_then (slice_get (x ∷ xs)) (cond b (Some 0) (option_map suc r))
    go true r e = refl
    go false None e = e
    go false (Some k) e = e

-- an element that a list was mapped from
mapped : {X Y : Type 0} (f : X → Y) (xs : List X) (k : ℕ) (y : Y) → slice_get (map f xs) k ≡ Some y → (x : X) × (slice_get xs k ≡ Some x) × (f x ≡ y)
mapped f [] k y e = absurd (cc)
mapped f (x ∷ xs) zero y e = (x, refl, cc)
mapped f (x ∷ xs) (suc k) y e = mapped f xs k y e

eqb_no : (a b : ℕ) → a ≢ b → (a == b) ≡ false
eqb_no a b ne = grind (arith, nat_tests, ne)

eqb_same : (a b : ℕ) → a ≡ b → (a == b) ≡ true
eqb_same a b e = grind (arith, nat_tests, e)

-- a word names nothing where no header begins at its place
pub named_none : (h : Inside) → IsFileHeap h → (word : ℕ)
    → ((place : ℕ) → h.base + 4 * place ≡ word → slice_index h.starts.items place ≡ 0)
    → number_that (λ o. address_in (file_in h) o == word) (file_in h).objects ≡ None
named_none h inv word none = number_none (λ o. address_in (file_in h) o == word) (map (placed_object h.words.items) h.objects.items) (λ k o e.
    let m = mapped (placed_object h.words.items) h.objects.items k o e in
    let placed : m.0.place ≡ o.place = ap (λ (x : FileObject). x.place) m.2 in
    eqb_no _ _ (λ named_here.
    let at0 = none m.0.place (ap (λ (p : ℕ). h.base + 4 * p) placed ∙ named_here) in
    let atk = inv.index.found k m.0 m.1 in
    absurd (omega (arith, at0, atk))))

-- and else the object whose number is there
pub named_some : (h : Inside) → IsFileHeap h → (word place k : ℕ) → h.base + 4 * place ≡ word → slice_index h.starts.items place ≡ k + 1
    → number_that (λ o. address_in (file_in h) o == word) (file_in h).objects ≡ Some k
named_some h inv word place k here starts = go (slice_get h.objects.items k) refl (inv.index.only place k starts)
  where
    go : (r : Option Placed) → slice_get h.objects.items k ≡ r → option_map (λ (o : Placed). o.place) r ≡ Some place
        → number_that (λ o. address_in (file_in h) o == word) (map (placed_object h.words.items) h.objects.items) ≡ Some k
    go None e only = absurd (cc)
    go (Some o) e only =
        let placed : o.place ≡ place = cc in
        let got : slice_get (map (placed_object h.words.items) h.objects.items) k ≡ Some (placed_object h.words.items o) =
        slice_get-map (placed_object h.words.items) h.objects.items k ∙ ap (option_map (placed_object h.words.items)) e in
        number_at (λ x. address_in (file_in h) x == word) _ k (placed_object h.words.items o) got (eqb_same _ _ (ap (λ (p : ℕ). h.base + 4 * p) placed ∙ here)) (λ j y below f.
        let m = mapped (placed_object h.words.items) h.objects.items j y f in
        let also : m.0.place ≡ y.place = ap (λ (x : FileObject). x.place) m.2 in
        eqb_no _ _ (λ named_here.
        let there : y.place ≡ place = omega (arith, named_here, here) in
        let atj : slice_index h.starts.items m.0.place ≡ j + 1 = inv.index.found j m.0 m.1 in
        let same : slice_index h.starts.items m.0.place ≡ slice_index h.starts.items place = ap (slice_index h.starts.items) (also ∙ there) in
        absurd (omega (arith, atj, same, starts, below))))
