-- A word has the birth of the object at whose address it is.
use Rattle.std.proofs.Common.{◌≡◌, ℕ, zero, suc, ◌+◌, ◌*◌, ◌<◌, ◌≤◌, ◌==◌, Bool, true, false, cond, nat_lt, List, [], ◌∷◌, ◌++◌, length, take, drop, Option, Some, refl, ap, ap₂, sym, ◌∙◌, arith, slice_get, slice_index}
use Rattle.std.specs.Option.{option_map_or}
use Rattle.std.specs.List.{find, zip}
use Rattle.std.proofs.lemmas.Bool.Decides.{nat_tests}
use Rattle.cs_model.specs.ImageFile.{FileObject}
use Rattle.cs_model.specs.SavedFile.{SavedObject, SavedFile, FitsFile, saved_base, saved_size, saved_sizes, placed_at, placed_from, words_before}
use Rattle.cs_model.proofs.SavedObjects.{sizes-cons}
use Rattle.cs_model.specs.SoundFile.{saved_address, births_saved, saved_birth, visible_saved}
use Rattle.cs_model.proofs.SavedPlacing.{IsSplit, split, get_below}
use Rattle.cs_model.proofs.SavedEntries.{placed_get}

-- ---- the first that passes

pub found_birth : (p : FileObject → Bool) (births : List ℕ) (xs : List FileObject) (k : ℕ) (x : FileObject) → slice_get xs k ≡ Some x → p x ≡ true
    → ((j : ℕ) (y : FileObject) → j < k → slice_get xs j ≡ Some y → p y ≡ false) → k < length births
    → option_map_or (λ (e : ℕ × FileObject). e.0) (find (λ (e : ℕ × FileObject). p e.1) (zip births xs)) 0 ≡ slice_index births k
found_birth p births [] k x e h other long = absurd (cc)
found_birth p [] (y ∷ xs) k x e h other long = absurd (omega (arith, long))
found_birth p (b ∷ births) (y ∷ xs) zero x e h other long =
    let same : y ≡ x = cc in
    rw (ap p same ∙ h) refl
found_birth p (b ∷ births) (y ∷ xs) (suc k) x e h other long =
    rw (other 0 y (omega arith) refl) (found_birth p births xs k x e h (λ j z l g. other (suc j) z (omega (arith, l)) g) (omega (arith, long)))

-- ---- places

abbrev gap : ℕ → ℕ
gap k = cond (nat_lt k 3) 0 22

pub ends_before : (os : List SavedObject) (j k : ℕ) (o : SavedObject) → j < k → slice_get os j ≡ Some o
    → saved_sizes (take j os) + saved_size (length o.words) ≤ saved_sizes (take k os)
ends_before [] j k o l e = absurd (cc)
ends_before (x ∷ os) j zero o l e = absurd (omega (arith, l))
ends_before (x ∷ os) zero (suc k) o l e =
    let same : x ≡ o = cc in
    let size : saved_size (length x.words) ≡ saved_size (length o.words) = ap (λ (y : SavedObject). saved_size (length y.words)) same in
    omega (arith, size, sizes-cons x (take k os))
ends_before (x ∷ os) (suc j) (suc k) o l e =
    omega (arith, sizes-cons x (take j os), sizes-cons x (take k os), ends_before os j k o (omega (arith, l)) e)

gap_rises : (j k : ℕ) → j ≤ k → gap j ≤ gap k
gap_rises j k l = go (nat_lt j 3) (nat_lt k 3) refl refl
  where
    go : (a b : Bool) → nat_lt j 3 ≡ a → nat_lt k 3 ≡ b → cond a 0 22 ≤ cond b 0 22
    go true b d e = go_true b
      where
        go_true : (b : Bool) → 0 ≤ cond b 0 22
        go_true true = omega arith
        go_true false = omega arith
    go false false d e = omega arith
    go false true d e = let high : 3 ≤ j = grind (arith, nat_tests, d) in let low : k < 3 = grind (arith, nat_tests, e) in absurd (omega (arith, high, low, l))

-- the k-th visible object
pub visible_get : (f : SavedFile) → FitsFile f → (k : ℕ) (o : SavedObject) → slice_get f.objects k ≡ Some o
    → slice_get (visible_saved f) k ≡ Some (placed_at (saved_sizes (take k f.objects) + gap k) o)
unfolding placed_from
visible_get f fits k o e =
    ap (λ (os : List SavedObject). slice_get (placed_from 0 (take 3 os) ++ placed_from 34 (drop 3 os)) k) s.objects
    ∙ go k (ap (λ (os : List SavedObject). slice_get os k) (sym s.objects) ∙ e)
    ∙ ap (λ (os : List SavedObject). Some (placed_at (saved_sizes (take k os) + gap k) o)) (sym s.objects)
  where
    s : IsSplit f
    s = split f fits

    all : List SavedObject
    all = s.nil ∷ s.false_ ∷ s.true_ ∷ s.others

    front : List FileObject
    front = placed_from 0 (take 3 all)

    first : (i : ℕ) → ℕ
    first i = 0 + saved_sizes (take i (take 3 all))

    at : (n m : ℕ) → n ≡ m → Some (placed_at n o) ≡ Some (placed_at m o)
    at n m h = ap (λ i. Some (placed_at i o)) h

    go : (k : ℕ) → slice_get all k ≡ Some o
        → slice_get (front ++ placed_from 34 s.others) k ≡ Some (placed_at (saved_sizes (take k all) + gap k) o)
    go zero e = let same : s.nil ≡ o = cc in ap₂ (λ n x. Some (placed_at n x)) (omega arith) same
    go (suc zero) e = let same : s.false_ ≡ o = cc in
        ap₂ (λ n x. Some (placed_at n x)) (omega (arith, sizes-cons s.nil [])) same
    go (suc (suc zero)) e = let same : s.true_ ≡ o = cc in
        ap₂ (λ n x. Some (placed_at n x)) (omega (arith, sizes-cons s.nil (s.false_ ∷ []), sizes-cons s.false_ [])) same
    go (suc (suc (suc j))) e =
        let behind : nat_lt (suc (suc (suc j))) 3 ≡ false = let h : 3 ≤ suc (suc (suc j)) = omega arith in grind (arith, nat_tests, h) in
        let far : ◌≡◌ {A = ℕ} (cond (nat_lt (suc (suc (suc j))) 3) 0 22) 22 = ap {B = ℕ} (λ (b : Bool). cond b 0 22) behind in
        placed_get 34 s.others j o e
        ∙ at (34 + saved_sizes (take j s.others)) (saved_sizes (take (suc (suc (suc j))) all) + gap (suc (suc (suc j)))) (omega (
          arith,
          far,
          s.size,
          sizes-cons s.nil (s.false_ ∷ s.true_ ∷ []),
          sizes-cons s.false_ (s.true_ ∷ []),
          sizes-cons s.true_ [],
          sizes-cons s.nil (s.false_ ∷ s.true_ ∷ take j s.others),
          sizes-cons s.false_ (s.true_ ∷ take j s.others),
          sizes-cons s.true_ (take j s.others),
        ))

-- ---- the birth

some_get : (os : List SavedObject) (j : ℕ) → j < length os → (o : SavedObject) × (slice_get os j ≡ Some o)
some_get [] j h = absurd (omega (arith, h))
some_get (x ∷ os) zero h = (x, refl)
some_get (x ∷ os) (suc j) h = some_get os j (omega (arith, h))

before_size : (n : ℕ) → words_before n < saved_size n
before_size n = omega arith

pub birth_by_number : (f : SavedFile) → FitsFile f → length (births_saved f) ≡ length f.objects → (k : ℕ) (o : SavedObject)
    → slice_get f.objects k ≡ Some o → saved_birth f (saved_address f.objects k) ≡ slice_index (births_saved f) k
unfolding saved_birth
birth_by_number f fits long k o e =
    let below = get_below f.objects k o e in
    found_birth p (births_saved f) (visible_saved f) k (placed_at (saved_sizes (take k f.objects) + gap k) o)
    (visible_get f fits k o e) here other (omega (arith, long, below))
  where
    address : ℕ
    address = saved_address f.objects k

    p : FileObject → Bool
    p x = saved_base + 4 * x.place == address

    slots : words_before (option_map_or (λ (x : SavedObject). length x.words) (slice_get f.objects k) 0) ≡ words_before (length o.words)
    slots = ap (λ (r : Option SavedObject). words_before (option_map_or (λ x. length x.words) r 0)) e

    here : p (placed_at (saved_sizes (take k f.objects) + gap k) o) ≡ true
    here =
        let same : saved_base + 4 * (saved_sizes (take k f.objects) + gap k + words_before (length o.words)) ≡ address = omega (arith, slots) in
        grind (arith, nat_tests, same)

    other : (j : ℕ) (y : FileObject) → j < k → slice_get (visible_saved f) j ≡ Some y → p y ≡ false
    other j y l g =
        let below = get_below f.objects k o e in
        let x = some_get f.objects j (omega (arith, below, l)) in
        let y_is : y ≡ placed_at (saved_sizes (take j f.objects) + gap j) x.0 = let there = visible_get f fits j x.0 x.1 in cc in
        let ends = ends_before f.objects j k x.0 l x.1 in
        let gaps = gap_rises j k (omega (arith, l)) in
        let before = before_size (length x.0.words) in
        let less : saved_base + 4 * (saved_sizes (take j f.objects) + gap j + words_before (length x.0.words)) < address = omega (arith, ends, gaps, before, slots) in
        ap p y_is ∙ (grind (arith, nat_tests, less))
