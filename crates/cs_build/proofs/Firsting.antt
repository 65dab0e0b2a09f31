-- The objects in front of the classes.
use Rattle.std.proofs.Common.{◌≡◌, ℕ, zero, suc, ◌+◌, List, [], ◌∷◌, ◌++◌, map, Bor, refl, ap, ap₂, sym, ◌∙◌, arith}
use Rattle.std.specs.Prelude.{ℤ, filter_map, flat_map, fold, slice_set}
use Rattle.std.specs.List.{range_with_len}
use Rattle.std.proofs.lemmas.List.Sums.{fold-append}
use Rattle.std.specs.Option.{option_or}
use Rattle.cs_model.specs.Ref.{Ref}
use Rattle.cs_model.specs.BuilderText as text
use Rattle.cs_model.specs.Text.{first_that}
use Rattle.cs_model.specs.Builder.{active_name}

pub active_cons : (form : text.Form) (forms : List text.Form)
    → first_that (filter_map active_name (form ∷ forms)) ≡ option_or (active_name form) (first_that (filter_map active_name forms))
active_cons (text.Active name) forms = refl
active_cons form forms = refl

-- what two columns give is what their pairs give
pub pairs_map : {R : Type 0} (f : ℕ → List ℕ → R) (xs : List (ℕ × Bor (List ℕ))) (ys : List (ℕ × List ℕ)) → map (λ e. e.0) xs ≡ map (λ e. e.0) ys → map (λ e. e.1.now) xs ≡ map (λ e. e.1) ys
    → map (λ e. f e.0 e.1.now) xs ≡ map (λ e. f e.0 e.1) ys
pairs_map f [] [] e h = refl
pairs_map f [] (y ∷ ys) e h = absurd (cc)
pairs_map f (x ∷ xs) [] e h = absurd (cc)
pairs_map f (x ∷ xs) (y ∷ ys) e h =
    let first : x.0 ≡ y.0 = cc in
    let second : x.1.now ≡ y.1 = cc in
    let more : map (λ e. e.0) xs ≡ map (λ e. e.0) ys = cc in
    let rest : map (λ e. e.1.now) xs ≡ map (λ e. e.1) ys = cc in
    ap₂ (λ r rs. r ∷ rs) (ap₂ f first second) (pairs_map f xs ys more rest)

pub pairs_flat : {R : Type 0} (f : List ℕ → ℤ → List R) (g : ℕ → ℤ) (xs : List (Bor (List ℕ) × ℤ)) (ys : List (List ℕ × ℕ)) → map (λ e. e.0.now) xs ≡ map (λ e. e.0) ys → map (λ e. e.1) xs ≡ map (λ e. g e.1) ys
    → flat_map (λ e. f e.0.now e.1) xs ≡ flat_map (λ e. f e.0 (g e.1)) ys
pairs_flat f g [] [] e h = refl
pairs_flat f g [] (y ∷ ys) e h = absurd (cc)
pairs_flat f g (x ∷ xs) [] e h = absurd (cc)
pairs_flat f g (x ∷ xs) (y ∷ ys) e h =
    let first : x.0.now ≡ y.0 = cc in
    let second : x.1 ≡ g y.1 = cc in
    let more : map (λ e. e.0.now) xs ≡ map (λ e. e.0) ys = cc in
    let rest : map (λ e. e.1) xs ≡ map (λ e. g e.1) ys = cc in
    ap₂ (λ r rs. r ++ rs) (ap₂ f first second) (pairs_flat f g xs ys more rest)

pub set_more : (new old mid : List Ref) (k : ℕ) (r v : Ref) → new ≡ slice_set old k r → r ≡ v → old ≡ mid → new ≡ slice_set mid k v
set_more new old mid k r v e same was = e ∙ ap₂ (λ s x. slice_set s k x) was same

pub three_folds : {A B : Type 0} (f : B → A → B) (z : B) (a b c : List A) → fold f (fold f (fold f z a) b) c ≡ fold f z ((a ++ b) ++ c)
three_folds f z a b c = sym (fold-append f z (a ++ b) c ∙ ap (λ s. fold f s c) (fold-append f z a b))

range_end : (a i j : ℕ) → a + i ≡ j → range_with_len a (suc i) ≡ range_with_len a i ++ j ∷ []
range_end a zero j e = let same : a ≡ j = omega (arith, e) in ap (λ b. b ∷ []) same
range_end a (suc i) j e = ap (λ xs. a ∷ xs) (range_end (a + 1) i j (omega (arith, e)))

pub range_more : (k : ℕ) → range_with_len 1 (k + 1) ≡ range_with_len 1 k ++ (k + 1) ∷ []
range_more k = let on : k + 1 ≡ suc k = omega arith in ap (range_with_len 1) on ∙ range_end 1 k (k + 1) (omega arith)
