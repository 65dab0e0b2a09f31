-- What holds of each element of a list that is made of another.
use Rattle.std.proofs.Common.{◌≡◌, ℕ, ◌&&◌, Bool, true, false, cond, nat_lt, List, [], ◌∷◌, map, refl, arith}
use Rattle.std.specs.Prelude.{Option, flat_map, filter, unwrap_or, IfSome, Some, None}
use Rattle.std.specs.List.{AllByRecursion, list_all}
use Rattle.std.proofs.lemmas.Bool.Decides.{nat_tests}
use Rattle.cs_model.proofs.Same.{all-append}
use Rattle.cs_build.specs.Stored.{IsByte}

pub all_mapped : {A B : Type 0} (Q : A → Type 0) (P : B → Type 0) (f : A → B) (xs : List A) → ((x : A) → Q x → P (f x)) → AllByRecursion Q xs
    → AllByRecursion P (map f xs)
all_mapped Q P f [] each all = tt
all_mapped Q P f (x ∷ xs) each all = (each x all.0, all_mapped Q P f xs each all.1)

pub all_flat : {A B : Type 0} (Q : A → Type 0) (P : B → Type 0) (f : A → List B) (xs : List A) → ((x : A) → Q x → AllByRecursion P (f x))
    → AllByRecursion Q xs → AllByRecursion P (flat_map f xs)
all_flat Q P f [] each all = tt
all_flat Q P f (x ∷ xs) each all = all-append P (f x) (flat_map f xs) (each x all.0) (all_flat Q P f xs each all.1)

pub all_kept : {A : Type 0} (P : A → Type 0) (p : A → Bool) (xs : List A) → AllByRecursion P xs → AllByRecursion P (filter p xs)
all_kept P p [] all = tt
all_kept P p (x ∷ xs) all = go (p x) (all_kept P p xs all.1)
  where
    go : (b : Bool) → AllByRecursion P (filter p xs) → AllByRecursion P (cond b (x ∷ filter p xs) (filter p xs))
    go true rest = (all.0, rest)
    go false rest = rest

pub all_if_some : {A : Type 0} (P : A → Type 0) (o : Option (List A)) → IfSome o (AllByRecursion P) → AllByRecursion P (unwrap_or o [])
all_if_some P None h = tt
all_if_some P (Some xs) h = h

-- elements that pass a test
pub all_passed : {A : Type 0} (P : A → Type 0) (p : A → Bool) → ((x : A) → p x ≡ true → P x) → (xs : List A) → list_all p xs ≡ true → AllByRecursion P xs
all_passed P p each [] h = tt
all_passed {A} P p each (x ∷ xs) h = go (p x) (list_all p xs) h (each x) (all_passed P p each xs)
  where
    go : (a b : Bool) → a && b ≡ true → (a ≡ true → P x) → (b ≡ true → AllByRecursion P xs) → AllByRecursion P (x ∷ xs)
    go true true h first rest = (first refl, rest refl)
    go true false h first rest = absurd (cc)
    go false b h first rest = absurd (cc)

-- names of bytes, by a test that computes
pub names_of_bytes : (names : List (List ℕ)) → list_all (list_all (λ b. nat_lt b 256)) names ≡ true → AllByRecursion (AllByRecursion IsByte) names
names_of_bytes names h = all_passed (AllByRecursion IsByte) (list_all (λ b. nat_lt b 256))
    (λ name e. all_passed IsByte (λ b. nat_lt b 256) (λ b f. grind (arith, nat_tests, f)) name e) names h
