-- The numbers of all objects of a text.
use Rattle.std.proofs.Common.{◌≡◌, ℕ, suc, ◌+◌, ◌-◌, ◌<◌, ◌≤◌, Bool, true, false, List, [], ◌∷◌, ◌++◌, length, map, Some, None, Option, refl, ap, sym, subst, ◌∙◌, arith, if◌then◌else◌, get_or}
use Rattle.std.specs.Prelude.{position, find, sum_by, flat_map, fold, IfSome, unwrap_or}
use Rattle.std.specs.Str.{bytes_eq}
use Rattle.std.proofs.lemmas.List.Sums.{fold-append, sum_by-cons}
use Rattle.cs_model.specs.Ref.{Ref}
use Rattle.cs_model.specs.Ref as ref
use Rattle.cs_model.specs.BuilderText as text
use Rattle.cs_model.specs.BuilderFault.{place_where, all_classes, class_lines_in}
use Rattle.cs_model.specs.Builder.{all_forms, symbols_in, symbol_ref, with_new, selector_names, special_symbols, first_symbol, first_dictionary, birth_where, object_count, first_class}
use Rattle.cs_build.specs.Numbered.{first_at, mentioned, selector_words, special_names_of, method_found}
use Rattle.cs_build.specs.Standing.{symbol_names}
use Rattle.cs_build.proofs.Noting.{position_is}

-- ---- places in lists

first_within : {X : Type 0} (p : X → Bool) (n : ℕ) (xs : List X) → IfSome (first_at p n xs) (λ k. k < n + length xs)
first_within p n [] = tt
first_within p n (x ∷ xs) = go (p x) (first_at p (n + 1) xs) (first_within p (n + 1) xs)
  where
    go : (b : Bool) (o : Option ℕ) → IfSome o (λ k. k < n + 1 + length xs) → IfSome (if b then Some n else o) (λ k. k < n + suc (length xs))
    go true o h = omega arith
    go false None h = tt
    go false (Some k) h = omega (arith, h)

pub position_within : {X : Type 0} (p : X → Bool) (xs : List X) → IfSome (position p xs) (λ k. k < length xs)
position_within p xs = subst (λ (o : Option ℕ). IfSome o (λ k. k < length xs)) (position_is p xs) (go (first_at p 0 xs) (first_within p 0 xs))
  where
    go : (o : Option ℕ) → IfSome o (λ k. k < 0 + length xs) → IfSome o (λ k. k < length xs)
    go None h = tt
    go (Some k) h = omega (arith, h)

-- what is found is what stands at that place
found_from : {X : Type 0} (p : X → Bool) (n m : ℕ) (xs : List X) (d : X) → first_at p n xs ≡ Some m → (n ≤ m) × (find p xs ≡ Some (get_or xs (m - n) d))
found_from p n m [] d e = absurd (cc)
found_from p n m (x ∷ xs) d e = go (p x) e (found_from p (n + 1) m xs d)
  where
    go : (b : Bool) → (if b then Some n else first_at p (n + 1) xs) ≡ Some m
        → (first_at p (n + 1) xs ≡ Some m → (n + 1 ≤ m) × (find p xs ≡ Some (get_or xs (m - (n + 1)) d)))
        → (n ≤ m) × ((if b then Some x else find p xs) ≡ Some (get_or (x ∷ xs) (m - n) d))
    go true e h =
        let same : n ≡ m = cc in
        let none : m - n ≡ 0 = omega (arith, same) in
        (omega (arith, same), sym (ap (λ k. Some (get_or (x ∷ xs) k d)) none))
    go false e h =
        let rest : (n + 1 ≤ m) × (find p xs ≡ Some (get_or xs (m - (n + 1)) d)) = h e in
        let more : m - n ≡ suc (m - (n + 1)) = omega (arith, rest.0) in
        (omega (arith, rest.0), rest.1 ∙ sym (ap (λ k. Some (get_or (x ∷ xs) k d)) more))

pub find_position : {X : Type 0} (p : X → Bool) (k : ℕ) (xs : List X) (d : X) → position p xs ≡ Some k → find p xs ≡ Some (get_or xs k d)
find_position p k xs d e =
    let there : k - 0 ≡ k = omega arith in
    (found_from p 0 k xs d (position_is p xs ∙ e)).1 ∙ ap (λ i. Some (get_or xs i d)) there

none_found : {X : Type 0} (p : X → Bool) (n : ℕ) (xs : List X) → first_at p n xs ≡ None → find p xs ≡ None
none_found p n [] e = refl
none_found p n (x ∷ xs) e = go (p x) e (none_found p (n + 1) xs)
  where
    go : (b : Bool) → (if b then Some n else first_at p (n + 1) xs) ≡ None → (first_at p (n + 1) xs ≡ None → find p xs ≡ None) → (if b then Some x else find p xs) ≡ None
    go true e h = absurd (cc)
    go false e h = h e

pub find_none : {X : Type 0} (p : X → Bool) (xs : List X) → position p xs ≡ None → find p xs ≡ None
find_none p xs e = none_found p 0 xs (position_is p xs ∙ e)

pub place_within : (w : text.Form → ℕ) (p : text.Form → Bool) (n : ℕ) (xs : List text.Form) → IfSome (place_where w p n xs) (λ k. k ≤ n + sum_by w xs)
place_within w p n [] = tt
place_within w p n (x ∷ xs) = go (p x) (place_where w p (n + w x) xs) (place_within w p (n + w x) xs)
  where
    go : (b : Bool) (o : Option ℕ) → IfSome o (λ k. k ≤ n + w x + sum_by w xs) → IfSome (if b then Some n else o) (λ k. k ≤ n + sum_by w (x ∷ xs))
    go true o h = omega arith
    go false None h = tt
    go false (Some k) h = omega (arith, h, sum_by-cons w x xs)

-- ---- symbols

three : (a b c : List (List ℕ)) → mentioned (mentioned (mentioned [] a) b) c ≡ fold with_new [] ((a ++ b) ++ c)
unfolding mentioned
three a b c = sym (fold-append with_new [] (a ++ b) c ∙ ap (λ names. fold with_new names c) (fold-append with_new [] a b))

pub symbols_are : (forms : List text.Form) → mentioned (mentioned (mentioned [] selector_words) special_names_of) (flat_map symbols_in (all_forms forms)) ≡ symbol_names forms
unfolding symbol_names selector_words special_names_of
symbols_are forms = three (map (λ e. e.0) selector_names) (map (λ e. e.1) special_symbols) (flat_map symbols_in (all_forms forms))

pub symbol_ref_is : (forms : List text.Form) (name : List ℕ) (n place : ℕ) → n ≡ first_symbol forms → place ≡ unwrap_or (position (bytes_eq name) (symbol_names forms)) 0
    → ref.Obj (n + place) ≡ symbol_ref forms name
unfolding symbol_names
symbol_ref_is forms name n place e h = ap (λ k. ref.Obj (k + place)) e ∙ ap (λ k. ref.Obj (first_symbol forms + k)) h

-- ---- the lines in front

pub classes_are : (forms : List text.Form) → flat_map class_lines_in (all_forms forms) ≡ all_classes forms
classes_are forms = refl

pub methods_are : (c s : List ℕ) (forms : List text.Form) → method_found c s (all_forms forms) ≡ method_found c s forms
methods_are c s forms = refl

-- ---- numbers that fit

if_some_below : (o : Option ℕ) (a b : ℕ) → IfSome o (λ k. k ≤ a) → a < b → IfSome o (λ k. k < b)
if_some_below None a b h l = tt
if_some_below (Some k) a b h l = omega (arith, h, l)

pub birth_small : (forms : List text.Form) (p : text.Form → Bool) (next most : ℕ) → next ≡ first_dictionary forms → next < most → IfSome (birth_where forms p) (λ k. k < most)
birth_small forms p next most e h = if_some_below (birth_where forms p) (first_dictionary forms) most (place_within object_count p first_class (all_forms forms)) (omega (arith, e, h))

pub below_length : (o : Option ℕ) (a b : ℕ) → IfSome o (λ k. k < a) → a ≤ b → IfSome o (λ k. k < b)
below_length None a b h l = tt
below_length (Some k) a b h l = omega (arith, h, l)
