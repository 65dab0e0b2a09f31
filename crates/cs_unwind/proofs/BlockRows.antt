-- What the primitives that evaluate closures come to, by what is read for them.
use Rattle.std.proofs.Common.{◌≡◌, ◌≢◌, ◌∙◌, ℕ, ◌+◌, ◌-◌, ◌<◌, ◌≤◌, Bool, true, false, refl, sym, ap, arith, Option, Some, None, is_some, length, nat_le, option_map, option_and_then, List}
use Rattle.std.specs.Prelude.{◌==◌, if◌then◌else◌}
use Rattle.std.proofs.lemmas.Bool.Decides.{nat_tests}
use Rattle.cs_model.specs.Ref.{Ref}
use Rattle.cs_model.specs.Obj.{slots_in}
use Rattle.cs_model.specs.State.{Kept, object_of}
use Rattle.cs_model.specs.Enter.{can_evaluate, enter_block_out}
use Rattle.cs_model.specs.End.{Out, given}
use Rattle.cs_model.specs.PrimAnswer.{argument, fail, receiver, with_count}
use Rattle.cs_model.specs.PrimUnwind.{evaluate_array_prim, evaluate_prim}
use Rattle.cs_model.specs.Read.{depth_of, size_of}
use Rattle.cs_model.specs.Send.{array_elements, elements_fitting, spread_of}
use Rattle.cs_unwind.proofs.MarkRows.{counted}
use Rattle.cs_unwind.proofs.Pointers.{array_slots}

-- ---- a number of arguments

same : (n : ℕ) → (n == n) ≡ true
same n = grind (arith, nat_tests)

as_counted : (k : Kept) (wanted args : ℕ) (body : Out) → args ≡ wanted → with_count k wanted args body ≡ body
as_counted k wanted args body e = ap (λ n. with_count k wanted n body) e ∙ ap (λ (b : Bool). if b then body else fail k) (same wanted)

pub evaluate-count : (k : Kept) (wanted args : ℕ) → args ≢ wanted → evaluate_prim k wanted args ≡ fail k
unfolding evaluate_prim
evaluate-count k wanted args h = counted k wanted args _ h

pub evaluate-can : (k : Kept) (wanted args : ℕ) (x : Ref) → args ≡ wanted → x ≡ receiver k wanted → can_evaluate k x wanted ≡ true → enter_block_out k x wanted ≡ evaluate_prim k wanted args
unfolding evaluate_prim
evaluate-can k wanted args x e is can =
    ap (λ y. enter_block_out k y wanted) is
    ∙ sym (as_counted k wanted args (if can_evaluate k (receiver k wanted) wanted then enter_block_out k (receiver k wanted) wanted else fail k) e
    ∙ ap (λ (b : Bool). if b then enter_block_out k (receiver k wanted) wanted else fail k) (ap (λ y. can_evaluate k y wanted) (sym is) ∙ can))

pub evaluate-cannot : (k : Kept) (wanted args : ℕ) (x : Ref) → args ≡ wanted → x ≡ receiver k wanted → can_evaluate k x wanted ≡ false → evaluate_prim k wanted args ≡ fail k
unfolding evaluate_prim
evaluate-cannot k wanted args x e is can =
    as_counted k wanted args (if can_evaluate k (receiver k wanted) wanted then enter_block_out k (receiver k wanted) wanted else fail k) e
    ∙ ap (λ (b : Bool). if b then enter_block_out k (receiver k wanted) wanted else fail k) (ap (λ y. can_evaluate k y wanted) (sym is) ∙ can)

-- ---- the elements of an Array

abbrev array_body : Kept → Option (List Ref) → Out
array_body k found = given found (fail k) (λ values. if can_evaluate k (receiver k 1) (length values) then enter_block_out (spread_of k 1 values) (receiver k 1) (length values) else fail k)

array_prim : (k : Kept) (args : ℕ) → args ≡ 1 → evaluate_array_prim k args ≡ array_body k (elements_fitting k 1 (argument k 1 0))
unfolding evaluate_array_prim
array_prim k args e = as_counted k 1 args (array_body k (elements_fitting k 1 (argument k 1 0))) e

pub array-count : (k : Kept) (args : ℕ) → args ≢ 1 → evaluate_array_prim k args ≡ fail k
unfolding evaluate_array_prim
array-count k args h = counted k 1 args _ h

none_of : (o : Option (List Ref)) → None ≡ option_map (λ (xs : List Ref). length xs) o → o ≡ None
none_of None e = refl
none_of (Some xs) e = absurd (cc)

-- so many elements, in words
pub record HasElements (k : Kept) (x : Ref) (n : ℕ) : Type 0 where
  pub values : List Ref
  pub fitting : elements_fitting k 1 x ≡ Some values
  pub count : length values ≡ n

pub elements_of : (k : Kept) (x : Ref) (n : ℕ) → Some n ≡ option_map (λ (xs : List Ref). length xs) (elements_fitting k 1 x) → HasElements k x n
elements_of k x n e = go (elements_fitting k 1 x) refl e
  where
    go : (o : Option (List Ref)) → elements_fitting k 1 x ≡ o → Some n ≡ option_map (λ (xs : List Ref). length xs) o → HasElements k x n
    go None f e = absurd (cc)
    go (Some xs) f e = record { values = xs; fitting = f; count = cc }

pub array-no_elements : (k : Kept) (args : ℕ) (x : Ref) → args ≡ 1 → x ≡ argument k 1 0 → None ≡ option_map (λ (xs : List Ref). length xs) (elements_fitting k 1 x) → evaluate_array_prim k args ≡ fail k
array-no_elements k args x one is e = array_prim k args one ∙ ap (array_body k) (ap (elements_fitting k 1) (sym is) ∙ none_of (elements_fitting k 1 x) e)

pub array-cannot : (k : Kept) (args n : ℕ) (x y : Ref) → args ≡ 1 → x ≡ argument k 1 0 → y ≡ receiver k 1 → HasElements k x n → can_evaluate k y n ≡ false → evaluate_array_prim k args ≡ fail k
array-cannot k args n x y one is also h e =
    array_prim k args one ∙ ap (array_body k) (ap (elements_fitting k 1) (sym is) ∙ h.fitting)
    ∙ ap (λ (b : Bool). if b then enter_block_out (spread_of k 1 h.values) (receiver k 1) (length h.values) else fail k) (ap (λ z. can_evaluate k z (length h.values)) (sym also) ∙ ap (can_evaluate k y) h.count ∙ e)

pub array-can : (k : Kept) (args n : ℕ) (x y : Ref) → args ≡ 1 → x ≡ argument k 1 0 → y ≡ receiver k 1 → (h : HasElements k x n) → can_evaluate k y n ≡ true → enter_block_out (spread_of k 1 h.values) y n ≡ evaluate_array_prim k args
array-can k args n x y one is also h e =
    sym (array_prim k args one ∙ ap (array_body k) (ap (elements_fitting k 1) (sym is) ∙ h.fitting)
    ∙ ap (λ (b : Bool). if b then enter_block_out (spread_of k 1 h.values) (receiver k 1) (length h.values) else fail k) (ap (λ z. can_evaluate k z (length h.values)) (sym also) ∙ ap (can_evaluate k y) h.count ∙ e)
    ∙ ap (λ z. enter_block_out (spread_of k 1 h.values) z (length h.values)) (sym also) ∙ ap (enter_block_out (spread_of k 1 h.values) y) h.count)

-- ---- which fit

abbrev if_fitting : Kept → List Ref → Option (List Ref)
if_fitting k values = if nat_le (depth_of k - 1 + length values) (size_of k) then Some values else None

pub unless_array : (k : Kept) (x : Ref) → is_some (array_elements (object_of k x)) ≡ false → None ≡ option_map (λ (xs : List Ref). length xs) (elements_fitting k 1 x)
unfolding elements_fitting
unless_array k x e = go (array_elements (object_of k x)) e
  where
    go : (o : Option (List Ref)) → is_some o ≡ false → None ≡ option_map (λ (xs : List Ref). length xs) (option_and_then (if_fitting k) o)
    go None e = refl
    go (Some xs) e = absurd (cc)

by_count : (k : Kept) (x : Ref) (n : ℕ) → is_some (array_elements (object_of k x)) ≡ true → option_map (λ (xs : List Ref). length xs) (slots_in (object_of k x)) ≡ Some n
    → option_map (λ (xs : List Ref). length xs) (elements_fitting k 1 x) ≡ (if nat_le (depth_of k - 1 + n) (size_of k) then Some n else None)
unfolding elements_fitting
by_count k x n is count = go (array_elements (object_of k x)) refl is
  where
    fitting : (xs : List Ref) → length xs ≡ n → (b : Bool) → option_map (λ (xs : List Ref). length xs) (if b then Some xs else None) ≡ (if b then Some n else None)
    fitting xs e true = ap Some e
    fitting xs e false = refl

    go : (o : Option (List Ref)) → array_elements (object_of k x) ≡ o → is_some o ≡ true
        → option_map (λ (xs : List Ref). length xs) (option_and_then (if_fitting k) o) ≡ (if nat_le (depth_of k - 1 + n) (size_of k) then Some n else None)
    go None f e = absurd (cc)
    go (Some xs) f e =
        let slots = array_slots (object_of k x) xs f in
        let long : length xs ≡ n = cc in
        fitting xs long (nat_le (depth_of k - 1 + length xs) (size_of k)) ∙ ap (λ m. if nat_le (depth_of k - 1 + m) (size_of k) then Some n else None) long

pub that_fit : (k : Kept) (x : Ref) (n : ℕ) → is_some (array_elements (object_of k x)) ≡ true → option_map (λ (xs : List Ref). length xs) (slots_in (object_of k x)) ≡ Some n → depth_of k - 1 + n ≤ size_of k
    → Some n ≡ option_map (λ (xs : List Ref). length xs) (elements_fitting k 1 x)
that_fit k x n is count fits = sym (by_count k x n is count ∙ ap (λ (b : Bool). if b then Some n else None) (yes_le (depth_of k - 1 + n) (size_of k) fits))
  where
    yes_le : (a b : ℕ) → a ≤ b → nat_le a b ≡ true
    yes_le a b h = grind (arith, nat_tests, h)

pub that_dont : (k : Kept) (x : Ref) (n : ℕ) → is_some (array_elements (object_of k x)) ≡ true → option_map (λ (xs : List Ref). length xs) (slots_in (object_of k x)) ≡ Some n → size_of k < depth_of k - 1 + n
    → None ≡ option_map (λ (xs : List Ref). length xs) (elements_fitting k 1 x)
that_dont k x n is count over = sym (by_count k x n is count ∙ ap (λ (b : Bool). if b then Some n else None) (no_le (depth_of k - 1 + n) (size_of k) over))
  where
    no_le : (a b : ℕ) → b < a → nat_le a b ≡ false
    no_le a b h = grind (arith, nat_tests, h)
