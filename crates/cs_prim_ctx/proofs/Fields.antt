-- Which fields and stack values a context has.
use Rattle.std.proofs.Common.{◌≡◌, ℕ, pos, zero, suc, ◌-◌, ◌<◌, ◌≤◌, true, false, refl, sym, ap, ◌∙◌, Option, Some, None, IsSome, is_some, unwrap_or, option_map, option_and_then, List, [], ◌∷◌, length, nat_lt, arith}
use Rattle.std.specs.Prelude.{◌==◌, slice_get}
use Rattle.std.proofs.lemmas.Bool.Decides.{nat_tests}
use Rattle.cs_word.specs.declared.Oop.{Oop}
use Rattle.cs_word.specs.Word.{natural_of_word}
use Rattle.cs_model.specs.Ref.{Ref, Small, small_index}
use Rattle.cs_model.specs.Obj.{Context}
use Rattle.cs_model.specs.State.{Kept}
use Rattle.cs_model.specs.Context.{context_get, is_context_ref}
use Rattle.cs_model.specs.Return.{context_at}
use Rattle.cs_acts.specs.Names.{NamesOption, Store, name_of}
use Rattle.cs_acts.specs.Targets.{field_of}
use Rattle.cs_acts.proofs.Naturals.{natural_name}

-- the field of a context that may be absent
abbrev pub field_in : Kept → Option Context → ℕ → Option Ref
field_in k o i = option_and_then (λ c. context_get k c i) o

field_there : (k : Kept) (c : Context) (i : ℕ) → i < 6 → is_some (context_get k c i) ≡ true
unfolding context_get
field_there k c zero l = refl
field_there k c (suc zero) l = refl
field_there k c (suc (suc zero)) l = refl
field_there k c (suc (suc (suc zero))) l = refl
field_there k c (suc (suc (suc (suc zero)))) l = refl
field_there k c (suc (suc (suc (suc (suc zero))))) l = refl
field_there k c (suc (suc (suc (suc (suc (suc i)))))) l = absurd (omega (arith, l))

pub field_below : (k : Kept) (x : Ref) (i : ℕ) → is_context_ref k x ≡ true → i < 6 → true ≡ is_some (field_of k x i)
field_below k x i is l = go (context_at k x) is
  where
    go : (o : Option Context) → is_some o ≡ true → true ≡ is_some (field_in k o i)
    go None e = absurd (cc)
    go (Some c) e = sym (field_there k c i l)

pub some_field : (k : Kept) (x : Ref) (i : ℕ) → true ≡ is_some (field_of k x i) → IsSome (field_of k x i)
some_field k x i e = sym e

-- the values of the stack come behind the fields
pub value_is : (k : Kept) (c : Context) (i : ℕ) → 6 ≤ i → context_get k c i ≡ slice_get c.stack (i - 6)
unfolding context_get
value_is k c i l =
    let a = other 0 (omega (arith, l)) in
    let b = other 1 (omega (arith, l)) in
    let d = other 2 (omega (arith, l)) in
    let e = other 3 (omega (arith, l)) in
    let f = other 4 (omega (arith, l)) in
    let g = other 5 (omega (arith, l)) in
    rw (a, b, d, e, f, g) refl
  where
    other : (n : ℕ) → n < i → (i == n) ≡ false
    other n less = grind (arith, nat_tests)

get_there : (xs : List Ref) (j : ℕ) → is_some (slice_get xs j) ≡ nat_lt j (length xs)
get_there [] j = sym (none j)
  where
    none : (j : ℕ) → nat_lt j 0 ≡ false
    none j = grind (arith, nat_tests)
get_there (x ∷ xs) zero = sym (some (length xs))
  where
    some : (n : ℕ) → nat_lt 0 (suc n) ≡ true
    some n = grind (arith, nat_tests)
get_there (x ∷ xs) (suc j) = get_there xs j ∙ shifted j (length xs)
  where
    shifted : (j n : ℕ) → nat_lt j n ≡ nat_lt (suc j) (suc n)
    shifted j n = grind (arith, nat_tests)

pub value_below : (k : Kept) (x : Ref) (i depth : ℕ) → option_map (λ c. length c.stack) (context_at k x) ≡ Some depth → 6 ≤ i → nat_lt (i - 6) depth ≡ is_some (field_of k x i)
value_below k x i depth is l = go (context_at k x) is
  where
    go : (o : Option Context) → option_map (λ c. length c.stack) o ≡ Some depth → nat_lt (i - 6) depth ≡ is_some (field_in k o i)
    go None e = absurd (cc)
    go (Some c) e =
        let deep : length c.stack ≡ depth = cc in
        sym (ap is_some (value_is k c i l) ∙ get_there c.stack (i - 6) ∙ ap (nat_lt (i - 6)) deep)

-- field 2 is the number of values
pub depth_read : (k : Kept) (s : Store) (x : Ref) (o : Oop) (n : Option ℕ) (depth : ℕ) → is_context_ref k x ≡ true → NamesOption s (Some o) (field_of k x 2) → n ≡ natural_of_word o.0 → depth ≡ unwrap_or n 0
    → option_map (λ c. length c.stack) (context_at k x) ≡ Some depth
unfolding context_get
depth_read k s x o n depth is names e f = go (context_at k x) is names.is
  where
    go : (p : Option Context) → is_some p ≡ true → Some (name_of s o) ≡ field_in k p 2 → option_map (λ c. length c.stack) p ≡ Some depth
    go None i f = absurd (cc)
    go (Some c) i g =
        let is : name_of s o ≡ Small (pos (length c.stack)) = cc in
        sym (ap Some (f ∙ ap (λ p. unwrap_or p 0) (e ∙ sym (natural_name s o names.sound) ∙ ap small_index is)))
