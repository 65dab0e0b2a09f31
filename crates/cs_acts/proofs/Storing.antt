-- What a store into a slot meets, as the heap and as the state tell it.
use Rattle.std.proofs.Common.{◌≡◌, ℕ, ◌+◌, ◌<◌, ◌≤◌, Bool, true, false, refl, sym, ap, ap₂, ◌∙◌, arith, Option, Some, None, List, length, option_and_then}
use Rattle.std.specs.Prelude.{◌==◌, ◌&&◌, if◌then◌else◌, nat_le, nat_lt, not, slice_get}
use Rattle.std.proofs.lemmas.Bool.Decides.{nat_tests}
use Rattle.std.proofs.lemmas.Option.{slice_get_past}
use Rattle.cs_classes.specs.Sound.{has_slots}
use Rattle.cs_word.specs.declared.Oop.{Oop}
use Rattle.cs_heap.specs.Format.{is_pointers}
use Rattle.cs_heap.specs.Object.{Memory, Object, class_at, format_at, is_immutable_at, is_object, slot_count_of, slot_of}
use Rattle.cs_model.specs.Ref.{Ref}
use Rattle.cs_model.specs.Obj.{at_least, context_class, slots_in}
use Rattle.cs_model.specs.State.{Kept, is_read_only, object_of, slots_of}
use Rattle.cs_acts.specs.Names.{IsNamed, Store, name_of}
use Rattle.cs_acts.specs.Ready.{Holds}
use Rattle.cs_acts.specs.Storing.{slot_at, target_at, target_by, target_of}
use Rattle.cs_acts.specs.declared.store.StoreTarget.TheVariants.{Missing, ReadOnly, Writable}
use Rattle.cs_acts.proofs.Named.{any_names, no_slot_names, past_names, read_only_read, slot_names}

none_least : (n : ℕ) → nat_le 0 n ≡ true
none_least n = grind (arith, nat_tests)

by_count : (a b c : Bool) (i n : ℕ) → (a && b && c && nat_lt i n) ≡ ((a && b && c && nat_le 0 n) && nat_lt i n)
by_count false b c i n = refl
by_count true false c i n = refl
by_count true true false i n = refl
by_count true true true i n = rw (none_least n) refl

of_slots : (a b c f : Bool) (n : ℕ) → (a && b && c && nat_le 0 n) ≡ true → f ≡ (a && f)
of_slots false b c f n h = absurd (cc)
of_slots true b c f n h = refl

module _ (s : Store) (k : Kept) (i : ℕ) (o : Oop) (holds : Holds s k) (named : IsNamed s o) where
  abbrev os : List Object
  os = s.memory.objects

  abbrev x : Ref
  x = name_of s o

  meets : (b c : Bool) → has_slots os 0 o.0 ≡ b → nat_lt i (slot_count_of os o.0) ≡ c → target_at os o.0 i ≡ (if b && c then (if is_immutable_at os o.0 then ReadOnly else Writable) else Missing)
  meets b c p q =
      ap (λ d. if d then (if is_immutable_at os o.0 then ReadOnly else Writable) else Missing)
      (by_count (is_object os o.0) (not (class_at os o.0 == context_class)) (is_pointers (format_at os o.0)) i (slot_count_of os o.0) ∙ ap₂ (λ d f. d && f) p q)

  fixed_is : has_slots os 0 o.0 ≡ true → is_immutable_at os o.0 ≡ is_read_only k x
  fixed_is p =
      of_slots (is_object os o.0) (not (class_at os o.0 == context_class)) (is_pointers (format_at os o.0)) (is_immutable_at os o.0) (slot_count_of os o.0) p
      ∙ read_only_read s k s.memory o refl holds named

  pub target_read : (m : Memory) → m ≡ s.memory → target_at m.objects o.0 i ≡ target_of k x i
  target_read m e = ap (λ (n : Memory). target_at n.objects o.0 i) e ∙ go (has_slots os 0 o.0) refl (nat_lt i (slot_count_of os o.0)) refl
    where
      go : (b : Bool) → has_slots os 0 o.0 ≡ b → (c : Bool) → nat_lt i (slot_count_of os o.0) ≡ c → target_at os o.0 i ≡ target_of k x i
      go true p true q =
          let v : Oop = record { 0 = slot_of os o.0 i } in
          let less : i < slot_count_of os o.0 = grind (arith, nat_tests, q) in
          let there = any_names s k i x (Some v) (slot_names s k s.memory 0 i o v refl holds named p less refl) in
          meets true true p q ∙ ap (λ f. if f then ReadOnly else Writable) (fixed_is p) ∙ ap (λ r. target_by r (is_read_only k x)) there.is
      go true p false q =
          let past : slot_count_of os o.0 ≤ i = grind (arith, nat_tests, q) in
          let gone = any_names s k i x None (past_names s k s.memory i o refl holds named p past) in
          meets true false p q ∙ ap (λ r. target_by r (is_read_only k x)) gone.is
      go false p c q =
          let gone = any_names s k i x None (no_slot_names s k s.memory 0 i o refl holds named p) in
          meets false c p q ∙ ap (λ r. target_by r (is_read_only k x)) gone.is

-- ---- what each target says

pub slot_missing : (o : Option Ref) (fixed : Bool) → target_by o fixed ≡ Missing → o ≡ None
slot_missing None fixed h = refl
slot_missing (Some y) true h = absurd (cc)
slot_missing (Some y) false h = absurd (cc)

pub slot_read_only : (o : Option Ref) (fixed : Bool) → target_by o fixed ≡ ReadOnly → (y : Ref) × ((o ≡ Some y) × (fixed ≡ true))
slot_read_only None fixed h = absurd (cc)
slot_read_only (Some y) true h = (y, (refl, refl))
slot_read_only (Some y) false h = absurd (cc)

pub slot_writable : (o : Option Ref) (fixed : Bool) → target_by o fixed ≡ Writable → (y : Ref) × ((o ≡ Some y) × (fixed ≡ false))
slot_writable None fixed h = absurd (cc)
slot_writable (Some y) true h = absurd (cc)
slot_writable (Some y) false h = (y, (refl, refl))

-- the last of the slots that an object has at least
pub slot_of_least : (k : Kept) (x : Ref) (n i : ℕ) → n ≡ i + 1 → option_and_then (λ slots. slice_get slots i) (slots_of k n x) ≡ slot_at k x i
unfolding slots_of
slot_of_least k x n i e = go (slots_in (object_of k x))
  where
    few : (slots : List Ref) → nat_le n (length slots) ≡ false → length slots ≤ i
    few slots h = grind (arith, nat_tests, h, e)

    by_length : (slots : List Ref) (b : Bool) → nat_le n (length slots) ≡ b → option_and_then (λ (xs : List Ref). slice_get xs i) (if b then Some slots else None) ≡ slice_get slots i
    by_length slots true h = refl
    by_length slots false h = sym (slice_get_past slots i (few slots h))

    go : (o : Option (List Ref)) → option_and_then (λ (xs : List Ref). slice_get xs i) (at_least n o) ≡ option_and_then (λ (xs : List Ref). slice_get xs i) o
    go None = refl
    go (Some slots) = by_length slots (nat_le n (length slots)) refl
