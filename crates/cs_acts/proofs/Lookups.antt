-- A lookup reads nothing but what stands in the heap, so there it finds what it finds in the state.
use Rattle.std.proofs.Common.{◌≡◌, ℕ, zero, suc, Bool, true, false, refl, sym, ap, ◌∙◌, Option, Some, None, List, [], ◌∷◌, drop, option_and_then, is_some}
use Rattle.std.specs.Prelude.{slice_get, if◌then◌else◌}
use Rattle.std.specs.FinMap.{get}
use Rattle.cs_heap.specs.Object.{Object}
use Rattle.cs_classes.specs.Meaning.{is_heap_context, obj_of, objects_of, ref_of}
use Rattle.cs_classes.proofs.Objects.{objects_of-comes}
use Rattle.cs_classes.proofs.Sorts.{obj_of-context}
use Rattle.cs_model.specs.Ref.{Char, Ref, Small, same_ref}
use Rattle.cs_model.specs.Ref as ref
use Rattle.cs_model.specs.Obj.{Ctx, Method, Obj, Ptr, Raw, at_least, is_context_at, is_method, slots_in}
use Rattle.cs_model.specs.State.{Kept, object_at, object_of, slots_of}
use Rattle.cs_model.specs.Lookup.{Sought, class_limit, find_among, find_in, find_in_dictionary, if_method, in_class, list_or_empty, lookup, lookup_within, or_above, or_else, slot_in}
use Rattle.cs_acts.specs.Names.{Store}
use Rattle.cs_acts.specs.Ready.{Holds}

-- the state of what stands in the heap alone
abbrev pub heap_state : Store → Kept → Kept
heap_state s k = record k { objects = objects_of s.memory.objects }

-- two states have the same pointer objects and methods
pub record Alike (k m : Kept) : Type 0 where
  pub slots : (x : Ref) → slots_in (object_of k x) ≡ slots_in (object_of m x)
  pub methods : (x : Ref) → is_method (object_of k x) ≡ is_method (object_of m x)

-- ---- a lookup in both

module _ {k m : Kept} (alike : Alike k m) where
  slots_of-alike : (n : ℕ) (x : Ref) → slots_of k n x ≡ slots_of m n x
  unfolding slots_of
  slots_of-alike n x = ap (at_least n) (alike.slots x)

  if_method-alike : (o : Option Ref) → if_method k o ≡ if_method m o
  if_method-alike None = refl
  if_method-alike (Some x) = ap (λ b. if b then Some x else None) (alike.methods x)

  find_among-alike : (values : List Ref) (selector : Ref) (i : ℕ) (xs : List Ref) → find_among k values selector i xs ≡ find_among m values selector i xs
  unfolding find_among
  find_among-alike values selector i [] = refl
  find_among-alike values selector i (x ∷ xs) =
      λ j. if same_ref x selector then or_else (if_method-alike (slice_get values i) j) (find_among-alike values selector (suc i) xs j) else find_among-alike values selector (suc i) xs j

  find_in-alike : (selector : Ref) (o : Option (List Ref)) → find_in k selector o ≡ find_in m selector o
  find_in-alike selector None = refl
  find_in-alike selector (Some slots) =
      ap (λ values. find_among k (list_or_empty values) selector 0 (drop 2 slots)) (values (slice_get slots 1))
      ∙ find_among-alike (list_or_empty (option_and_then (λ x. slots_in (object_of m x)) (slice_get slots 1))) selector 0 (drop 2 slots)
    where
      values : (o : Option Ref) → option_and_then (λ x. slots_in (object_of k x)) o ≡ option_and_then (λ x. slots_in (object_of m x)) o
      values None = refl
      values (Some x) = alike.slots x

  dictionary-alike : (selector dictionary : Ref) → find_in_dictionary k selector dictionary ≡ find_in_dictionary m selector dictionary
  unfolding find_in_dictionary
  dictionary-alike selector dictionary = find_in-alike selector (slots_of k 2 dictionary) ∙ ap (find_in m selector) (slots_of-alike 2 dictionary)

  within-alike : (n : ℕ) (selector class : Ref) → lookup_within n k selector class ≡ lookup_within n m selector class
  unfolding lookup_within
  within-alike zero selector class = ap (λ o. if is_some o then Sought.Loop else Sought.Missing) (slots_of-alike 3 class)
  within-alike (suc n) selector class = at (λ above. within-alike n selector above) (slots_of k 3 class) ∙ ap (λ o. in_class m selector o (λ above. lookup_within n m selector above)) (slots_of-alike 3 class)
    where
      at : ((above : Ref) → lookup_within n k selector above ≡ lookup_within n m selector above) → (o : Option (List Ref)) → in_class k selector o (λ above. lookup_within n k selector above) ≡ in_class m selector o (λ above. lookup_within n m selector above)
      at above None = refl
      at above (Some slots) = λ j. or_above (dictionary-alike selector (slot_in slots 1) j) (above (slot_in slots 0) j)

  pub lookup-alike : (class selector : Ref) → lookup k class selector ≡ lookup m class selector
  unfolding lookup
  lookup-alike class selector = within-alike class_limit selector class

-- ---- the heap and the state

no_slots : (o : Option Obj) → is_context_at o ≡ true → slots_in o ≡ None
no_slots None h = absurd (cc)
no_slots (Some (Ptr head slots)) h = absurd (cc)
no_slots (Some (Raw head bytes)) h = absurd (cc)
no_slots (Some (Method head header literals bytecodes)) h = absurd (cc)
no_slots (Some (Ctx c)) h = refl

no_method : (o : Option Obj) → is_context_at o ≡ true → is_method o ≡ false
no_method None h = absurd (cc)
no_method (Some (Ptr head slots)) h = absurd (cc)
no_method (Some (Raw head bytes)) h = absurd (cc)
no_method (Some (Method head header literals bytecodes)) h = absurd (cc)
no_method (Some (Ctx c)) h = refl

-- an object of the heap is that of the state, or both are contexts
pub data Both : Option Obj → Option Obj → Type 0 where
  equal : (o p : Option Obj) → o ≡ p → Both o p
  contexts : (o p : Option Obj) → is_context_at o ≡ true → is_context_at p ≡ true → Both o p
  absent : (p : Option Obj) → is_context_at p ≡ true → Both None p

both_slots : {o p : Option Obj} → Both o p → slots_in o ≡ slots_in p
both_slots (equal o p e) = ap slots_in e
both_slots (contexts o p c d) = no_slots o c ∙ sym (no_slots p d)
both_slots (absent p d) = sym (no_slots p d)

both_methods : {o p : Option Obj} → Both o p → is_method o ≡ is_method p
both_methods (equal o p e) = ap is_method e
both_methods (contexts o p c d) = no_method o c ∙ sym (no_method p d)
both_methods (absent p d) = sym (no_method p d)

both_at : (s : Store) (k : Kept) → Holds s k → (i : ℕ) → Both (get (objects_of s.memory.objects) i) (object_at k i)
both_at s k h i = in_heap (get (objects_of s.memory.objects) i) refl
  where
    in_state : (p : Option Obj) → object_at k i ≡ p → get (objects_of s.memory.objects) i ≡ None → Both None p
    in_state None e n = equal None None refl
    in_state (Some o) e n = at (is_context_at (Some o)) refl
      where
        at : (b : Bool) → is_context_at (Some o) ≡ b → Both None (Some o)
        at true c = absent (Some o) c
        at false c = absurd (let e : Some o ≡ None = sym (h.back i o e c) ∙ n in cc)

    found : (o : Obj) (x : Object) (j : ℕ) (c : Bool) → is_heap_context x ≡ c → slice_get s.memory.objects j ≡ Some x → x.birth ≡ i → obj_of (ref_of s.memory.objects) x ≡ o → Both (Some o) (object_at k i)
    found o x j false e at birth means = equal (Some o) (object_at k i) (sym (ap (object_at k) (sym birth) ∙ h.object j x at e ∙ ap (λ p. Some p) means))
    found o x j true e at birth means =
        contexts (Some o) (object_at k i) (ap (λ p. is_context_at (Some p)) (sym means ∙ obj_of-context (ref_of s.memory.objects) x e))
        (ap (λ n. is_context_at (object_at k n)) (sym birth) ∙ h.context j x at e)

    in_heap : (o : Option Obj) → get (objects_of s.memory.objects) i ≡ o → Both o (object_at k i)
    in_heap None e = in_state (object_at k i) refl e
    in_heap (Some o) e = let c = objects_of-comes s.memory.objects i o h.whole.heap.apart e in found o c.object c.place (is_heap_context c.object) refl c.element c.birth c.meaning

alike_heap : (s : Store) (k : Kept) → Holds s k → Alike (heap_state s k) k
alike_heap s k h = record { slots = slots; methods = methods }
  where
    slots : (x : Ref) → slots_in (object_of (heap_state s k) x) ≡ slots_in (object_of k x)
    slots (Small z) = refl
    slots (Char c) = refl
    slots (ref.Obj i) = both_slots (both_at s k h i)

    methods : (x : Ref) → is_method (object_of (heap_state s k) x) ≡ is_method (object_of k x)
    methods (Small z) = refl
    methods (Char c) = refl
    methods (ref.Obj i) = both_methods (both_at s k h i)

-- a lookup in the heap is the lookup in the state
pub lookup-held : (s : Store) (k : Kept) (class selector : Ref) → Holds s k → lookup (heap_state s k) class selector ≡ lookup k class selector
lookup-held s k class selector h = lookup-alike (alike_heap s k h) class selector
