-- Making an instance and giving a class its index, as the heap and the class table tell it.
use Rattle.std.proofs.Common.{◌≡◌, ◌⊎◌, inl, inr, ℕ, zero, suc, ◌+◌, ◌-◌, ◌*◌, ◌/◌, ◌%◌, ◌<◌, ◌≤◌, Bool, true, false, List, length, map, replicate, Option, Some, None, is_some, option_map, option_and_then, refl, ap, ap₂, subst, sym, ◌∙◌, arith}
use Rattle.std.specs.Prelude.{◌==◌, if◌then◌else◌, nat_lt, slice_get}
use Rattle.std.specs.Option.{option_map_or}
use Rattle.std.specs.Ordering.{nat_cmp}
use Rattle.std.specs.FinMap.{FinMap, get}
use Rattle.std.proofs.lemmas.Bool.{cases_eq, eq-eqb, ne_eqb}
use Rattle.std.proofs.lemmas.Bool.Decides.{nat_tests}
use Rattle.std.proofs.lemmas.List.{length-replicate}
use Rattle.cs_word.specs.declared.Oop.{Oop}
use Rattle.cs_word.specs.Word.{natural_of_word}
use Rattle.cs_heap.specs.Format.{is_pointers}
use Rattle.cs_heap.specs.Object.{Object, birth_at, hash_at, heap_object, is_object, size, slot_count_of, slot_of}
use Rattle.cs_classes.specs.Instances.{Make, Plan, Refuse, behavior_index, index_in_table, instance_format, instance_slots, plan_at, plan_of, plan_shaped, shape_at}
use Rattle.cs_classes.specs.declared.NewError.TheVariants as refused
use Rattle.cs_classes.specs.Meaning.{classes_of, is_heap_context, obj_of, ref_of}
use Rattle.cs_classes.specs.Sound.{AreSoundObjects, IsWhole, has_slots}
use Rattle.cs_classes.proofs.Heaps.{birth_of-object_at, is_object-object_at, stands}
use Rattle.cs_classes.specs.Instances.{instance_of}
use Rattle.cs_acts.specs.Instances.{made_of}
use Rattle.cs_classes.proofs.Plans.{raw_cases}
use Rattle.cs_classes.proofs.Refs.{ref_of-object, same_births}
use Rattle.cs_classes.proofs.Sorts.{obj_of-pointers}
use Rattle.cs_classes.proofs.Taking.{IsClassAt, class_there}
use Rattle.cs_classes.proofs.Wholes.{get-classes_of}
use Rattle.cs_model.specs.Words.{unused_bytes}
use Rattle.cs_model.specs.Ref.{Ref, small_index}
use Rattle.cs_model.specs.Ref as ref
use Rattle.cs_model.specs.Obj.{Ctx, Obj, Ptr, Raw, hash_in, new_head, words_of, words_of_slots}
use Rattle.cs_model.specs.State as state
use Rattle.cs_model.specs.State.{Kept, Rest, slots_of}
use Rattle.cs_model.specs.Operation.{add_of, new_pointers, next_ref, nil_of}
use Rattle.cs_model.specs.Instance.{Hash, Hashed, Index, IndexAt, Made, New, NoIndex, NoneFree, NotAClass, NotInstantiable, NoneLeft, TableFull, behavior_hash, class_index_for, first_free_index, free_indices, hashed, index_by_hash, index_of_object, instantiate, is_entry, is_instance_index, is_instance_shape, lowest_free, make_shaped, make_with, new_context, new_instance, pointer_format, raw_format, shape_of, take_index, taken, unit_bytes}
use Rattle.cs_acts.specs.Names.{IsNamed, Store, name_of}
use Rattle.cs_acts.specs.Ready.{Holds}
use Rattle.cs_acts.proofs.Named.{has_slots_read, no_slot_names, slot_names}
use Rattle.cs_acts.proofs.Naturals.{natural_name}

-- ---- the index

-- empty entries are the same
free_alike : (n from : ℕ) (os : List Object) (table : FinMap nat_cmp ℕ) → lowest_free n from (classes_of os table) ≡ lowest_free n from table
unfolding lowest_free
free_alike zero from os table = refl
free_alike (suc n) from os table =
    ap₂ (λ (b : Bool) (o : Option ℕ). if b then o else Some from) (ap is_some (get-classes_of os table from) ∙ some_map (get table from)) (free_alike n (from + 1) os table)
  where
    some_map : (o : Option ℕ) → is_some (option_map (birth_at os) o) ≡ is_some o
    some_map None = refl
    some_map (Some a) = refl

-- an entry is the class by its birth where it is by its address
entry_alike : (os : List Object) (table : FinMap nat_cmp ℕ) (s : Store) (k : Kept) (a hash : ℕ) → Holds s k → os ≡ s.memory.objects → table ≡ s.table → is_object os a ≡ true
    → is_entry (get (classes_of os table) hash) (birth_at os a) ≡ is_entry (get table hash) a
entry_alike os table s k a hash holds e f there = ap (λ o. is_entry o (birth_at os a)) (get-classes_of os table hash) ∙ go (get table hash) refl
  where
    go : (o : Option ℕ) → get table hash ≡ o → is_entry (option_map (birth_at os) o) (birth_at os a) ≡ is_entry o a
    go None at = refl
    go (Some b) at = elim (cases_eq b a) [
      | inl is ↦ eq-eqb (birth_at os b) (birth_at os a) (ap (birth_at os) is) ∙ sym (eq-eqb b a is)
      | inr apart ↦ ne_eqb (birth_at os b) (birth_at os a) (λ births. apart (same_births os b a (subst (λ xs. AreSoundObjects xs) (sym e) holds.whole.heap)
          (subst (λ xs. is_object xs b ≡ true) (sym e) (holds.whole.classes hash b (ap (λ t. get t hash) (sym f) ∙ at))) there births)) ∙ sym (ne_eqb b a apart)
    ]

index_alike : (s : Store) (k : Kept) (o : Oop) → Holds s k → has_slots s.memory.objects 3 o.0 ≡ true → class_index_for k (name_of s o) ≡ index_in_table s.memory.objects s.table o.0
unfolding class_index_for index_in_table
index_alike s k o holds has =
    let os = s.memory.objects in
    let x = class_there os o.0 has in
    let there = is_object-object_at os o.0 x.0 x.1.there in
    let birth = birth_of-object_at os o.0 x.0 x.1.there in
    let at = stands os o.0 x.0 x.1.there in
    let found : state.object_at k x.0.birth ≡ Some (obj_of (ref_of os) x.0) = holds.object at.0 x.0 at.1.element x.1.other in
    let hash : hash_in (obj_of (ref_of os) x.0) ≡ hash_at os o.0 = ap hash_in (obj_of-pointers (ref_of os) x.0 x.1.other x.1.pointers) ∙ sym (ap (λ (p : Option Object). option_map_or (λ (y : Object). y.hash) p 0) x.1.there) in
    let classes : k.rest.classes ≡ classes_of os s.table = sym (ap (λ (r : Rest). r.classes) holds.rest) in
    ap (class_index_for k) (ref_of-object os o.0 there)
    ∙ ap (index_of_object k (birth_at os o.0)) (ap (state.object_at k) birth ∙ found)
    ∙ ap (λ h. index_by_hash k (birth_at os o.0) h) hash
    ∙ ap (λ (t : FinMap nat_cmp ℕ). if hash_at os o.0 == 0 then taken (lowest_free free_indices first_free_index t) else (if is_entry (get t (hash_at os o.0)) (birth_at os o.0) then IndexAt (hash_at os o.0) else NoIndex)) classes
    ∙ ap₂ (λ (q : Option ℕ) (b : Bool). if hash_at os o.0 == 0 then taken q else (if b then IndexAt (hash_at os o.0) else NoIndex)) (free_alike free_indices first_free_index os s.table)
    (entry_alike os s.table s k o.0 (hash_at os o.0) holds refl refl there)

-- giving a class its index is what the model says
pub behavior_read : (s : Store) (k : Kept) (o : Oop) → Holds s k → IsNamed s o → behavior_hash k (name_of s o) ≡ hashed k (name_of s o) (behavior_index s.memory.objects s.table o.0)
unfolding behavior_hash behavior_index
behavior_read s k o holds named = ap (λ (b : Bool). if b then hashed k (name_of s o) (class_index_for k (name_of s o)) else NotAClass) (sym (has_slots_read s k s.memory 3 o refl holds named)) ∙ go (has_slots s.memory.objects 3 o.0) refl
  where
    go : (b : Bool) → has_slots s.memory.objects 3 o.0 ≡ b → (if b then hashed k (name_of s o) (class_index_for k (name_of s o)) else NotAClass) ≡ hashed k (name_of s o) (if b then index_in_table s.memory.objects s.table o.0 else NoIndex)
    go true e = ap (hashed k (name_of s o)) (index_alike s k o holds e)
    go false e = refl

-- ---- the shape

nested : {A B C : Type 0} (f : B → Option C) (g : A → Option B) (o : Option A) → option_and_then (λ x. option_and_then f (g x)) o ≡ option_and_then f (option_and_then g o)
nested f g None = refl
nested f g (Some x) = refl

shape_read : (s : Store) (k : Kept) (o : Oop) → Holds s k → IsNamed s o → shape_of k (name_of s o) ≡ shape_at s.memory.objects o.0
shape_read s k o holds named = nested (λ x. small_index x) (λ (slots : List Ref). slice_get slots 2) (slots_of k 3 (name_of s o)) ∙ go (has_slots s.memory.objects 3 o.0) refl
  where
    go : (b : Bool) → has_slots s.memory.objects 3 o.0 ≡ b → option_and_then (λ x. small_index x) (option_and_then (λ (slots : List Ref). slice_get slots 2) (slots_of k 3 (name_of s o))) ≡ (if b then natural_of_word (slot_of s.memory.objects o.0 2) else None)
    go true e =
        let v : Oop = record { 0 = slot_of s.memory.objects o.0 2 } in
        let x = class_there s.memory.objects o.0 e in
        let count : slot_count_of s.memory.objects o.0 ≡ length x.0.words = ap (λ (p : Option Object). option_map_or (λ (y : Object). length y.words) p 0) x.1.there in
        let names = slot_names s k s.memory 3 2 o v refl holds named e (omega (arith, count, x.1.slots)) refl in
        sym (ap (option_and_then (λ x. small_index x)) names.is) ∙ natural_name s v names.sound
    go false e = sym (ap (option_and_then (λ x. small_index x)) (no_slot_names s k s.memory 3 2 o refl holds named e).is)

-- ---- the instance

-- the same object and as many words
record SameInstance (k : Kept) (o : Obj) (index format slots : ℕ) : Type 0 where
  object : o ≡ instance_of k index format slots
  words : words_of o ≡ size slots

same_instance : (k : Kept) (index said fields n : ℕ) → is_instance_shape said fields n ≡ true → SameInstance k (new_instance (nil_of k) index said fields n) index (instance_format index said n) (instance_slots index said fields n)
unfolding new_instance
same_instance k index said fields n allowed = go (index == 36) refl
  where
    nil : Ref
    nil = nil_of k

    raw : Obj
    raw = Raw (new_head index (raw_format said (n * unit_bytes said))) (replicate (n * unit_bytes said) 0)

    less : (m : ℕ) → m ≡ 6 + m - 6
    less m = omega arith

    bytes : (f : ℕ) → (f ≡ 9) ⊎ ((f ≡ 10) ⊎ ((f ≡ 12) ⊎ (f ≡ 16))) → (n * unit_bytes f ≡ 4 * ((n * unit_bytes f + 3) / 4) - unused_bytes (raw_format f (n * unit_bytes f))) × (is_pointers (raw_format f (n * unit_bytes f)) ≡ false)
    bytes f (inl e) = subst (λ g. (n * unit_bytes g ≡ 4 * ((n * unit_bytes g + 3) / 4) - unused_bytes (raw_format g (n * unit_bytes g))) × (is_pointers (raw_format g (n * unit_bytes g)) ≡ false)) (sym e) (grind (arith, nat_tests), grind (arith, nat_tests))
    bytes f (inr (inl e)) = subst (λ g. (n * unit_bytes g ≡ 4 * ((n * unit_bytes g + 3) / 4) - unused_bytes (raw_format g (n * unit_bytes g))) × (is_pointers (raw_format g (n * unit_bytes g)) ≡ false)) (sym e) (grind (arith, nat_tests), grind (arith, nat_tests))
    bytes f (inr (inr (inl e))) = subst (λ g. (n * unit_bytes g ≡ 4 * ((n * unit_bytes g + 3) / 4) - unused_bytes (raw_format g (n * unit_bytes g))) × (is_pointers (raw_format g (n * unit_bytes g)) ≡ false)) (sym e) (grind (arith, nat_tests), grind (arith, nat_tests))
    bytes f (inr (inr (inr e))) = subst (λ g. (n * unit_bytes g ≡ 4 * ((n * unit_bytes g + 3) / 4) - unused_bytes (raw_format g (n * unit_bytes g))) × (is_pointers (raw_format g (n * unit_bytes g)) ≡ false)) (sym e) (grind (arith, nat_tests), grind (arith, nat_tests))

    still : (f : ℕ) → f < 6 → is_pointers (pointer_format f) ≡ true
    still f l = grind (arith, nat_tests, l)

    object : Bool → Bool → Obj
    object b c = if b then Ctx (new_context nil n) else (if c then Ptr (new_head index (pointer_format said)) (replicate (fields + n) nil) else raw)

    in_heap : ℕ → ℕ → Obj
    in_heap f m = if is_pointers f then new_pointers k index f m else Raw (new_head index f) (replicate (4 * m - unused_bytes f) 0)

    format : Bool → Bool → ℕ
    format b c = if b then 3 else (if c then pointer_format said else raw_format said (n * unit_bytes said))

    slots : Bool → Bool → ℕ
    slots b c = if b then 6 + n else (if c then fields + n else (n * unit_bytes said + 3) / 4)

    SameHere : Bool → Bool → Type 0
    SameHere b c = (object b c ≡ (if b then Ctx (new_context nil (slots b c - 6)) else in_heap (format b c) (slots b c))) × (words_of (object b c) ≡ size (slots b c))

    other : (c : Bool) → nat_lt said 6 ≡ c → SameHere false c
    other true e = (
      sym (ap (λ (d : Bool). if d then new_pointers k index (pointer_format said) (fields + n) else Raw (new_head index (pointer_format said)) (replicate (4 * (fields + n) - unused_bytes (pointer_format said)) 0)) (still said (grind (arith, nat_tests, e)))),
      ap words_of_slots (length-replicate (fields + n) nil),
    )
    other false e =
        let b = bytes said (raw_cases said fields n allowed (grind (arith, nat_tests, e))) in
        let f : ℕ = raw_format said (n * unit_bytes said) in
        let m : ℕ = (n * unit_bytes said + 3) / 4 in (
          ap (λ j. Raw (new_head index f) (replicate j 0)) b.0 ∙ sym (ap (λ (d : Bool). if d then new_pointers k index f m else Raw (new_head index f) (replicate (4 * m - unused_bytes f) 0)) b.1),
          ap (λ j. words_of_slots ((j + 3) / 4)) (length-replicate (n * unit_bytes said) 0),
        )

    both : (b c : Bool) → nat_lt said 6 ≡ c → SameHere b c
    both true c e = (ap (λ m. Ctx (new_context nil m)) (less n), refl)
    both false c e = other c e

    go : (b : Bool) → (index == 36) ≡ b → SameInstance k (object (index == 36) (nat_lt said 6)) index (format (index == 36) (nat_lt said 6)) (slots (index == 36) (nat_lt said 6))
    go b e = let s = both (index == 36) (nat_lt said 6) refl in record { object = s.0; words = s.1 }

-- making an instance is what the model says
pub instance_read : (s : Store) (k : Kept) (o : Oop) (n : ℕ) → Holds s k → IsNamed s o → instantiate k (name_of s o) n ≡ made_of k (name_of s o) (plan_of s.memory.objects s.table o.0 n)
unfolding instantiate plan_of plan_at
instance_read s k o n holds named = ap (make_shaped k (name_of s o) n) (shape_read s k o holds named) ∙ class (has_slots s.memory.objects 3 o.0) refl
  where
    x : Ref
    x = name_of s o

    index : Index
    index = index_in_table s.memory.objects s.table o.0

    good : (said fields i : ℕ) (b : Bool) → is_instance_shape said fields n ≡ true
        → (if b then New (add_of (take_index k x i) (new_instance (nil_of k) i said fields n)) (next_ref k) (words_of (new_instance (nil_of k) i said fields n)) else NotInstantiable)
        ≡ made_of k x (if b then Make i (instance_format i said n) (instance_slots i said fields n) else Refuse refused.NotInstantiable)
    good said fields i false a = refl
    good said fields i true a =
        let same = same_instance k i said fields n a in
        ap₂ (λ (y : Obj) (words : ℕ). New (add_of (take_index k x i) y) (next_ref k) words) same.object same.words

    indexed : (shape : ℕ) (i : Index) → is_instance_shape (shape / 65536) (shape % 65536) n ≡ true → make_with k x shape n i ≡ made_of k x (plan_at (shape / 65536) (shape % 65536) n i)
    indexed shape NoIndex a = refl
    indexed shape NoneFree a = refl
    indexed shape (IndexAt i) a = good (shape / 65536) (shape % 65536) i (is_instance_index i n) a

    allowed : (shape : ℕ) (b : Bool) → is_instance_shape (shape / 65536) (shape % 65536) n ≡ b → has_slots s.memory.objects 3 o.0 ≡ true
        → (if b then make_with k x shape n (class_index_for k x) else NotInstantiable) ≡ made_of k x (if b then plan_at (shape / 65536) (shape % 65536) n index else Refuse refused.NotInstantiable)
    allowed shape false a has = refl
    allowed shape true a has = ap (make_with k x shape n) (index_alike s k o holds has) ∙ indexed shape index a

    shaped : (p : Option ℕ) → has_slots s.memory.objects 3 o.0 ≡ true → make_shaped k x n p ≡ made_of k x (plan_shaped s.memory.objects s.table o.0 n p)
    shaped None has = refl
    shaped (Some shape) has = allowed shape (is_instance_shape (shape / 65536) (shape % 65536) n) refl has

    class : (b : Bool) → has_slots s.memory.objects 3 o.0 ≡ b → make_shaped k x n (if b then natural_of_word (slot_of s.memory.objects o.0 2) else None)
        ≡ made_of k x (plan_shaped s.memory.objects s.table o.0 n (if b then natural_of_word (slot_of s.memory.objects o.0 2) else None))
    class false e = refl
    class true e = shaped (natural_of_word (slot_of s.memory.objects o.0 2)) e
