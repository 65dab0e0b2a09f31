-- A class takes its index, and an instance is made: what this does to the kept parts that a heap stands for.
use Rattle.std.proofs.Common.{◌≡◌, ◌≢◌, ◌⊎◌, inl, inr, ℕ, zero, suc, ◌+◌, ◌-◌, ◌*◌, ◌<◌, ◌≤◌, Bool, true, false, List, [], ◌∷◌, ◌++◌, length, replicate, Option, Some, None, is_some, option_map, refl, ap, ap₂, subst, sym, ◌∙◌, arith}
use Rattle.std.specs.Prelude.{◌==◌, ◌&&◌, ◌||◌, if◌then◌else◌, nat_le, nat_lt, not, IsTrue}
use Rattle.std.specs.Option.{option_map_or}
use Rattle.std.specs.Ordering.{nat_cmp}
use Rattle.std.specs.FinMap.{FinMap, get, insert}
use Rattle.std.proofs.lemmas.Bool.{cases_eq, eq-eqb, false≢true, ne_eqb}
use Rattle.std.proofs.lemmas.Bool.Decides.{nat_tests}
use Rattle.cs_heap.specs.Format.{format_allows, is_pointers}
use Rattle.cs_heap.specs.Object.{Object, birth_at, class_at, format_at, hash_at, hash_set, heap_object, is_object, part_at, slot_count_of}
use Rattle.cs_heap.proofs.Laws.{is_object-with_hash, object_at-with_object_same}
use Rattle.cs_model.specs.Obj.{context_class}
use Rattle.cs_model.specs.Ref.{named_object}
use Rattle.cs_model.specs.Ref as ref
use Rattle.cs_model.specs.State.{Kept}
use Rattle.cs_model.specs.Operation.{edit_object, with_hash}
use Rattle.cs_model.specs.Instance.{IndexAt, NoIndex, NoneFree, enter_class, first_free_index, free_indices, is_entry, lowest_free, take_index, taken}
use Rattle.cs_classes.specs.declared.Roots.{Roots}
use Rattle.cs_classes.specs.Instances.{index_in_table}
use Rattle.cs_classes.specs.Meaning.{is_heap_context, kept_of, ref_of}
use Rattle.cs_classes.specs.Sound.{IsSoundClass, IsSoundObject, IsWhole, has_slots, is_weak}
use Rattle.cs_classes.proofs.Heaps.{IsEdit, birth_of-with_object, is_object-object_at, object_there}
use Rattle.cs_classes.proofs.Indices.{has_index, index-free, insert-same}
use Rattle.cs_classes.proofs.Refs.{ref_of-object}
use Rattle.cs_classes.proofs.Sounds.{sound_at}
use Rattle.cs_classes.proofs.Wholes.{HashFits, kept_of-set_entry, whole-set_entry}
use Rattle.cs_classes.proofs.Writes.{Does, does-first_hash, does-set_hash}

-- a pointer object with three slots, where it stands
pub record IsClassAt (os : List Object) (a : ℕ) (x : Object) : Type 0 where
  pub there : heap_object os a ≡ Some x
  pub other : is_heap_context x ≡ false
  pub pointers : is_pointers x.format ≡ true
  pub slots : 3 ≤ length x.words

parts : (a b c d : Bool) → (a && b && c && d) ≡ true → (a ≡ true) × ((b ≡ true) × ((c ≡ true) × (d ≡ true)))
parts true true true true h = (refl, (refl, (refl, refl)))
parts false b c d h = absurd (cc)
parts true false c d h = absurd (cc)
parts true true false d h = absurd (cc)
parts true true true false h = absurd (cc)

pub class_there : (os : List Object) (a : ℕ) → has_slots os 3 a ≡ true → (x : Object) × IsClassAt os a x
class_there os a h =
    let p = parts (is_object os a) (not (class_at os a == context_class)) (is_pointers (format_at os a)) (nat_le 3 (slot_count_of os a)) h in
    let x = object_there os a p.0 in
    let field : (g : Object → ℕ) → part_at g os a ≡ g x.0 = λ g. ap (λ (o : Option Object). option_map_or g o 0) x.1 in (
      x.0,
      record {
        there = x.1;
        other = unlike (x.0.class == 36) (ap (λ n. not (n == 36)) (sym (field (λ y. y.class))) ∙ p.1.0);
        pointers = ap is_pointers (sym (field (λ y. y.format))) ∙ p.1.1.0;
        slots = at_least (length x.0.words) (ap (nat_le 3) (sym (field (λ y. length y.words))) ∙ p.1.1.1);
      },
    )
  where
    unlike : (b : Bool) → not b ≡ true → b ≡ false
    unlike false h = refl
    unlike true h = absurd (cc)

    at_least : (n : ℕ) → nat_le 3 n ≡ true → 3 ≤ n
    at_least n h = grind (arith, nat_tests, h)

-- the lowest free index is from the first on, and below the length of the table
free_range : (n from : ℕ) (table : FinMap nat_cmp ℕ) (i : ℕ) → lowest_free n from table ≡ Some i → (from ≤ i) × (i < from + n)
unfolding lowest_free
free_range zero from table i e = absurd (cc)
free_range (suc n) from table i e = go (is_some (get table from)) e (free_range n (from + 1) table i)
  where
    go : (b : Bool) → (if b then lowest_free n (from + 1) table else Some from) ≡ Some i → (lowest_free n (from + 1) table ≡ Some i → (from + 1 ≤ i) × (i < from + 1 + n)) → (from ≤ i) × (i < from + suc n)
    go true h r = (omega (arith, (r h).0), omega (arith, (r h).1))
    go false h r = let is : from ≡ i = cc in (omega (arith, is), omega (arith, is))

taken_is : (o : Option ℕ) (index : ℕ) → taken o ≡ IndexAt index → o ≡ Some index
taken_is None index e = absurd (cc)
taken_is (Some i) index e = let is : i ≡ index = cc in ap Some is

-- the class has taken the index
pub record Takes (os : List Object) (table : FinMap nat_cmp ℕ) (roots : Roots) (a index : ℕ) : Type 0 where
  pub whole : IsWhole (hash_set os a index) (insert table index a) roots
  pub kept : (active : Option ℕ) → kept_of (hash_set os a index) (insert table index a) roots active ≡ take_index (kept_of os table roots active) (ref_of os a) index

module _ {os : List Object} {table : FinMap nat_cmp ℕ} {roots : Roots} {a : ℕ} {x : Object} (w : IsWhole os table roots) (c : IsClassAt os a x) (index : ℕ) (at : index_in_table os table a ≡ IndexAt index) where
  hash_is : hash_at os a ≡ x.hash
  hash_is = ap (λ (o : Option Object). option_map_or (λ (y : Object). y.hash) o 0) c.there

  edit : IsEdit (λ (y : Object). record y { hash = index })
  edit = record { slots = λ (y : Object). refl; birth = λ (y : Object). refl; class = λ (y : Object). refl; format = λ (y : Object). refl }

  kept_is : Does os (hash_set os a index) table roots (λ k. edit_object k (ref_of os a) (with_hash index)) → (active : Option ℕ)
      → kept_of (hash_set os a index) (insert table index a) roots active ≡ take_index (kept_of os table roots active) (ref_of os a) index
  unfolding take_index
  kept_is does active =
      let name = ref_of-object os a (is_object-object_at os a x c.there) in
      kept_of-set_entry (hash_set os a index) table roots active index a
      ∙ ap₂ (λ (b : ℕ) (k : Kept). enter_class k index (Some b)) (birth_of-with_object os a a (λ (y : Object). record y { hash = index }) edit) (does.kept active)
      ∙ ap (λ r. enter_class (edit_object (kept_of os table roots active) (ref_of os a) (with_hash index)) index (named_object r)) (sym name)

  class_shape : (f n : ℕ) → is_pointers f ≡ true → is_weak f ≡ false → IsTrue (format_allows f n) → 3 ≤ n → (nat_le 1 f && nat_le f 3) ≡ true
  class_shape f n p q r s = grind (arith, nat_tests, p, q, r, s)

  -- a class without a hash
  first : x.hash ≡ 0 → Takes os table roots a index
  unfolding free_indices
  first none =
      let sound = sound_at os a x w.heap c.there in
      let range = free_range free_indices first_free_index table index (taken_is _ index (sym (index-free os table a (hash_is ∙ none)) ∙ at)) in
      let does = does-first_hash (record { whole = w; there = c.there }) index none in
      record {
        whole = whole-set_entry (hash_set os a index) table roots index a does.whole (record {
          within = omega (arith, range.1);
          free = omega (arith, range.0);
          there = is_object-with_hash os a index a ∙ is_object-object_at os a x c.there;
          class = λ y e.
              let found : option_map (λ (z : Object). record z { hash = index }) (Some x) ≡ Some y = sym (object_at-with_object_same os a (λ (z : Object). record z { hash = index }) (λ (z : Object). refl) ∙ ap (option_map (λ (z : Object). record z { hash = index })) c.there) ∙ e in
              let same : record x { hash = index } ≡ y = cc in
              subst (IsSoundClass index) same (record { format = class_shape x.format (length x.words) c.pointers sound.plain sound.shape c.slots; other = c.other; slots = c.slots; hash = refl });
        });
        kept = kept_is does;
      }

  -- one that has it already
  again : x.hash ≢ 0 → Takes os table roots a index
  again some =
      let has = has_index os table a index (λ e. some (sym hash_is ∙ e)) at in
      let same : x.hash ≡ index = sym hash_is ∙ has.hash in
      let does = does-set_hash (record { whole = w; there = c.there }) index (λ i e three. sym same ∙ (w.entries.class i a x e three c.there).hash) in
      record {
        whole = subst (λ t. IsWhole (hash_set os a index) t roots) (sym (insert-same table index a has.entry)) does.whole;
        kept = kept_is does;
      }

  pub takes : Takes os table roots a index
  takes = elim (cases_eq x.hash 0) [ inl none ↦ first none | inr some ↦ again some ]
