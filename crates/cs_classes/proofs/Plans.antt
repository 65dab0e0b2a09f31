-- The plan of an instance, by what the class, its index and the size say.
use Rattle.std.proofs.Common.{◌≡◌, ◌⊎◌, inl, inr, ℕ, zero, suc, ◌+◌, ◌*◌, ◌/◌, ◌%◌, ◌<◌, ◌≤◌, Bool, true, false, List, [], ◌∷◌, ◌++◌, length, Some, None, refl, ap, ap₂, subst, sym, ◌∙◌, arith}
use Rattle.std.specs.Prelude.{◌==◌, ◌&&◌, if◌then◌else◌, nat_le, nat_lt, not, IsErr, IsTrue, Result, Ok, Err}
use Rattle.std.specs.Result.{IsErrAnd}
use Rattle.std.specs.Ordering.{nat_cmp}
use Rattle.std.specs.FinMap.{FinMap, get, insert}
use Rattle.std.proofs.lemmas.Bool.Decides.{nat_tests}
use Rattle.cs_word.specs.declared.Oop.{Oop}
use Rattle.cs_word.specs.Word.{natural_of_word}
use Rattle.cs_heap.specs.Format.{format_allows, is_pointers}
use Rattle.cs_heap.specs.Object.{Memory, Object, at_index, class_at, format_at, is_object, slot_count_of, slot_of, next_address, object_place, size, used, with_object}
use Rattle.cs_heap.specs.Object as heap
use Rattle.cs_heap.specs.Writes.{hash_stored, object_added}
use Rattle.cs_heap.proofs.Laws.{field_of-old, index_of-below, index_of-old, with_object-index}
use Rattle.cs_heap.proofs.Places.{has_index}
use Rattle.cs_model.specs.Obj.{context_class}
use Rattle.cs_model.specs.Instance.{Index, IndexAt, NoIndex, NoneFree, first_free_index, free_indices, is_entry, lowest_free, taken, is_instance_index, is_instance_shape, pointer_format, raw_format, unit_bytes}
use Rattle.cs_classes.specs.Instances.{Make, Plan, Refuse, behavior_index, entry_taken, fitting, hash_taken, index_answer, index_in_table, instance_format, instance_slots, plan_at, plan_of, plan_shaped, planned_answer, planned_memory, planned_table, shape_at}
use Rattle.cs_classes.specs.Sound.{has_slots}
use Rattle.cs_classes.specs.declared.NewError.{NewError}
use Rattle.cs_classes.specs.declared.NewError.TheVariants as refused

-- ---- an index, or none

pub index_is : (i : Index) (index : ℕ) → Ok index ≡ index_answer i → i ≡ IndexAt index
index_is NoIndex index e = absurd (cc)
index_is NoneFree index e = absurd (cc)
index_is (IndexAt j) index e = let is : index ≡ j = cc in ap IndexAt (sym is)

pub no_hash_taken : (m : Memory) (a : ℕ) (i : Index) (why : NewError) → Err why ≡ index_answer i → m ≡ hash_taken m a i
no_hash_taken m a NoIndex why e = refl
no_hash_taken m a NoneFree why e = refl
no_hash_taken m a (IndexAt j) why e = absurd (cc)

pub no_entry_taken : (t : FinMap nat_cmp ℕ) (a : ℕ) (i : Index) (why : NewError) → Err why ≡ index_answer i → t ≡ entry_taken t a i
no_entry_taken t a NoIndex why e = refl
no_entry_taken t a NoneFree why e = refl
no_entry_taken t a (IndexAt j) why e = absurd (cc)

pub behavior-index : (os : List Object) (table : FinMap nat_cmp ℕ) (a : ℕ) (b : Bool) → has_slots os 3 a ≡ b → behavior_index os table a ≡ (if b then index_in_table os table a else NoIndex)
unfolding behavior_index
behavior-index os table a b e = ap (λ (c : Bool). if c then index_in_table os table a else NoIndex) e

-- ---- the plan

module _ (os : List Object) (table : FinMap nat_cmp ℕ) (a : ℕ) where
  pub plan-unshaped : (n : ℕ) → shape_at os a ≡ None → plan_of os table a n ≡ Refuse refused.NotInstantiable
  unfolding plan_of
  plan-unshaped n e = ap (plan_shaped os table a n) e

  pub plan-shaped : (n format fields : ℕ) (b : Bool) → Some (65536 * format + fields) ≡ shape_at os a → fields < 65536 → is_instance_shape format fields n ≡ b
      → plan_of os table a n ≡ (if b then plan_at format fields n (index_in_table os table a) else Refuse refused.NotInstantiable)
  unfolding plan_of
  plan-shaped n format fields b e few allowed =
      ap (plan_shaped os table a n) (sym e)
      ∙ ap₂ (λ (f m : ℕ). if is_instance_shape f m n then plan_at f m n (index_in_table os table a) else Refuse refused.NotInstantiable) (quotient format fields few) (rest format fields few)
      ∙ ap (λ (c : Bool). if c then plan_at format fields n (index_in_table os table a) else Refuse refused.NotInstantiable) allowed
    where
      quotient : (x y : ℕ) → y < 65536 → (65536 * x + y) / 65536 ≡ x
      quotient x y l = omega (arith, l)

      rest : (x y : ℕ) → y < 65536 → (65536 * x + y) % 65536 ≡ y
      rest x y l = omega (arith, l)

pub plan-no_index : (format fields n : ℕ) (i : Index) (why : NewError) → Err why ≡ index_answer i → plan_at format fields n i ≡ Refuse why
unfolding plan_at
plan-no_index format fields n NoIndex why e = let is : why ≡ refused.NotInstantiable = cc in ap Refuse (sym is)
plan-no_index format fields n NoneFree why e = let is : why ≡ refused.TableFull = cc in ap Refuse (sym is)
plan-no_index format fields n (IndexAt j) why e = absurd (cc)

pub plan-index : (format fields n index : ℕ) (b : Bool) → is_instance_index index n ≡ b
    → plan_at format fields n (IndexAt index) ≡ (if b then Make index (instance_format index format n) (instance_slots index format fields n) else Refuse refused.NotInstantiable)
unfolding plan_at
plan-index format fields n index b e = ap (λ (c : Bool). if c then Make index (instance_format index format n) (instance_slots index format fields n) else Refuse refused.NotInstantiable) e

-- ---- the heap takes what is planned

pointer_case : (f n s : ℕ) → is_instance_shape f n s ≡ true → f < 6 → IsTrue (format_allows (pointer_format f) (n + s))
pointer_case f n s h l = grind (arith, nat_tests, h, l)

pub raw_cases : (f n s : ℕ) → is_instance_shape f n s ≡ true → 6 ≤ f → (f ≡ 9) ⊎ ((f ≡ 10) ⊎ ((f ≡ 12) ⊎ (f ≡ 16)))
raw_cases f n s h l = grind (arith, nat_tests, h, l)

raw_allows : (f s : ℕ) → (f ≡ 9) ⊎ ((f ≡ 10) ⊎ ((f ≡ 12) ⊎ (f ≡ 16))) → IsTrue (format_allows (raw_format f (s * unit_bytes f)) ((s * unit_bytes f + 3) / 4))
raw_allows f s (inl e) = subst (λ g. IsTrue (format_allows (raw_format g (s * unit_bytes g)) ((s * unit_bytes g + 3) / 4))) (sym e) (grind (arith, nat_tests))
raw_allows f s (inr (inl e)) = subst (λ g. IsTrue (format_allows (raw_format g (s * unit_bytes g)) ((s * unit_bytes g + 3) / 4))) (sym e) (grind (arith, nat_tests))
raw_allows f s (inr (inr (inl e))) = subst (λ g. IsTrue (format_allows (raw_format g (s * unit_bytes g)) ((s * unit_bytes g + 3) / 4))) (sym e) (grind (arith, nat_tests))
raw_allows f s (inr (inr (inr e))) = subst (λ g. IsTrue (format_allows (raw_format g (s * unit_bytes g)) ((s * unit_bytes g + 3) / 4))) (sym e) (grind (arith, nat_tests))

pub allows_planned : (index format fields n : ℕ) → is_instance_shape format fields n ≡ true → IsTrue (format_allows (instance_format index format n) (instance_slots index format fields n))
allows_planned index format fields n h = go (index == context_class)
  where
    pointers : (b : Bool) → nat_lt format 6 ≡ b → IsTrue (format_allows (if b then pointer_format format else raw_format format (n * unit_bytes format)) (if b then fields + n else (n * unit_bytes format + 3) / 4))
    pointers true e = pointer_case format fields n h (grind (arith, nat_tests, e))
    pointers false e = raw_allows format n (raw_cases format fields n h (grind (arith, nat_tests, e)))

    go : (b : Bool) → IsTrue (format_allows (if b then 3 else (if nat_lt format 6 then pointer_format format else raw_format format (n * unit_bytes format)))
        (if b then 6 + n else (if nat_lt format 6 then fields + n else (n * unit_bytes format + 3) / 4)))
    go true = refl
    go false = pointers (nat_lt format 6) refl

-- ---- what is done

-- a refusal changes nothing
pub record Refuses (m : Memory) (t : FinMap nat_cmp ℕ) (a birth : ℕ) (plan : Plan) (why : NewError) : Type 0 where
  pub value : Err why ≡ planned_answer m (fitting m plan)
  pub memory : m ≡ planned_memory m a birth (fitting m plan)
  pub table : t ≡ planned_table t a (fitting m plan)

pub refuses : (m : Memory) (t : FinMap nat_cmp ℕ) (a birth : ℕ) (plan : Plan) (why : NewError) → plan ≡ Refuse why → Refuses m t a birth plan why
refuses m t a birth plan why e = subst (λ p. Refuses m t a birth p why) (sym e) (record { value = refl; memory = refl; table = refl })

pub refuses-full : (m : Memory) (t : FinMap nat_cmp ℕ) (a birth : ℕ) (plan : Plan) (index format slots : ℕ) → plan ≡ Make index format slots → m.limit < used m.objects + size slots
    → Refuses m t a birth plan refused.HeapFull
refuses-full m t a birth plan index format slots e over = subst (λ p. Refuses m t a birth p refused.HeapFull) (sym e) (record { value = ap (planned_answer m) (sym full); memory = ap (planned_memory m a birth) (sym full); table = ap (planned_table t a) (sym full) })
  where
    full : fitting m (Make index format slots) ≡ Refuse refused.HeapFull
    full = ap (λ (b : Bool). if b then Make index format slots else Refuse refused.HeapFull) (beyond (used m.objects + size slots) m.limit over)
      where
        beyond : (x y : ℕ) → y < x → nat_le x y ≡ false
        beyond x y l = grind (arith, nat_tests, l)

-- an object more does not stand in the way of an edit
pub with_object-pushed : (os : List Object) (y : Object) (a : ℕ) (f : Object → Object) → is_object os a ≡ true → with_object (os ++ y ∷ []) a f ≡ with_object os a f ++ y ∷ []
unfolding at_index
with_object-pushed os y a f h =
    let found = has_index os a h in
    with_object-index (os ++ y ∷ []) a found.0 f (index_of-old os y a found.0 found.1.index_is) ∙ go found.0 os (index_of-below os a found.0 found.1.index_is)
    ∙ ap (λ (us : List Object). us ++ y ∷ []) (sym (with_object-index os a found.0 f found.1.index_is))
  where
    go : (k : ℕ) (xs : List Object) → k < length xs → at_index k f (xs ++ y ∷ []) ≡ at_index k f xs ++ y ∷ []
    go k [] l = absurd (omega (arith, l))
    go zero (x ∷ xs) l = refl
    go (suc k) (x ∷ xs) l = ap (λ (ys : List Object). x ∷ ys) (go k xs (omega (arith, l)))

pub record IsMade (m : Memory) (t : FinMap nat_cmp ℕ) (a birth index format slots : ℕ) (plan : Plan) (o : Oop) : Type 0 where
  pub value : Ok o ≡ planned_answer m (fitting m plan)
  pub memory : hash_stored (object_added m index format slots birth) a index ≡ planned_memory m a birth (fitting m plan)
  pub table : insert t index a ≡ planned_table t a (fitting m plan)

pub is_made : (m : Memory) (t : FinMap nat_cmp ℕ) (a birth : ℕ) (plan : Plan) (index format slots : ℕ) (o : Oop) → plan ≡ Make index format slots → used m.objects + size slots ≤ m.limit
    → is_object m.objects a ≡ true → o.0 ≡ next_address m.objects slots → IsMade m t a birth index format slots plan o
is_made m t a birth plan index format slots o e room there at = subst (λ p. IsMade m t a birth index format slots p o) (sym e) (record {
  value = ap (λ n. Ok (record { 0 = n })) at ∙ ap (planned_answer m) (sym fits);
  memory = ap (λ (us : List Object). record m { objects = us }) (with_object-pushed m.objects (heap.new_object index format slots birth) a (λ x. record x { hash = index }) there)
      ∙ ap (planned_memory m a birth) (sym fits);
  table = ap (planned_table t a) (sym fits);
})
  where
    fits : fitting m (Make index format slots) ≡ Make index format slots
    fits = ap (λ (b : Bool). if b then Make index format slots else Refuse refused.HeapFull) (within (used m.objects + size slots) m.limit room)
      where
        within : (x y : ℕ) → x ≤ y → nat_le x y ≡ true
        within x y l = grind (arith, nat_tests, l)

-- an error that is handed on
pub handed : {A B : Type 0} (r : Result A B) (why : B) → IsErr r → IsErrAnd r (λ e. e ≡ why) → r ≡ Err why
handed (Ok x) why e h = absurd (cc)
handed (Err y) why e h = ap Err h

-- what says a shape is an object
pub shaped_object : (os : List Object) (a shape : ℕ) → Some shape ≡ shape_at os a → is_object os a ≡ true
shaped_object os a shape e = go (is_object os a) (not (class_at os a == context_class)) (is_pointers (format_at os a)) (nat_le 3 (slot_count_of os a)) e
  where
    go : (b c d l : Bool) → Some shape ≡ (if b && c && d && l then natural_of_word (slot_of os a 2) else None) → b ≡ true
    go true c d l h = refl
    go false c d l h = absurd (cc)

-- an object more leaves the index of a class
pub index-pushed : (os : List Object) (y : Object) (table : FinMap nat_cmp ℕ) (a : ℕ) → is_object os a ≡ true → index_in_table (os ++ y ∷ []) table a ≡ index_in_table os table a
unfolding index_in_table
index-pushed os y table a h = ap (λ (n : ℕ). if n == 0 then taken (lowest_free free_indices first_free_index table) else (if is_entry (get table n) a then IndexAt n else NoIndex)) (field_of-old (λ (x : Object). x.hash) os y a h)
