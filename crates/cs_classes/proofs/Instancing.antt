-- What a plan of an instance says, and what the object that is made by it means.
use Rattle.std.proofs.Common.{◌≡◌, ◌⊎◌, inl, inr, ℕ, ◌+◌, ◌-◌, ◌*◌, ◌/◌, ◌%◌, ◌<◌, ◌≤◌, Bool, true, false, List, replicate, Option, Some, None, is_some, refl, ap, subst, sym, ◌∙◌, arith}
use Rattle.std.specs.Prelude.{◌==◌, ◌&&◌, ◌||◌, not, if◌then◌else◌, nat_le, nat_lt, IsTrue}
use Rattle.std.specs.Ordering.{nat_cmp}
use Rattle.std.specs.FinMap.{FinMap, get}
use Rattle.std.proofs.lemmas.Bool.{eqb-true, eqb-false}
use Rattle.std.proofs.lemmas.Bool.Decides.{nat_tests}
use Rattle.cs_word.specs.Word.{natural_of_word}
use Rattle.cs_heap.specs.Format.{format_allows, is_code, is_pointers}
use Rattle.cs_heap.specs.Object.{Object, new_object, slot_of}
use Rattle.cs_model.specs.Words.{unused_bytes}
use Rattle.cs_model.specs.Obj.{Ctx, Obj, Raw, context_class, context_fields, new_head}
use Rattle.cs_model.specs.State.{Kept, is_class_index}
use Rattle.cs_model.specs.Operation.{new_pointers, nil_of}
use Rattle.cs_model.specs.Instance.{Index, IndexAt, NoIndex, NoneFree, is_instance_index, is_instance_shape, new_context, pointer_format, raw_format, unit_bytes}
use Rattle.cs_classes.specs.declared.Roots.{Roots}
use Rattle.cs_classes.specs.declared.NewError.TheVariants as refused
use Rattle.cs_classes.specs.Instances.{Make, Plan, Refuse, index_in_table, instance_of, instance_format, instance_slots, plan_at, plan_of, plan_shaped, shape_at}
use Rattle.cs_classes.specs.Sound.{IsWhole, has_slots, is_weak}
use Rattle.cs_classes.proofs.Makings.{Makes, makes-bytes, makes-context, makes-pointers}
use Rattle.cs_classes.proofs.Plans.{allows_planned, raw_cases}
use Rattle.cs_classes.proofs.Wholes.{kind_of-entry}

-- an instance is planned: what the class says of its instances, and its index
pub record Planned (os : List Object) (table : FinMap nat_cmp ℕ) (a n index format slots : ℕ) : Type 0 where
  pub said : ℕ
  pub fields : ℕ
  pub class : has_slots os 3 a ≡ true
  pub allowed : is_instance_shape said fields n ≡ true
  pub index_is : index_in_table os table a ≡ IndexAt index
  pub good : is_instance_index index n ≡ true
  pub format_is : format ≡ instance_format index said n
  pub slots_is : slots ≡ instance_slots index said fields n

pub planned : (os : List Object) (table : FinMap nat_cmp ℕ) (a n index format slots : ℕ) → plan_of os table a n ≡ Make index format slots → Planned os table a n index format slots
unfolding plan_of plan_at
planned os table a n index format slots e = class (has_slots os 3 a) refl e
  where
    good : (said fields j : ℕ) (b : Bool) → has_slots os 3 a ≡ true → is_instance_shape said fields n ≡ true → index_in_table os table a ≡ IndexAt j → is_instance_index j n ≡ b
        → (if b then Make j (instance_format j said n) (instance_slots j said fields n) else Refuse refused.NotInstantiable) ≡ Make index format slots → Planned os table a n index format slots
    good said fields j false c s i g h = absurd (cc)
    good said fields j true c s i g h =
        let is : j ≡ index = cc in
        let f : instance_format j said n ≡ format = cc in
        let m : instance_slots j said fields n ≡ slots = cc in
        record {
          said = said;
          fields = fields;
          class = c;
          allowed = s;
          index_is = i ∙ ap IndexAt is;
          good = subst (λ k. is_instance_index k n ≡ true) is g;
          format_is = sym f ∙ ap (λ k. instance_format k said n) is;
          slots_is = sym m ∙ ap (λ k. instance_slots k said fields n) is;
        }

    indexed : (said fields : ℕ) (i : Index) → has_slots os 3 a ≡ true → is_instance_shape said fields n ≡ true → index_in_table os table a ≡ i → plan_at said fields n i ≡ Make index format slots → Planned os table a n index format slots
    indexed said fields NoIndex c s p h = absurd (cc)
    indexed said fields NoneFree c s p h = absurd (cc)
    indexed said fields (IndexAt j) c s p h = good said fields j (is_instance_index j n) c s p refl h

    allowed : (said fields : ℕ) (b : Bool) → has_slots os 3 a ≡ true → is_instance_shape said fields n ≡ b
        → (if b then plan_at said fields n (index_in_table os table a) else Refuse refused.NotInstantiable) ≡ Make index format slots → Planned os table a n index format slots
    allowed said fields false c s h = absurd (cc)
    allowed said fields true c s h = indexed said fields (index_in_table os table a) c s refl h

    shaped : (o : Option ℕ) → has_slots os 3 a ≡ true → plan_shaped os table a n o ≡ Make index format slots → Planned os table a n index format slots
    shaped None c h = absurd (cc)
    shaped (Some shape) c h = allowed (shape / 65536) (shape % 65536) (is_instance_shape (shape / 65536) (shape % 65536) n) c refl h

    class : (b : Bool) → has_slots os 3 a ≡ b → plan_shaped os table a n (if b then natural_of_word (slot_of os a 2) else None) ≡ Make index format slots → Planned os table a n index format slots
    class false c h = absurd (cc)
    class true c h = shaped (natural_of_word (slot_of os a 2)) c h

-- ---- the object

module _ {os : List Object} {table : FinMap nat_cmp ℕ} {a n index format slots : ℕ} (p : Planned os table a n index format slots) where
  pub planned_high : 3 < index
  planned_high = high index n p.good
    where
      high : (i n : ℕ) → is_instance_index i n ≡ true → 3 < i
      high i n h = grind (arith, nat_tests, h)

  pub planned_shape : IsTrue (format_allows format slots)
  planned_shape = subst (λ f. IsTrue (format_allows f slots)) (sym p.format_is) (subst (λ m. IsTrue (format_allows (instance_format index p.said n) m)) (sym p.slots_is) (allows_planned index p.said p.fields n p.allowed))

  -- a context has a stack of 16 or 56
  pub record IsPlannedContext : Type 0 where
    pub format_is : format ≡ 3
    pub slots_is : slots ≡ 6 + n
    pub size : (n == 16 || n == 56) ≡ true

  pub planned_context : (index == 36) ≡ true → IsPlannedContext
  planned_context e = record {
    format_is = p.format_is ∙ ap (λ b. if b then 3 else (if nat_lt p.said 6 then pointer_format p.said else raw_format p.said (n * unit_bytes p.said))) e;
    slots_is = p.slots_is ∙ ap (λ b. if b then 6 + n else (if nat_lt p.said 6 then p.fields + n else (n * unit_bytes p.said + 3) / 4)) e;
    size = sizes index n p.good e;
  }
    where
      sizes : (i n : ℕ) → is_instance_index i n ≡ true → (i == 36) ≡ true → (n == 16 || n == 56) ≡ true
      sizes i n h e = grind (arith, nat_tests, h, e)

  -- other objects are no weak ones and no methods
  pub planned_plain : (index == 36) ≡ false → (is_weak format ≡ false) × (is_code format ≡ false)
  planned_plain e = subst (λ f. (is_weak f ≡ false) × (is_code f ≡ false)) (sym (p.format_is ∙ ap (λ b. if b then 3 else (if nat_lt p.said 6 then pointer_format p.said else raw_format p.said (n * unit_bytes p.said))) e)) (go (nat_lt p.said 6) refl)
    where
      pointers : (f : ℕ) → f < 6 → (is_weak (pointer_format f) ≡ false) × (is_code (pointer_format f) ≡ false)
      pointers f l = (grind (arith, nat_tests, l), grind (arith, nat_tests, l))

      raw : (f : ℕ) → (f ≡ 9) ⊎ ((f ≡ 10) ⊎ ((f ≡ 12) ⊎ (f ≡ 16))) → (is_weak (raw_format f (n * unit_bytes f)) ≡ false) × (is_code (raw_format f (n * unit_bytes f)) ≡ false)
      raw f (inl e) = subst (λ g. (is_weak (raw_format g (n * unit_bytes g)) ≡ false) × (is_code (raw_format g (n * unit_bytes g)) ≡ false)) (sym e) (grind (arith, nat_tests), grind (arith, nat_tests))
      raw f (inr (inl e)) = subst (λ g. (is_weak (raw_format g (n * unit_bytes g)) ≡ false) × (is_code (raw_format g (n * unit_bytes g)) ≡ false)) (sym e) (grind (arith, nat_tests), grind (arith, nat_tests))
      raw f (inr (inr (inl e))) = subst (λ g. (is_weak (raw_format g (n * unit_bytes g)) ≡ false) × (is_code (raw_format g (n * unit_bytes g)) ≡ false)) (sym e) (grind (arith, nat_tests), grind (arith, nat_tests))
      raw f (inr (inr (inr e))) = subst (λ g. (is_weak (raw_format g (n * unit_bytes g)) ≡ false) × (is_code (raw_format g (n * unit_bytes g)) ≡ false)) (sym e) (grind (arith, nat_tests), grind (arith, nat_tests))

      go : (b : Bool) → nat_lt p.said 6 ≡ b → (is_weak (if b then pointer_format p.said else raw_format p.said (n * unit_bytes p.said)) ≡ false) × (is_code (if b then pointer_format p.said else raw_format p.said (n * unit_bytes p.said)) ≡ false)
      go true e = pointers p.said (grind (arith, nat_tests, e))
      go false e = raw p.said (raw_cases p.said p.fields n p.allowed (grind (arith, nat_tests, e)))

  -- it is made in any heap and table in which the class has its entry
  pub makes-planned : {us : List Object} {new : FinMap nat_cmp ℕ} {roots : Roots} → IsWhole us new roots → is_some (get new index) ≡ true
      → Makes us (new_object index format slots roots.next_birth) new roots (λ k. instance_of k index format slots)
  makes-planned {us = us} {new = new} {roots = roots} w entry = go (index == 36) refl
    where
      object : Bool → Bool → Kept → Obj
      object b c k = if b then Ctx (new_context (nil_of k) (slots - 6)) else (if c then new_pointers k index format slots else Raw (new_head index format) (replicate (4 * slots - unused_bytes format) 0))

      kind : is_class_index index ≡ true
      kind = kind_of-entry us new roots index w entry (λ e. omega (arith, planned_high, e)) (λ e. omega (arith, planned_high, e)) (λ e. omega (arith, planned_high, e))

      context : index ≡ 36 → IsPlannedContext → Makes us (new_object index format slots roots.next_birth) new roots (λ k. Ctx (new_context (nil_of k) (slots - 6)))
      context is c =
          subst (λ i. Makes us (new_object i format slots roots.next_birth) new roots (λ k. Ctx (new_context (nil_of k) (slots - 6)))) (sym is)
          (subst (λ f. Makes us (new_object 36 f slots roots.next_birth) new roots (λ k. Ctx (new_context (nil_of k) (slots - 6)))) (sym c.format_is)
          (subst (λ m. Makes us (new_object 36 3 m roots.next_birth) new roots (λ k. Ctx (new_context (nil_of k) (m - 6)))) (sym c.slots_is)
          (subst (λ m. Makes us (new_object 36 3 (6 + n) roots.next_birth) new roots (λ k. Ctx (new_context (nil_of k) m))) (less n) (makes-context w n c.size))))
        where
          less : (m : ℕ) → m ≡ 6 + m - 6
          less m = omega arith

      other : (c : Bool) → (index == 36) ≡ false → is_pointers format ≡ c → Makes us (new_object index format slots roots.next_birth) new roots (object false c)
      other true e f = makes-pointers w index format slots kind e (planned_plain e).0 f planned_shape entry
      other false e f = makes-bytes w index format slots kind e f (planned_plain e).1 planned_shape entry

      go : (b : Bool) → (index == 36) ≡ b → Makes us (new_object index format slots roots.next_birth) new roots (λ k. instance_of k index format slots)
      go true e = subst (λ b. Makes us (new_object index format slots roots.next_birth) new roots (object b (is_pointers format))) (sym e) (context (eqb-true index 36 e) (planned_context e))
      go false e = subst (λ b. Makes us (new_object index format slots roots.next_birth) new roots (object b (is_pointers format))) (sym e) (other (is_pointers format) e refl)
