-- What the fields of the contexts of a heap name, in the state that it stands for.
use Rattle.std.proofs.Common.{◌≡◌, ◌⊎◌, inl, inr, ℕ, true, List, Option, Some, refl, ap, subst, sym, ◌∙◌, option_map}
use Rattle.std.specs.Prelude.{◌==◌, ◌||◌, slice_index}
use Rattle.std.specs.Ordering.{nat_cmp}
use Rattle.std.specs.Option.{option_map_or}
use Rattle.std.specs.FinMap.{FinMap}
use Rattle.std.proofs.lemmas.Bool.{eq-eqb, eqb-true, false≢true, or_left, or_right}
use Rattle.cs_heap.specs.Format.{is_code}
use Rattle.cs_heap.specs.Object.{Object, class_at, format_at, is_object, heap_object}
use Rattle.cs_model.specs.Context.{closure_class, has_class_index}
use Rattle.cs_model.specs.Obj as obj
use Rattle.cs_model.specs.Obj.{Context, Ctx}
use Rattle.cs_model.specs.State.{Kept, is_nil, object_of}
use Rattle.cs_classes.specs.declared.Roots.{Roots}
use Rattle.cs_classes.specs.Kinds.{KindsStand}
use Rattle.cs_classes.specs.Meaning.{nth_birth, context_of, kept_of, obj_of, ref_of}
use Rattle.cs_classes.specs.Senders.{SendersStand}
use Rattle.cs_classes.specs.Sound.{IsWhole, is_closure_address, is_method_address, nil_word}
use Rattle.cs_classes.proofs.Heaps.{object_there}
use Rattle.cs_classes.proofs.Makings.{ref_of-nil}
use Rattle.cs_classes.proofs.Objects.{get-objects_of, objects_of-comes}
use Rattle.cs_classes.proofs.Refs.{both_true, either_true, is_nil_or_closure, is_nil_or_method, ref_of-object}
use Rattle.cs_classes.proofs.Sorts.{AContext, AMethod, Bytes, Pointers, Sort, context_is, not_pointers, obj_of-bytes, obj_of-method, obj_of-pointers, sort_of}
use Rattle.cs_classes.proofs.Sounds.{method_other, sound_at}

module _ (os : List Object) (table : FinMap nat_cmp ℕ) (roots : Roots) (active : Option ℕ) (w : IsWhole os table roots) where
  abbrev pub k : Kept
  k = kept_of os table roots active

  -- the object at an address is the one that its reference names
  named : (a : ℕ) (x : Object) → is_object os a ≡ true → heap_object os a ≡ Some x → object_of k (ref_of os a) ≡ Some (obj_of (ref_of os) x)
  named a x there at = ap (object_of k) (ref_of-object os a there) ∙ get-objects_of os a w.heap there ∙ ap (option_map (obj_of (ref_of os))) at

  -- the word of nil names nil
  named_nil : (a : ℕ) → (a == nil_word os) ≡ true → is_nil k (ref_of os a) ≡ true
  named_nil a e =
      let is : a ≡ nil_word os = eqb-true a (nil_word os) e in
      ap (λ n. is_nil k (ref_of os n)) (is ∙ w.nil) ∙ ap (is_nil k) (ref_of-nil os table roots w) ∙ eq-eqb (nth_birth os 0) (nth_birth os 0) refl

  method_named : (a : ℕ) → is_method_address os a ≡ true → obj.is_method (object_of k (ref_of os a)) ≡ true
  method_named a h =
      let s = both_true (is_object os a) (is_code (format_at os a)) h in
      let x = object_there os a s.0 in
      let method : is_code x.0.format ≡ true = ap is_code (sym (ap (λ (o : Option Object). option_map_or (λ (y : Object). y.format) o 0) x.1)) ∙ s.1 in
      let other = method_other os x.0 (sound_at os a x.0 w.heap x.1) method in
      ap obj.is_method (named a x.0 s.0 x.1) ∙ ap (λ o. obj.is_method (Some o)) (obj_of-method (ref_of os) x.0 other (not_pointers x.0.format method) method)

  closure_in : (x : Object) → x.class ≡ 37 → has_class_index closure_class (Some (obj_of (ref_of os) x)) ≡ true
  closure_in x e = go (sort_of x)
    where
      is : (x.class == 37) ≡ true
      is = eq-eqb x.class 37 e

      go : Sort x → has_class_index closure_class (Some (obj_of (ref_of os) x)) ≡ true
      go (AContext c) = absurd (false≢true (sym (ap (λ n. n == 36) e) ∙ c))
      go (Pointers o q) = ap (λ y. has_class_index closure_class (Some y)) (obj_of-pointers (ref_of os) x o q) ∙ is
      go (AMethod o b m) = ap (λ y. has_class_index closure_class (Some y)) (obj_of-method (ref_of os) x o b m) ∙ is
      go (Bytes o b m) = ap (λ y. has_class_index closure_class (Some y)) (obj_of-bytes (ref_of os) x o b m) ∙ is

  closure_named : (a : ℕ) → is_closure_address os a ≡ true → has_class_index closure_class (object_of k (ref_of os a)) ≡ true
  closure_named a h =
      let s = both_true (is_object os a) (class_at os a == 37) h in
      let x = object_there os a s.0 in
      let class : x.0.class ≡ 37 = sym (ap (λ (o : Option Object). option_map_or (λ (y : Object). y.class) o 0) x.1) ∙ eqb-true (class_at os a) 37 s.1 in
      ap (has_class_index closure_class) (named a x.0 s.0 x.1) ∙ closure_in x.0 class

  pub nil_or_method_named : (a : ℕ) → is_nil_or_method os a ≡ true → (is_nil k (ref_of os a) || obj.is_method (object_of k (ref_of os a))) ≡ true
  nil_or_method_named a h = go (either_true (a == nil_word os) (is_method_address os a) h)
    where
      go : ((a == nil_word os) ≡ true) ⊎ (is_method_address os a ≡ true) → (is_nil k (ref_of os a) || obj.is_method (object_of k (ref_of os a))) ≡ true
      go (inl e) = or_left (is_nil k (ref_of os a)) (obj.is_method (object_of k (ref_of os a))) (named_nil a e)
      go (inr e) = or_right (is_nil k (ref_of os a)) (obj.is_method (object_of k (ref_of os a))) (method_named a e)

  pub nil_or_closure_named : (a : ℕ) → is_nil_or_closure os a ≡ true → (is_nil k (ref_of os a) || has_class_index closure_class (object_of k (ref_of os a))) ≡ true
  nil_or_closure_named a h = go (either_true (a == nil_word os) (is_closure_address os a) h)
    where
      go : ((a == nil_word os) ≡ true) ⊎ (is_closure_address os a ≡ true) → (is_nil k (ref_of os a) || has_class_index closure_class (object_of k (ref_of os a))) ≡ true
      go (inl e) = or_left (is_nil k (ref_of os a)) (has_class_index closure_class (object_of k (ref_of os a))) (named_nil a e)
      go (inr e) = or_right (is_nil k (ref_of os a)) (has_class_index closure_class (object_of k (ref_of os a))) (closure_named a e)

  -- where senders are nil or contexts, all the fields name what they must
  pub kept_of-kinds : SendersStand k → KindsStand k
  unfolding context_of
  kept_of-kinds senders i c there =
      let from = objects_of-comes os i (Ctx c) w.heap.apart there in
      let is = context_is (ref_of os) from.object c from.meaning in
      let sound = (w.heap.each from.place from.object from.element).context is.context in
      record {
        sender = senders i c there;
        method = subst (λ (d : Context). (is_nil k d.method || obj.is_method (object_of k d.method)) ≡ true) is.value (nil_or_method_named (slice_index from.object.words 3) sound.method);
        closure = subst (λ (d : Context). (is_nil k d.closure || has_class_index closure_class (object_of k d.closure)) ≡ true) is.value (nil_or_closure_named (slice_index from.object.words 4) sound.closure);
      }
