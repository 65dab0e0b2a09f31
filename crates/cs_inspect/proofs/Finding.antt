-- The fields by which the active process is found.
use Rattle.std.proofs.Common.{◌≡◌, ℕ, ◌<◌, ◌≤◌, ◌%◌, ◌/◌, Bool, true, false, cond, not, ℤ, refl, sym, ap, subst, ◌∙◌, arith, Option, Some, None, List, length, map, option_map}
use Rattle.std.specs.Prelude.{slice_index, slice_get, option_and_then, is_some, ◌==◌, ◌&&◌, nat_le, nat_lt}
use Rattle.std.specs.List.{AllPass}
use Rattle.std.specs.Ordering.{nat_cmp}
use Rattle.std.specs.FinMap.{FinMap}
use Rattle.std.proofs.lemmas.Bool.{false≢true, leb-false, lt-ltb, ltb-false, ltb-true}
use Rattle.std.proofs.lemmas.List.{length-map}
use Rattle.std.proofs.lemmas.Option.{slice_get-get_or, slice_get-map, slice_get_past}
use Rattle.cs_model.specs.Words.{small_value}
use Rattle.cs_word.specs.declared.Kind.{Kind}
use Rattle.cs_word.specs.declared.Kind.TheVariants as kind
use Rattle.cs_word.specs.Word.{kind_of}
use Rattle.cs_heap.specs.Format.{is_pointers}
use Rattle.cs_heap.specs.Object.{Object, class_at, format_at, object_place, is_object, heap_object, slot_count_of, slot_of}
use Rattle.cs_model.specs.Obj.{Obj, at_least, slots_in}
use Rattle.cs_model.specs.Ref.{Ref}
use Rattle.cs_model.specs.State.{Kept, active_process, object_of, scheduler_of, slots_of, special_at}
use Rattle.cs_classes.specs.declared.Roots.{Roots}
use Rattle.cs_classes.specs.Meaning.{is_heap_context, kept_of, meaning_at, obj_of, ref_of, ref_of_kind}
use Rattle.cs_classes.specs.Sound.{AreSoundObjects, IsWhole, is_reference, is_reference_kind}
use Rattle.cs_classes.proofs.Objects.{get-objects_of}
use Rattle.cs_classes.proofs.Refs.{ref_of-object}
use Rattle.cs_classes.proofs.Sorts.{AContext, AMethod, Bytes, Pointers, Sort, obj_of-bytes, obj_of-context, obj_of-method, obj_of-pointers, references-pointers, sort_of}
use Rattle.cs_word.specs.declared.Oop.{Oop}
use Rattle.cs_inspect.specs.Reading.{field_seen, has_field_at, ref_option}
use Rattle.cs_inspect.proofs.Reading.{There, there}

-- the kind of an address is itself
pub kind_of_address : (w a : ℕ) → kind_of w ≡ kind.Object a → w ≡ a
kind_of_address w a e = go (w % 2 == 1) (w % 4 == 2) (w % 8 == 0) (small_value w) (w / 4) e
  where
    go : (b c d : Bool) (z : ℤ) (y : ℕ) → cond b (kind.Small z) (cond c (kind.Character y) (cond d (kind.Object w) (kind.Link w))) ≡ kind.Object a → w ≡ a
    go true c d z y e = cc
    go false true d z y e = cc
    go false false true z y e = cc
    go false false false z y e = cc

pub no_object : (os : List Object) (a : ℕ) → is_object os a ≡ false → heap_object os a ≡ None
no_object os a h = go (object_place os a) h
  where
    go : (i : Option ℕ) → is_some i ≡ false → option_and_then (slice_get os) i ≡ None
    go None e = refl
    go (Some k) e = absurd (false≢true (sym e))

-- ---- one field

-- a pointer object, which no context is, has the field, and it is a reference
pub record HasField (os : List Object) (a i : ℕ) : Type 0 where
  pub value : field_seen os a i ≡ Some (ref_of os (slot_of os a i))
  pub reference : is_reference os (slot_of os a i) ≡ true

pub has_field : (os : List Object) (a i : ℕ) → AreSoundObjects os → is_object os a ≡ true → (class_at os a == 36) ≡ false → is_pointers (format_at os a) ≡ true → i < slot_count_of os a → HasField os a i
has_field os a i sound h c p l =
    let t = there os a sound h in
    let other : is_heap_context t.x ≡ false = ap (λ (n : ℕ). n == 36) (sym t.class) ∙ c in
    let pointers : is_pointers t.x.format ≡ true = ap is_pointers (sym t.format) ∙ p in
    let less : i < length t.x.words = omega (arith, l, t.count) in
    let all : AllPass (is_reference os) t.x.words = subst (AllPass (is_reference os)) (references-pointers t.x other pointers) t.sound.references in
    let found : slice_get (map (ref_of os) t.x.words) i ≡ Some (ref_of os (slice_index t.x.words i)) = slice_get-map (ref_of os) t.x.words i ∙ ap (option_map (ref_of os)) (slice_get-get_or t.x.words i 0 less) in
    record {
      value = ap (λ (o : Option Object). option_and_then (λ (slots : List Ref). slice_get slots i) (slots_in (option_map (obj_of (ref_of os)) o))) t.at
          ∙ ap (λ (q : Obj). option_and_then (λ (slots : List Ref). slice_get slots i) (slots_in (Some q))) (obj_of-pointers (ref_of os) t.x other pointers)
          ∙ found ∙ ap (λ w. Some (ref_of os w)) (sym (t.slot i));
      reference = subst (λ v. is_reference os v ≡ true) (sym (t.slot i)) (all i 0 less);
    }

-- whatever fails the test has none
pub no_field : (os : List Object) (a i : ℕ) → AreSoundObjects os → (is_object os a ≡ true → (class_at os a == 36) ≡ false → is_pointers (format_at os a) ≡ true → i < slot_count_of os a → ⊥) → field_seen os a i ≡ None
no_field os a i sound fails = go (is_object os a) refl
  where
    at : (t : There os a) → is_object os a ≡ true → Sort t.x → option_and_then (λ (slots : List Ref). slice_get slots i) (slots_in (Some (obj_of (ref_of os) t.x))) ≡ None
    at t h (AContext c) = ap (λ (q : Obj). option_and_then (λ (slots : List Ref). slice_get slots i) (slots_in (Some q))) (obj_of-context (ref_of os) t.x c)
    at t h (Pointers o p) =
        let few : length (map (ref_of os) t.x.words) ≤ i = omega (arith, length-map t.x.words (ref_of os), past) in
        ap (λ (q : Obj). option_and_then (λ (slots : List Ref). slice_get slots i) (slots_in (Some q))) (obj_of-pointers (ref_of os) t.x o p) ∙ slice_get_past (map (ref_of os) t.x.words) i few
      where
        past : length t.x.words ≤ i
        past = small (nat_lt i (length t.x.words)) refl
          where
            small : (b : Bool) → nat_lt i (length t.x.words) ≡ b → length t.x.words ≤ i
            small true e = absurd (fails h (ap (λ (n : ℕ). n == 36) t.class ∙ o) (ap is_pointers t.format ∙ p) (omega (arith, t.count, ltb-true i (length t.x.words) e)))
            small false e = ltb-false i (length t.x.words) e
    at t h (AMethod o p m) = ap (λ (q : Obj). option_and_then (λ (slots : List Ref). slice_get slots i) (slots_in (Some q))) (obj_of-method (ref_of os) t.x o p m)
    at t h (Bytes o p m) = ap (λ (q : Obj). option_and_then (λ (slots : List Ref). slice_get slots i) (slots_in (Some q))) (obj_of-bytes (ref_of os) t.x o p m)

    go : (b : Bool) → is_object os a ≡ b → field_seen os a i ≡ None
    go true h =
        let t = there os a sound h in
        ap (λ (o : Option Object). option_and_then (λ (slots : List Ref). slice_get slots i) (slots_in (option_map (obj_of (ref_of os)) o))) t.at ∙ at t h (sort_of t.x)
    go false h = ap (λ (o : Option Object). option_and_then (λ (slots : List Ref). slice_get slots i) (slots_in (option_map (obj_of (ref_of os)) o))) (no_object os a h)

-- ---- the active process

named_other : (os : List Object) (k : Kept) (a : ℕ) → is_reference os a ≡ true → is_object os a ≡ false → object_of k (ref_of os a) ≡ None
unfolding ref_of is_reference
named_other os k a r h = at (kind_of a) refl r
  where
    at : (p : Kind) → kind_of a ≡ p → is_reference_kind os p ≡ true → object_of k (ref_of_kind os p) ≡ None
    at (kind.Small z) e r = refl
    at (kind.Character c) e r = refl
    at (kind.Object b) e r = absurd (false≢true (sym h ∙ ap (is_object os) (kind_of_address a b e) ∙ r))
    at (kind.Link b) e r = absurd (false≢true r)

module _ (os : List Object) (table : FinMap nat_cmp ℕ) (roots : Roots) (w : IsWhole os table roots) where
  abbrev k : Kept
  k = kept_of os table roots None

  -- what a reference names is at the address
  named : (a : ℕ) → is_reference os a ≡ true → object_of k (ref_of os a) ≡ meaning_at os a
  named a r = go (is_object os a) refl
    where
      go : (b : Bool) → is_object os a ≡ b → object_of k (ref_of os a) ≡ meaning_at os a
      go true h = ap (object_of k) (ref_of-object os a h) ∙ get-objects_of os a w.heap h
      go false h = named_other os k a r h ∙ sym (ap (option_map (obj_of (ref_of os))) (no_object os a h))

  -- slot 1 is there exactly where there are two slots
  second : (o : Option (List Ref)) → option_and_then (λ (slots : List Ref). slice_get slots 1) (at_least 2 o) ≡ option_and_then (λ (slots : List Ref). slice_get slots 1) o
  second None = refl
  second (Some slots) = go (nat_le 2 (length slots)) refl
    where
      go : (b : Bool) → nat_le 2 (length slots) ≡ b → option_and_then (λ (ss : List Ref). slice_get ss 1) (cond b (Some slots) None) ≡ slice_get slots 1
      go true e = refl
      go false e = sym (slice_get_past slots 1 (omega (arith, leb-false 2 (length slots) e)))

  pub link_is : special_at k 3 ≡ field_seen os roots.special.0 3
  unfolding special_at
  link_is = ap (λ (o : Option Obj). option_and_then (λ (slots : List Ref). slice_get slots 3) (slots_in o)) (get-objects_of os roots.special.0 w.heap w.special)

  slot_one : (a : ℕ) → is_reference os a ≡ true → option_and_then (λ (slots : List Ref). slice_get slots 1) (slots_of k 2 (ref_of os a)) ≡ field_seen os a 1
  unfolding slots_of
  slot_one a r = second (slots_in (object_of k (ref_of os a))) ∙ ap (λ (o : Option Obj). option_and_then (λ (slots : List Ref). slice_get slots 1) (slots_in o)) (named a r)

  pub no_link : field_seen os roots.special.0 3 ≡ None → active_process k ≡ None
  unfolding active_process scheduler_of
  no_link e = ap (λ (o : Option Ref). option_and_then (λ s. option_and_then (λ (slots : List Ref). slice_get slots 1) (slots_of k 2 s)) (option_and_then (λ s. option_and_then (λ (slots : List Ref). slice_get slots 1) (slots_of k 2 s)) o)) (link_is ∙ e)

  scheduler_is : (a : ℕ) → field_seen os roots.special.0 3 ≡ Some (ref_of os a) → is_reference os a ≡ true → scheduler_of k ≡ field_seen os a 1
  unfolding scheduler_of
  scheduler_is a e r = ap (λ (o : Option Ref). option_and_then (λ s. option_and_then (λ (slots : List Ref). slice_get slots 1) (slots_of k 2 s)) o) (link_is ∙ e) ∙ slot_one a r

  pub no_scheduler : (a : ℕ) → field_seen os roots.special.0 3 ≡ Some (ref_of os a) → is_reference os a ≡ true → field_seen os a 1 ≡ None → active_process k ≡ None
  unfolding active_process
  no_scheduler a e r f = ap (λ (o : Option Ref). option_and_then (λ s. option_and_then (λ (slots : List Ref). slice_get slots 1) (slots_of k 2 s)) o) (scheduler_is a e r ∙ f)

  pub process_is : (a b : ℕ) → field_seen os roots.special.0 3 ≡ Some (ref_of os a) → is_reference os a ≡ true → field_seen os a 1 ≡ Some (ref_of os b) → is_reference os b ≡ true
      → active_process k ≡ field_seen os b 1
  unfolding active_process
  process_is a b e r f s = ap (λ (o : Option Ref). option_and_then (λ s. option_and_then (λ (slots : List Ref). slice_get slots 1) (slots_of k 2 s)) o) (scheduler_is a e r ∙ f) ∙ slot_one b s

-- a field that isn't there
pub field_none : (os : List Object) (r : Option Oop) (f : Option Ref) → r ≡ None → ref_option os r ≡ f → f ≡ None
field_none os r f e h = sym h ∙ ap (ref_option os) e

-- ---- as the code tests it

-- the four parts of the test
parts : (a b c d : Bool) → (a && not b && c && d) ≡ true → (a ≡ true) × (b ≡ false) × (c ≡ true) × (d ≡ true)
parts true false true true h = (refl, refl, refl, refl)
parts true false true false h = absurd (false≢true h)
parts true false false d h = absurd (false≢true h)
parts true true c d h = absurd (false≢true h)
parts false b c d h = absurd (false≢true h)

whole : (a b c d : Bool) → a ≡ true → b ≡ false → c ≡ true → d ≡ true → (a && not b && c && d) ≡ true
whole a b c d e f g h = rw (e, f, g, h) refl

pub field_found : (os : List Object) (a i : ℕ) → AreSoundObjects os → has_field_at os a i ≡ true → HasField os a i
field_found os a i sound h =
    let p = parts (is_object os a) (class_at os a == 36) (is_pointers (format_at os a)) (nat_lt i (slot_count_of os a)) h in
    has_field os a i sound p.0 p.1 p.2 (ltb-true i (slot_count_of os a) p.3)

pub field_missing : (os : List Object) (a i : ℕ) → AreSoundObjects os → has_field_at os a i ≡ false → field_seen os a i ≡ None
field_missing os a i sound h =
    no_field os a i sound (λ o c p l. false≢true (sym h ∙ whole (is_object os a) (class_at os a == 36) (is_pointers (format_at os a)) (nat_lt i (slot_count_of os a)) o c p (lt-ltb i (slot_count_of os a) l)))
