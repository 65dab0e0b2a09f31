-- What a lookup reads of the heap is what the model reads of the state.
use Rattle.std.proofs.Common.{◌≡◌, ℕ, ◌<◌, ◌≤◌, Bool, true, false, cond, List, [], length, map, Option, Some, None, option_map, refl, ap, subst, sym, ◌∙◌, arith, not, ◌%◌, ◌/◌, ℤ}
use Rattle.std.specs.Prelude.{slice_index, ◌&&◌, ◌==◌, nat_le}
use Rattle.std.specs.List.{AllPass}
use Rattle.std.specs.Option.{option_map_or}
use Rattle.std.specs.FinMap.{get}
use Rattle.std.proofs.lemmas.Bool.{false≢true, le-leb, leb-true}
use Rattle.std.proofs.lemmas.List.{length-map}
use Rattle.cs_model.specs.Words.{small_value}
use Rattle.cs_word.specs.declared.Kind.{Kind}
use Rattle.cs_word.specs.declared.Kind.TheVariants as kind
use Rattle.cs_word.specs.Word.{kind_of}
use Rattle.cs_heap.specs.Format.{is_code, is_pointers}
use Rattle.cs_heap.specs.Object.{Object, birth_at, class_at, format_at, is_object, heap_object, slot_count_of, slot_of}
use Rattle.cs_model.specs.Ref.{Ref}
use Rattle.cs_model.specs.Obj.{Obj, at_least, slots_in}
use Rattle.cs_model.specs.Obj as model
use Rattle.cs_model.specs.State.{Kept, object_of, slots_of}
use Rattle.cs_classes.specs.Meaning.{is_heap_context, meaning_at, obj_of, ref_of, ref_of_kind}
use Rattle.cs_classes.specs.Sound.{AreSoundObjects, IsSoundObject, is_method_address, is_reference, is_reference_kind, has_slots}
use Rattle.cs_classes.proofs.Heaps.{is_object-object_at, object_there}
use Rattle.cs_classes.proofs.Objects.{get-objects_of}
use Rattle.cs_classes.proofs.Refs.{ref_of-object}
use Rattle.cs_classes.proofs.Sorts.{AContext, AMethod, Bytes, Pointers, Sort, obj_of-bytes, obj_of-context, obj_of-method, obj_of-pointers, not_pointers, references-pointers, sort_of}
use Rattle.cs_classes.proofs.Sounds.{sound_at}
use Rattle.cs_lookup.specs.Found.{HasObjects}

-- the kind of an address is itself
kind_of_address : (w a : ℕ) → kind_of w ≡ kind.Object a → w ≡ a
kind_of_address w a e = go (w % 2 == 1) (w % 4 == 2) (w % 8 == 0) (small_value w) (w / 4) e
  where
    go : (b c d : Bool) (z : ℤ) (y : ℕ) → cond b (kind.Small z) (cond c (kind.Character y) (cond d (kind.Object w) (kind.Link w))) ≡ kind.Object a → w ≡ a
    go true c d z y e = cc
    go false true d z y e = cc
    go false false true z y e = cc
    go false false false z y e = cc

-- ---- what a word refers to

pub object_of-object : (os : List Object) (k : Kept) (w : ℕ) → AreSoundObjects os → HasObjects os k → is_object os w ≡ true → object_of k (ref_of os w) ≡ meaning_at os w
object_of-object os k w sound has h = ap (object_of k) (ref_of-object os w h) ∙ ap (λ objects. get objects (birth_at os w)) has ∙ get-objects_of os w sound h

pub object_of-other : (os : List Object) (k : Kept) (w : ℕ) → is_reference os w ≡ true → is_object os w ≡ false → object_of k (ref_of os w) ≡ None
unfolding ref_of is_reference
object_of-other os k w r h = go (kind_of w) refl r
  where
    go : (p : Kind) → kind_of w ≡ p → is_reference_kind os p ≡ true → object_of k (ref_of_kind os p) ≡ None
    go (kind.Small z) e r = refl
    go (kind.Character c) e r = refl
    go (kind.Object a) e r = absurd (false≢true (sym h ∙ ap (is_object os) (kind_of_address w a e) ∙ r))
    go (kind.Link b) e r = absurd (false≢true r)

-- ---- slots

has_slots-at : (os : List Object) (n w : ℕ) (x : Object) → heap_object os w ≡ Some x → has_slots os n w ≡ (not (is_heap_context x) && is_pointers x.format && nat_le n (length x.words))
has_slots-at os n w x h =
    ap (λ (b : Bool). b && not (class_at os w == 36) && is_pointers (format_at os w) && nat_le n (slot_count_of os w)) (is_object-object_at os w x h)
    ∙ ap (λ (o : Option Object). not (option_map_or (λ (y : Object). y.class) o 0 == 36) && is_pointers (option_map_or (λ (y : Object). y.format) o 0) && nat_le n (option_map_or (λ (y : Object). length y.words) o 0)) h

abbrev pub words_at : List Object → ℕ → List ℕ
words_at os w = option_map_or (λ x. x.words) (heap_object os w) []

-- what the words of a pointer object refer to
abbrev pub refs_at : List Object → ℕ → List Ref
refs_at os w = map (ref_of os) (words_at os w)

-- a pointer object with at least n slots
pub record HasWords (os : List Object) (n w : ℕ) : Type 0 where
  pub there : is_object os w ≡ true
  pub count : slot_count_of os w ≡ length (words_at os w)
  pub enough : n ≤ length (words_at os w)
  pub slot : (i : ℕ) → slot_of os w i ≡ slice_index (words_at os w) i
  pub reference : (i : ℕ) → i < length (words_at os w) → is_reference os (slot_of os w i) ≡ true

-- what a pointer object with at least n slots is
record IsThere (os : List Object) (n w : ℕ) : Type 0 where
  known : is_object os w ≡ true
  object : Object
  there : heap_object os w ≡ Some object
  other : is_heap_context object ≡ false
  pointers : is_pointers object.format ≡ true
  enough : n ≤ length object.words
  words : words_at os w ≡ object.words

is_there : (os : List Object) (n w : ℕ) → has_slots os n w ≡ true → IsThere os n w
is_there os n w h =
    let known : is_object os w ≡ true = first (is_object os w) (not (class_at os w == 36)) (is_pointers (format_at os w)) (nat_le n (slot_count_of os w)) h in
    let there = object_there os w known in
    let x : Object = there.0 in
    let tests = parts (is_heap_context x) (is_pointers x.format) (nat_le n (length x.words)) (sym (has_slots-at os n w x there.1) ∙ h) in
    record {
      known = known;
      object = x;
      there = there.1;
      other = tests.0;
      pointers = tests.1;
      enough = leb-true n (length x.words) tests.2;
      words = ap (λ (o : Option Object). option_map_or (λ (y : Object). y.words) o []) there.1;
    }
  where
    first : (a b c d : Bool) → (a && b && c && d) ≡ true → a ≡ true
    first true b c d h = refl
    first false b c d h = h

    parts : (a b c : Bool) → (not a && b && c) ≡ true → (a ≡ false) × (b ≡ true) × (c ≡ true)
    parts true b c h = absurd (false≢true h)
    parts false true true h = (refl, refl, refl)
    parts false true false h = absurd (false≢true h)
    parts false false c h = absurd (false≢true h)

pub has_words : (os : List Object) (n w : ℕ) → AreSoundObjects os → has_slots os n w ≡ true → HasWords os n w
has_words os n w sound h =
    let t = is_there os n w h in
    let x : Object = t.object in
    let slot : (i : ℕ) → slot_of os w i ≡ slice_index (words_at os w) i = λ i.
    ap (λ (o : Option Object). option_map_or (λ (y : Object). slice_index y.words i) o 0) t.there ∙ sym (ap (λ (ws : List ℕ). slice_index ws i) t.words) in
    let references : AllPass (is_reference os) (words_at os w) = subst (AllPass (is_reference os)) (references-pointers x t.other t.pointers ∙ sym t.words) (sound_at os w x sound t.there).references in
    record {
      there = t.known;
      count = ap (λ (o : Option Object). option_map_or (λ (y : Object). length y.words) o 0) t.there ∙ sym (ap length t.words);
      enough = subst (λ (ws : List ℕ). n ≤ length ws) (sym t.words) t.enough;
      slot = slot;
      reference = λ i l. subst (λ (v : ℕ). is_reference os v ≡ true) (sym (slot i)) (references i 0 l);
    }

pub slots_in-words : (os : List Object) (k : Kept) (n w : ℕ) → AreSoundObjects os → HasObjects os k → has_slots os n w ≡ true → slots_in (object_of k (ref_of os w)) ≡ Some (refs_at os w)
slots_in-words os k n w sound has h =
    let t = is_there os n w h in
    ap slots_in (object_of-object os k w sound has t.known ∙ ap (option_map (obj_of (ref_of os))) t.there ∙ ap Some (obj_of-pointers (ref_of os) t.object t.other t.pointers))
    ∙ sym (ap (λ (ws : List ℕ). Some (map (ref_of os) ws)) t.words)

pub slots_of-words : (os : List Object) (k : Kept) (n w : ℕ) → AreSoundObjects os → HasObjects os k → has_slots os n w ≡ true → slots_of k n (ref_of os w) ≡ Some (refs_at os w)
unfolding slots_of
slots_of-words os k n w sound has h =
    let enough = le-leb n (length (refs_at os w)) (omega (arith, (has_words os n w sound h).enough, length-map (words_at os w) (ref_of os))) in
    ap (at_least n) (slots_in-words os k n w sound has h) ∙ rw enough refl

-- anything else has no such slots
pub slots_of-none : (os : List Object) (k : Kept) (n w : ℕ) → AreSoundObjects os → HasObjects os k → is_reference os w ≡ true → has_slots os n w ≡ false → slots_of k n (ref_of os w) ≡ None
unfolding slots_of
slots_of-none os k n w sound has r h = go (is_object os w) refl
  where
    at : (x : Object) → heap_object os w ≡ Some x → Sort x → at_least n (slots_in (Some (obj_of (ref_of os) x))) ≡ None
    at x e (AContext c) = ap (λ (o : Obj). at_least n (slots_in (Some o))) (obj_of-context (ref_of os) x c)
    at x e (Pointers o p) =
        let few : nat_le n (length (map (ref_of os) x.words)) ≡ false = ap (nat_le n) (length-map x.words (ref_of os)) ∙ last (is_heap_context x) (is_pointers x.format) (nat_le n (length x.words)) o p (sym (has_slots-at os n w x e) ∙ h) in
        ap (λ (q : Obj). at_least n (slots_in (Some q))) (obj_of-pointers (ref_of os) x o p) ∙ rw few refl
      where
        last : (a b c : Bool) → a ≡ false → b ≡ true → (not a && b && c) ≡ false → c ≡ false
        last true b c p q h = absurd (false≢true (sym p))
        last false true c p q h = h
        last false false c p q h = absurd (false≢true q)
    at x e (AMethod o p m) = ap (λ (q : Obj). at_least n (slots_in (Some q))) (obj_of-method (ref_of os) x o p m)
    at x e (Bytes o p m) = ap (λ (q : Obj). at_least n (slots_in (Some q))) (obj_of-bytes (ref_of os) x o p m)

    go : (b : Bool) → is_object os w ≡ b → at_least n (slots_in (object_of k (ref_of os w))) ≡ None
    go true e =
        let there = object_there os w e in
        ap (λ (o : Option Obj). at_least n (slots_in o)) (object_of-object os k w sound has e ∙ ap (option_map (obj_of (ref_of os))) there.1) ∙ at there.0 there.1 (sort_of there.0)
    go false e = ap (λ (o : Option Obj). at_least n (slots_in o)) (object_of-other os k w r e)

-- ---- methods

pub is_method-at : (os : List Object) (k : Kept) (w : ℕ) → AreSoundObjects os → HasObjects os k → is_reference os w ≡ true → model.is_method (object_of k (ref_of os w)) ≡ is_method_address os w
is_method-at os k w sound has r = go (is_object os w) refl
  where
    format : (x : Object) → heap_object os w ≡ Some x → format_at os w ≡ x.format
    format x e = ap (λ (o : Option Object). option_map_or (λ (y : Object). y.format) o 0) e

    at : (x : Object) → IsSoundObject os x → Sort x → model.is_method (Some (obj_of (ref_of os) x)) ≡ is_code x.format
    at x s (AContext c) = ap (λ (o : Obj). model.is_method (Some o)) (obj_of-context (ref_of os) x c) ∙ sym (ap is_code (s.context c).format)
    at x s (Pointers o p) = ap (λ (q : Obj). model.is_method (Some q)) (obj_of-pointers (ref_of os) x o p) ∙ sym (no_method (is_code x.format) refl)
      where
        no_method : (b : Bool) → is_code x.format ≡ b → is_code x.format ≡ false
        no_method true e = absurd (false≢true (sym (not_pointers x.format e) ∙ p))
        no_method false e = e
    at x s (AMethod o p m) = ap (λ (q : Obj). model.is_method (Some q)) (obj_of-method (ref_of os) x o p m) ∙ sym m
    at x s (Bytes o p m) = ap (λ (q : Obj). model.is_method (Some q)) (obj_of-bytes (ref_of os) x o p m) ∙ sym m

    go : (b : Bool) → is_object os w ≡ b → model.is_method (object_of k (ref_of os w)) ≡ (is_object os w && is_code (format_at os w))
    go true e =
        let there = object_there os w e in
        ap model.is_method (object_of-object os k w sound has e ∙ ap (option_map (obj_of (ref_of os))) there.1)
        ∙ at there.0 (sound_at os w there.0 sound there.1) (sort_of there.0)
        ∙ sym (ap is_code (format there.0 there.1)) ∙ sym (ap (λ (b : Bool). b && is_code (format_at os w)) e)
    go false e = ap model.is_method (object_of-other os k w r e) ∙ sym (ap (λ (b : Bool). b && is_code (format_at os w)) e)
