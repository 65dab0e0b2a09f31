-- The heap without its frames: every object is where it was, and only the words of married and widowed contexts are other ones.
use Rattle.std.proofs.Common.{◌≡◌, ℕ, zero, suc, pos, ◌<◌, ◌≤◌, Bool, true, false, refl, sym, ap, ap₂, cond, subst, ◌∙◌, Option, Some, None, List, [], ◌∷◌, ◌++◌, length, map, option_map, option_and_then, is_some, unwrap_or, arith}
use Rattle.std.specs.Prelude.{◌&&◌, ◌||◌, ◌==◌, IsTrue, slice_get, slice_index, sum_by}
use Rattle.std.specs.Option.{option_map_or}
use Rattle.std.specs.Ordering.{nat_cmp}
use Rattle.std.specs.FinMap.{FinMap, entries, from_entries, get}
use Rattle.std.proofs.lemmas.Bool.{eq-eqb, or_left, or_right}
use Rattle.std.proofs.lemmas.List.{length-map, length-set, map-append}
use Rattle.cs_model.specs.Words.{small_value}
use Rattle.cs_word.specs.declared.Kind.{Kind}
use Rattle.cs_word.specs.declared.Kind.TheVariants as kind
use Rattle.cs_word.specs.Word.{kind_of, small_word, natural_of_word}
use Rattle.cs_heap.specs.Format.{is_code}
use Rattle.cs_heap.specs.Object.{Object, address_among, address_of, at_index, base, birth_at, class_at, part_at, format_at, index_among, object_place, is_object, heap_object, set_word, size, slot_count_of, slot_counts, used, with_object}
use Rattle.cs_heap.proofs.Laws.{address_of-below, index_of-address}
use Rattle.cs_classes.specs.declared.Roots.{Roots}
use Rattle.cs_classes.specs.declared.Loaded.{Loaded}
use Rattle.cs_classes.specs.Senders.{SendersStand}
use Rattle.cs_classes.specs.Meaning.{nth_birth, classes_of, context_of, is_heap_context, kept_of, method_meaning, obj_of, objects_of, ref_of, ref_of_kind, loaded_kept}
use Rattle.cs_classes.specs.Sound.{AreSoundObjects, IsSoundClass, IsSoundObject, IsWhole, is_reference, is_reference_kind, is_sender, is_sender_kind, nil_word}
use Rattle.cs_classes.proofs.Heaps.{stands}
use Rattle.cs_classes.proofs.Objects.{AreApart, get-objects_of-element, objects_of-comes}
use Rattle.cs_classes.proofs.Refs.{count_of-small, is_reference-object, is_reference-small, small_natural}
use Rattle.cs_classes.proofs.Sorts.{AContext, AMethod, Bytes, Pointers, Sort, obj_of-bytes, obj_of-context, obj_of-method, obj_of-pointers, sort_of}
use Rattle.cs_classes.proofs.Sounds.{ReadsAlike, sound-alike, sound-set_context}
use Rattle.cs_frame.specs.Frame.{nil}
use Rattle.cs_marriage.specs.Place.{names_place}
use Rattle.cs_marriage.proofs.Places.{place_small}
use Rattle.cs_model.specs.Ref.{Ref}
use Rattle.cs_model.specs.Ref as ref
use Rattle.cs_model.specs.Obj.{Obj, context_class}
use Rattle.cs_model.specs.Obj as obj
use Rattle.cs_model.specs.State.{Rest}
use Rattle.cs_stack.specs.View.{bare, dead_words, is_linked, unframed}
use Rattle.cs_stack.proofs.Addresses.{nil_or_nil, sender_sound, write_pc, write_sender, write_stackp}

-- ---- an object and what it means

-- what is no context in the heap is none in the state
pub no_context : (refer : ℕ → Ref) (x : Object) → is_heap_context x ≡ false → obj.is_context (obj_of refer x) ≡ false
unfolding method_meaning
no_context refer x other = go (sort_of x)
  where
    go : Sort x → obj.is_context (obj_of refer x) ≡ false
    go (AContext c) = absurd (cc)
    go (Pointers a p) = ap obj.is_context (obj_of-pointers refer x a p)
    go (AMethod a p m) = ap obj.is_context (obj_of-method refer x a p m)
    go (Bytes a p m) = ap obj.is_context (obj_of-bytes refer x a p m)

pub a_context : (refer : ℕ → Ref) (x : Object) → is_heap_context x ≡ true → obj.is_context (obj_of refer x) ≡ true
a_context refer x is = ap obj.is_context (obj_of-context refer x is)

-- and back
pub no_context_back : (refer : ℕ → Ref) (x : Object) → obj.is_context (obj_of refer x) ≡ false → is_heap_context x ≡ false
no_context_back refer x other = go (is_heap_context x) refl
  where
    go : (b : Bool) → is_heap_context x ≡ b → is_heap_context x ≡ false
    go true e = absurd (let is = a_context refer x e in cc)
    go false e = e

pub meaning_there : (os : List Object) (a : ℕ) (x : Object) → AreSoundObjects os → heap_object os a ≡ Some x → get (objects_of os) x.birth ≡ Some (obj_of (ref_of os) x)
meaning_there os a x sound there = let s = stands os a x there in get-objects_of-element os s.0 x sound.apart s.1.element

-- ---- one object without its frame

abbrev pub dead_object : Object → Object
dead_object x = record x { words = dead_words x.words }

unframed_keeps : {Y : Type 0} (g : Object → Y) (x : Object) → g (dead_object x) ≡ g x → g (unframed x) ≡ g x
unframed_keeps g x same = go (is_linked x)
  where
    go : (b : Bool) → g (cond b (dead_object x) x) ≡ g x
    go true = same
    go false = refl

pub unframed_birth : (x : Object) → (unframed x).birth ≡ x.birth
unframed_birth x = unframed_keeps (λ y. y.birth) x refl

pub unframed_class : (x : Object) → (unframed x).class ≡ x.class
unframed_class x = unframed_keeps (λ y. y.class) x refl

pub unframed_format : (x : Object) → (unframed x).format ≡ x.format
unframed_format x = unframed_keeps (λ y. y.format) x refl

pub unframed_context : (x : Object) → is_heap_context (unframed x) ≡ is_heap_context x
unframed_context x = unframed_keeps is_heap_context x refl

length_dead : (ws : List ℕ) → length (dead_words ws) ≡ length ws
length_dead ws = length-set _ 2 (small_word (pos 0)) ∙ length-set _ 1 nil ∙ length-set ws 0 nil

pub unframed_length : (x : Object) → length (unframed x).words ≡ length x.words
unframed_length x = unframed_keeps (λ y. length y.words) x (length_dead x.words)

-- what isn't linked is as it was
pub unlinked : (x : Object) → is_linked x ≡ false → unframed x ≡ x
unlinked x h = ap (λ b. cond b (dead_object x) x) h

pub plain_unlinked : (x : Object) → is_heap_context x ≡ false → is_linked x ≡ false
plain_unlinked x h = ap (λ b. b && names_place (slice_index x.words 0)) h

-- ---- all of them

pub bare_counts : (os : List Object) → slot_counts (bare os) ≡ slot_counts os
unfolding bare
bare_counts [] = refl
bare_counts (x ∷ os) = ap₂ (λ (n : ℕ) (ns : List ℕ). n ∷ ns) (unframed_length x) (bare_counts os)

pub bare_length : (os : List Object) → length (bare os) ≡ length os
unfolding bare
bare_length os = length-map os unframed

pub bare_used : (os : List Object) → used (bare os) ≡ used os
bare_used os = ap (sum_by size) (bare_counts os)

pub bare_index : (os : List Object) (a : ℕ) → object_place (bare os) a ≡ object_place os a
bare_index os a = ap (λ (ns : List ℕ). index_among ns base a) (bare_counts os)

pub bare_is_object : (os : List Object) (a : ℕ) → is_object (bare os) a ≡ is_object os a
bare_is_object os a = ap is_some (bare_index os a)

pub bare_get : (os : List Object) (k : ℕ) → slice_get (bare os) k ≡ option_map unframed (slice_get os k)
unfolding bare
bare_get [] k = refl
bare_get (x ∷ os) zero = refl
bare_get (x ∷ os) (suc k) = bare_get os k

pub bare_at : (os : List Object) (a : ℕ) → heap_object (bare os) a ≡ option_map unframed (heap_object os a)
bare_at os a = ap (option_and_then (slice_get (bare os))) (bare_index os a) ∙ go (object_place os a)
  where
    go : (o : Option ℕ) → option_and_then (slice_get (bare os)) o ≡ option_map unframed (option_and_then (slice_get os) o)
    go None = refl
    go (Some k) = bare_get os k

birth_in_bare : (o : Option Object) → option_map_or (λ x. x.birth) (option_map unframed o) 0 ≡ option_map_or (λ x. x.birth) o 0
birth_in_bare None = refl
birth_in_bare (Some x) = unframed_birth x

pub bare_birth : (os : List Object) (a : ℕ) → birth_at (bare os) a ≡ birth_at os a
bare_birth os a = ap (λ o. option_map_or (λ (x : Object). x.birth) o 0) (bare_at os a) ∙ birth_in_bare (heap_object os a)

pub bare_ref : (os : List Object) → ref_of (bare os) ≡ ref_of os
unfolding ref_of
bare_ref os = λ i w. at (kind_of w) i
  where
    at : (k : Kind) → ref_of_kind (bare os) k ≡ ref_of_kind os k
    at (kind.Small z) = refl
    at (kind.Character c) = refl
    at (kind.Object b) = ap ref.Obj (bare_birth os b)
    at (kind.Link w) = refl

pub bare_reference : (os : List Object) → is_reference (bare os) ≡ is_reference os
unfolding is_reference
bare_reference os = λ i w. at (kind_of w) i
  where
    at : (k : Kind) → is_reference_kind (bare os) k ≡ is_reference_kind os k
    at (kind.Small z) = refl
    at (kind.Character c) = refl
    at (kind.Object b) = bare_is_object os b
    at (kind.Link w) = refl

-- the object that stands where one of the bare heap does
pub record Behind (os : List Object) (k : ℕ) (x : Object) : Type 0 where
  pub object : Object
  pub element : slice_get os k ≡ Some object
  pub is : unframed object ≡ x

pub behind : (os : List Object) (k : ℕ) (x : Object) → slice_get (bare os) k ≡ Some x → Behind os k x
behind os k x h = go (slice_get os k) refl (sym (bare_get os k) ∙ h)
  where
    go : (o : Option Object) → slice_get os k ≡ o → option_map unframed o ≡ Some x → Behind os k x
    go None e g = absurd (cc)
    go (Some z) e g = record { object = z; element = e; is = cc }

pub bare_apart : (os : List Object) → AreApart os → AreApart (bare os)
bare_apart os apart j k x y p q same =
    let b = behind os j x p in
    let c = behind os k y q in
    apart j k b.object c.object b.element c.element
    (sym (unframed_birth b.object) ∙ ap (λ (z : Object). z.birth) b.is ∙ same ∙ sym (ap (λ (z : Object). z.birth) c.is) ∙ unframed_birth c.object)

-- ---- the whole

nil_object : (os : List Object) → 3 ≤ length os → nil_word os ≡ base → is_object os nil ≡ true
nil_object os first is = go (address_of os 0) refl (address_of-below os 0 (omega (arith, first))) is
  where
    go : (o : Option ℕ) → address_of os 0 ≡ o → is_some o ≡ true → unwrap_or o 0 ≡ base → is_object os nil ≡ true
    go None e some at = absurd (cc)
    go (Some a) e some at = ap is_some (index_of-address os nil 0 (e ∙ ap (λ n. Some n) at))

pub dead_sound : (os : List Object) (x : Object) → 3 ≤ length os → nil_word os ≡ base → IsSoundObject os x → is_heap_context x ≡ true → IsSoundObject os (dead_object x)
dead_sound os x first nil_is sound c =
    let there : is_reference os nil ≡ true = is_reference-object os nil (nil_object os first nil_is) in
    let is_nil : IsTrue (nil == nil_word os || is_some (natural_of_word nil)) = or_left (nil == nil_word os) (is_some (natural_of_word nil)) (eq-eqb nil (nil_word os) (sym nil_is)) in
    let none : natural_of_word (small_word (pos 0)) ≡ Some 0 = count_of-small 0 (omega arith) in
    let sender = sender_sound os nil nil_is (nil_or_nil context_class os (nil_object os first nil_is)) in
    let one = sound-set_context os x 0 nil sound c (write_sender os x nil sender) in
    let two = sound-set_context os (set_word 0 nil x) 1 nil one c (write_pc os (set_word 0 nil x) nil there is_nil) in
    sound-set_context os (set_word 1 nil (set_word 0 nil x)) 2 (small_word (pos 0)) two c
    (write_stackp os (set_word 1 nil (set_word 0 nil x)) (small_word (pos 0)) (is_reference-small os (pos 0) (small_natural 0 (omega arith)))
    (or_right (small_word (pos 0) == nil_word os) (is_some (natural_of_word (small_word (pos 0)))) (ap is_some none)) (omega (arith, ap (λ o. unwrap_or o 0) none)))

pub linked_context : (x : Object) → is_linked x ≡ true → is_heap_context x ≡ true
linked_context x h = go (is_heap_context x) refl h
  where
    go : (b : Bool) → is_heap_context x ≡ b → (b && names_place (slice_index x.words 0)) ≡ true → is_heap_context x ≡ true
    go true e l = e
    go false e l = absurd (cc)

pub unframed_sound : (os : List Object) (x : Object) → 3 ≤ length os → nil_word os ≡ base → IsSoundObject os x → IsSoundObject os (unframed x)
unframed_sound os x first nil_is sound = go (is_linked x) refl
  where
    go : (b : Bool) → is_linked x ≡ b → IsSoundObject os (cond b (dead_object x) x)
    go true e = dead_sound os x first nil_is sound (linked_context x e)
    go false e = sound

bare_nil : (os : List Object) → nil_word (bare os) ≡ nil_word os
bare_nil os = ap (λ (ns : List ℕ). unwrap_or (address_among ns base 0) 0) (bare_counts os)

bare_field : (g : Object → ℕ) → ((x : Object) → g (unframed x) ≡ g x) → (os : List Object) (a : ℕ) → part_at g (bare os) a ≡ part_at g os a
bare_field g same os a = ap (λ o. option_map_or g o 0) (bare_at os a) ∙ go (heap_object os a)
  where
    go : (o : Option Object) → option_map_or g (option_map unframed o) 0 ≡ option_map_or g o 0
    go None = refl
    go (Some x) = same x

bare_class : (os : List Object) (a : ℕ) → class_at (bare os) a ≡ class_at os a
bare_class = bare_field (λ x. x.class) unframed_class

bare_format : (os : List Object) (a : ℕ) → format_at (bare os) a ≡ format_at os a
bare_format = bare_field (λ x. x.format) unframed_format

bare_count : (os : List Object) (a : ℕ) → slot_count_of (bare os) a ≡ slot_count_of os a
bare_count = bare_field (λ x. length x.words) unframed_length

bare_sender : (os : List Object) → is_sender (bare os) ≡ is_sender os
unfolding is_sender
bare_sender os = λ i w. at (kind_of w) i
  where
    at : (k : Kind) → is_sender_kind (bare os) k ≡ is_sender_kind os k
    at (kind.Small z) = refl
    at (kind.Character c) = refl
    at (kind.Object b) = λ i. bare_is_object os b i && (b == bare_nil os i || bare_class os b i == 36)
    at (kind.Link w) = refl

-- what is said of words is the same of both heaps
bare_alike : (os : List Object) → ReadsAlike os (bare os)
bare_alike os = record {
  references = bare_reference os;
  nil = bare_nil os;
  senders = bare_sender os;
  methods = λ i w. w == bare_nil os i || (bare_is_object os w i && is_code (bare_format os w i));
  closures = λ i w. w == bare_nil os i || (bare_is_object os w i && bare_class os w i == 37);
}

-- a class of the table is no context, so it is as it was
bare_sound_class : (os : List Object) (index a : ℕ) (x : Object) → ((y : Object) → heap_object os a ≡ Some y → IsSoundClass index y) → heap_object (bare os) a ≡ Some x → IsSoundClass index x
bare_sound_class os index a x class there = go (heap_object os a) refl (sym (bare_at os a) ∙ there)
  where
    go : (o : Option Object) → heap_object os a ≡ o → option_map unframed o ≡ Some x → IsSoundClass index x
    go None e h = absurd (cc)
    go (Some y) e h =
        let old = class y e in
        let is : unframed y ≡ x = cc in
        subst (IsSoundClass index) (sym (unlinked y (plain_unlinked y old.other)) ∙ is) old

pub bare_whole : (os : List Object) (table : FinMap nat_cmp ℕ) (roots : Roots) → IsWhole os table roots → IsWhole (bare os) table roots
bare_whole os table roots whole = record {
  heap = record {
    apart = bare_apart os whole.heap.apart;
    each = λ k x h. let b = behind os k x h in
        subst (IsSoundObject (bare os)) b.is
        (sound-alike os (bare os) (bare_alike os) (unframed b.object) (unframed_sound os b.object whole.first whole.nil (whole.heap.each k b.object b.element)));
  };
  first = omega (arith, whole.first, bare_length os);
  nil = bare_nil os ∙ whole.nil;
  singles = λ k x h l. let b = behind os k x h in sym (ap (λ (z : Object). z.format) b.is) ∙ unframed_format b.object ∙ whole.singles k b.object b.element l;
  births = λ k x h. let b = behind os k x h in
      subst (λ n. n < roots.next_birth) (sym (unframed_birth b.object) ∙ ap (λ (z : Object). z.birth) b.is) (whole.births k b.object b.element);
  indices = λ k x h. let b = behind os k x h in
      subst (λ n. is_some (get table n) ≡ true) (sym (unframed_class b.object) ∙ ap (λ (z : Object). z.class) b.is) (whole.indices k b.object b.element);
  classes = λ index a e. bare_is_object os a ∙ whole.classes index a e;
  entries = record {
    within = whole.entries.within;
    zero = whole.entries.zero;
    hidden = whole.entries.hidden;
    integers = whole.entries.integers;
    characters = whole.entries.characters;
    contexts = whole.entries.contexts;
    closures = whole.entries.closures;
    second = whole.entries.second;
    class = λ index a x e three h. bare_sound_class os index a x (λ y there. whole.entries.class index a y e three there) h;
  };
  special = bare_is_object os roots.special.0 ∙ whole.special;
  array = record {
    format = bare_format os roots.special.0 ∙ whole.array.format;
    slots = omega (arith, whole.array.slots, bare_count os roots.special.0);
  };
  last_hash = whole.last_hash;
  header = whole.header;
}

bare_birth_at : (os : List Object) (k : ℕ) → nth_birth (bare os) k ≡ nth_birth os k
bare_birth_at os k = ap (λ o. option_map_or (λ (x : Object). x.birth) o 0) (bare_get os k) ∙ birth_in_bare (slice_get os k)

bare_classes : (os : List Object) (table : FinMap nat_cmp ℕ) → classes_of (bare os) table ≡ classes_of os table
unfolding classes_of
bare_classes os table =
    let births : birth_at (bare os) ≡ birth_at os = λ i a. bare_birth os a i in
    ap (λ (b : ℕ → ℕ). from_entries {R = nat_cmp} (map (λ (e : ℕ × ℕ). (e.0, b e.1)) (entries table))) births

pub bare_rest : (os : List Object) (table : FinMap nat_cmp ℕ) (roots : Roots) (active : Option ℕ) → (kept_of (bare os) table roots active).rest ≡ (kept_of os table roots active).rest
bare_rest os table roots active =
    let old : Rest = (kept_of os table roots active).rest in
    let nil = bare_birth_at os 0 in
    let false_ = bare_birth_at os 1 in
    let true_ = bare_birth_at os 2 in
    let special = bare_birth os roots.special.0 in
    let classes = bare_classes os table in
    λ i. record {
      nil = nil i;
      false_ = false_ i;
      true_ = true_ i;
      special = special i;
      header = old.header;
      classes = classes i;
      last_hash = roots.last_hash;
      next = roots.next_birth;
      active = active;
    }

-- what stands at a birth, by its object
pub bare_element : (os : List Object) (k : ℕ) (x : Object) → AreSoundObjects os → slice_get os k ≡ Some x → get (objects_of (bare os)) x.birth ≡ Some (obj_of (ref_of os) (unframed x))
bare_element os k x sound e =
    ap (get (objects_of (bare os))) (sym (unframed_birth x))
    ∙ get-objects_of-element (bare os) k (unframed x) (bare_apart os sound.apart) (bare_get os k ∙ ap (option_map unframed) e)
    ∙ ap (λ (r : ℕ → Ref). Some (obj_of r (unframed x))) (bare_ref os)

-- what the bare heap has is an object of the heap
pub record ComesBare (os : List Object) (i : ℕ) (o : Obj) : Type 0 where
  pub place : ℕ
  pub object : Object
  pub element : slice_get os place ≡ Some object
  pub birth : object.birth ≡ i
  pub meaning : obj_of (ref_of os) (unframed object) ≡ o

pub comes_bare : (os : List Object) (i : ℕ) (o : Obj) → AreSoundObjects os → get (objects_of (bare os)) i ≡ Some o → ComesBare os i o
comes_bare os i o sound h =
    let from = objects_of-comes (bare os) i o (bare_apart os sound.apart) h in
    let b = behind os from.place from.object from.element in
    record {
      place = from.place;
      object = b.object;
      element = b.element;
      birth = sym (unframed_birth b.object) ∙ ap (λ (z : Object). z.birth) b.is ∙ from.birth;
      meaning = ap₂ (λ (r : ℕ → Ref) (z : Object). obj_of r z) (sym (bare_ref os)) b.is ∙ from.meaning;
    }

-- what is no context means the same
pub bare_plain : (os : List Object) (i : ℕ) (o : Obj) → AreSoundObjects os → get (objects_of os) i ≡ Some o → obj.is_context o ≡ false → get (objects_of (bare os)) i ≡ Some o
bare_plain os i o sound h other =
    let from = objects_of-comes os i o sound.apart h in
    let plain : is_heap_context from.object ≡ false = no_context_back (ref_of os) from.object (ap obj.is_context from.meaning ∙ other) in
    ap (get (objects_of (bare os))) (sym from.birth) ∙ bare_element os from.place from.object sound from.element
    ∙ ap (λ z. Some (obj_of (ref_of os) z)) (unlinked from.object (plain_unlinked from.object plain)) ∙ ap (λ p. Some p) from.meaning

pub plain_bare : (os : List Object) (i : ℕ) (o : Obj) → AreSoundObjects os → get (objects_of (bare os)) i ≡ Some o → obj.is_context o ≡ false → get (objects_of os) i ≡ Some o
plain_bare os i o sound h other =
    let from = comes_bare os i o sound h in
    let plain : is_heap_context from.object ≡ false =
    sym (unframed_context from.object) ∙ no_context_back (ref_of os) (unframed from.object) (ap obj.is_context from.meaning ∙ other) in
    ap (get (objects_of os)) (sym from.birth) ∙ get-objects_of-element os from.place from.object sound.apart from.element
    ∙ ap (λ z. Some (obj_of (ref_of os) z)) (sym (unlinked from.object (plain_unlinked from.object plain))) ∙ ap (λ p. Some p) from.meaning

pub bare_none : (os : List Object) (i : ℕ) → AreSoundObjects os → get (objects_of os) i ≡ None → get (objects_of (bare os)) i ≡ None
bare_none os i sound h = go (get (objects_of (bare os)) i) refl
  where
    go : (o : Option Obj) → get (objects_of (bare os)) i ≡ o → get (objects_of (bare os)) i ≡ None
    go None e = e
    go (Some o) e =
        let from = comes_bare os i o sound e in
        let found : get (objects_of os) i ≡ Some (obj_of (ref_of os) from.object) =
        ap (get (objects_of os)) (sym from.birth) ∙ get-objects_of-element os from.place from.object sound.apart from.element in
        absurd (cc)

pub none_bare : (os : List Object) (i : ℕ) → AreSoundObjects os → get (objects_of (bare os)) i ≡ None → get (objects_of os) i ≡ None
none_bare os i sound h = go (get (objects_of os) i) refl
  where
    go : (o : Option Obj) → get (objects_of os) i ≡ o → get (objects_of os) i ≡ None
    go None e = e
    go (Some o) e =
        let from = objects_of-comes os i o sound.apart e in
        let found : get (objects_of (bare os)) i ≡ Some (obj_of (ref_of os) (unframed from.object)) =
        ap (get (objects_of (bare os))) (sym from.birth) ∙ bare_element os from.place from.object sound from.element in
        absurd (cc)

-- ---- changes

bare_at_index : (os : List Object) (k : ℕ) (x : Object) (f g : Object → Object) → slice_get os k ≡ Some x → unframed (f x) ≡ g (unframed x) → bare (at_index k f os) ≡ at_index k g (bare os)
unfolding bare at_index
bare_at_index [] k x f g e same = absurd (cc)
bare_at_index (y ∷ os) zero x f g e same =
    let is : x ≡ y = cc in
    ap (λ (z : Object). z ∷ map unframed os) (subst (λ z. unframed (f z) ≡ g (unframed z)) is same)
bare_at_index (y ∷ os) (suc k) x f g e same = ap (λ (zs : List Object). unframed y ∷ zs) (bare_at_index os k x f g e same)

pub bare_with_object : (os : List Object) (a : ℕ) (x : Object) (f g : Object → Object) → heap_object os a ≡ Some x → unframed (f x) ≡ g (unframed x) → bare (with_object os a f) ≡ with_object (bare os) a g
bare_with_object os a x f g there same =
    let s = stands os a x there in
    ap (λ (o : Option ℕ). bare (option_map_or (λ (j : ℕ). at_index j f os) o os)) s.1.index
    ∙ bare_at_index os s.0 x f g s.1.element same
    ∙ sym (ap (λ (o : Option ℕ). option_map_or (λ (j : ℕ). at_index j g (bare os)) o (bare os)) (bare_index os a ∙ s.1.index))

pub bare_push : (os : List Object) (y : Object) → bare (os ++ y ∷ []) ≡ bare os ++ unframed y ∷ []
unfolding bare
bare_push os y = map-append unframed os (y ∷ [])

-- a heap without linked contexts is bare
pub bare_same : (os : List Object) → ((k : ℕ) (x : Object) → slice_get os k ≡ Some x → is_linked x ≡ false) → bare os ≡ os
unfolding bare
bare_same [] none = refl
bare_same (x ∷ os) none = ap₂ (λ (y : Object) (ys : List Object). y ∷ ys) (unlinked x (none 0 x refl)) (bare_same os (λ k y e. none (suc k) y e))

-- a heap of an image that was loaded has no linked context
pub bare_loaded : (l : Loaded) → IsWhole l.heap.objects l.classes l.roots → SendersStand (loaded_kept l) → bare l.heap.objects ≡ l.heap.objects
unfolding ref_of context_of
bare_loaded l whole stand = bare_same l.heap.objects none
  where
    small : (word : ℕ) → names_place word ≡ true → ref_of l.heap.objects word ≡ ref.Small (small_value word)
    small word h = ap (ref_of_kind l.heap.objects) (place_small word h)

    none : (k : ℕ) (x : Object) → slice_get l.heap.objects k ≡ Some x → is_linked x ≡ false
    none k x e = go (is_linked x) refl (is_heap_context x) refl (names_place (slice_index x.words 0)) refl
      where
        go : (b : Bool) → is_linked x ≡ b → (c : Bool) → is_heap_context x ≡ c → (d : Bool) → names_place (slice_index x.words 0) ≡ d → is_linked x ≡ false
        go false p c q d r = p
        go true p false q d r = absurd (let no = plain_unlinked x q in cc)
        go true p true q false r = absurd (let no : is_linked x ≡ false = ap₂ (λ (m n : Bool). m && n) q r in cc)
        go true p true q true r =
            let found = get-objects_of-element l.heap.objects k x whole.heap.apart e ∙ ap (λ o. Some o) (obj_of-context (ref_of l.heap.objects) x q) in
            let sender = small (slice_index x.words 0) r in
            absurd (let no = stand x.birth (context_of (ref_of l.heap.objects) x.hash x.words) found in cc)
