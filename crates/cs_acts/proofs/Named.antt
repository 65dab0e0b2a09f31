-- What the words that a world hands out name in its heap, and what that is in its state.
use Rattle.std.proofs.Common.{◌≡◌, ℕ, ◌%◌, ◌/◌, ◌<◌, ◌≤◌, ◌^◌, Bool, true, false, refl, sym, ap, ap₂, subst, ◌∙◌, arith, Option, Some, None, is_some, List, length, map, get_or, option_map, option_and_then}
use Rattle.std.specs.Prelude.{slice_get, slice_index, nat_le, not, ◌==◌, ◌&&◌, if◌then◌else◌}
use Rattle.std.specs.Option.{option_map_or}
use Rattle.std.specs.FinMap.{FinMap, get}
use Rattle.std.specs.Ordering.{nat_cmp}
use Rattle.std.proofs.lemmas.Bool.{eqb-true, false≢true, or_right}
use Rattle.std.proofs.lemmas.Bool.Decides.{nat_tests}
use Rattle.std.proofs.lemmas.List.{length-map}
use Rattle.std.proofs.lemmas.Option.{slice_get-get_or, slice_get-map, slice_get_past}
use Rattle.cs_model.specs.Words.{small_value}
use Rattle.cs_word.specs.declared.Oop.{Oop}
use Rattle.cs_word.specs.declared.Kind.{Kind}
use Rattle.cs_word.specs.declared.Kind.TheVariants as kind
use Rattle.cs_word.specs.Word.{kind_of}
use Rattle.cs_word.specs.Header.{flag_bits, is_immutable}
use Rattle.cs_word.proofs.Words.{kind_of-object}
use Rattle.cs_heap.specs.Format.{is_pointers, is_code}
use Rattle.cs_heap.specs.Object.{Memory, Object, birth_at, class_at, part_at, format_at, object_place, is_immutable_at, is_object, heap_object, slot_count_of, slot_of}
use Rattle.cs_heap.proofs.Laws.{object_placed}
use Rattle.cs_classes.specs.declared.Roots.{Roots}
use Rattle.cs_classes.proofs.Wholes.{get-classes_of}
use Rattle.cs_classes.specs.Meaning.{classes_of, ref_of, ref_of_kind, obj_of, is_heap_context}
use Rattle.cs_classes.specs.Sound.{AreSoundObjects, IsSoundObject, is_closure_address, is_method_address, is_reference, is_reference_kind, is_sender, nil_word, has_slots}
use Rattle.cs_classes.proofs.Heaps.{object_there}
use Rattle.cs_classes.proofs.Refs.{both_true, is_nil_or_closure, is_nil_or_method, is_reference-object, is_sender-context, ref_of-object, same_ref-ref_of}
use Rattle.cs_classes.proofs.Sorts.{AContext, AMethod, Bytes, Pointers, Sort, sort_of, obj_of-context, obj_of-pointers, obj_of-method, obj_of-bytes, not_pointers, references-pointers}
use Rattle.cs_classes.proofs.Sounds.{sound_at, method_other}
use Rattle.cs_model.specs.Ref.{Ref, same_ref}
use Rattle.cs_model.specs.Ref as ref
use Rattle.cs_model.specs.Obj as obj
use Rattle.cs_model.specs.Obj.{Obj, Ptr, Raw, Method, Ctx, at_least, context_class, context_in, is_context_at, is_fixed_at, slots_in}
use Rattle.cs_model.specs.State.{Kept, Rest, is_read_only, object_of, slots_of, special_at}
use Rattle.cs_model.specs.Read.{class_index_of, class_of as class_in_table, index_of_class}
use Rattle.cs_model.specs.Context.{closure_class, has_class_index, is_context_ref}
use Rattle.cs_acts.specs.Names.{Store, IsNamed, NamesOption, name_of}
use Rattle.cs_acts.specs.Ready.{Holds}
use Rattle.cs_acts.specs.Reading as reading
use Rattle.cs_acts.specs.Reading.{object_of_kind, object_named, slots_if, pointer_words}
use Rattle.cs_acts.proofs.Held.{Says, says, slots_of-named}

-- ---- in the heap

-- an object stands at the address that a word is, or none
pub data Place (os : List Object) (w : ℕ) : Type 0 where
  There : (x : Object) (named : object_named os w ≡ Some x) (at : heap_object os w ≡ Some x) (is : is_object os w ≡ true) → Place os w
  Nowhere : (named : object_named os w ≡ None) (is : is_object os w ≡ false) → Place os w

pub place : (os : List Object) (w : ℕ) → Place os w
place os w = go (is_object os w) refl
  where
    none : (o : Option ℕ) → is_some o ≡ false → option_and_then (slice_get os) o ≡ None
    none None e = refl
    none (Some a) e = absurd (cc)

    nowhere : (a b c : Bool) → is_object os w ≡ false → object_of_kind os (if a then kind.Small (small_value w) else (if b then kind.Character (w / 4) else (if c then kind.Object w else kind.Link w))) ≡ None
    nowhere true b c e = refl
    nowhere false true c e = refl
    nowhere false false true e = none (object_place os w) e
    nowhere false false false e = refl

    go : (b : Bool) → is_object os w ≡ b → Place os w
    go true e = let x = object_there os w e in There x.0 (ap (object_of_kind os) (kind_of-object w (object_placed os w e).aligned) ∙ x.1) x.1 e
    go false e = Nowhere (nowhere (w % 2 == 1) (w % 4 == 2) (w % 8 == 0) e) e

-- the low bits of a word that names something tell whether it is an address
pub address_told : (os : List Object) (w : ℕ) → is_reference os w ≡ true → (w % 8 == 0) ≡ is_object os w
unfolding is_reference
address_told os w named = go (w % 2 == 1) refl (w % 4 == 2) refl (w % 8 == 0) refl named
  where
    apart : (b : Bool) → is_object os w ≡ b → (w % 8 == 0) ≡ false → b ≡ false
    apart false h r = refl
    apart true h r = absurd (false≢true (sym r ∙ ap (λ n. n == 0) (object_placed os w h).aligned))

    odd : (w % 2 == 1) ≡ true → (w % 8 == 0) ≡ true → ⊥
    odd p r = let e = eqb-true (w % 2) 1 p in let f = eqb-true (w % 8) 0 r in omega (arith, e, f)

    even : (w % 4 == 2) ≡ true → (w % 8 == 0) ≡ true → ⊥
    even p r = let e = eqb-true (w % 4) 2 p in let f = eqb-true (w % 8) 0 r in omega (arith, e, f)

    go : (a : Bool) → (w % 2 == 1) ≡ a → (b : Bool) → (w % 4 == 2) ≡ b → (c : Bool) → (w % 8 == 0) ≡ c
        → is_reference_kind os (if a then kind.Small (small_value w) else (if b then kind.Character (w / 4) else (if c then kind.Object w else kind.Link w))) ≡ true → (w % 8 == 0) ≡ is_object os w
    go a p b q false r n = r ∙ sym (apart (is_object os w) refl r)
    go true p b q true r n = absurd (odd p r)
    go false p true q true r n = absurd (even q r)
    go false p false q true r n = r ∙ sym n

pub field_at : (g : Object → ℕ) (os : List Object) (w : ℕ) (x : Object) → heap_object os w ≡ Some x → part_at g os w ≡ g x
field_at g os w x e = ap (λ (o : Option Object). option_map_or g o 0) e

-- the pointer object that a word names
pub record HasSlots (os : List Object) (n w : ℕ) : Type 0 where
  pub object : Object
  pub at : heap_object os w ≡ Some object
  pub words : pointer_words os n w ≡ Some object.words
  pub other : is_heap_context object ≡ false
  pub pointers : is_pointers object.format ≡ true
  pub enough : n ≤ length object.words
  pub count : slot_count_of os w ≡ length object.words

enough : (n m : ℕ) → nat_le n m ≡ true → n ≤ m
enough n m h = grind (arith, nat_tests)

pub slots_there : (os : List Object) (n w : ℕ) → has_slots os n w ≡ true → HasSlots os n w
unfolding pointer_words
slots_there os n w has = go (place os w)
  where
    parts : (x : Object) → object_named os w ≡ Some x → heap_object os w ≡ Some x → (i a b c : Bool) → is_heap_context x ≡ a → is_pointers x.format ≡ b → nat_le n (length x.words) ≡ c
        → (i && not a && b && c) ≡ true → HasSlots os n w
    parts x named at false a b c p q r h = absurd (cc)
    parts x named at true true b c p q r h = absurd (cc)
    parts x named at true false false c p q r h = absurd (cc)
    parts x named at true false true false p q r h = absurd (cc)
    parts x named at true false true true p q r h = record {
      object = x;
      at = at;
      words = ap (slots_if n) named ∙ rw (p, q, r) refl;
      other = p;
      pointers = q;
      enough = enough n (length x.words) r;
      count = field_at (λ y. length y.words) os w x at;
    }

    go : Place os w → HasSlots os n w
    go (There x named at is) =
        let class : class_at os w ≡ x.class = field_at (λ y. y.class) os w x at in
        let format : format_at os w ≡ x.format = field_at (λ y. y.format) os w x at in
        let count : slot_count_of os w ≡ length x.words = field_at (λ y. length y.words) os w x at in
        parts x named at (is_object os w) (is_heap_context x) (is_pointers x.format) (nat_le n (length x.words)) refl refl refl
        (sym (ap (λ c. is_object os w && not (c == context_class) && is_pointers (format_at os w) && nat_le n (slot_count_of os w)) class
        ∙ ap₂ (λ f m. is_object os w && not (is_heap_context x) && is_pointers f && nat_le n m) format count) ∙ has)
    go (Nowhere named is) = absurd (let h : (is_object os w && not (class_at os w == context_class) && is_pointers (format_at os w) && nat_le n (slot_count_of os w)) ≡ true = has in
        let no = subst (λ b. (b && not (class_at os w == context_class) && is_pointers (format_at os w) && nat_le n (slot_count_of os w)) ≡ true) is h in cc)

pub no_slots_there : (os : List Object) (n w : ℕ) → has_slots os n w ≡ false → pointer_words os n w ≡ None
unfolding pointer_words
no_slots_there os n w has = go (place os w)
  where
    parts : (x : Object) → object_named os w ≡ Some x → (i a b c : Bool) → i ≡ true → is_heap_context x ≡ a → is_pointers x.format ≡ b → nat_le n (length x.words) ≡ c
        → (i && not a && b && c) ≡ false → slots_if n (object_named os w) ≡ None
    parts x named false a b c o p q r h = absurd (cc)
    parts x named true true b c o p q r h = ap (slots_if n) named ∙ rw p refl
    parts x named true false false c o p q r h = ap (slots_if n) named ∙ rw (p, q) refl
    parts x named true false true false o p q r h = ap (slots_if n) named ∙ rw (p, q, r) refl
    parts x named true false true true o p q r h = absurd (cc)

    go : Place os w → slots_if n (object_named os w) ≡ None
    go (There x named at is) =
        let class : class_at os w ≡ x.class = field_at (λ y. y.class) os w x at in
        let format : format_at os w ≡ x.format = field_at (λ y. y.format) os w x at in
        let count : slot_count_of os w ≡ length x.words = field_at (λ y. length y.words) os w x at in
        parts x named (is_object os w) (is_heap_context x) (is_pointers x.format) (nat_le n (length x.words)) is refl refl refl
        (sym (ap (λ c. is_object os w && not (c == context_class) && is_pointers (format_at os w) && nat_le n (slot_count_of os w)) class
        ∙ ap₂ (λ f m. is_object os w && not (is_heap_context x) && is_pointers f && nat_le n m) format count) ∙ has)
    go (Nowhere named is) = ap (slots_if n) named

-- its words are references
pub slot_named : (os : List Object) (n w i : ℕ) → AreSoundObjects os → HasSlots os n w → i < slot_count_of os w → is_reference os (slot_of os w i) ≡ true
slot_named os n w i sound h less =
    let s = sound_at os w h.object sound h.at in
    let all = subst (λ ws. (j d : ℕ) → j < length ws → is_reference os (get_or ws j d) ≡ true) (references-pointers h.object h.other h.pointers) s.references in
    subst (λ v. is_reference os v ≡ true) (sym (field_at (λ y. slice_index y.words i) os w h.object h.at)) (all i 0 (omega (arith, less, h.count)))

-- ---- in the state

slot_value : (s : Store) (k : Kept) (n i : ℕ) (o : Oop) → Holds s k → IsNamed s o → HasSlots s.memory.objects n o.0 → i < slot_count_of s.memory.objects o.0
    → option_and_then (λ slots. slice_get slots i) (slots_of k n (name_of s o)) ≡ Some (ref_of s.memory.objects (slot_of s.memory.objects o.0 i))
slot_value s k n i o holds named h less =
    let os = s.memory.objects in
    ap (option_and_then (λ (slots : List Ref). slice_get slots i)) (slots_of-named s k n o holds named ∙ ap (option_map (map (ref_of os))) h.words)
    ∙ slice_get-map (ref_of os) h.object.words i
    ∙ ap (option_map (ref_of os)) (slice_get-get_or h.object.words i 0 (omega (arith, less, h.count)) ∙ ap Some (sym (field_at (λ y. slice_index y.words i) os o.0 h.object h.at)))

pub slot_names : (s : Store) (k : Kept) (m : Memory) (n i : ℕ) (o v : Oop) → m ≡ s.memory → Holds s k → IsNamed s o → has_slots m.objects n o.0 ≡ true → i < slot_count_of m.objects o.0 → v.0 ≡ slot_of m.objects o.0 i
    → NamesOption s (Some v) (option_and_then (λ slots. slice_get slots i) (slots_of k n (name_of s o)))
slot_names s k m n i o v e holds named = subst (λ (m : Memory). has_slots m.objects n o.0 ≡ true → i < slot_count_of m.objects o.0 → v.0 ≡ slot_of m.objects o.0 i
    → NamesOption s (Some v) (option_and_then (λ slots. slice_get slots i) (slots_of k n (name_of s o)))) (sym e) (λ has less is.
    let os = s.memory.objects in
    let h = slots_there os n o.0 has in
    record {
      sound = subst (λ w. is_reference os w ≡ true) (sym is) (slot_named os n o.0 i holds.whole.heap h less);
      is = ap (λ w. Some (ref_of os w)) is ∙ sym (slot_value s k n i o holds named h less);
    })

pub no_slot_names : (s : Store) (k : Kept) (m : Memory) (n i : ℕ) (o : Oop) → m ≡ s.memory → Holds s k → IsNamed s o → has_slots m.objects n o.0 ≡ false
    → NamesOption s None (option_and_then (λ slots. slice_get slots i) (slots_of k n (name_of s o)))
no_slot_names s k m n i o e holds named has =
    let none = no_slots_there s.memory.objects n o.0 (subst (λ (m : Memory). has_slots m.objects n o.0 ≡ false) e has) in
    record { sound = tt; is = sym (ap (option_and_then (λ (slots : List Ref). slice_get slots i)) (slots_of-named s k n o holds named ∙ ap (option_map (map (ref_of s.memory.objects))) none)) }

-- a slot that isn't there
pub past_names : (s : Store) (k : Kept) (m : Memory) (i : ℕ) (o : Oop) → m ≡ s.memory → Holds s k → IsNamed s o → has_slots m.objects 0 o.0 ≡ true → slot_count_of m.objects o.0 ≤ i
    → NamesOption s None (option_and_then (λ slots. slice_get slots i) (slots_of k 0 (name_of s o)))
past_names s k m i o e holds named = subst (λ (m : Memory). has_slots m.objects 0 o.0 ≡ true → slot_count_of m.objects o.0 ≤ i
    → NamesOption s None (option_and_then (λ slots. slice_get slots i) (slots_of k 0 (name_of s o)))) (sym e) (λ has past.
    let os = s.memory.objects in
    let h = slots_there os 0 o.0 has in
    record {
      sound = tt;
      is = sym (ap (option_and_then (λ (slots : List Ref). slice_get slots i)) (slots_of-named s k 0 o holds named ∙ ap (option_map (map (ref_of os))) h.words)
          ∙ slice_get_past (map (ref_of os) h.object.words) i (omega (arith, past, h.count, length-map h.object.words (ref_of os))));
    })

-- any pointer object has no slots at least
pub slots_of-any : (k : Kept) (x : Ref) → slots_of k 0 x ≡ slots_in (object_of k x)
unfolding slots_of
slots_of-any k x = go (slots_in (object_of k x))
  where
    least : (n : ℕ) → nat_le 0 n ≡ true
    least n = grind (arith, nat_tests)

    go : (o : Option (List Ref)) → at_least 0 o ≡ o
    go None = refl
    go (Some slots) = rw (least (length slots)) refl

pub any_names : (s : Store) (k : Kept) (i : ℕ) (x : Ref) (o : Option Oop) → NamesOption s o (option_and_then (λ slots. slice_get slots i) (slots_of k 0 x))
    → NamesOption s o (option_and_then (λ slots. slice_get slots i) (slots_in (object_of k x)))
any_names s k i x o names = subst (λ slots. NamesOption s o (option_and_then (λ (xs : List Ref). slice_get xs i) slots)) (slots_of-any k x) names

-- ---- words, contexts and methods

pub same_words : (s : Store) (k : Kept) (a b : Oop) → Holds s k → IsNamed s a → IsNamed s b → a.0 < 2 ^ 32 → b.0 < 2 ^ 32 → (a.0 == b.0) ≡ same_ref (name_of s a) (name_of s b)
same_words s k a b holds p q fits fits_too = sym (same_ref-ref_of s.memory.objects a.0 b.0 holds.whole.heap p q fits fits_too)

context_alone : (o : Option Obj) → is_context_at o ≡ true → is_some (context_in o) ≡ true
context_alone None h = absurd (cc)
context_alone (Some (Ptr head slots)) h = absurd (cc)
context_alone (Some (Raw head bytes)) h = absurd (cc)
context_alone (Some (Method head header literals bytecodes)) h = absurd (cc)
context_alone (Some (Ctx c)) h = refl

-- what is no context in the heap is none in the state
no_context : (refer : ℕ → Ref) (x : Object) → is_heap_context x ≡ false → context_in (Some (obj_of refer x)) ≡ None
no_context refer x other = go (sort_of x)
  where
    go : Sort x → context_in (Some (obj_of refer x)) ≡ None
    go (AContext c) = absurd (false≢true (sym other ∙ c))
    go (Pointers o p) = ap (λ y. context_in (Some y)) (obj_of-pointers refer x o p)
    go (AMethod o b m) = ap (λ y. context_in (Some y)) (obj_of-method refer x o b m)
    go (Bytes o b m) = ap (λ y. context_in (Some y)) (obj_of-bytes refer x o b m)

pub context_read : (s : Store) (k : Kept) (m : Memory) (o : Oop) → m ≡ s.memory → Holds s k → IsNamed s o → reading.is_context_word m.objects o.0 ≡ is_context_ref k (name_of s o)
context_read s k m o e holds named = subst (λ (m : Memory). reading.is_context_word m.objects o.0 ≡ is_context_ref k (name_of s o)) (sym e) (go (place s.memory.objects o.0))
  where
    said : (p : Option Object) → object_named s.memory.objects o.0 ≡ p → Says (ref_of s.memory.objects) p (object_of k (name_of s o))
    said p f = subst (λ q. Says (ref_of s.memory.objects) q (object_of k (name_of s o))) f (says s k o holds named)

    is_it : (x : Object) (b : Bool) → is_heap_context x ≡ b → Says (ref_of s.memory.objects) (Some x) (object_of k (name_of s o)) → b ≡ is_context_ref k (name_of s o)
    is_it x true f h = sym (context_alone (object_of k (name_of s o)) (h.1 f))
    is_it x false f h = sym (ap (λ p. is_some (context_in p)) (h.0 f) ∙ ap is_some (no_context (ref_of s.memory.objects) x f))

    go : Place s.memory.objects o.0 → reading.is_context_word s.memory.objects o.0 ≡ is_context_ref k (name_of s o)
    go (There x f at is) =
        ap₂ (λ b c. b && c == context_class) is (field_at (λ y. y.class) s.memory.objects o.0 x at) ∙ is_it x (is_heap_context x) refl (said (Some x) f)
    go (Nowhere f is) = ap (λ b. b && class_at s.memory.objects o.0 == context_class) is ∙ sym (ap (λ p. is_some (context_in p)) (said None f))

-- a method of the heap is one of the state, and the other way round
method_sort : (os : List Object) (x : Object) (b : Bool) → IsSoundObject os x → is_code x.format ≡ b → obj.is_method (Some (obj_of (ref_of os) x)) ≡ b
method_sort os x b sound f = go (sort_of x) b f
  where
    go : Sort x → (b : Bool) → is_code x.format ≡ b → obj.is_method (Some (obj_of (ref_of os) x)) ≡ b
    go (AContext c) true f = absurd (false≢true (sym (method_other os x sound f) ∙ c))
    go (AContext c) false f = ap (λ y. obj.is_method (Some y)) (obj_of-context (ref_of os) x c)
    go (Pointers o p) true f = absurd (false≢true (sym (not_pointers x.format f) ∙ p))
    go (Pointers o p) false f = ap (λ y. obj.is_method (Some y)) (obj_of-pointers (ref_of os) x o p)
    go (AMethod o b m) true f = ap (λ y. obj.is_method (Some y)) (obj_of-method (ref_of os) x o b m)
    go (AMethod o b m) false f = absurd (false≢true (sym f ∙ m))
    go (Bytes o b m) true f = absurd (false≢true (sym m ∙ f))
    go (Bytes o b m) false f = ap (λ y. obj.is_method (Some y)) (obj_of-bytes (ref_of os) x o b m)

context_no_method : (o : Option Obj) → is_context_at o ≡ true → obj.is_method o ≡ false
context_no_method None h = refl
context_no_method (Some (Ptr head slots)) h = refl
context_no_method (Some (Raw head bytes)) h = refl
context_no_method (Some (Method head header literals bytecodes)) h = absurd (cc)
context_no_method (Some (Ctx c)) h = refl

pub method_read : (s : Store) (k : Kept) (m : Memory) (o : Oop) → m ≡ s.memory → Holds s k → IsNamed s o → is_method_address m.objects o.0 ≡ obj.is_method (object_of k (name_of s o))
method_read s k m o e holds named = subst (λ (m : Memory). is_method_address m.objects o.0 ≡ obj.is_method (object_of k (name_of s o))) (sym e) (go (place s.memory.objects o.0))
  where
    said : (p : Option Object) → object_named s.memory.objects o.0 ≡ p → Says (ref_of s.memory.objects) p (object_of k (name_of s o))
    said p f = subst (λ q. Says (ref_of s.memory.objects) q (object_of k (name_of s o))) f (says s k o holds named)

    no_method : (x : Object) → IsSoundObject s.memory.objects x → is_heap_context x ≡ true → (b : Bool) → is_code x.format ≡ b → b ≡ false
    no_method x sound c true f = absurd (false≢true (sym (method_other s.memory.objects x sound f) ∙ c))
    no_method x sound c false f = refl

    is_it : (x : Object) (b : Bool) → IsSoundObject s.memory.objects x → is_heap_context x ≡ b → Says (ref_of s.memory.objects) (Some x) (object_of k (name_of s o)) → is_code x.format ≡ obj.is_method (object_of k (name_of s o))
    is_it x true sound c h = no_method x sound c (is_code x.format) refl ∙ sym (context_no_method (object_of k (name_of s o)) (h.1 c))
    is_it x false sound c h = sym (ap obj.is_method (h.0 c) ∙ method_sort s.memory.objects x (is_code x.format) sound refl)

    go : Place s.memory.objects o.0 → is_method_address s.memory.objects o.0 ≡ obj.is_method (object_of k (name_of s o))
    go (There x f at is) =
        ap₂ (λ b c. b && is_code c) is (field_at (λ y. y.format) s.memory.objects o.0 x at)
        ∙ is_it x (is_heap_context x) (sound_at s.memory.objects o.0 x holds.whole.heap at) refl (said (Some x) f)
    go (Nowhere f is) = ap (λ b. b && is_code (format_at s.memory.objects o.0)) is ∙ sym (ap obj.is_method (said None f))

-- what is read-only in the heap is so in the state, where no context is
context_not_fixed : (o : Option Obj) → is_context_at o ≡ true → is_fixed_at o ≡ false
context_not_fixed None h = absurd (cc)
context_not_fixed (Some (Ptr head slots)) h = absurd (cc)
context_not_fixed (Some (Raw head bytes)) h = absurd (cc)
context_not_fixed (Some (Method head header literals bytecodes)) h = absurd (cc)
context_not_fixed (Some (Ctx c)) h = refl

fixed_object : (refer : ℕ → Ref) (x : Object) → is_heap_context x ≡ false → is_immutable x.flags ≡ is_fixed_at (Some (obj_of refer x))
fixed_object refer x other = sym (go (sort_of x))
  where
    go : Sort x → is_fixed_at (Some (obj_of refer x)) ≡ is_immutable x.flags
    go (AContext c) = absurd (false≢true (sym other ∙ c))
    go (Pointers o p) = ap (λ y. is_fixed_at (Some y)) (obj_of-pointers refer x o p)
    go (AMethod o b m) = ap (λ y. is_fixed_at (Some y)) (obj_of-method refer x o b m)
    go (Bytes o b m) = ap (λ y. is_fixed_at (Some y)) (obj_of-bytes refer x o b m)

pub read_only_read : (s : Store) (k : Kept) (m : Memory) (o : Oop) → m ≡ s.memory → Holds s k → IsNamed s o → reading.is_read_only_at m.objects o.0 ≡ is_read_only k (name_of s o)
read_only_read s k m o e holds named = subst (λ (m : Memory). reading.is_read_only_at m.objects o.0 ≡ is_read_only k (name_of s o)) (sym e) (go (place s.memory.objects o.0))
  where
    said : (p : Option Object) → object_named s.memory.objects o.0 ≡ p → Says (ref_of s.memory.objects) p (object_of k (name_of s o))
    said p f = subst (λ q. Says (ref_of s.memory.objects) q (object_of k (name_of s o))) f (says s k o holds named)

    is_it : (x : Object) (b : Bool) → IsSoundObject s.memory.objects x → is_heap_context x ≡ b → Says (ref_of s.memory.objects) (Some x) (object_of k (name_of s o)) → is_immutable x.flags ≡ is_read_only k (name_of s o)
    is_it x true sound f h = ap (λ n. n % 2 == 1) (sound.context f).flags ∙ sym (context_not_fixed (object_of k (name_of s o)) (h.1 f))
    is_it x false sound f h = fixed_object (ref_of s.memory.objects) x f ∙ sym (ap is_fixed_at (h.0 f))

    go : Place s.memory.objects o.0 → reading.is_read_only_at s.memory.objects o.0 ≡ is_read_only k (name_of s o)
    go (There x f at is) =
        ap₂ (λ b n. b && n % 2 == 1) is (field_at (λ y. flag_bits y.flags) s.memory.objects o.0 x at)
        ∙ is_it x (is_heap_context x) (sound_at s.memory.objects o.0 x holds.whole.heap at) refl (said (Some x) f)
    go (Nowhere f is) = ap (λ b. b && is_immutable_at s.memory.objects o.0) is ∙ sym (ap is_fixed_at (said None f))

-- ---- special objects and classes

pub special_named : (s : Store) (k : Kept) (r : Roots) → r ≡ s.roots → Holds s k → IsNamed s r.special
special_named s k r e holds = subst (λ (q : Roots). IsNamed s q.special) (sym e) (is_reference-object s.memory.objects s.roots.special.0 holds.whole.special)

pub special_names : (s : Store) (k : Kept) (r : Roots) (i : ℕ) (o : Option Oop) → r ≡ s.roots → Holds s k
    → NamesOption s o (option_and_then (λ slots. slice_get slots i) (slots_in (object_of k (name_of s r.special)))) → NamesOption s o (special_at k i)
unfolding special_at
special_names s k r i o e holds names =
    let name : name_of s r.special ≡ ref.Obj k.rest.special =
    ap (λ (q : Roots). name_of s q.special) e ∙ ref_of-object s.memory.objects s.roots.special.0 holds.whole.special
    ∙ ap (λ (q : Rest). ref.Obj q.special) holds.rest in
    subst (λ x. NamesOption s o (option_and_then (λ (slots : List Ref). slice_get slots i) (slots_in (object_of k x)))) name names

-- the special-object array is there, and has slots
pub special_there : (s : Store) (k : Kept) (m : Memory) (r : Roots) → m ≡ s.memory → r ≡ s.roots → Holds s k → is_object m.objects r.special.0 ≡ true
special_there s k m r e f holds = ap₂ (λ (n : Memory) (q : Roots). is_object n.objects q.special.0) e f ∙ holds.whole.special

pub special_has : (s : Store) (k : Kept) (m : Memory) (r : Roots) → m ≡ s.memory → r ≡ s.roots → Holds s k → has_slots m.objects 0 r.special.0 ≡ true
special_has s k m r e f holds = ap₂ (λ (n : Memory) (q : Roots). has_slots n.objects 0 q.special.0) e f ∙ go (place s.memory.objects s.roots.special.0)
  where
    least : (n : ℕ) → nat_le 0 n ≡ true
    least n = grind (arith, nat_tests)

    other : (x : Object) → heap_object s.memory.objects s.roots.special.0 ≡ Some x → (b : Bool) → is_heap_context x ≡ b → b ≡ false
    other x at false c = refl
    other x at true c =
        let three = ((sound_at s.memory.objects s.roots.special.0 x holds.whole.heap at).context c).format in
        let two = sym (field_at (λ y. y.format) s.memory.objects s.roots.special.0 x at) ∙ holds.whole.array.format in
        absurd (omega (arith, three, two))

    has : (a b c d : Bool) → a ≡ true → b ≡ false → c ≡ true → d ≡ true → (a && not b && c && d) ≡ true
    has a b c d p q r t = rw (p, q, r, t) refl

    go : Place s.memory.objects s.roots.special.0 → has_slots s.memory.objects 0 s.roots.special.0 ≡ true
    go (There x named at is) =
        has (is_object s.memory.objects s.roots.special.0) (class_at s.memory.objects s.roots.special.0 == context_class) (is_pointers (format_at s.memory.objects s.roots.special.0)) (nat_le 0 (slot_count_of s.memory.objects s.roots.special.0)) is
        (ap (λ c. c == context_class) (field_at (λ y. y.class) s.memory.objects s.roots.special.0 x at) ∙ other x at (is_heap_context x) refl)
        (ap is_pointers holds.whole.array.format) (least (slot_count_of s.memory.objects s.roots.special.0))
    go (Nowhere named is) = absurd (false≢true (sym is ∙ holds.whole.special))

class_in_context : (o : Option Obj) → is_context_at o ≡ true → index_of_class o ≡ context_class
class_in_context None h = absurd (cc)
class_in_context (Some (Ptr head slots)) h = absurd (cc)
class_in_context (Some (Raw head bytes)) h = absurd (cc)
class_in_context (Some (Method head header literals bytecodes)) h = absurd (cc)
class_in_context (Some (Ctx c)) h = refl

class_in_object : (refer : ℕ → Ref) (x : Object) → is_heap_context x ≡ false → index_of_class (Some (obj_of refer x)) ≡ x.class
class_in_object refer x other = go (sort_of x)
  where
    go : Sort x → index_of_class (Some (obj_of refer x)) ≡ x.class
    go (AContext c) = absurd (false≢true (sym other ∙ c))
    go (Pointers o p) = ap (λ y. index_of_class (Some y)) (obj_of-pointers refer x o p)
    go (AMethod o b m) = ap (λ y. index_of_class (Some y)) (obj_of-method refer x o b m)
    go (Bytes o b m) = ap (λ y. index_of_class (Some y)) (obj_of-bytes refer x o b m)

class_said : (refer : ℕ → Ref) (x : Object) (o : Option Obj) (b : Bool) → is_heap_context x ≡ b → Says refer (Some x) o → x.class ≡ index_of_class o
class_said refer x o true c h = eqb-true x.class context_class c ∙ sym (class_in_context o (h.1 c))
class_said refer x o false c h = sym (ap index_of_class (h.0 c) ∙ class_in_object refer x c)

-- what a word may stand for in a field of a context

pub method_kind : (s : Store) (k : Kept) (o : Oop) → Holds s k → IsNamed s o → obj.is_method (object_of k (name_of s o)) ≡ true → is_nil_or_method s.memory.objects o.0 ≡ true
method_kind s k o holds named h =
    or_right (o.0 == nil_word s.memory.objects) (is_method_address s.memory.objects o.0) (method_read s k s.memory o refl holds named ∙ h)

pub sender_kind : (s : Store) (k : Kept) (o : Oop) → Holds s k → IsNamed s o → is_context_ref k (name_of s o) ≡ true → is_sender s.memory.objects o.0 ≡ true
sender_kind s k o holds named h =
    let os = s.memory.objects in
    let is = both_true (is_object os o.0) (class_at os o.0 == context_class) (context_read s k s.memory o refl holds named ∙ h) in
    is_sender-context os o.0 is.0 (eqb-true (class_at os o.0) context_class is.1)

pub closure_kind : (s : Store) (k : Kept) (o : Oop) → Holds s k → IsNamed s o → has_class_index closure_class (object_of k (name_of s o)) ≡ true → is_nil_or_closure s.memory.objects o.0 ≡ true
closure_kind s k o holds named h =
    or_right (o.0 == nil_word s.memory.objects) (is_closure_address s.memory.objects o.0) (go (place s.memory.objects o.0))
  where
    said : (p : Option Object) → object_named s.memory.objects o.0 ≡ p → Says (ref_of s.memory.objects) p (object_of k (name_of s o))
    said p f = subst (λ q. Says (ref_of s.memory.objects) q (object_of k (name_of s o))) f (says s k o holds named)

    index : (p : Option Obj) → has_class_index closure_class p ≡ true → index_of_class p ≡ closure_class
    index None e = absurd (false≢true e)
    index (Some (Ptr head slots)) e = eqb-true head.class closure_class e
    index (Some (Raw head bytes)) e = eqb-true head.class closure_class e
    index (Some (Method head header literals bytecodes)) e = eqb-true head.class closure_class e
    index (Some (Ctx c)) e = absurd (false≢true e)

    go : Place s.memory.objects o.0 → is_closure_address s.memory.objects o.0 ≡ true
    go (There x f at is) =
        let class : class_at s.memory.objects o.0 ≡ closure_class = field_at (λ y. y.class) s.memory.objects o.0 x at
        ∙ class_said (ref_of s.memory.objects) x (object_of k (name_of s o)) (is_heap_context x) refl (said (Some x) f) ∙ index (object_of k (name_of s o)) h in
        ap₂ (λ b n. b && n == closure_class) is class
    go (Nowhere f is) = absurd (false≢true (sym (ap (has_class_index closure_class) (said None f)) ∙ h))

class_of_kind : (os : List Object) (k : Kept) (w : Kind) → is_reference_kind os w ≡ true → Says (ref_of os) (object_of_kind os w) (object_of k (ref_of_kind os w))
    → reading.class_index_of_kind os w ≡ class_index_of k (ref_of_kind os w)
class_of_kind os k (kind.Small value) named said = refl
class_of_kind os k (kind.Character code) named said = refl
class_of_kind os k (kind.Object address) named said =
    let x = object_there os address named in
    field_at (λ y. y.class) os address x.0 x.1
    ∙ class_said (ref_of os) x.0 _ (is_heap_context x.0) refl (subst (λ p. Says (ref_of os) p (object_of k (ref.Obj (birth_at os address)))) x.1 said)
class_of_kind os k (kind.Link word) named said = absurd (cc)

pub class_read : (s : Store) (k : Kept) (m : Memory) (o : Oop) → m ≡ s.memory → Holds s k → IsNamed s o → reading.word_class m.objects o.0 ≡ class_index_of k (name_of s o)
unfolding reading.word_class ref_of is_reference
class_read s k m o e holds named = ap (λ (n : Memory). reading.class_index_of_kind n.objects (kind_of o.0)) e ∙ class_of_kind s.memory.objects k (kind_of o.0) named (says s k o holds named)

-- what the class table has at an index, as the state has it
pub class_names : (s : Store) (k : Kept) (x : Ref) (table : FinMap nat_cmp ℕ) (index : ℕ) (o : Option Oop) → Holds s k → table ≡ s.table → index ≡ class_index_of k x → option_map (λ (c : Oop). c.0) o ≡ get table index
    → NamesOption s o (class_in_table k x)
unfolding class_in_table
class_names s k x table index o holds t e found = go o (found ∙ ap (λ m. get m index) t)
  where
    classes : get k.rest.classes (class_index_of k x) ≡ option_map (birth_at s.memory.objects) (get s.table index)
    classes = ap (λ (r : Rest). get r.classes (class_index_of k x)) (sym holds.rest) ∙ ap (get (classes_of s.memory.objects s.table)) (sym e) ∙ get-classes_of s.memory.objects s.table index

    go : (o : Option Oop) → option_map (λ (c : Oop). c.0) o ≡ get s.table index → NamesOption s o (option_map (λ i. ref.Obj i) (get k.rest.classes (class_index_of k x)))
    go None f = record { sound = tt; is = sym (ap (option_map (λ i. ref.Obj i)) (classes ∙ ap (option_map (birth_at s.memory.objects)) (sym f))) }
    go (Some c) f =
        let there = holds.whole.classes index c.0 (sym f) in
        record {
          sound = is_reference-object s.memory.objects c.0 there;
          is = ap Some (ref_of-object s.memory.objects c.0 there) ∙ sym (ap (option_map (λ i. ref.Obj i)) (classes ∙ ap (option_map (birth_at s.memory.objects)) (sym f)));
        }

pub has_slots_read : (s : Store) (k : Kept) (m : Memory) (n : ℕ) (o : Oop) → m ≡ s.memory → Holds s k → IsNamed s o → has_slots m.objects n o.0 ≡ is_some (slots_of k n (name_of s o))
has_slots_read s k m n o e holds named =
    ap (λ (m : Memory). has_slots m.objects n o.0) e ∙ go (has_slots s.memory.objects n o.0) refl ∙ sym (ap is_some (slots_of-named s k n o holds named))
  where
    go : (b : Bool) → has_slots s.memory.objects n o.0 ≡ b → has_slots s.memory.objects n o.0 ≡ is_some (option_map (map (ref_of s.memory.objects)) (pointer_words s.memory.objects n o.0))
    go true h = h ∙ sym (ap (λ ws. is_some (option_map (map (ref_of s.memory.objects)) ws)) (slots_there s.memory.objects n o.0 h).words)
    go false h = h ∙ sym (ap (λ ws. is_some (option_map (map (ref_of s.memory.objects)) ws)) (no_slots_there s.memory.objects n o.0 h))
