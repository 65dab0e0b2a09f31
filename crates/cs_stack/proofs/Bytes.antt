-- A byte of an object is written.
use Rattle.std.proofs.Common.{◌≡◌, ℕ, ◌+◌, ◌-◌, ◌*◌, ◌/◌, ◌%◌, ◌<◌, ◌≤◌, ◌^◌, Bool, true, false, refl, sym, ap, ap₂, subst, ◌∙◌, Option, Some, None, List, length, map, drop, take, length-take, length-drop, arith, get_or-set_other, unwrap_or}
use Rattle.std.specs.Prelude.{◌==◌, ◌&&◌, if◌then◌else◌, nat_lt, slice_index, slice_set}
use Rattle.std.specs.Option.{option_map_or}
use Rattle.std.proofs.lemmas.Bool.{false≢true}
use Rattle.std.proofs.lemmas.List.{length-map, length-set}
use Rattle.cs_model.specs.Words.{bytes_of_words, unused_bytes}
use Rattle.cs_word.specs.declared.Oop.{Oop}
use Rattle.cs_word.specs.Word.{natural_of_word}
use Rattle.cs_heap.specs.Format.{is_code}
use Rattle.cs_heap.specs.Object.{Memory, Object, byte_set, format_at, heap_object, is_object, part_at, set_word, slot_count_of, slot_of, with_byte_in, with_object}
use Rattle.cs_heap.specs.Writes.{byte_stored}
use Rattle.cs_heap.proofs.Laws.{object_placed}
use Rattle.cs_classes.specs.Meaning.{code_in, is_heap_context, literal_words, method_header, method_meaning, obj_of, ref_of, used_bytes}
use Rattle.cs_classes.specs.Sound.{IsWhole}
use Rattle.cs_classes.proofs.Counting.{length-bytes_of}
use Rattle.cs_classes.proofs.Edits.{obj_of-set_byte, obj_of-set_code, set_byte}
use Rattle.cs_classes.proofs.Heaps.{is_object-object_at, object_there, set_word-IsEdit}
use Rattle.cs_classes.proofs.Sorts.{AContext, AMethod, Bytes, Pointers, Sort, obj_of-bytes, obj_of-method, obj_of-pointers, sort_of}
use Rattle.cs_classes.proofs.Sounds.{sound_at}
use Rattle.cs_classes.proofs.Writes.{does-set_byte, does-set_code}
use Rattle.cs_marriage.specs.Agree.{header_at}
use Rattle.cs_model.specs.Ref.{Ref}
use Rattle.cs_model.specs.Obj as obj
use Rattle.cs_model.specs.Obj.{Ctx, Method, Obj, Ptr, Raw, first_pc, is_context_at, lies_in, literal_count}
use Rattle.cs_model.specs.State.{object_of}
use Rattle.cs_model.specs.Operation.{store_byte_of, with_byte}
use Rattle.cs_acts.specs.Names.{IsNamed, name_of}
use Rattle.cs_acts.specs.Ready.{writable_bytes}
use Rattle.cs_acts.specs.Reading.{object_named}
use Rattle.cs_acts.proofs.Held.{Says, says}
use Rattle.cs_acts.proofs.Methods.{at_word}
use Rattle.cs_stack.specs.declared.parts.Parts.{Parts}
use Rattle.cs_stack.specs.View.{stored_of, unframed, view_of}
use Rattle.cs_stack.specs.Good.{IsGood}
use Rattle.cs_stack.specs.Moved.{first_byte}
use Rattle.cs_stack.proofs.Altering.{Altered, Alters, altered}
use Rattle.cs_stack.proofs.Bare.{plain_unlinked, unlinked}
use Rattle.cs_stack.proofs.Closed.{good_sound}

-- ---- what a word names

-- what the object that a word names says of the state
pub data Spoken (os : List Object) (w : ℕ) (o : Option Obj) : Type 0 where
  Plain : (x : Object) (there : heap_object os w ≡ Some x) (other : is_heap_context x ≡ false) (is : o ≡ Some (obj_of (ref_of os) x)) → Spoken os w o
  Context : (x : Object) (there : heap_object os w ≡ Some x) (context : is_heap_context x ≡ true) (is : is_context_at o ≡ true) → Spoken os w o
  Nothing : o ≡ None → Spoken os w o

pub spoken : (w : Parts) → IsGood w → (o : Oop) → IsNamed (stored_of w) o → Spoken w.heap.objects o.0 (object_of (view_of w) (name_of (stored_of w) o))
spoken w good o named = go (object_named w.heap.objects o.0) refl (says (stored_of w) (view_of w) o (good_sound w good).holds named)
  where
    go : (q : Option Object) → object_named w.heap.objects o.0 ≡ q → Says (ref_of w.heap.objects) q (object_of (view_of w) (name_of (stored_of w) o)) → Spoken w.heap.objects o.0 (object_of (view_of w) (name_of (stored_of w) o))
    go None e s = Nothing s
    go (Some x) e s = by (is_heap_context x) refl
      where
        by : (b : Bool) → is_heap_context x ≡ b → Spoken w.heap.objects o.0 (object_of (view_of w) (name_of (stored_of w) o))
        by false c = Plain x (at_word w.heap.objects o.0 (Some x) x e refl) c (s.0 c)
        by true c = Context x (at_word w.heap.objects o.0 (Some x) x e refl) c (s.1 c)

-- ---- a byte

-- a written byte moves no pc
lies_byte : (i b pc : ℕ) (o : Obj) → lies_in (Some (with_byte i b o)) pc ≡ lies_in (Some o) pc
lies_byte i b pc (Ptr head slots) = refl
lies_byte i b pc (Raw head bytes) = refl
lies_byte i b pc (Method head header literals bytecodes) = ap (λ n. obj.lies_between (first_pc literals) n pc) (length-set bytecodes i b)
lies_byte i b pc (Ctx c) = refl

no_bytes : (o : Option Obj) → is_context_at o ≡ true → writable_bytes o ≡ 0
no_bytes None h = refl
no_bytes (Some (Ptr head slots)) h = refl
no_bytes (Some (Raw head bytes)) h = absurd (cc)
no_bytes (Some (Method head header literals bytecodes)) h = absurd (cc)
no_bytes (Some (Ctx c)) h = refl

-- byte n of the object at an address is written
abbrev pub byte_edit : List Object → ℕ → ℕ → ℕ → Object → Object
byte_edit os a n b = set_word (n / 4) (with_byte_in (slot_of os a (n / 4)) (n % 4) b)

-- byte n of the object at an address may be written, and is byte i of what it means
pub record Writable (w : Parts) (a i b n : ℕ) : Type 0 where
  pub alters : Alters w.heap.objects a (byte_edit w.heap.objects a n b) (with_byte i b)
  pub whole : IsWhole (byte_set w.heap.objects a n b) w.classes w.roots
  pub within : n < 4 * slot_count_of w.heap.objects a

module _ (w : Parts) (good : IsGood w) (a i b : ℕ) (small : b < 256) (x : Object) (there : heap_object w.heap.objects a ≡ Some x) (other : is_heap_context x ≡ false) where
  abbrev os : List Object
  os = w.heap.objects

  plain : unframed x ≡ x
  plain = unlinked x (plain_unlinked x other)

  part_is : (part : Object → ℕ) → part_at part os a ≡ part x
  part_is part = ap (λ (o : Option Object). option_map_or part o 0) there

  altering : (n : ℕ) → obj_of (ref_of os) (set_byte n b x) ≡ with_byte i b (obj_of (ref_of os) x) → (is_code x.format ≡ true → 4 ≤ n) → Alters os a (byte_edit os a n b) (with_byte i b)
  altering n means behind = subst (λ u. Alters os a (set_word (n / 4) (with_byte_in u (n % 4) b)) (with_byte i b)) (sym (part_is (λ y. slice_index y.words (n / 4)))) (record {
    x = x;
    there = there;
    edit = set_word-IsEdit (n / 4) _;
    context = λ c. absurd (false≢true (sym other ∙ c));
    dead = unlinked (set_byte n b x) (plain_unlinked (set_byte n b x) other) ∙ ap (set_word (n / 4) (with_byte_in (slice_index x.words (n / 4)) (n % 4) b)) (sym plain);
    means = subst (λ z. obj_of (ref_of os) (set_word (n / 4) (with_byte_in (slice_index x.words (n / 4)) (n % 4) b) z) ≡ with_byte i b (obj_of (ref_of os) z)) (sym plain) means;
    lies = λ pc. ap (λ y. lies_in (Some y) pc) means ∙ lies_byte i b pc (obj_of (ref_of os) x);
    header = λ c. get_or-set_other x.words (n / 4) 0 _ 0 (λ e. let low = behind c in omega (arith, e, low));
    framed = λ c. absurd (false≢true (sym other ∙ c));
  })

  first_is : (code : Bool) → is_code x.format ≡ code → first_byte os a ≡ (if code then 4 * (1 + literal_count (method_header x.words)) else 0)
  first_is code e =
      ap (λ c. if c then 4 * (1 + literal_count (header_at os a)) else 0) (ap is_code (part_is (λ y. y.format)) ∙ e)
      ∙ ap (λ n. if code then 4 * (1 + literal_count (unwrap_or (natural_of_word n) 0)) else 0) (part_is (λ y. slice_index y.words 0))

  by_sort : Sort x → i < writable_bytes (Some (obj_of (ref_of os) x)) → Writable w a i b (first_byte os a + i)
  unfolding method_meaning
  by_sort (AContext c) l = absurd (false≢true (sym other ∙ c))
  by_sort (Pointers c p) l = absurd (let none = ap (λ y. writable_bytes (Some y)) (obj_of-pointers (ref_of os) x c p) in omega (arith, l, none))
  by_sort (AMethod c p m) l =
      let n : ℕ = 4 * (1 + literal_count (method_header x.words)) + i in
      let count = ap (λ y. writable_bytes (Some y)) (obj_of-method (ref_of os) x c p m) in
      let taken = length-take (4 * length (code_in x.words) - unused_bytes x.format) (bytes_of_words (code_in x.words)) in
      let rest = length-drop (1 + literal_count (method_header x.words)) x.words in
      let fits = ((sound_at os a x good.whole.heap there).method m).literals in
      subst (Writable w a i b) (sym (ap (λ k. k + i) (first_is true m))) (record {
        alters = altering n (obj_of-set_code (ref_of os) x i b c m small) (λ c. omega arith);
        whole = (does-set_code (record { whole = good.whole; there = there }) i b m small).whole;
        within = omega (arith, l, count, taken, length-bytes_of (code_in x.words), rest, fits, part_is (λ y. length y.words));
      })
  by_sort (Bytes c p m) l =
      let count = ap (λ y. writable_bytes (Some y)) (obj_of-bytes (ref_of os) x c p m) in
      let taken = length-take (4 * length x.words - unused_bytes x.format) (bytes_of_words x.words) in
      let none : 0 + i ≡ i = omega arith in
      subst (Writable w a i b) (sym (ap (λ k. k + i) (first_is false m) ∙ none)) (record {
        alters = altering i (obj_of-set_byte (ref_of os) x i b c p m small) (λ code. absurd (false≢true (sym m ∙ code)));
        whole = (does-set_byte (record { whole = good.whole; there = there }) i b c p m small).whole;
        within = omega (arith, l, count, taken, length-bytes_of x.words, part_is (λ y. length y.words));
      })

pub writable : (w : Parts) (good : IsGood w) (o : Oop) (i b : ℕ) → b < 256 → IsNamed (stored_of w) o → i < writable_bytes (object_of (view_of w) (name_of (stored_of w) o))
    → Writable w o.0 i b (first_byte w.heap.objects o.0 + i)
writable w good o i b small named l = go (spoken w good o named)
  where
    go : Spoken w.heap.objects o.0 (object_of (view_of w) (name_of (stored_of w) o)) → Writable w o.0 i b (first_byte w.heap.objects o.0 + i)
    go (Plain x there other is) = by_sort w good o.0 i b small x there other (sort_of x) (subst (λ y. i < writable_bytes y) is l)
    go (Context x there c is) = absurd (omega (arith, l, no_bytes _ is))
    go (Nothing is) = absurd (let none = ap writable_bytes is in omega (arith, l, none))

pub byte_written : (w : Parts) (good : IsGood w) (o : Oop) (i b n : ℕ) (h : Memory) → b < 256 → IsNamed (stored_of w) o → i < writable_bytes (object_of (view_of w) (name_of (stored_of w) o))
    → n ≡ first_byte w.heap.objects o.0 + i → h ≡ byte_stored w.heap o.0 n b → Altered w (record w { heap = h }) o.0 (with_byte i b)
byte_written w good o i b n h small named l e is =
    let can = writable w good o i b small named l in
    subst (λ g. Altered w (record w { heap = g }) o.0 (with_byte i b)) (sym (is ∙ ap (λ m. byte_stored w.heap o.0 m b) e))
    (altered w good o.0 (byte_edit w.heap.objects o.0 (first_byte w.heap.objects o.0 + i) b) (with_byte i b) can.alters can.whole)

-- ---- where its bytes begin

-- a method has a header
pub header_there : (w : Parts) → IsGood w → (a : ℕ) → is_object w.heap.objects a ≡ true → is_code (format_at w.heap.objects a) ≡ true → 0 < slot_count_of w.heap.objects a
header_there w good a object code =
    let x = object_there w.heap.objects a object in
    let format = ap (λ (o : Option Object). option_map_or (λ (y : Object). y.format) o 0) x.1 in
    let count = ap (λ (o : Option Object). option_map_or (λ (y : Object). length y.words) o 0) x.1 in
    let fits = ((sound_at w.heap.objects a x.0 good.whole.heap x.1).method (ap is_code (sym format) ∙ code)).literals in
    omega (arith, fits, count)

-- a byte of an object has a place of 32 bits
pub byte_few : (w : Parts) → IsGood w → (a n : ℕ) → is_object w.heap.objects a ≡ true → n < 4 * slot_count_of w.heap.objects a → n < 2 ^ 32
byte_few w good a n object l = omega (arith, l, (object_placed w.heap.objects a object).ends, good.within, good.most)

pub byte_view : (w v : Parts) (o : Oop) (i b : ℕ) → Altered w v o.0 (with_byte i b) → view_of v ≡ store_byte_of (view_of w) (name_of (stored_of w) o) i b
unfolding store_byte_of
byte_view w v o i b a = a.view
