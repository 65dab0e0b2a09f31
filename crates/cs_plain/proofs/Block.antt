-- Entering a block: its closure, the outer context, and what the new context is.
use Rattle.std.proofs.Common.{◌≡◌, ℕ, pos, ◌+◌, ◌-◌, ◌<◌, ◌≤◌, ◌^◌, Bool, true, false, refl, sym, ap, ap₂, subst, ◌∙◌, Option, Some, None, is_some, unwrap_or, List, [], ◌++◌, length, map, take, drop, replicate, get_or, length-drop, arith}
use Rattle.std.specs.Prelude.{◌/◌, ◌%◌, ◌==◌, ◌&&◌, if◌then◌else◌, nat_le, slice_get, slice_index, option_map}
use Rattle.std.specs.Option.{option_map_or}
use Rattle.std.specs.List.{AllPass, drop-map}
use Rattle.std.proofs.lemmas.Bool.Decides.{nat_tests}
use Rattle.std.proofs.lemmas.List.{append-nil, length-map, take_all}
use Rattle.std.proofs.lemmas.List.Elements.{All-drop, All-get_or}
use Rattle.std.proofs.lemmas.Option.{slice_get-map, slice_get-get_or}
use Rattle.cs_word.specs.declared.Oop.{Oop}
use Rattle.cs_word.specs.declared.Kind.{Kind}
use Rattle.cs_word.specs.declared.Kind.TheVariants as kind
use Rattle.cs_word.specs.Word.{kind_of, small_word, natural_of_word}
use Rattle.cs_heap.specs.Object.{Object, is_object, heap_object, slot_count_of, slot_of}
use Rattle.cs_model.proofs.Bools.{and_five}
use Rattle.cs_classes.specs.Meaning.{context_of, obj_of, ref_of, ref_of_kind}
use Rattle.cs_classes.specs.Sound.{is_reference, is_reference_kind}
use Rattle.cs_classes.proofs.Heaps.{birth_of-object_at, is_object-object_at, object_there}
use Rattle.cs_classes.proofs.Refs.{count_of-small, index_of-ref_of, is_reference-small, ref_of-object, small_natural}
use Rattle.cs_classes.proofs.Sorts.{IsContextOf, IsPointersOf, context_is, pointers_of, references-pointers}
use Rattle.cs_classes.proofs.Sounds.{IsWholeContext, sound_at, whole_context}
use Rattle.cs_model.specs.Ref.{Ref, small_index}
use Rattle.cs_model.specs.Ref as ref
use Rattle.cs_model.specs.Obj.{Context, Ctx, Method, Obj, Ptr, Raw, context_in, context_size, lies_in, Head}
use Rattle.cs_model.specs.Obj as obj
use Rattle.cs_model.specs.State.{Kept, object_of}
use Rattle.cs_model.specs.Read.{active_birth, stack_of}
use Rattle.cs_model.specs.Operation.{enter_with, last_values, nil_of}
use Rattle.cs_model.specs.Context.{lies_if_index}
use Rattle.cs_model.specs.Enter.{block_size, can_evaluate, closure_method, closure_slot, closure_slots, copied_values, enter_block_of, is_count, method_in_context, outer_context, receiver_in_context}
use Rattle.cs_acts.specs.Names.{IsNamed, Names, name_of}
use Rattle.cs_acts.specs.Ready.{IsReady, IsSound}
use Rattle.cs_acts.specs.Targets.{CanEnterBlock}
use Rattle.cs_acts.proofs.ContextKinds.{evaluated}
use Rattle.cs_acts.proofs.Methods.{header_is}
use Rattle.cs_acts.proofs.Named.{closure_kind}
use Rattle.cs_plain.specs.declared.Fields.{Fields}
use Rattle.cs_plain.specs.declared.PlainWorld.{PlainWorld}
use Rattle.cs_plain.specs.Calling.{CanCall, called_context, called_of, called_stack, copied_words}
use Rattle.cs_plain.specs.Calling as calling
use Rattle.cs_plain.specs.View.{plain_stored, plain_view}
use Rattle.cs_plain.proofs.Active.{active_is, meaning_there, word_named}
use Rattle.cs_plain.proofs.Entering.{Header, header_at, method_at}
use Rattle.cs_plain.proofs.Storing.{kind_address}

-- ---- what a word names stands in the heap

record Found (w : PlainWorld) (v : Oop) (o : Obj) : Type 0 where
  object : Object
  there : heap_object w.heap.objects v.0 ≡ Some object
  is : obj_of (ref_of w.heap.objects) object ≡ o

found : (w : PlainWorld) (v : Oop) (o : Obj) → IsSound (plain_stored w) (plain_view w) → IsNamed (plain_stored w) v → object_of (plain_view w) (name_of (plain_stored w) v) ≡ Some o → Found w v o
unfolding ref_of is_reference
found w v o sound named h = go (kind_of v.0) refl named h
  where
    some_same : (p q : Obj) → ◌≡◌ {A = Option Obj} (Some p) (Some q) → p ≡ q
    some_same p q e = cc

    go : (k : Kind) → kind_of v.0 ≡ k → is_reference_kind w.heap.objects k ≡ true → object_of (plain_view w) (ref_of_kind w.heap.objects k) ≡ Some o → Found w v o
    go (kind.Small z) e n h = absurd (cc)
    go (kind.Character code) e n h = absurd (cc)
    go (kind.Link l) e n h = absurd (cc)
    go (kind.Object a) e n h =
        let is : a ≡ v.0 = kind_address v.0 a e in
        let x = object_there w.heap.objects a n in
        let there : heap_object w.heap.objects v.0 ≡ Some x.0 = ap (heap_object w.heap.objects) (sym is) ∙ x.1 in
        record {
          object = x.0;
          there = there;
          is = some_same _ _ (sym (meaning_there w a x.0 sound.holds.whole x.1) ∙ ap (λ b. object_of (plain_view w) (ref.Obj b)) (sym (birth_of-object_at w.heap.objects a x.0 x.1)) ∙ h);
        }

-- ---- the closure and its outer context

-- the pointer object that a closure is
record Slots (o : Option Obj) : Type 0 where
  head : Head
  slots : List Ref
  is : o ≡ Some (Ptr head slots)
  are : closure_slots o ≡ slots

slots_there : (o : Option Obj) → nat_le 3 (length (closure_slots o)) ≡ true → Slots o
slots_there None h = absurd (cc)
slots_there (Some (Raw head bytes)) h = absurd (cc)
slots_there (Some (Method head header literals bytecodes)) h = absurd (cc)
slots_there (Some (Ctx c)) h = absurd (cc)
slots_there (Some (Ptr head slots)) h = record {
  head = head;
  slots = slots;
  is = refl;
  are = go (head.class == 37 && head.format == 3) h;
}
  where
    go : (b : Bool) → nat_le 3 (length (if b then slots else [])) ≡ true → (if b then slots else []) ≡ slots
    go true h = refl
    go false h = absurd (cc)

record AContext (o : Option Obj) : Type 0 where
  context : Context
  is : o ≡ Some (Ctx context)

context_there : (o : Option Obj) → is_some (context_in o) ≡ true → AContext o
context_there None h = absurd (cc)
context_there (Some (Ptr head slots)) h = absurd (cc)
context_there (Some (Raw head bytes)) h = absurd (cc)
context_there (Some (Method head header literals bytecodes)) h = absurd (cc)
context_there (Some (Ctx c)) h = record { context = c; is = refl }

record Entry (o : Option Obj) (i : Option ℕ) : Type 0 where
  at : ℕ
  is : i ≡ Some at
  lies : lies_in o at ≡ true

entry_there : (o : Option Obj) (i : Option ℕ) → lies_if_index o i ≡ true → Entry o i
entry_there o None h = absurd (cc)
entry_there o (Some pc) h = record { at = pc; is = refl; lies = h }

module _ (w : PlainWorld) (v : Oop) (args : ℕ) (ready : IsReady (plain_stored w) (plain_view w)) (named : IsNamed (plain_stored w) v) (fits : CanEnterBlock (plain_view w) (name_of (plain_stored w) v) args) where
  abbrev k : Kept
  k = plain_view w

  abbrev x : Ref
  x = name_of (plain_stored w) v

  abbrev os : List Object
  os = w.heap.objects

  can : (nat_le 3 (length (closure_slots (object_of k x))) ≡ true) × (is_some (outer_context k x) ≡ true) × (obj.is_method (object_of k (closure_method k x)) ≡ true)
      × (lies_if_index (object_of k (closure_method k x)) (small_index (closure_slot k x 1)) ≡ true) × (is_count args (small_index (closure_slot k x 2)) ≡ true)
  unfolding can_evaluate
  can = and_five _ _ _ _ _ fits.closure

  shape : Slots (object_of k x)
  shape = slots_there (object_of k x) can.0

  at : Found w v (Ptr shape.head shape.slots)
  at = found w v _ ready.sound named shape.is

  pointers : IsPointersOf (ref_of os) at.object shape.head shape.slots
  pointers = pointers_of (ref_of os) at.object _ _ at.is

  abbrev words : List ℕ
  words = at.object.words

  references : AllPass (is_reference os) words
  references = subst (λ us. AllPass (is_reference os) us) (references-pointers at.object pointers.other pointers.pointers) (sound_at os v.0 at.object ready.sound.holds.whole.heap at.there).references

  count_is : slot_count_of os v.0 ≡ length words
  count_is = ap (λ (o : Option Object). option_map_or (λ (z : Object). length z.words) o 0) at.there

  slots_are : closure_slots (object_of k x) ≡ map (ref_of os) words
  slots_are = shape.are ∙ sym pointers.slots

  three : (n : ℕ) → nat_le 3 n ≡ true → 3 ≤ n
  three n h = grind (arith, nat_tests, h)

  pub three_slots : 3 ≤ slot_count_of os v.0
  three_slots = omega (arith, count_is, three (length (closure_slots (object_of k x))) can.0, ap length slots_are, length-map words (ref_of os))

  pub closure_there : is_object os v.0 ≡ true
  closure_there = is_object-object_at os v.0 at.object at.there

  slot_names : (i : ℕ) (u : Oop) → i < 3 → u.0 ≡ slot_of os v.0 i → Names (plain_stored w) u (closure_slot k x i)
  slot_names i u few read =
      let within : i < length words = omega (arith, few, three_slots, count_is) in
      let word : u.0 ≡ get_or words i 0 = read ∙ ap (λ (o : Option Object). option_map_or (λ (z : Object). slice_index z.words i) o 0) at.there in
      record {
        sound = ap (is_reference os) word ∙ All-get_or (λ (n : ℕ). is_reference os n ≡ true) words i 0 within references;
        is = ap (ref_of os) word ∙ sym (ap (λ us. unwrap_or (slice_get us i) (nil_of k)) slots_are
            ∙ ap (λ o. unwrap_or o (nil_of k)) (slice_get-map (ref_of os) words i ∙ ap (option_map (ref_of os)) (slice_get-get_or words i 0 within)));
      }

  -- ---- the outer context

  module _ (outer : Oop) (read : outer.0 ≡ slot_of os v.0 0) where
    outer_names : Names (plain_stored w) outer (closure_slot k x 0)
    outer_names = slot_names 0 outer (omega arith) read

    outer_is : AContext (object_of k (closure_slot k x 0))
    unfolding outer_context
    outer_is = context_there (object_of k (closure_slot k x 0)) can.1

    outer_context_is : outer_context k x ≡ Some outer_is.context
    unfolding outer_context
    outer_context_is = ap context_in outer_is.is

    outer_at : Found w outer (Ctx outer_is.context)
    outer_at = found w outer _ ready.sound outer_names.sound (ap (object_of k) outer_names.is ∙ outer_is.is)

    outer_of : IsContextOf (ref_of os) outer_at.object outer_is.context
    outer_of = context_is (ref_of os) outer_at.object outer_is.context outer_at.is

    outer_whole : IsWholeContext os outer_at.object
    outer_whole = whole_context os outer_at.object (sound_at os outer.0 outer_at.object ready.sound.holds.whole.heap outer_at.there) outer_of.context

    pub outer_slots : 6 ≤ slot_count_of os outer.0
    outer_slots = omega (arith, outer_whole.fields, ap (λ (o : Option Object). option_map_or (λ (z : Object). length z.words) o 0) outer_at.there)

    field_names : (i : ℕ) (u : Oop) (y : Ref) → i < 6 → u.0 ≡ slot_of os outer.0 i → ref_of os (slice_index outer_at.object.words i) ≡ y → Names (plain_stored w) u y
    field_names i u y few from is =
        let word : u.0 ≡ slice_index outer_at.object.words i = from ∙ ap (λ (o : Option Object). option_map_or (λ (z : Object). slice_index z.words i) o 0) outer_at.there in
        record {
          sound = ap (is_reference os) word ∙ word_named w outer.0 outer_at.object ready.sound outer_at.there outer_of.context i (omega (arith, few, outer_whole.fields));
          is = ap (ref_of os) word ∙ is;
        }

    pub method_names : (m : Oop) → m.0 ≡ slot_of os outer.0 3 → Names (plain_stored w) m (closure_method k x)
    unfolding context_of
    method_names m from = field_names 3 m _ (omega arith) from (ap (λ (c : Context). c.method) outer_of.value ∙ sym (ap (method_in_context (nil_of k)) outer_context_is))

    pub receiver_names : (r : Oop) → r.0 ≡ slot_of os outer.0 5 → Names (plain_stored w) r (receiver_in_context (nil_of k) (outer_context k x))
    unfolding context_of
    receiver_names r from = field_names 5 r _ (omega arith) from (ap (λ (c : Context). c.receiver) outer_of.value ∙ sym (ap (receiver_in_context (nil_of k)) outer_context_is))

    pub method_is : (m : Oop) → m.0 ≡ slot_of os outer.0 3 → obj.is_method (object_of k (name_of (plain_stored w) m)) ≡ true
    method_is m from = ap (λ y. obj.is_method (object_of k y)) (method_names m from).is ∙ can.2

    -- ---- the fields that the code writes

    module _ (m b pc stackp receiver : Oop) (n word header : ℕ) (method_read : m.0 ≡ slot_of os outer.0 3) (read_header : word ≡ slot_of os m.0 0) (counted : header ≡ unwrap_or (natural_of_word word) 0)
        (copied : n + 3 ≡ slot_count_of os v.0) (known : w.active ≡ Some b) (pc_read : pc.0 ≡ slot_of os v.0 1) (stackp_is : stackp.0 ≡ small_word (pos (args + n)))
        (receiver_read : receiver.0 ≡ slot_of os outer.0 5) where
      abbrev fields : Fields
      fields = record { sender = b; pc = pc; stackp = stackp; method = m; closure = v; receiver = receiver }

      method : Names (plain_stored w) m (closure_method k x)
      method = method_names m method_read

      head : Header k (name_of (plain_stored w) m) header
      head =
          let at = method_at w m ready.sound method.sound (method_is m method_read) in
          header_at os k (name_of (plain_stored w) m) m.0 header at (counted ∙ ap (λ n. unwrap_or (natural_of_word n) 0) read_header ∙ header_is os (object_of k (name_of (plain_stored w) m)) m.0 at)

      pc_names : Names (plain_stored w) pc (closure_slot k x 1)
      pc_names = slot_names 1 pc (omega arith) pc_read

      pc_count : natural_of_word pc.0 ≡ small_index (closure_slot k x 1)
      pc_count = sym (index_of-ref_of os pc.0 pc_names.sound) ∙ ap small_index pc_names.is

      entry : Entry (object_of k (closure_method k x)) (small_index (closure_slot k x 1))
      entry = entry_there _ _ can.3

      copied_is : copied_words os v.0 n ≡ drop 3 words
      copied_is = ap (λ o. take n (drop 3 (calling.words_there o))) at.there ∙ take_all n (drop 3 words) (omega (arith, copied, count_is, length-drop 3 words))

      values_are : map (ref_of os) (copied_words os v.0 n) ≡ copied_values k x
      values_are = ap (map (ref_of os)) copied_is ∙ sym (drop-map (ref_of os) 3 words) ∙ sym (ap (drop 3) slots_are)

      values_long : length (copied_words os v.0 n) ≡ n
      values_long = ap length copied_is ∙ omega (arith, copied, count_is, length-drop 3 words)

      size_is : block_size k x ≡ context_size header
      size_is = ap (λ y. context_size (obj.header_in (object_of k y))) (sym method.is) ∙ ap context_size (sym head.is)

      stack_fits : args + n ≤ context_size header
      stack_fits = omega (arith, fits.fits, size_is, ap length values_are, length-map (copied_words os v.0 n) (ref_of os), values_long)

      stack_small : args + n < 2 ^ 30
      stack_small = omega (arith, stack_fits, few (header / 2 ^ 17 % 2 == 1))
        where
          few : (b : Bool) → (if b then 56 else 16) ≤ 56
          few true = omega arith
          few false = omega arith

      stackp_count : natural_of_word stackp.0 ≡ Some (args + n)
      stackp_count = ap natural_of_word stackp_is ∙ count_of-small (args + n) stack_small

      pub can_call : CanCall (plain_stored w) k header args n fields
      can_call = record {
        entry = entry.at;
        pc = pc_count ∙ entry.is;
        lies = ap (λ y. lies_in (object_of k y) entry.at) method.is ∙ entry.lies;
        depth = args + n;
        stackp = stackp_count;
        holds = omega arith;
        fits = stack_fits;
        pc_named = pc_names.sound;
        stackp_named = ap (is_reference os) stackp_is ∙ is_reference-small os (pos (args + n)) (small_natural (args + n) stack_small);
        method = method.sound;
        closure = closure_there;
        receiver = (receiver_names receiver receiver_read).sound;
        there = fits.there;
        values = values_long;
        named = subst (AllPass (is_reference os)) (sym copied_is) (All-drop (λ (u : ℕ). is_reference os u ≡ true) 3 words references);
        closed = closure_kind (plain_stored w) k v ready.sound.holds named (evaluated k x args fits.closure).closure;
        births = fits.births;
      }

      pub called_is : called_of k args (called_context (plain_stored w) k header args n fields) ≡ enter_block_of k x args
      unfolding enter_block_of enter_with
      called_is =
          let a = active_is w b ready known in
          let sender : name_of (plain_stored w) b ≡ ref.Obj (active_birth k) = ref_of-object os b.0 (is_object-object_at os b.0 a.0 a.1.there) ∙ ap (λ n. ref.Obj n) (sym a.1.birth) in
          let left : unwrap_or (natural_of_word stackp.0) 0 - (args + n) ≡ 0 = omega (arith, ap (λ (o : Option ℕ). unwrap_or o 0) stackp_count) in
          let stack : called_stack (plain_stored w) k (unwrap_or (natural_of_word stackp.0) 0) args n fields ≡ last_values args (stack_of k) ++ copied_values k x =
          ap₂ (λ us n. last_values args (stack_of k) ++ (us ++ replicate n (nil_of k))) values_are left ∙ ap (λ us. last_values args (stack_of k) ++ us) (append-nil (copied_values k x)) in
          let receives = (receiver_names receiver receiver_read).is in
          let size_back = sym size_is in
          ap (called_of k args) (λ i. record {
            hash = 0;
            sender = sender i;
            pc = pc_count i;
            method = method.is i;
            closure = x;
            receiver = receives i;
            stack = stack i;
            size = size_back i;
          })
