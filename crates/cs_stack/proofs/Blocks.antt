-- The frame of a block is a new frame, and its context is that of the model.
use Rattle.std.proofs.Common.{◌≡◌, ◌≢◌, ℕ, ◌+◌, ◌-◌, ◌<◌, ◌≤◌, Bool, true, false, refl, sym, ap, ap₂, subst, ◌∙◌, arith, Some, is_some, List, ◌++◌, length, length-drop, unwrap_or, option_map}
use Rattle.std.specs.Prelude.{nat_le, slice_get, slice_index}
use Rattle.std.specs.Option.{option_map_or}
use Rattle.std.proofs.lemmas.Bool.Decides.{nat_tests}
use Rattle.std.proofs.lemmas.List.{length-map, take_all}
use Rattle.std.proofs.lemmas.Bool.{or_right}
use Rattle.std.proofs.lemmas.Option.{slice_get-get_or, slice_get-map}
use Rattle.cs_word.specs.declared.Kind.{Kind}
use Rattle.cs_word.specs.declared.Kind.TheVariants as kind
use Rattle.cs_word.specs.declared.Oop.{Oop}
use Rattle.cs_word.specs.Word.{kind_of, natural_by_kind, natural_of_word}
use Rattle.cs_heap.specs.Object.{Object, birth_at, class_at, is_object, slot_count_of, slot_of}
use Rattle.cs_model.proofs.Bools.{and_five}
use Rattle.cs_classes.specs.Meaning.{context_of, objects_of, ref_of, ref_of_kind}
use Rattle.cs_classes.specs.Sound.{is_reference, is_reference_kind}
use Rattle.cs_classes.proofs.Heaps.{birth_of-object_at, is_object-object_at}
use Rattle.cs_classes.proofs.Refs.{ref_of-object}
use Rattle.cs_classes.proofs.Sounds.{IsWholeContext, sound_at, whole_context}
use Rattle.cs_frame.specs.declared.NewFrame.{NewFrame}
use Rattle.cs_frame.specs.Frame.{nil}
use Rattle.cs_marriage.specs.Agree.{AreMarried}
use Rattle.cs_model.specs.Ref.{Ref, small_index}
use Rattle.cs_model.specs.Ref as ref
use Rattle.cs_model.specs.Obj.{Context, context_in, context_size, header_in, is_method}
use Rattle.cs_model.specs.State.{Kept, is_nil, object_of}
use Rattle.cs_model.specs.Context.{closure_class, has_class_index, lies_if_index}
use Rattle.cs_model.specs.Enter.{block_context, can_evaluate, closure_method, closure_slot, closure_slots, copied_values, enter_block_of, method_in_context, outer_context, receiver_in_context}
use Rattle.cs_model.specs.Read.{active_context, stack_of}
use Rattle.cs_model.specs.Operation.{enter_with, last_values, nil_of}
use Rattle.cs_acts.specs.Names.{IsNamed, name_of}
use Rattle.cs_acts.specs.Ready.{IsReady}
use Rattle.cs_acts.specs.Targets.{CanEnterBlock}
use Rattle.cs_acts.proofs.ContextKinds.{evaluated}
use Rattle.cs_stack.specs.declared.parts.Parts.{Parts}
use Rattle.cs_stack.specs.View.{bare, frame_context, is_married, stored_of, unframed, view_of}
use Rattle.cs_stack.specs.Good.{IsGood}
use Rattle.cs_stack.specs.Moved.{begun_context, begun_state}
use Rattle.cs_stack.proofs.Framed.{all_fit, onto_frame}
use Rattle.cs_stack.proofs.Places.{married_on}
use Rattle.cs_stack.proofs.Acts.{HasBody, context_there, kept_word, married_body}
use Rattle.cs_stack.proofs.Spouses.{Named, context_known, context_stands, names_context}
use Rattle.cs_stack.proofs.Copies.{HasSlots, closure_there, count_is, slot_named}
use Rattle.cs_stack.proofs.Methods.{Begins}

-- a word and its reference are the same index
index_word : (os : List Object) (v : ℕ) → is_reference os v ≡ true → small_index (ref_of os v) ≡ natural_of_word v
unfolding ref_of natural_of_word is_reference
index_word os v named = by_kind (kind_of v) named
  where
    by_kind : (n : Kind) → is_reference_kind os n ≡ true → small_index (ref_of_kind os n) ≡ natural_by_kind n
    by_kind (kind.Small value) h = refl
    by_kind (kind.Character code) h = refl
    by_kind (kind.Object address) h = refl
    by_kind (kind.Link word) h = absurd (cc)

-- ---- method and receiver of a context, which its words keep while it has a frame, and behind that

-- what the words of the context at an address say
pub record Outer (w : Parts) (a : ℕ) : Type 0 where
  pub context : Context
  pub found : context_in (object_of (view_of w) (ref_of w.heap.objects a)) ≡ Some context
  pub method : ref_of w.heap.objects (slot_of w.heap.objects a 3) ≡ context.method
  pub receiver : ref_of w.heap.objects (slot_of w.heap.objects a 5) ≡ context.receiver
  pub method_named : is_reference w.heap.objects (slot_of w.heap.objects a 3) ≡ true
  pub receiver_named : is_reference w.heap.objects (slot_of w.heap.objects a 5) ≡ true
  pub fields : 6 ≤ slot_count_of w.heap.objects a

pub outer_read : (w : Parts) → IsGood w → (a : Oop) → IsNamed (stored_of w) a → is_some (context_in (object_of (view_of w) (name_of (stored_of w) a))) ≡ true → Outer w a.0
unfolding frame_context context_of
outer_read w good a named some = go (is_married a.0 w.frames) refl
  where
    os : List Object
    os = w.heap.objects

    n : Named w good a named
    n = names_context w good a named (sym (context_known w good a named) ∙ some)

    whole : IsWholeContext os n.x
    whole = whole_context os n.x (sound_at os a.0 n.x good.whole.heap n.there) n.context

    there : is_object os a.0 ≡ true
    there = is_object-object_at os a.0 n.x n.there

    name_is : ref_of os a.0 ≡ ref.Obj (birth_at os a.0)
    name_is = ref_of-object os a.0 there

    slot_is : (i : ℕ) → slot_of os a.0 i ≡ slice_index n.x.words i
    slot_is i = ap (λ p. option_map_or (λ (x : Object). slice_index x.words i) p 0) n.there

    field_named : (i : ℕ) → 0 < i → i < 6 → is_reference os (slot_of os a.0 i) ≡ true
    field_named i some l = ap (is_reference os) (slot_is i) ∙ whole.references i some (omega (arith, l, whole.fields))

    counted : slot_count_of os a.0 ≡ length n.x.words
    counted = ap (λ p. option_map_or (λ (x : Object). length x.words) p 0) n.there

    read : (c : Context) → context_in (object_of (view_of w) (ref_of os a.0)) ≡ Some c → ref_of os (slot_of os a.0 3) ≡ c.method → ref_of os (slot_of os a.0 5) ≡ c.receiver → Outer w a.0
    read c found method receiver = record {
      context = c;
      found = found;
      method = method;
      receiver = receiver;
      method_named = field_named 3 (omega arith) (omega arith);
      receiver_named = field_named 5 (omega arith) (omega arith);
      fields = omega (arith, counted, whole.fields);
    }

    framed : HasBody a.0 w.frames → Outer w a.0
    framed b =
        let apart : b.f.context ≢ nil = λ e. good.agree.nil_class (ap (class_at os) (sym (sym b.is ∙ e)) ∙ (context_stands w good a named (sym (context_known w good a named) ∙ some)).class) in
        let m : AreMarried os (record { page = b.p; at = b.f.at }) b.f = married_on w good b.p b.on apart in
        let found = onto_frame os w.roots.next_birth w.frames (objects_of (bare os)) b.p (all_fit w good) b.on in
        let birth : birth_at os a.0 ≡ b.f.birth = ap (birth_at os) (sym b.is) ∙ m.birth in
        read (frame_context os b.f b.gs)
        (ap (λ r. context_in (object_of (view_of w) r)) (name_is ∙ ap (λ i. ref.Obj i) birth) ∙ ap context_in found)
        (ap (λ c. ref_of os (slot_of os c 3)) (sym b.is) ∙ ap (ref_of os) m.method)
        (ap (λ c. ref_of os (slot_of os c 5)) (sym b.is) ∙ ap (ref_of os) m.receiver)

    go : (b : Bool) → is_married a.0 w.frames ≡ b → Outer w a.0
    go true e = framed (married_body a.0 w.frames e)
    go false e =
        let c = context_there w a.0 n.x good n.there n.context e in
        let birth : birth_at os a.0 ≡ c.x.birth = birth_of-object_at os a.0 c.x c.there in
        read (context_of (ref_of os) (unframed c.x).hash (unframed c.x).words)
        (ap (λ r. context_in (object_of (view_of w) r)) (name_is ∙ ap (λ i. ref.Obj i) birth) ∙ ap context_in c.found)
        (ap (ref_of os) (kept_word c 3 (slot_of os a.0 3) (omega arith) refl))
        (ap (ref_of os) (kept_word c 5 (slot_of os a.0 5) (omega arith) refl))

-- ---- the closure

-- what can be evaluated
record Evaluates (k : Kept) (x : Ref) : Type 0 where
  slots : 3 ≤ length (closure_slots (object_of k x))
  outer : is_some (outer_context k x) ≡ true
  method : is_method (object_of k (closure_method k x)) ≡ true
  lies : lies_if_index (object_of k (closure_method k x)) (small_index (closure_slot k x 1)) ≡ true

less : (a b : ℕ) → nat_le a b ≡ true → a ≤ b
less a b h = grind (arith, nat_tests, h)

evaluates : (k : Kept) (x : Ref) (args : ℕ) → can_evaluate k x args ≡ true → Evaluates k x
unfolding can_evaluate
evaluates k x args h = let all = and_five _ _ _ _ _ h in record { slots = less 3 _ all.0; outer = all.1; method = all.2; lies = all.3 }

module _ {w : Parts} (good : IsGood w) (ready : IsReady (stored_of w) (view_of w)) (closure : Oop) (args : ℕ)
    (named : IsNamed (stored_of w) closure) (can : CanEnterBlock (view_of w) (name_of (stored_of w) closure) args) where
  abbrev os : List Object
  os = w.heap.objects

  abbrev k : Kept
  k = view_of w

  abbrev x : Ref
  x = name_of (stored_of w) closure

  e : Evaluates k x
  e = evaluates k x args can.closure

  h : HasSlots os (closure_slots (object_of k x)) closure.0
  h = closure_there (stored_of w) k closure ready.sound.holds named (omega (arith, e.slots))

  pub closure_object : is_object os closure.0 ≡ true
  closure_object = is_object-object_at os closure.0 h.object h.there

  pub closure_fields : 3 ≤ slot_count_of os closure.0
  closure_fields = omega (arith, count_is h, e.slots)

  slot_reads : (i : ℕ) → i < 3 → ref_of os (slot_of os closure.0 i) ≡ closure_slot k x i
  slot_reads i l =
      let words : List ℕ = h.object.words in
      let count : length words ≡ length (closure_slots (object_of k x)) = sym (ap length h.are ∙ length-map words (ref_of os)) in
      let got : slice_get words i ≡ Some (slice_index words i) = slice_get-get_or words i 0 (omega (arith, l, count, e.slots)) in
      ap (λ p. ref_of os (option_map_or (λ (y : Object). slice_index y.words i) p 0)) h.there
      ∙ sym (ap (λ (xs : List Ref). unwrap_or (slice_get xs i) (nil_of k)) h.are
      ∙ ap (λ y. unwrap_or y (nil_of k)) (slice_get-map (ref_of os) words i ∙ ap (option_map (ref_of os)) got))

  field_named : (i : ℕ) → i < 3 → is_reference os (slot_of os closure.0 i) ≡ true
  field_named i l = slot_named h i (omega (arith, l, e.slots))

  module _ (outer : Oop) (outer_is : outer.0 ≡ slot_of os closure.0 0) where
    name_is : name_of (stored_of w) outer ≡ closure_slot k x 0
    name_is = ap (ref_of os) outer_is ∙ slot_reads 0 (omega arith)

    same_outer : context_in (object_of k (name_of (stored_of w) outer)) ≡ outer_context k x
    unfolding outer_context
    same_outer = ap (λ r. context_in (object_of k r)) name_is

    pub outer_there : Outer w outer.0
    outer_there = outer_read w good outer (ap (is_reference os) outer_is ∙ field_named 0 (omega arith)) (ap is_some same_outer ∙ e.outer)

    outer_is_there : outer_context k x ≡ Some outer_there.context
    outer_is_there = sym same_outer ∙ outer_there.found

    module _ (method receiver pc : Oop) (copies : ℕ) (method_word : method.0 ≡ slot_of os outer.0 3) (receiver_word : receiver.0 ≡ slot_of os outer.0 5)
        (pc_word : pc.0 ≡ slot_of os closure.0 1) (counted : copies ≡ slot_count_of os closure.0 - 3) where
      abbrev new : NewFrame
      new = record { method = method; closure = closure; receiver = receiver; birth = w.roots.next_birth; args = args; fill = 0 }

      method_is : name_of (stored_of w) method ≡ closure_method k x
      method_is = ap (ref_of os) method_word ∙ outer_there.method ∙ sym (ap (method_in_context (nil_of k)) outer_is_there)

      receiver_is : name_of (stored_of w) receiver ≡ receiver_in_context (nil_of k) (outer_context k x)
      receiver_is = ap (ref_of os) receiver_word ∙ outer_there.receiver ∙ sym (ap (receiver_in_context (nil_of k)) outer_is_there)

      pc_is : natural_of_word pc.0 ≡ small_index (closure_slot k x 1)
      pc_is = sym (index_word os pc.0 (ap (is_reference os) pc_word ∙ field_named 1 (omega arith))) ∙ ap small_index (ap (ref_of os) pc_word ∙ slot_reads 1 (omega arith))

      all : copies ≡ length (copied_values k x)
      all = omega (arith, counted, count_is h, length-drop 3 (closure_slots (object_of k x)))

      same_context : begun_context (stored_of w) k new pc copies ≡ block_context k x args (active_context k)
      same_context = λ i. record {
        hash = 0;
        sender = (block_context k x args (active_context k)).sender;
        pc = pc_is i;
        method = method_is i;
        closure = x;
        receiver = receiver_is i;
        stack = last_values args (stack_of k) ++ take_all copies (copied_values k x) (omega (arith, all)) i;
        size = context_size (header_in (object_of k (method_is i)));
      }

      same_state : begun_state (stored_of w) k new pc copies ≡ enter_block_of k x args
      unfolding enter_block_of enter_with
      same_state = ap (λ c. enter_with k args (λ _. c)) same_context

      pub block_begins : Begins w new pc copies (enter_block_of (view_of w) (name_of (stored_of w) closure) args)
      block_begins = record {
        can = record {
          method = ap (is_reference os) method_word ∙ outer_there.method_named;
          closure = named;
          kind = or_right (is_nil k x) (has_class_index closure_class (object_of k x)) (evaluated k x args can.closure).closure;
          receiver = ap (is_reference os) receiver_word ∙ outer_there.receiver_named;
          code = ap (λ r. is_method (object_of k r)) method_is ∙ e.method;
          lies = ap₂ (λ r p. lies_if_index (object_of k r) p) method_is pc_is ∙ e.lies;
          copied = omega (arith, all);
          there = can.there;
          fits = subst (λ r. args + (0 + copies) ≤ context_size (header_in (object_of k r))) (sym method_is) (omega (arith, all, can.fits));
          birth = refl;
          births = can.births;
        };
        state = same_state;
      }
