-- Entering a method: its header, and what the new context is.
use Rattle.std.proofs.Common.{◌≡◌, ◌≢◌, ℕ, pos, ◌+◌, ◌*◌, ◌/◌, ◌-◌, ◌%◌, ◌<◌, ◌≤◌, ◌^◌, Bool, true, false, refl, sym, ap, ap₂, subst, ◌∙◌, Option, Some, None, unwrap_or, List, [], ◌∷◌, ◌++◌, length, map, take, drop, replicate, arith}
use Rattle.std.specs.Prelude.{slice_get, ◌==◌, ◌||◌, if◌then◌else◌, nat_le}
use Rattle.std.specs.List.{AllPass}
use Rattle.std.proofs.lemmas.Bool.Decides.{nat_tests}
use Rattle.std.proofs.lemmas.List.{length-map}
use Rattle.cs_word.specs.declared.Oop.{Oop}
use Rattle.cs_word.specs.declared.Kind.{Kind}
use Rattle.cs_word.specs.declared.Kind.TheVariants as kind
use Rattle.cs_word.specs.Word.{kind_of, small_word, natural_of_word}
use Rattle.cs_heap.specs.Object.{Object, slot_count_of, slot_of, base, birth_at, is_object, heap_object}
use Rattle.cs_classes.specs.Meaning.{method_header, literal_words, obj_of, ref_of, ref_of_kind}
use Rattle.cs_classes.specs.Meaning as meaning
use Rattle.cs_classes.specs.Sound.{is_reference, is_reference_kind}
use Rattle.cs_classes.proofs.Heaps.{birth_of-object_at, is_object-object_at, object_there}
use Rattle.cs_classes.proofs.Makings.{is_nil_or_closure-base, nil_is_object, ref_of-nil}
use Rattle.cs_classes.proofs.Refs.{count_of-small, is_reference-small, ref_of-object, small_natural}
use Rattle.cs_classes.proofs.Sorts.{AContext, AMethod, Bytes, Pointers, Sort, obj_of-bytes, obj_of-context, obj_of-method, obj_of-pointers, sort_of}
use Rattle.cs_classes.proofs.Sounds.{sound_at}
use Rattle.cs_model.proofs.Bools.{and_three}
use Rattle.cs_model.specs.Ref.{Ref}
use Rattle.cs_model.specs.Ref as ref
use Rattle.cs_model.specs.Obj.{Ctx, Method, Obj, Ptr, Raw, argument_count, bytecodes_in, context_size, first_pc, has_primitive, is_header, lies_between, lies_in, literal_count, number_in, primitive_number, temporary_count}
use Rattle.cs_model.specs.Obj as obj
use Rattle.cs_model.specs.State as state
use Rattle.cs_model.specs.State.{Kept, object_of}
use Rattle.cs_model.specs.Read.{active_birth, depth_of, stack_of}
use Rattle.cs_model.specs.Operation.{enter_of, enter_with, entry_pc, last_values, receiver_below}
use Rattle.cs_model.specs.Operation as operation
use Rattle.cs_acts.specs.Names.{IsNamed, Names, name_of}
use Rattle.cs_acts.specs.Ready.{IsReady, IsSound}
use Rattle.cs_acts.specs.Targets.{CanEnter}
use Rattle.cs_acts.proofs.Methods.{IsMethodAt, header_is, length-literals, parts, slots_fit}
use Rattle.cs_acts.proofs.Sizes.{pc_small}
use Rattle.cs_plain.specs.declared.Fields.{Fields}
use Rattle.cs_plain.specs.declared.PlainWorld.{PlainWorld}
use Rattle.cs_plain.specs.Calling.{CanCall, called_context, called_of, called_stack, copied_words}
use Rattle.cs_plain.specs.Calling as calling
use Rattle.cs_plain.specs.View.{plain_stored, plain_view}
use Rattle.cs_plain.proofs.Active.{active_is, meaning_there}
use Rattle.cs_plain.proofs.Storing.{kind_address}

-- ---- the method

module _ (w : PlainWorld) (m : Oop) (sound : IsSound (plain_stored w) (plain_view w)) where
  by_sort : (x : Object) → heap_object w.heap.objects m.0 ≡ Some x → Sort x → obj.is_method (Some (obj_of (ref_of w.heap.objects) x)) ≡ true
      → IsMethodAt w.heap.objects (Some (obj_of (ref_of w.heap.objects) x)) m.0
  unfolding meaning.method_meaning
  by_sort x there (AContext c) h = absurd (let e = ap (λ y. obj.is_method (Some y)) (sym (obj_of-context (ref_of w.heap.objects) x c)) ∙ h in cc)
  by_sort x there (Pointers a p) h = absurd (let e = ap (λ y. obj.is_method (Some y)) (sym (obj_of-pointers (ref_of w.heap.objects) x a p)) ∙ h in cc)
  by_sort x there (Bytes a p n) h = absurd (let e = ap (λ y. obj.is_method (Some y)) (sym (obj_of-bytes (ref_of w.heap.objects) x a p n)) ∙ h in cc)
  by_sort x there (AMethod a p n) h = record {
    object = x;
    there = there;
    sound = sound_at w.heap.objects m.0 x sound.holds.whole.heap there;
    format = n;
    means = ap (λ y. Some y) (obj_of-method (ref_of w.heap.objects) x a p n);
  }

  at_address : is_object w.heap.objects m.0 ≡ true → obj.is_method (state.object_at (plain_view w) (birth_at w.heap.objects m.0)) ≡ true
      → IsMethodAt w.heap.objects (state.object_at (plain_view w) (birth_at w.heap.objects m.0)) m.0
  at_address is h =
      let x = object_there w.heap.objects m.0 is in
      let found : state.object_at (plain_view w) (birth_at w.heap.objects m.0) ≡ Some (obj_of (ref_of w.heap.objects) x.0) =
      ap (state.object_at (plain_view w)) (birth_of-object_at w.heap.objects m.0 x.0 x.1) ∙ meaning_there w m.0 x.0 sound.holds.whole x.1 in
      subst (λ o. IsMethodAt w.heap.objects o m.0) (sym found) (by_sort x.0 x.1 (sort_of x.0) (ap obj.is_method (sym found) ∙ h))

  by_kind : (k : Kind) → kind_of m.0 ≡ k → is_reference_kind w.heap.objects k ≡ true → obj.is_method (object_of (plain_view w) (ref_of_kind w.heap.objects k)) ≡ true
      → IsMethodAt w.heap.objects (object_of (plain_view w) (ref_of_kind w.heap.objects k)) m.0
  by_kind (kind.Small z) e n h = absurd (cc)
  by_kind (kind.Character code) e n h = absurd (cc)
  by_kind (kind.Link l) e n h = absurd (cc)
  by_kind (kind.Object a) e n h =
      let is : a ≡ m.0 = kind_address m.0 a e in
      subst (λ b. IsMethodAt w.heap.objects (state.object_at (plain_view w) (birth_at w.heap.objects b)) m.0) (sym is)
      (at_address (subst (λ b. is_object w.heap.objects b ≡ true) is n) (subst (λ b. obj.is_method (state.object_at (plain_view w) (birth_at w.heap.objects b)) ≡ true) is h))

  -- the method that a word names stands in the heap
  pub method_at : IsNamed (plain_stored w) m → obj.is_method (object_of (plain_view w) (name_of (plain_stored w) m)) ≡ true → IsMethodAt w.heap.objects (object_of (plain_view w) (name_of (plain_stored w) m)) m.0
  unfolding ref_of is_reference
  method_at named h = by_kind (kind_of m.0) refl named h

-- the pc at which it is entered lies in it
three_bytes : (header : ℕ) (codes : List ℕ) → primitive_number header codes ≢ None → 3 ≤ length codes
three_bytes header codes h = go (has_primitive header) codes h
  where
    go : (b : Bool) (codes : List ℕ) → (if b then number_in codes else None) ≢ None → 3 ≤ length codes
    go false codes h = absurd (h refl)
    go true [] h = absurd (h refl)
    go true (a ∷ []) h = absurd (h refl)
    go true (a ∷ b ∷ []) h = absurd (h refl)
    go true (a ∷ b ∷ c ∷ codes) h = omega arith

entry_lies : (literals : List Ref) (codes : List ℕ) (header : ℕ) (skip : Bool) → (skip ≡ true → primitive_number header codes ≢ None)
    → lies_between (first_pc literals) (length codes) (first_pc literals + (if skip then 3 else 0)) ≡ true
entry_lies literals codes header skip marked = go skip marked
  where
    within : (first count more : ℕ) → more ≤ count → lies_between first count (first + more) ≡ true
    within first count more h = grind (arith, nat_tests, h)

    go : (b : Bool) → (b ≡ true → primitive_number header codes ≢ None) → lies_between (first_pc literals) (length codes) (first_pc literals + (if b then 3 else 0)) ≡ true
    go false h = within (first_pc literals) (length codes) 0 (omega arith)
    go true h = within (first_pc literals) (length codes) 3 (three_bytes header codes (h refl))

method_lies : (o : Option Obj) (skip : Bool) → obj.is_method o ≡ true → (skip ≡ true → primitive_number (obj.header_in o) (bytecodes_in o) ≢ None) → lies_in o (entry_pc o skip) ≡ true
method_lies None skip h marked = absurd (cc)
method_lies (Some (Ptr head slots)) skip h marked = absurd (cc)
method_lies (Some (Raw head bytes)) skip h marked = absurd (cc)
method_lies (Some (Method head header literals bytecodes)) skip h marked = entry_lies literals bytecodes header skip marked
method_lies (Some (Ctx c)) skip h marked = absurd (cc)

-- what is read of the header
pub record Header (k : Kept) (x : Ref) (header : ℕ) : Type 0 where
  pub is : header ≡ obj.header_in (object_of k x)
  pub first : first_pc (obj.literals_in (object_of k x)) ≡ 4 * (literal_count header + 1) + 1
  pub temporaries : argument_count header ≤ temporary_count header
  pub size : temporary_count header ≤ context_size header
  pub sizes : (context_size header == 16 || context_size header == 56) ≡ true

pub header_at : (os : List Object) (k : Kept) (x : Ref) (m header : ℕ) → (at : IsMethodAt os (object_of k x) m) → header ≡ method_header at.object.words → Header k x header
header_at os k x m header at e =
    let valid = (parts os (object_of k x) m at).valid in
    let both = and_three _ _ _ (ap is_header e ∙ valid) in
    record {
      is = e ∙ sym (ap obj.header_in at.means);
      first = ap (λ o. first_pc (obj.literals_in o)) at.means
          ∙ ap (λ n. 4 * (n + 1) + 1) (length-map (literal_words at.object.words) (ref_of os) ∙ length-literals os (object_of k x) m at ∙ ap literal_count (sym e));
      temporaries = most (argument_count header) (temporary_count header) both.1;
      size = most (temporary_count header) (context_size header) both.2;
      sizes = either (header / 2 ^ 17 % 2 == 1);
    }
  where
    most : (a b : ℕ) → nat_le a b ≡ true → a ≤ b
    most a b h = grind (arith, nat_tests, h)

    either : (b : Bool) → ((if b then 56 else 16) == 16 || (if b then 56 else 16) == 56) ≡ true
    either true = refl
    either false = refl

-- ---- the new context

module _ (w : PlainWorld) (m b : Oop) (args : ℕ) (skip : Bool) (ready : IsReady (plain_stored w) (plain_view w)) (named : IsNamed (plain_stored w) m)
    (fits : CanEnter (plain_view w) (name_of (plain_stored w) m) args skip) (known : w.active ≡ Some b) (word header : ℕ) (read : word ≡ slot_of w.heap.objects m.0 0)
    (counted : header ≡ unwrap_or (natural_of_word word) 0) where
  method : IsMethodAt w.heap.objects (object_of (plain_view w) (name_of (plain_stored w) m)) m.0
  method = method_at w m ready.sound named fits.method

  head : Header (plain_view w) (name_of (plain_stored w) m) header
  head = header_at w.heap.objects (plain_view w) (name_of (plain_stored w) m) m.0 header method
      (counted ∙ ap (λ n. unwrap_or (natural_of_word n) 0) read ∙ header_is w.heap.objects (object_of (plain_view w) (name_of (plain_stored w) m)) m.0 method)

  abbrev entry : ℕ
  entry = 4 * (literal_count header + 1) + 1 + (if skip then 3 else 0)

  entry_is : entry_pc (object_of (plain_view w) (name_of (plain_stored w) m)) skip ≡ entry
  entry_is = ap (λ n. n + (if skip then 3 else 0)) head.first

  lies : lies_in (object_of (plain_view w) (name_of (plain_stored w) m)) entry ≡ true
  lies = ap (lies_in (object_of (plain_view w) (name_of (plain_stored w) m))) (sym entry_is) ∙ method_lies (object_of (plain_view w) (name_of (plain_stored w) m)) skip fits.method fits.marked

  entry_small : entry < 2 ^ 30
  entry_small = omega (arith, pc_small (plain_stored w) (plain_view w) m entry ready.sound.holds named lies)

  temporaries_small : temporary_count header < 2 ^ 30
  temporaries_small = omega arith

  args_few : args ≤ temporary_count header
  args_few = omega (arith, head.temporaries, ap argument_count head.is, fits.count)

  -- the fields that the code writes

  module _ (entry_pc temporaries depth : ℕ) (pc stackp receiver : Oop) (deep : depth ≡ depth_of (plain_view w)) (entry_read : entry_pc ≡ entry) (pc_is : pc.0 ≡ small_word (pos entry_pc))
      (temporaries_read : temporaries ≡ temporary_count header) (stackp_is : stackp.0 ≡ small_word (pos temporaries))
      (names : Names (plain_stored w) receiver (unwrap_or (slice_get (stack_of (plain_view w)) (depth - (args + 1))) (operation.nil_of (plain_view w)))) where
    abbrev fields : Fields
    fields = record { sender = b; pc = pc; stackp = stackp; method = m; closure = record { 0 = base }; receiver = receiver }

    pc_word : pc.0 ≡ small_word (pos entry)
    pc_word = pc_is ∙ ap (λ n. small_word (pos n)) entry_read

    stackp_word : stackp.0 ≡ small_word (pos (temporary_count header))
    stackp_word = stackp_is ∙ ap (λ n. small_word (pos n)) temporaries_read

    pc_count : natural_of_word pc.0 ≡ Some entry
    pc_count = ap natural_of_word pc_word ∙ count_of-small entry entry_small

    stackp_count : natural_of_word stackp.0 ≡ Some (temporary_count header)
    stackp_count = ap natural_of_word stackp_word ∙ count_of-small (temporary_count header) temporaries_small

    nothing : copied_words w.heap.objects base 0 ≡ []
    nothing = none (drop 3 (calling.words_there (heap_object w.heap.objects base)))
      where
        none : (ws : List ℕ) → take 0 ws ≡ []
        none [] = refl
        none (a ∷ ws) = refl

    pub can_call : CanCall (plain_stored w) (plain_view w) header args 0 fields
    can_call = record {
      entry = entry;
      pc = pc_count;
      lies = lies;
      depth = temporary_count header;
      stackp = stackp_count;
      holds = omega (arith, args_few);
      fits = head.size;
      pc_named = ap (is_reference w.heap.objects) pc_word ∙ is_reference-small w.heap.objects (pos entry) (small_natural entry entry_small);
      stackp_named = ap (is_reference w.heap.objects) stackp_word ∙ is_reference-small w.heap.objects (pos (temporary_count header)) (small_natural (temporary_count header) temporaries_small);
      method = named;
      closure = nil_is_object w.heap.objects w.classes w.roots ready.sound.holds.whole;
      receiver = names.sound;
      there = fits.there;
      values = ap length nothing;
      named = subst (AllPass (is_reference w.heap.objects)) (sym nothing) (λ k d l. absurd (omega (arith, l)));
      closed = is_nil_or_closure-base w.heap.objects w.classes w.roots ready.sound.holds.whole;
      births = fits.births;
    }

    pub called_is : called_of (plain_view w) args (called_context (plain_stored w) (plain_view w) header args 0 fields) ≡ enter_of (plain_view w) (name_of (plain_stored w) m) args skip
    unfolding enter_of enter_with
    called_is =
        let k = plain_view w in
        let a = active_is w b ready known in
        let sender : name_of (plain_stored w) b ≡ ref.Obj (active_birth k) = ref_of-object w.heap.objects b.0 (is_object-object_at w.heap.objects b.0 a.0 a.1.there) ∙ ap (λ n. ref.Obj n) (sym a.1.birth) in
        let entered : natural_of_word pc.0 ≡ Some (operation.entry_pc (object_of k (name_of (plain_stored w) m)) skip) = pc_count ∙ ap (λ n. Some n) (sym entry_is) in
        let closure : ref_of w.heap.objects base ≡ operation.nil_of k = ref_of-nil w.heap.objects w.classes w.roots ready.sound.holds.whole in
        let receives : name_of (plain_stored w) receiver ≡ receiver_below args (operation.nil_of k) (stack_of k) = names.is ∙ ap (λ n. unwrap_or (slice_get (stack_of k) (n - (args + 1))) (operation.nil_of k)) deep in
        let none : map (ref_of w.heap.objects) (copied_words w.heap.objects base 0) ≡ [] = ap (map (ref_of w.heap.objects)) nothing in
        let count : unwrap_or (natural_of_word stackp.0) 0 ≡ temporary_count (obj.header_in (object_of k (name_of (plain_stored w) m))) = ap (λ o. unwrap_or o 0) stackp_count ∙ ap temporary_count head.is in
        let left : unwrap_or (natural_of_word stackp.0) 0 - (args + 0) ≡ temporary_count (obj.header_in (object_of k (name_of (plain_stored w) m))) - args = omega (arith, count) in
        let stack : called_stack (plain_stored w) k (unwrap_or (natural_of_word stackp.0) 0) args 0 fields
        ≡ last_values args (stack_of k) ++ replicate (temporary_count (obj.header_in (object_of k (name_of (plain_stored w) m))) - args) (operation.nil_of k) =
        ap₂ (λ us n. last_values args (stack_of k) ++ (us ++ replicate n (operation.nil_of k))) none left in
        ap (called_of k args) (λ i. record {
          hash = 0;
          sender = sender i;
          pc = entered i;
          method = name_of (plain_stored w) m;
          closure = closure i;
          receiver = receives i;
          stack = stack i;
          size = context_size (head.is i);
        })

-- the method's header has a slot
pub header_there : (w : PlainWorld) (m : Oop) → IsSound (plain_stored w) (plain_view w) → IsNamed (plain_stored w) m → obj.is_method (object_of (plain_view w) (name_of (plain_stored w) m)) ≡ true → 0 < slot_count_of w.heap.objects m.0
header_there w m sound named is = omega (arith, slots_fit w.heap.objects (object_of (plain_view w) (name_of (plain_stored w) m)) m.0 (method_at w m sound named is))
