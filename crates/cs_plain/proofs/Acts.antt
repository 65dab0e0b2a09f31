-- What is read of a context by its address.
use Rattle.std.proofs.Common.{IsSome, IfSome, ◌≡◌, ℕ, ◌+◌, ◌-◌, ◌<◌, ◌≤◌, drop, get_or, length-drop, length-take, map, option_map, take, Bool, true, false, refl, sym, ap, ap₂, subst, ◌∙◌, Option, Some, None, is_some, unwrap_or, List, length, option_and_then, arith}
use Rattle.std.specs.Prelude.{◌==◌, ◌&&◌, if◌then◌else◌, not, nat_le, nat_lt, slice_get, slice_index}
use Rattle.std.specs.Option.{option_map_or}
use Rattle.std.proofs.lemmas.Bool.Decides.{nat_tests}
use Rattle.std.proofs.lemmas.List.{get_or-drop, get_or-take}
use Rattle.std.proofs.lemmas.Option.{slice_get-get_or, slice_get-map}
use Rattle.cs_word.specs.declared.Oop.{Oop}
use Rattle.cs_word.specs.declared.Kind.{Kind}
use Rattle.cs_word.specs.declared.Kind.TheVariants as kind
use Rattle.cs_word.specs.Word.{kind_of, natural_of_word}
use Rattle.cs_heap.specs.Object.{Object, birth_at, class_at, object_place, is_object, heap_object, slot_count_of, slot_of}
use Rattle.cs_classes.specs.Meaning.{context_of, depth_in, is_heap_context, obj_of, ref_of, ref_of_kind}
use Rattle.cs_classes.specs.Sound.{is_reference, is_reference_kind}
use Rattle.cs_classes.proofs.Contexts.{depth_is}
use Rattle.cs_classes.proofs.Heaps.{birth_of-object_at, object_there}
use Rattle.cs_classes.proofs.Sorts.{obj_of-context}
use Rattle.cs_classes.proofs.Sounds.{IsWholeContext, sound_at, whole_context}
use Rattle.cs_model.specs.Ref.{Ref}
use Rattle.cs_model.specs.Ref as ref
use Rattle.cs_model.specs.Obj.{Context, Ctx, Obj, context_class, context_in}
use Rattle.cs_model.specs.Obj as obj
use Rattle.cs_model.specs.State as state
use Rattle.cs_model.specs.State.{Kept, object_of}
use Rattle.cs_model.specs.Operation.{nil_of}
use Rattle.cs_model.specs.Return.{closure_at, closure_in, context_birth, has_room, is_live, sender_birth}
use Rattle.cs_acts.specs.Names.{Names, name_of}
use Rattle.cs_acts.specs.Reading.{is_context_word, object_of_kind}
use Rattle.cs_acts.specs.Ready.{IsSound}
use Rattle.cs_acts.specs.Targets.{method_in, pc_in, stack_in}
use Rattle.cs_acts.specs.Layout.{depth_if}
use Rattle.cs_acts.proofs.Named.{Nowhere, Place, There, place}
use Rattle.cs_plain.specs.declared.PlainWorld.{PlainWorld}
use Rattle.cs_plain.specs.View.{oop_birth, plain_birth, plain_stored, plain_view}
use Rattle.cs_plain.proofs.Active as active
use Rattle.cs_plain.proofs.Active.{meaning_there}
use Rattle.cs_plain.proofs.Slots.{slots_at_most}
use Rattle.cs_plain.proofs.Storing.{kind_address, no_context}

-- the context at an address is the object x of the heap
pub record ContextAt (w : PlainWorld) (a : Oop) (x : Object) : Type 0 where
  pub there : heap_object w.heap.objects a.0 ≡ Some x
  pub context : is_heap_context x ≡ true
  pub birth : oop_birth w.heap.objects a ≡ Some x.birth
  pub means : state.object_at (plain_view w) x.birth ≡ Some (Ctx (context_of (ref_of w.heap.objects) x.hash x.words))
  pub whole : IsWholeContext w.heap.objects x
  pub named : (i : ℕ) → i < length x.words → is_reference w.heap.objects (slice_index x.words i) ≡ true
  pub count : slot_count_of w.heap.objects a.0 ≡ length x.words
  pub slot : (i : ℕ) → slot_of w.heap.objects a.0 i ≡ slice_index x.words i

pub context_at : (w : PlainWorld) (a : Oop) → IsSound (plain_stored w) (plain_view w) → IsSome (oop_birth w.heap.objects a) → (x : Object) × ContextAt w a x
context_at w a sound some = go (heap_object w.heap.objects a.0) refl some
  where
    is : (x : Object) (c : Bool) → is_heap_context x ≡ c → heap_object w.heap.objects a.0 ≡ Some x → IsSome (if c then Some x.birth else None) → (x : Object) × ContextAt w a x
    is x false o e s = absurd (cc)
    is x true o e s = (
      x,
      record {
        there = e;
        context = o;
        birth = ap plain_birth e ∙ ap (λ c. if c then Some x.birth else None) o;
        means = meaning_there w a.0 x sound.holds.whole e ∙ ap (λ y. Some y) (obj_of-context (ref_of w.heap.objects) x o);
        whole = whole_context w.heap.objects x (sound_at w.heap.objects a.0 x sound.holds.whole.heap e) o;
        named = active.word_named w a.0 x sound e o;
        count = ap (λ (y : Option Object). option_map_or (λ (z : Object). length z.words) y 0) e;
        slot = λ i. ap (λ (y : Option Object). option_map_or (λ (z : Object). slice_index z.words i) y 0) e;
      },
    )

    go : (y : Option Object) → heap_object w.heap.objects a.0 ≡ y → IsSome (plain_birth y) → (x : Object) × ContextAt w a x
    go None e s = absurd (cc)
    go (Some x) e s = is x (is_heap_context x) refl e s

-- the slots of the fields are there
pub field_within : (w : PlainWorld) (a : Oop) (i : ℕ) → IsSound (plain_stored w) (plain_view w) → IsSome (oop_birth w.heap.objects a) → i < 6 → i < slot_count_of w.heap.objects a.0
field_within w a i sound some few = let x = context_at w a sound some in omega (arith, x.1.whole.fields, x.1.count, few)

module _ {w : PlainWorld} {a : Oop} {x : Object} (sound : IsSound (plain_stored w) (plain_view w)) (at : ContextAt w a x) where
  abbrev context : Context
  context = context_of (ref_of w.heap.objects) x.hash x.words

  -- what is said of the context holds of the birth that the act stands for
  pub of_birth : (P : ℕ → Type 0) → P x.birth → IfSome (oop_birth w.heap.objects a) P
  of_birth P h = subst (λ o. IfSome o P) (sym at.birth) h

  -- and the other way round
  pub at_birth : (P : ℕ → Type 0) → IfSome (oop_birth w.heap.objects a) P → P x.birth
  at_birth P h = subst (λ o. IfSome o P) at.birth h

  pub few_words : length x.words ≤ 62
  few_words = slots_at_most (length x.words) ((sound_at w.heap.objects a.0 x sound.holds.whole.heap at.there).context at.context).slots

  pub context_is : context_in (state.object_at (plain_view w) x.birth) ≡ Some context
  context_is = ap context_in at.means

  pub word_named : (v : Oop) (i : ℕ) (y : Ref) → i < 6 → v.0 ≡ slot_of w.heap.objects a.0 i → ref_of w.heap.objects (slice_index x.words i) ≡ y → Names (plain_stored w) v y
  word_named v i y few read is =
      let word : v.0 ≡ slice_index x.words i = read ∙ at.slot i in
      record {
        sound = ap (is_reference w.heap.objects) word ∙ at.named i (omega (arith, at.whole.fields, few));
        is = ap (ref_of w.heap.objects) word ∙ is;
      }

  pub closure_read : (v : Oop) → v.0 ≡ slot_of w.heap.objects a.0 4 → Names (plain_stored w) v (closure_at (plain_view w) x.birth)
  unfolding context_of
  closure_read v read = word_named v 4 _ (omega arith) read (sym (ap (closure_in (nil_of (plain_view w))) context_is))

  pub method_read : (v : Oop) → v.0 ≡ slot_of w.heap.objects a.0 3 → Names (plain_stored w) v (method_in (nil_of (plain_view w)) (context_in (state.object_at (plain_view w) x.birth)))
  unfolding context_of
  method_read v read = word_named v 3 _ (omega arith) read (sym (ap (method_in (nil_of (plain_view w))) context_is))

  pub live_read : is_some (natural_of_word (slot_of w.heap.objects a.0 1)) ≡ is_live (plain_view w) x.birth
  unfolding context_of
  live_read = ap (λ n. is_some (natural_of_word n)) (at.slot 1) ∙ sym (ap (λ o. is_some (option_and_then (λ (c : Context). c.pc) o)) context_is)

  depth_read : unwrap_or (natural_of_word (slot_of w.heap.objects a.0 2)) 0 ≡ length context.stack
  depth_read = ap (λ n. unwrap_or (natural_of_word n) 0) (at.slot 2) ∙ sym (depth_is (ref_of w.heap.objects) x.hash x.words at.whole.depth)

  pub full_read : (d n : ℕ) → d ≡ unwrap_or (natural_of_word (slot_of w.heap.objects a.0 2)) 0 → n ≡ slot_count_of w.heap.objects a.0
      → not (nat_le (n - 6) d) ≡ has_room (context_in (state.object_at (plain_view w) x.birth))
  unfolding context_of
  full_read d n deep long =
      ap₂ (λ (l m : ℕ). not (nat_le (m - 6) l)) (deep ∙ depth_read) (long ∙ at.count) ∙ below (length context.stack) (length x.words - 6) ∙ sym (ap has_room context_is)
    where
      below : (d n : ℕ) → not (nat_le n d) ≡ nat_lt d n
      below d n = grind (arith, nat_tests)

  pub pc_read : natural_of_word (slot_of w.heap.objects a.0 1) ≡ pc_in (context_in (state.object_at (plain_view w) x.birth))
  unfolding context_of
  pc_read = ap natural_of_word (at.slot 1) ∙ sym (ap pc_in context_is)

  pub depth_told : unwrap_or (natural_of_word (slot_of w.heap.objects a.0 2)) 0 ≡ depth_if (context_in (state.object_at (plain_view w) x.birth))
  depth_told = depth_read ∙ sym (ap depth_if context_is)

  -- a value of the stack is a word behind the fields
  pub stack_within : (i : ℕ) → i < depth_if (context_in (state.object_at (plain_view w) x.birth)) → 6 + i < length x.words
  stack_within i less =
      let deep : depth_in x.words ≡ length context.stack = ap (λ n. unwrap_or (natural_of_word n) 0) (sym (at.slot 2)) ∙ depth_read in
      omega (arith, less, ap depth_if context_is, deep, at.whole.depth, at.whole.fields)

  pub stack_read : (v : Oop) (i : ℕ) (d : Ref) → i < depth_if (context_in (state.object_at (plain_view w) x.birth)) → v.0 ≡ slot_of w.heap.objects a.0 (6 + i)
      → Names (plain_stored w) v (unwrap_or (slice_get (stack_in (context_in (state.object_at (plain_view w) x.birth))) i) d)
  unfolding context_of
  stack_read v i d less read =
      let words : List ℕ = take (depth_in x.words) (drop 6 x.words) in
      let word : v.0 ≡ slice_index x.words (6 + i) = read ∙ at.slot (6 + i) in
      let deep : depth_in x.words ≡ length context.stack = ap (λ n. unwrap_or (natural_of_word n) 0) (sym (at.slot 2)) ∙ depth_read in
      let low : i < depth_in x.words = omega (arith, less, ap depth_if context_is, deep) in
      let few : i < length words = omega (arith, low, at.whole.depth, length-take (depth_in x.words) (drop 6 x.words), length-drop 6 x.words) in
      let value : get_or words i 0 ≡ slice_index x.words (6 + i) = get_or-take (depth_in x.words) (drop 6 x.words) i 0 low ∙ get_or-drop 6 x.words i 0 in
      record {
        sound = ap (is_reference w.heap.objects) word ∙ at.named (6 + i) (stack_within i less);
        is = ap (ref_of w.heap.objects) word
            ∙ sym (ap (λ o. unwrap_or (slice_get (stack_in o) i) d) context_is
            ∙ ap (λ o. unwrap_or o d) (slice_get-map (ref_of w.heap.objects) words i ∙ ap (option_map (ref_of w.heap.objects)) (slice_get-get_or words i 0 few ∙ ap (λ n. Some n) value)));
      }

-- ---- senders

-- a word is the address of a context where it names one
pub context_named : (w : PlainWorld) (v : Oop) → IsSound (plain_stored w) (plain_view w) → is_reference w.heap.objects v.0 ≡ true
    → oop_birth w.heap.objects v ≡ context_birth (plain_view w) (name_of (plain_stored w) v)
unfolding ref_of is_reference
context_named w v sound named = go (kind_of v.0) refl named
  where
    gone : (k : Option ℕ) → is_some k ≡ false → option_and_then (slice_get w.heap.objects) k ≡ None
    gone None e = refl
    gone (Some j) e = absurd (cc)

    no_object : (k : Kind) → kind_of v.0 ≡ k → object_of_kind w.heap.objects k ≡ None → Place w.heap.objects v.0 → heap_object w.heap.objects v.0 ≡ None
    no_object k e none (There x said at is) = absurd (let said_none = ap (object_of_kind w.heap.objects) e ∙ none in cc)
    no_object k e none (Nowhere said is) = gone (object_place w.heap.objects v.0) is

    none_in : (o : Obj) → obj.is_context o ≡ false → context_in (Some o) ≡ None
    none_in (obj.Ptr head slots) e = refl
    none_in (obj.Raw head bytes) e = refl
    none_in (obj.Method head header literals bytecodes) e = refl
    none_in (Ctx c) e = absurd (cc)

    by_class : (x : Object) (c : Bool) → is_heap_context x ≡ c → plain_birth (Some x) ≡ option_and_then (λ d. Some x.birth) (context_in (Some (obj_of (ref_of w.heap.objects) x)))
    by_class x true e = ap (λ c. if c then Some x.birth else None) e ∙ sym (ap (λ o. option_and_then (λ d. Some x.birth) (context_in (Some o))) (obj_of-context (ref_of w.heap.objects) x e))
    by_class x false e = ap (λ c. if c then Some x.birth else None) e ∙ sym (ap (option_and_then (λ d. Some x.birth)) (none_in (obj_of (ref_of w.heap.objects) x) (no_context (ref_of w.heap.objects) x e)))

    at_address : is_object w.heap.objects v.0 ≡ true → oop_birth w.heap.objects v ≡ context_birth (plain_view w) (ref.Obj (birth_at w.heap.objects v.0))
    at_address is =
        let x = object_there w.heap.objects v.0 is in
        let birth = birth_of-object_at w.heap.objects v.0 x.0 x.1 in
        ap plain_birth x.1 ∙ by_class x.0 (is_heap_context x.0) refl
        ∙ ap (λ o. option_and_then (λ d. Some x.0.birth) (context_in o)) (sym (meaning_there w v.0 x.0 sound.holds.whole x.1))
        ∙ ap (λ n. context_birth (plain_view w) (ref.Obj n)) (sym birth)

    go : (k : Kind) → kind_of v.0 ≡ k → is_reference_kind w.heap.objects k ≡ true → oop_birth w.heap.objects v ≡ context_birth (plain_view w) (ref_of_kind w.heap.objects k)
    go (kind.Small z) e n = ap plain_birth (no_object (kind.Small z) e refl (place w.heap.objects v.0))
    go (kind.Character code) e n = ap plain_birth (no_object (kind.Character code) e refl (place w.heap.objects v.0))
    go (kind.Link l) e n = absurd (cc)
    go (kind.Object b) e n =
        let is : b ≡ v.0 = kind_address v.0 b e in
        at_address (subst (λ n. is_object w.heap.objects n ≡ true) is n) ∙ ap (λ n. context_birth (plain_view w) (ref.Obj (birth_at w.heap.objects n))) (sym is)

-- whether a word is the address of a context, as the code asks it
pub context_asked : (os : List Object) (v : Oop) → is_context_word os v.0 ≡ is_some (oop_birth os v)
context_asked os v = go (is_object os v.0) refl
  where
    gone : (k : Option ℕ) → is_some k ≡ false → option_and_then (slice_get os) k ≡ None
    gone None e = refl
    gone (Some j) e = absurd (cc)

    some : (x : Object) (c : Bool) → c ≡ is_some (if c then Some x.birth else None)
    some x true = refl
    some x false = refl

    go : (b : Bool) → is_object os v.0 ≡ b → is_context_word os v.0 ≡ is_some (oop_birth os v)
    go true e =
        let x = object_there os v.0 e in
        let class : class_at os v.0 ≡ x.0.class = ap (λ (y : Option Object). option_map_or (λ (z : Object). z.class) y 0) x.1 in
        ap₂ (λ (b : Bool) (n : ℕ). b && n == context_class) e class ∙ some x.0 (is_heap_context x.0) ∙ ap (λ o. is_some (plain_birth o)) (sym x.1)
    go false e = ap (λ b. b && class_at os v.0 == context_class) e ∙ ap (λ o. is_some (plain_birth o)) (sym (gone (object_place os v.0) e))

-- the sender of the context, where that is one
pub sender_read : {w : PlainWorld} {a : Oop} {x : Object} → IsSound (plain_stored w) (plain_view w) → ContextAt w a x → (v : Oop) → v.0 ≡ slot_of w.heap.objects a.0 0
    → oop_birth w.heap.objects v ≡ sender_birth (plain_view w) x.birth
unfolding context_of
sender_read {w} {a} {x} sound at v read =
    let names = word_named sound at v 0 (ref_of w.heap.objects (slice_index x.words 0)) (omega arith) read refl in
    context_named w v sound names.sound ∙ ap (context_birth (plain_view w)) names.is
    ∙ sym (ap (option_and_then (λ (c : Context). context_birth (plain_view w) c.sender)) (context_is sound at))

pub none_asked : (o : Option ℕ) → is_some o ≡ false → ◌≡◌ {A = Option ℕ} None o
none_asked None e = refl
none_asked (Some i) e = absurd (cc)
