-- A live single context of the heap becomes the base frame of a page, where no other page is used.
use Rattle.std.proofs.Common.{◌≡◌, ◌⊎◌, ℕ, ◌<◌, ◌≤◌, Bool, true, false, refl, sym, ap, ap₂, subst, ◌∙◌, arith, Option, Some, None, IsSome, is_some, List, [], ◌∷◌, length, unwrap_or, inl, inr}
use Rattle.std.specs.Prelude.{Contains, slice_get, slice_index, ◌==◌, ◌&&◌, ◌||◌}
use Rattle.std.specs.Option.{option_map_or}
use Rattle.std.specs.Ordering.{nat_cmp}
use Rattle.std.specs.FinMap.{FinMap, get, same_map, nat_cmp-IsAntisymmetric}
use Rattle.std.specs.Cmp.{nat_cmp_total}
use Rattle.std.proofs.lemmas.Bool.{eqb-true, or_right}
use Rattle.cs_heap.specs.Object.{Object, birth_at, is_object, heap_object, slot_count_of, slot_of}
use Rattle.cs_classes.specs.Meaning.{context_of, is_heap_context, meaning_at, obj_of, objects_of, ref_of}
use Rattle.cs_word.specs.Word.{kind_of, natural_of_word}
use Rattle.cs_word.proofs.Words.{kind_of-link}
use Rattle.cs_heap.specs.Format.{is_code}
use Rattle.cs_classes.specs.declared.Roots.{Roots}
use Rattle.cs_classes.specs.Sound.{IsWhole, is_reference, is_reference_kind}
use Rattle.cs_classes.proofs.Heaps.{birth_of-object_at, object_there, stands}
use Rattle.cs_classes.proofs.Sorts.{context_is}
use Rattle.cs_classes.proofs.Sounds.{IsWholeContext, sound_at, whole_context}
use Rattle.cs_frame.specs.Frame.{Frame, IsValue}
use Rattle.cs_frame.specs.Page.{frames_of}
use Rattle.cs_marriage.specs.Agree.{IsContextAt, IsMethodAt}
use Rattle.cs_marriage.specs.Marriage.{CanBase}
use Rattle.cs_marriage.specs.Place.{names_place}
use Rattle.cs_model.specs.Obj.{Context, Ctx, context_class}
use Rattle.cs_model.specs.Context.{lies_if_live}
use Rattle.cs_stack.specs.declared.parts.Parts.{Parts}
use Rattle.cs_stack.specs.View.{bare, is_linked, unframed, view_of}
use Rattle.cs_stack.specs.Good.{IsGood, Lacks, PcFits, SenderFits, is_nil_or}
use Rattle.cs_stack.proofs.Bare.{bare_element, unframed_context, unlinked}
use Rattle.cs_stack.proofs.Dying.{dead_pc, unframed_linked}
use Rattle.cs_stack.proofs.Framed.{onto_bare}
use Rattle.cs_stack.proofs.Linking.{nil_counts}
use Rattle.cs_stack.proofs.Lives.{lives_if_live}
use Rattle.cs_stack.proofs.Addresses.{sender_single, word_there}

-- a reference is no link
reference_value : (os : List Object) (w : ℕ) → is_reference os w ≡ true → IsValue w
unfolding is_reference
reference_value os w named link = let no : is_reference_kind os (kind_of w) ≡ false = ap (is_reference_kind os) (kind_of-link w link) in absurd (cc)

-- ---- a world without frames

module _ {u : Parts} (good : IsGood u) (closed : u.pages.recent ≡ []) where
  pub no_frames : (p : ℕ) → frames_of u.frames p ≡ []
  no_frames p = go (frames_of u.frames p) refl
    where
      none : Contains {X = ℕ} [] p → ⊥
      none (k, within, same) = omega (arith, within)

      go : (fs : List Frame) → frames_of u.frames p ≡ fs → frames_of u.frames p ≡ []
      go [] e = e
      go (f ∷ fs) e = absurd (none (subst (λ ns. Contains ns p) closed ((good.used_pages p).1 (omega (arith, ap length e)))))

  pub lack_all : (i p : ℕ) → Lacks i (frames_of u.frames p)
  lack_all i p = subst (Lacks i) (sym (no_frames p)) tt

  -- the state is that of the heap
  pub bare_objects : (view_of u).objects ≡ objects_of (bare u.heap.objects)
  bare_objects = same_map nat_cmp_total nat_cmp-IsAntisymmetric _ _ (λ q. onto_bare u.heap.objects u.frames (objects_of (bare u.heap.objects)) q (lack_all q))

-- ---- a live context

-- a context of the heap that is linked to no frame, and has a pc
pub record IsLive (os : List Object) (s : ℕ) : Type 0 where
  pub object : Object
  pub there : heap_object os s ≡ Some object
  pub context : is_heap_context object ≡ true
  pub single : is_linked object ≡ false
  pub sender : is_nil_or context_class os (slice_index object.words 0) ≡ true
  pub live : IsSome (natural_of_word (slice_index object.words 1))

pub live_at : (os : List Object) (table : FinMap nat_cmp ℕ) (roots : Roots) (s t : ℕ) (c : Context) → IsWhole os table roots
    → ((j : ℕ) (x : Object) → slice_get os j ≡ Some x → is_heap_context x ≡ true → SenderFits os x) → is_object os s ≡ true → birth_at os s ≡ t
    → get (objects_of (bare os)) t ≡ Some (Ctx c) → is_some c.pc ≡ true → IsLive os s
unfolding context_of
live_at os table roots s t c heap senders is birth found live =
    let y = object_there os s is in
    let k = stands os s y.0 y.1 in
    let same : Some (obj_of (ref_of os) (unframed y.0)) ≡ Some (Ctx c) =
    sym (bare_element os k.0 y.0 heap.heap k.1.element) ∙ ap (get (objects_of (bare os))) (sym (birth_of-object_at os s y.0 y.1) ∙ birth) ∙ found in
    let means = context_is (ref_of os) (unframed y.0) c (cc) in
    let class : is_heap_context y.0 ≡ true = sym (unframed_context y.0) ∙ means.context in
    let pc : natural_of_word (slice_index (unframed y.0).words 1) ≡ c.pc = ap (λ (d : Context). d.pc) means.value in
    let long = (whole_context os y.0 (sound_at os s y.0 heap.heap y.1) class).fields in
    let alone = unlinked_live y.0 long c pc live in
    record {
      object = y.0;
      there = y.1;
      context = class;
      single = alone;
      sender = sender_single os y.0 (senders k.0 y.0 k.1.element class) (sym (ap (λ b. b && names_place (slice_index y.0.words 0)) class) ∙ alone);
      live = ap (λ (z : Object). is_some (natural_of_word (slice_index z.words 1))) (sym (unlinked y.0 alone)) ∙ ap is_some pc ∙ live;
    }
  where
    unlinked_live : (y : Object) → 6 ≤ length y.words → (c : Context) → natural_of_word (slice_index (unframed y).words 1) ≡ c.pc → is_some c.pc ≡ true → is_linked y ≡ false
    unlinked_live y long c pc live = go (is_linked y) refl
      where
        go : (b : Bool) → is_linked y ≡ b → is_linked y ≡ false
        go false e = e
        go true e = absurd (
            let none : c.pc ≡ None = sym pc ∙ ap (λ (z : Object). natural_of_word (slice_index z.words 1)) (unframed_linked y e) ∙ ap natural_of_word (dead_pc y.words long) ∙ nil_counts in
            let no : is_some c.pc ≡ false = ap is_some none in cc)

module _ {os : List Object} {table : FinMap nat_cmp ℕ} {roots : Roots} {s : ℕ} (heap : IsWhole os table roots) (at : IsLive os s)
    (pcs : (j : ℕ) (x : Object) → slice_get os j ≡ Some x → is_heap_context x ≡ true → PcFits os x) (few : roots.next_birth ≤ 4611686018427387904) where
  pub live_whole : IsWholeContext os at.object
  live_whole = whole_context os at.object (sound_at os s at.object heap.heap at.there) at.context

  pub live_slot : (i : ℕ) → slot_of os s i ≡ slice_index at.object.words i
  live_slot i = ap (λ (o : Option Object). option_map_or (λ (y : Object). slice_index y.words i) o 0) at.there

  pub live_count : slot_count_of os s ≡ length at.object.words
  live_count = ap (λ (o : Option Object). option_map_or (λ (y : Object). length y.words) o 0) at.there

  pub live_birth : birth_at os s ≡ at.object.birth
  live_birth = birth_of-object_at os s at.object at.there

  pub live_below : birth_at os s < roots.next_birth
  live_below = let k = stands os s at.object at.there in subst (λ n. n < roots.next_birth) (sym live_birth) (heap.births k.0 at.object k.1.element)

  pub live_named : (i : ℕ) → i < slot_count_of os s → is_reference os (slot_of os s i) ≡ true
  live_named i h =
      ap (is_reference os) (live_slot i)
      ∙ word_there os at.object live_whole (or_right (names_place (slice_index at.object.words 0)) (is_nil_or context_class os (slice_index at.object.words 0)) at.sender) i (omega (arith, h, live_count))

  pub live_sender : is_nil_or context_class os (slot_of os s 0) ≡ true
  live_sender = ap (is_nil_or context_class os) (live_slot 0) ∙ at.sender

  pub live_lies : lies_if_live (meaning_at os (slot_of os s 3)) (natural_of_word (slot_of os s 1)) ≡ true
  live_lies = let k = stands os s at.object at.there in
      ap₂ (λ (m : ℕ) (p : ℕ). lies_if_live (meaning_at os m) (natural_of_word p)) (live_slot 3) (live_slot 1) ∙ pcs k.0 at.object k.1.element at.context

  either_slots : (n : ℕ) → (n == 22 || n == 62) ≡ true → (n ≡ 22) ⊎ (n ≡ 62)
  either_slots n h = go (n == 22) refl (n == 62) refl h
    where
      go : (b : Bool) → (n == 22) ≡ b → (d : Bool) → (n == 62) ≡ d → (b || d) ≡ true → (n ≡ 22) ⊎ (n ≡ 62)
      go true e d f h = inl (eqb-true n 22 e)
      go false e true f h = inr (eqb-true n 62 f)
      go false e false f h = absurd (cc)

  pub live_context : IsContextAt os s
  live_context = record {
    class = ap (λ (o : Option Object). option_map_or (λ (y : Object). y.class) o 0) at.there ∙ eqb-true _ _ at.context;
    format = ap (λ (o : Option Object). option_map_or (λ (y : Object). y.format) o 0) at.there ∙ live_whole.format;
    slots = subst (λ n. (n ≡ 22) ⊎ (n ≡ 62)) (sym live_count) (either_slots (length at.object.words) ((sound_at os s at.object heap.heap at.there).context at.context).slots);
  }

  method_there : IsMethodAt os (slot_of os s 3)
  method_there = go (natural_of_word (slot_of os s 1)) refl (ap (λ n. is_some (natural_of_word n)) (live_slot 1) ∙ at.live)
    where
      go : (p : Option ℕ) → natural_of_word (slot_of os s 1) ≡ p → is_some p ≡ true → IsMethodAt os (slot_of os s 3)
      go None e h = absurd (cc)
      go (Some pc) e h =
          let l = lives_if_live os (slot_of os s 3) (natural_of_word (slot_of os s 1)) pc live_lies e in
          let method = (sound_at os (slot_of os s 3) l.object heap.heap l.there).method l.format in
          record {
            format = ap (λ (o : Option Object). is_code (option_map_or (λ (y : Object). y.format) o 0)) l.there ∙ l.format;
            header = omega (arith, ap (λ (o : Option Object). option_map_or (λ (y : Object). length y.words) o 0) l.there, method.literals);
          }

  pub can_base : CanBase os s
  can_base = record {
    context = live_context;
    single = ap names_place (live_slot 0) ∙ sym (ap (λ b. b && names_place (slice_index at.object.words 0)) at.context) ∙ at.single;
    live = ap (λ n. is_some (natural_of_word n)) (live_slot 1) ∙ at.live;
    birth = omega (arith, live_below, few);
    method = method_there;
    values = λ i h. reference_value os (slot_of os s i) (live_named i h);
    stack = omega (arith, live_count, live_whole.fields, live_whole.depth, ap (λ n. unwrap_or (natural_of_word n) 0) (live_slot 2));
  }
