-- A context of the heap dies where no frame is left.
use Rattle.std.proofs.Common.{◌≡◌, ◌≢◌, ◌⊎◌, ℕ, pos, set, ◌≤◌, Bool, true, false, refl, sym, ap, subst, ◌∙◌, arith, Option, Some, None, IfSome, IsSome, List, [], ◌∷◌, length, length-set, option_map, inl, inr}
use Rattle.std.specs.Prelude.{slice_get, slice_index, ◌||◌, if◌then◌else◌}
use Rattle.std.specs.FinMap.{get}
use Rattle.std.proofs.lemmas.Bool.{and_right, cases_eq}
use Rattle.std.proofs.lemmas.Bool.Decides.{eqb_tells}
use Rattle.cs_word.specs.Word.{small_word, natural_of_word}
use Rattle.cs_word.specs.declared.Oop.{Oop}
use Rattle.cs_heap.specs.Object.{Memory, Object, at_index, birth_at, heap_object, set_word, with_object, slot_set}
use Rattle.cs_heap.specs.Writes.{slots_stored}
use Rattle.cs_heap.proofs.Laws.{field_of-with_object_kept, is_object-with_object, object_at-with_object_other, object_at-with_object_same, used-with_object}
use Rattle.cs_classes.specs.Meaning.{context_of, is_heap_context, kept_of, meaning_at, obj_of, objects_of, ref_of}
use Rattle.cs_classes.specs.Sound.{IsSoundObject, IsWhole, is_reference}
use Rattle.cs_classes.proofs.Contexts.{by_six}
use Rattle.cs_classes.proofs.Heaps.{IsEdit, slice_get-at_index_other, slice_get-at_index_same, stands, with_object-stands, with_object-twice}
use Rattle.cs_classes.proofs.Refs.{is_reference-with_object, ref_of-with_object}
use Rattle.cs_classes.proofs.Sorts.{obj_of-context}
use Rattle.cs_classes.proofs.Sounds.{sound_at}
use Rattle.cs_classes.proofs.Wholes.{kept_of-with_object, whole-with_object}
use Rattle.cs_frame.specs.Frame.{nil}
use Rattle.cs_frame.specs.Page.{IsFrame}
use Rattle.cs_marriage.specs.Agree.{Agree}
use Rattle.cs_marriage.specs.Marriage.{buried}
use Rattle.cs_marriage.specs.Place.{names_place}
use Rattle.cs_model.specs.Ref.{Ref}
use Rattle.cs_model.specs.Ref as ref
use Rattle.cs_model.specs.Obj.{Context, Ctx, Obj, dead, lies_in}
use Rattle.cs_model.specs.Context.{lies_if_live}
use Rattle.cs_model.specs.State as state
use Rattle.cs_model.specs.State.{Kept}
use Rattle.cs_model.specs.Operation.{activate, edit_object}
use Rattle.cs_acts.specs.declared.act.Act.{Act}
use Rattle.cs_acts.specs.declared.act.Act.TheVariants as act
use Rattle.cs_acts.proofs.Firsts.{nil_names}
use Rattle.cs_stack.specs.declared.parts.Parts.{Parts}
use Rattle.cs_stack.specs.Cuts.{Dies, Fades, Stays}
use Rattle.cs_stack.specs.Good.{FramesFit, IsGood, LinkFits, PcFits, SenderFits}
use Rattle.cs_stack.specs.View.{act_of, active_in, active_page, bare, object_birth, dead_words, is_linked, is_married, pages_onto, stored_of, unframed, view_of}
use Rattle.cs_stack.proofs.Acts.{ContextAct, answers, birth_is, context_act, nil_counts}
use Rattle.cs_stack.proofs.Bare.{bare_at, bare_birth, bare_element, bare_whole, bare_with_object, dead_sound, unlinked}
use Rattle.cs_stack.proofs.Based.{edit_other, edit_rest}
use Rattle.cs_stack.proofs.Closed.{good_sound}
use Rattle.cs_stack.proofs.CutWays.{among_not}
use Rattle.cs_stack.proofs.Dying.{dead_pc, dead_sender}
use Rattle.cs_stack.proofs.Framed.{onto_bare}
use Rattle.cs_stack.proofs.Linking.{contexts_kept}
use Rattle.cs_stack.proofs.Rebasing.{lack_all, no_frames}
use Rattle.cs_stack.proofs.Addresses.{sender_fits-nil, sender_fits-with_object}

-- ---- words

abbrev entomb : Object → Object
entomb x = record x { words = dead_words x.words }

entomb_edit : IsEdit entomb
entomb_edit = record {
  slots = λ x. length-set (set (set x.words 0 nil) 1 nil) 2 (small_word (pos 0)) ∙ length-set (set x.words 0 nil) 1 nil ∙ length-set x.words 0 nil;
  birth = λ x. refl;
  class = λ x. refl;
  format = λ x. refl;
}

word_edit : (i v : ℕ) → IsEdit (set_word i v)
word_edit i v = record { slots = λ x. length-set x.words i v; birth = λ x. refl; class = λ x. refl; format = λ x. refl }

two_edit : IsEdit (λ x. set_word 1 nil (set_word 0 nil x))
two_edit = record { slots = λ x. length-set (set x.words 0 nil) 1 nil ∙ length-set x.words 0 nil; birth = λ x. refl; class = λ x. refl; format = λ x. refl }

buried_one : (os : List Object) (a : ℕ) → buried os a ≡ with_object os a entomb
buried_one os a =
    ap (λ us. slot_set us a 2 (small_word (pos 0))) (with_object-twice os a (set_word 0 nil) (set_word 1 nil) (word_edit 0 nil))
    ∙ with_object-twice os a (λ x. set_word 1 nil (set_word 0 nil x)) (set_word 2 (small_word (pos 0))) two_edit

dead_twice : (ws : List ℕ) → 6 ≤ length ws → dead_words (dead_words ws) ≡ dead_words ws
dead_twice ws h = by_six (λ us. dead_words (dead_words us) ≡ dead_words us) (λ a b c d e f rest. refl) ws h

dead_context : (refer : ℕ → Ref) (hash n : ℕ) (ws : List ℕ) → 6 ≤ length ws → refer nil ≡ ref.Obj n → context_of refer hash (dead_words ws) ≡ dead n (context_of refer hash ws)
unfolding context_of natural_of_word
dead_context refer hash n ws h is =
    by_six (λ us. context_of refer hash (dead_words us) ≡ record (context_of refer hash us) { sender = refer nil; pc = None; stack = [] }) (λ a b c d e f rest. refl) ws h
    ∙ ap (λ r. record (context_of refer hash ws) { sender = r; pc = None; stack = [] }) is

context_lies : (refer : ℕ → Ref) (y : Object) (pc : ℕ) → is_heap_context y ≡ true → lies_in (Some (obj_of refer y)) pc ≡ false
context_lies refer y pc c = ap (λ o. lies_in (Some o) pc) (obj_of-context refer y c)

-- ---- the heap

module _ {u : Parts} (good : IsGood u) (closed : u.pages.recent ≡ []) {a : ℕ} (c : ContextAct u a) where
  abbrev os : List Object
  os = u.heap.objects

  abbrev x : Object
  x = c.x

  abbrev us : List Object
  us = with_object os a entomb

  abbrev v : Parts
  v = record u { heap = slots_stored u.heap a (with_object u.heap.objects a entomb) }

  long : 6 ≤ length x.words
  long = c.whole.fields

  nil_is : (ref_of os nil ≡ ref.Obj (view_of u).rest.nil) × (is_reference os nil ≡ true)
  nil_is = let names = nil_names (stored_of u) (view_of u) (record { 0 = nil }) (good_sound u good) refl in (names.is, names.sound)

  sound : IsSoundObject os (entomb x)
  sound = dead_sound os x good.whole.first good.whole.nil (sound_at os a x good.whole.heap c.there) c.context

  whole : IsWhole us u.classes u.roots
  whole = whole-with_object os u.classes u.roots a x entomb entomb_edit refl good.whole c.there sound

  refers : ref_of us ≡ ref_of os
  refers = ref_of-with_object os a entomb entomb_edit

  references : is_reference us ≡ is_reference os
  references = is_reference-with_object os a entomb entomb_edit

  entombed_here : heap_object us a ≡ Some (entomb x)
  entombed_here = object_at-with_object_same os a entomb entomb_edit.slots ∙ ap (option_map entomb) c.there

  entombed_other : (m : ℕ) → m ≢ a → heap_object us m ≡ heap_object os m
  entombed_other m apart = object_at-with_object_other os a m entomb entomb_edit.slots (λ e. apart (sym e))

  alone : is_linked (entomb x) ≡ false
  alone = and_right (is_heap_context (entomb x)) (names_place (slice_index (dead_words x.words) 0)) (ap names_place (dead_sender x.words long))

  -- pcs lie where they lay
  lies_kept : (m pc : ℕ) → lies_in (meaning_at us m) pc ≡ lies_in (meaning_at os m) pc
  lies_kept m pc = ap (λ q. lies_in (option_map (obj_of q) (heap_object us m)) pc) refers ∙ elim (cases_eq m a) [
    | inl e ↦ ap (λ n. lies_in (option_map (obj_of (ref_of os)) (heap_object us n)) pc) e ∙ ap (λ y. lies_in (option_map (obj_of (ref_of os)) y) pc) entombed_here
        ∙ context_lies (ref_of os) (entomb x) pc c.context
        ∙ sym (ap (λ n. lies_in (meaning_at os n) pc) e ∙ ap (λ y. lies_in (option_map (obj_of (ref_of os)) y) pc) c.there ∙ context_lies (ref_of os) x pc c.context)
    | inr ne ↦ ap (λ y. lies_in (option_map (obj_of (ref_of os)) y) pc) (entombed_other m ne)
  ]

  live_kept : (m : ℕ) (p : Option ℕ) → lies_if_live (meaning_at us m) p ≡ lies_if_live (meaning_at os m) p
  live_kept m None = refl
  live_kept m (Some pc) = lies_kept m pc

  -- an object of the new heap is the one that died, or one of the old
  cases : (j : ℕ) (y : Object) → slice_get us j ≡ Some y → (entomb x ≡ y) ⊎ (slice_get os j ≡ Some y)
  cases j y h =
      let s = stands os a x c.there in
      let list : us ≡ at_index s.0 entomb os = with_object-stands os a x s.0 entomb s.1 in
      let got : slice_get (at_index s.0 entomb os) j ≡ Some y = ap (λ vs. slice_get vs j) (sym list) ∙ h in
      elim (cases_eq s.0 j) [
        | inl e ↦
            let same : Some (entomb x) ≡ Some y = sym (ap (option_map entomb) s.1.element) ∙ sym (slice_get-at_index_same s.0 entomb os) ∙ ap (slice_get (at_index s.0 entomb os)) e ∙ got in
            inl (cc)
        | inr apart ↦ inr (sym (slice_get-at_index_other s.0 j entomb os apart) ∙ got)
      ]

  pcs : (j : ℕ) (y : Object) → slice_get us j ≡ Some y → is_heap_context y ≡ true → PcFits us y
  pcs j y h is = elim (cases j y h) [
    | inl e ↦ subst (PcFits us) e (ap (λ w. lies_if_live (meaning_at us (slice_index (entomb x).words 3)) (natural_of_word w)) (dead_pc x.words long)
        ∙ ap (lies_if_live (meaning_at us (slice_index (entomb x).words 3))) nil_counts)
    | inr old ↦ live_kept (slice_index y.words 3) (natural_of_word (slice_index y.words 1)) ∙ good.pcs j y old is
  ]

  links : (j : ℕ) (y : Object) → slice_get us j ≡ Some y → is_linked y ≡ true → LinkFits y
  links j y h is = elim (cases j y h) [
    | inl e ↦ absurd (let no : false ≡ true = sym alone ∙ ap is_linked e ∙ is in cc)
    | inr old ↦ good.links j y old is
  ]

  senders : (j : ℕ) (y : Object) → slice_get us j ≡ Some y → is_heap_context y ≡ true → SenderFits us y
  senders j y h is = elim (cases j y h) [
    | inl e ↦ subst (SenderFits us) e (sender_fits-nil us (entomb x) (is_object-with_object os a nil entomb entomb_edit.slots ∙ good.agree.nil_there) (dead_sender x.words long))
    | inr old ↦ sender_fits-with_object os a entomb y entomb_edit (good.senders j y old is)
  ]

  no_place : (r : _) → IsFrame u.frames r → ⊥
  no_place r there = omega (arith, there, ap length (no_frames good closed r.page))

  agree : Agree us u.frames
  agree = record {
    few = good.agree.few;
    nil_there = is_object-with_object os a nil entomb entomb_edit.slots ∙ good.agree.nil_there;
    nil_class = λ e. good.agree.nil_class (sym (field_of-with_object_kept (λ y. y.class) os a nil entomb entomb_edit.slots (λ y. refl)) ∙ e);
    frames = λ r there. absurd (no_place r there);
  }

  pub entombed_good : IsGood v
  entombed_good = record {
    whole = whole;
    within = subst (λ n. n ≤ u.heap.limit) (sym (used-with_object os a entomb entomb_edit.slots)) good.within;
    most = good.most;
    births = good.births;
    pcs = pcs;
    senders = senders;
    links = links;
    agree = agree;
    frames = λ p. subst (FramesFit us u.roots.next_birth) (sym (no_frames good closed p)) tt;
    apart = good.apart;
    total = good.total;
    order = good.order;
    used_pages = good.used_pages;
    chain = good.chain;
  }

  -- ---- the state

  entomb_unframed : unframed (entomb x) ≡ entomb (unframed x)
  entomb_unframed = unlinked (entomb x) alone ∙ go (is_linked x)
    where
      go : (b : Bool) → entomb x ≡ entomb (if b then record x { words = dead_words x.words } else x)
      go true = ap (λ ws. record x { words = ws }) (sym (dead_twice x.words long))
      go false = refl

  bare_is : bare us ≡ with_object (bare os) a entomb
  bare_is = bare_with_object os a x entomb entomb c.there entomb_unframed

  bare_there : heap_object (bare os) a ≡ Some (unframed x)
  bare_there = bare_at os a ∙ ap (option_map unframed) c.there

  abbrev ghost_of : Obj → Obj
  ghost_of o = obj_of (ref_of (bare os)) (entomb (unframed x))

  kept_is : (active : Option ℕ) → kept_of (bare us) u.classes u.roots active ≡ edit_object (kept_of (bare os) u.classes u.roots active) (ref.Obj (birth_at (bare os) a)) ghost_of
  kept_is active = ap (λ ys. kept_of ys u.classes u.roots active) bare_is
      ∙ kept_of-with_object (bare os) u.classes u.roots active a (unframed x) entomb ghost_of entomb_edit (bare_whole os u.classes u.roots good.whole).heap bare_there refl

  rest_is : (active : Option ℕ) → (kept_of (bare us) u.classes u.roots active).rest ≡ (kept_of (bare os) u.classes u.roots active).rest
  rest_is active = ap (λ (k : Kept). k.rest) (kept_is active) ∙ edit_rest (kept_of (bare os) u.classes u.roots active) (birth_at (bare os) a) ghost_of

  birth_is_x : birth_at (bare os) a ≡ x.birth
  birth_is_x = bare_birth os a ∙ birth_is c

  onto : (w : List Object) (i : ℕ) → get (pages_onto w u.frames (objects_of (bare w))) i ≡ get (objects_of (bare w)) i
  onto w i = onto_bare w u.frames (objects_of (bare w)) i (lack_all good closed i)

  other : (i : ℕ) → i ≢ x.birth → state.object_at (view_of v) i ≡ state.object_at (view_of u) i
  other i ne =
      onto us i ∙ ap (λ (k : Kept). state.object_at k i) (kept_is None)
      ∙ edit_other (kept_of (bare os) u.classes u.roots None) (birth_at (bare os) a) i ghost_of (λ e. ne (e ∙ birth_is_x)) ∙ sym (onto os i)

  abbrev before : Context
  before = context_of (ref_of os) (unframed x).hash (unframed x).words

  -- of one that was widowed nothing changes
  context_is : context_of (ref_of os) x.hash (dead_words x.words) ≡ dead (view_of u).rest.nil before
  context_is = go (is_linked x) refl
    where
      go : (b : Bool) → is_linked x ≡ b → context_of (ref_of os) x.hash (dead_words x.words)
          ≡ dead (view_of u).rest.nil (context_of (ref_of os) (if b then record x { words = dead_words x.words } else x).hash (if b then record x { words = dead_words x.words } else x).words)
      go true e = ap (context_of (ref_of os) x.hash) (sym (dead_twice x.words long))
          ∙ dead_context (ref_of os) x.hash (view_of u).rest.nil (dead_words x.words) (omega (arith, long, entomb_edit.slots x)) nil_is.0
      go false e = dead_context (ref_of os) x.hash (view_of u).rest.nil x.words long nil_is.0

  died : state.object_at (view_of v) x.birth ≡ Some (Ctx (dead (view_of u).rest.nil before))
  died =
      let s = stands us a (entomb x) entombed_here in
      onto us x.birth ∙ bare_element us s.0 (entomb x) whole.heap s.1.element
      ∙ ap (λ y. Some (obj_of (ref_of us) y)) (unlinked (entomb x) alone)
      ∙ ap (λ q. Some (obj_of q (entomb x))) refers
      ∙ ap (λ o. Some o) (obj_of-context (ref_of os) (entomb x) c.context)
      ∙ ap (λ d. Some (Ctx d)) context_is

  buried_dies : Dies (view_of u) (view_of v) (x.birth ∷ [])
  buried_dies = record {
    died = λ i h. elim (eqb_tells i x.birth) [
      | inl e ↦ (before, ap (state.object_at (view_of u)) e.1 ∙ c.found, inr (ap (state.object_at (view_of v)) e.1 ∙ died))
      | inr e ↦ absurd (let no : false ≡ true = sym (ap (λ b. b || false) e.0) ∙ h in cc)
    ];
    other = λ i h. other i (among_not i x.birth [] h).0;
  }

  -- ---- acts

  act_kept : (b : Act) (j : ℕ) → x.birth ≢ j → act_of u b ≡ Some j → act_of v b ≡ Some j
  act_kept (act.Frame p at) j ne h = h
  act_kept (act.Context o) j ne h = elim (cases_eq o.0 a) [
    | inl e ↦ absurd (let is : Some x.birth ≡ Some j = sym (answers c o e) ∙ h in let same : x.birth ≡ j = cc in ne same)
    | inr off ↦ ap (λ y. if is_married o.0 u.frames then None else object_birth y) (entombed_other o.0 off) ∙ h
  ]
  act_kept act.Gone j ne h = absurd (cc)

  stays : Stays u v
  stays = record {
    rest = λ active. ap (activate active) (rest_is (active_in (active_page u)));
    names = λ o h. record { sound = ap (λ q. q o.0) references ∙ h; is = ap (λ q. q o.0) refers };
    total = refl;
    limit = refl;
    contexts = contexts_kept os a entomb entomb_edit;
  }

  pub buried_fades : Fades u v x.birth
  buried_fades = record {
    good = entombed_good;
    stays = stays;
    dies = buried_dies;
    next = λ j e. inr closed;
    acts = act_kept;
    layout = λ dying h. refl;
  }

-- ---- what a call sees

pub bury_fades : (u : Parts) (o : Oop) (heap : Memory) → IsGood u → u.pages.recent ≡ [] → IsSome (act_of u (act.Context o)) → heap ≡ slots_stored u.heap o.0 (buried u.heap.objects o.0)
    → IfSome (act_of u (act.Context o)) (Fades u (record u { heap = heap }))
bury_fades u o heap good closed some is =
    let c = context_act u o good some in
    subst (λ b. IfSome b (Fades u (record u { heap = heap }))) (sym (answers c o refl))
    (subst (λ h. Fades u (record u { heap = h }) c.x.birth) (sym (is ∙ ap (slots_stored u.heap o.0) (buried_one u.heap.objects o.0))) (buried_fades good closed c))
