-- What stands for the context that a word names, and the sizes of frames.
use Rattle.std.proofs.Common.{◌≡◌, ◌≢◌, ◌⊎◌, ℕ, ◌≤◌, Bool, true, false, refl, sym, ap, ◌∙◌, Option, Some, None, IsSome, is_some, List, [], ◌∷◌, length, option_and_then, arith, inl, inr}
use Rattle.std.specs.Prelude.{◌==◌, ◌&&◌, ◌||◌, if◌then◌else◌, nat_lt, nat_le, not, slice_index}
use Rattle.std.specs.Option.{option_map_or}
use Rattle.std.proofs.lemmas.Bool.Decides.{eqb_tells, nat_tests}
use Rattle.cs_word.specs.declared.Oop.{Oop}
use Rattle.cs_heap.specs.Object.{Object, birth_at, class_at, is_object, heap_object, slot_count_of, slot_of}
use Rattle.cs_heap.proofs.Laws.{object_placed}
use Rattle.cs_classes.specs.Meaning.{context_of, is_heap_context, ref_of}
use Rattle.cs_classes.proofs.Heaps.{birth_of-object_at, is_object-object_at, object_there}
use Rattle.cs_classes.proofs.Refs.{both_true, is_reference-object, ref_of-object, same_births}
use Rattle.cs_classes.proofs.Sounds.{sound_at}
use Rattle.cs_frame.specs.declared.FrameRef.{FrameRef}
use Rattle.cs_frame.specs.Frame.{Frame, nil}
use Rattle.cs_frame.specs.Page as page
use Rattle.cs_frame.specs.Page.{frame}
use Rattle.cs_marriage.specs.Agree.{HasContext, IsContextAt}
use Rattle.cs_marriage.specs.Place.{names_place}
use Rattle.cs_marriage.proofs.Places.{place_small}
use Rattle.cs_word.specs.declared.Kind.TheVariants as kind
use Rattle.cs_word.proofs.Words.{kind_of-object}
use Rattle.cs_model.specs.Ref.{Ref}
use Rattle.cs_model.specs.Ref as ref
use Rattle.cs_model.specs.Obj.{Context, Obj, context_class, context_in}
use Rattle.cs_model.specs.State as state
use Rattle.cs_model.specs.State.{object_of}
use Rattle.cs_model.specs.Context.{is_context_ref}
use Rattle.cs_model.specs.Return.{context_birth, sender_birth}
use Rattle.cs_acts.specs.declared.act.Act.{Act}
use Rattle.cs_acts.specs.declared.act.Act.TheVariants as act
use Rattle.cs_acts.specs.Names.{IsNamed, name_of}
use Rattle.cs_acts.specs.Targets.{is_gone}
use Rattle.cs_acts.specs.Reading as reading
use Rattle.cs_acts.proofs.Named.{context_read}
use Rattle.cs_stack.specs.declared.parts.Parts.{Parts}
use Rattle.cs_model.specs.Read.{active_birth}
use Rattle.cs_acts.specs.Ready.{IsReady}
use Rattle.cs_stack.specs.Moved.{active_number}
use Rattle.cs_stack.proofs.Tops.{good_ready, opened, opened_at}
use Rattle.std.proofs.lemmas.Bool.{and_right, eq-eqb}
use Rattle.cs_model.specs.Words.{small_value}
use Rattle.cs_stack.specs.View.{act_of, active_page, birth_from, dead_words, is_linked, is_married, stored_of, unframed, view_of}
use Rattle.cs_stack.specs.Good.{IsGood}
use Rattle.cs_stack.proofs.Closed.{good_sound}
use Rattle.cs_stack.proofs.Acts.{ContextAct, answers, context_act, context_reads, context_there, field_named, frame_at, married_body, placed_on, reads_sender, slot_is}

-- ---- what stands for the context that a word names

module _ (w : Parts) (good : IsGood w) (o : Oop) (named : IsNamed (stored_of w) o) where
  abbrev os : List Object
  os = w.heap.objects

  no_context : (y : Option Obj) → is_some (context_in y) ≡ false → (x : Ref) → option_and_then (λ c. ref.named_object x) (context_in y) ≡ None
  no_context y h x = go (context_in y) h
    where
      go : (d : Option Context) → is_some d ≡ false → option_and_then (λ c. ref.named_object x) d ≡ None
      go None e = refl
      go (Some d) e = absurd (cc)

  pub context_known : is_context_ref (view_of w) (name_of (stored_of w) o) ≡ reading.is_context_word os o.0
  context_known = sym (context_read (stored_of w) (view_of w) w.heap o refl (good_sound w good).holds named)

  -- a word that names no context
  pub names_none : reading.is_context_word os o.0 ≡ false → None ≡ context_birth (view_of w) (name_of (stored_of w) o)
  names_none h =
      let read : is_context_ref (view_of w) (name_of (stored_of w) o) ≡ false = sym (context_read (stored_of w) (view_of w) w.heap o refl (good_sound w good).holds named) ∙ h in
      sym (no_context (object_of (view_of w) (name_of (stored_of w) o)) read (name_of (stored_of w) o))

  -- the context at an address
  pub record Named : Type 0 where
    pub x : Object
    pub there : heap_object os o.0 ≡ Some x
    pub context : is_heap_context x ≡ true
    pub birth : context_birth (view_of w) (name_of (stored_of w) o) ≡ Some x.birth

  both : (a b : Bool) → (a && b) ≡ true → (a ≡ true) × (b ≡ true)
  both true true h = (refl, refl)
  both true false h = absurd (cc)
  both false b h = absurd (cc)

  pub names_context : reading.is_context_word os o.0 ≡ true → Named
  names_context h =
      let parts = both (is_object os o.0) (class_at os o.0 == context_class) h in
      let x = object_there os o.0 parts.0 in
      let context : is_heap_context x.0 ≡ true = sym (ap (λ (y : Option Object). option_map_or (λ (z : Object). z.class) y 0 == context_class) x.1) ∙ parts.1 in
      let name : name_of (stored_of w) o ≡ ref.Obj x.0.birth = ref_of-object os o.0 parts.0 ∙ ap (λ b. ref.Obj b) (birth_of-object_at os o.0 x.0 x.1) in
      let read : is_context_ref (view_of w) (name_of (stored_of w) o) ≡ true = sym (context_read (stored_of w) (view_of w) w.heap o refl (good_sound w good).holds named) ∙ h in
      let some : is_some (context_in (state.object_at (view_of w) x.0.birth)) ≡ true = ap (λ r. is_some (context_in (object_of (view_of w) r))) (sym name) ∙ read in
      record {
        x = x.0;
        there = x.1;
        context = context;
        birth = ap (context_birth (view_of w)) name ∙ found x.0.birth (context_in (state.object_at (view_of w) x.0.birth)) some;
      }
    where
      found : (b : ℕ) (d : Option Context) → is_some d ≡ true → option_and_then (λ c. Some b) d ≡ Some b
      found b None e = absurd (cc)
      found b (Some d) e = refl

  pub names_some : reading.is_context_word os o.0 ≡ true → is_some (context_birth (view_of w) (name_of (stored_of w) o)) ≡ true
  names_some h = ap is_some (names_context h).birth

  -- it is a context of the heap, with six fields and a stack
  pub context_stands : reading.is_context_word os o.0 ≡ true → IsContextAt os o.0
  context_stands h =
      let n = names_context h in
      let s = (sound_at os o.0 n.x good.whole.heap n.there).context n.context in
      let field : (g : Object → ℕ) → option_map_or g (heap_object os o.0) 0 ≡ g n.x = λ g. ap (λ (y : Option Object). option_map_or g y 0) n.there in
      record {
        class = field (λ y. y.class) ∙ class_is n.x n.context;
        format = field (λ y. y.format) ∙ s.format;
        slots = sizes (slot_count_of os o.0) (ap (λ k. k == 22 || k == 62) (field (λ y. length y.words)) ∙ s.slots);
      }
    where
      class_is : (x : Object) → is_heap_context x ≡ true → x.class ≡ 36
      class_is x c = elim (eqb_tells x.class 36) [ inl e ↦ e.1 | inr e ↦ absurd (let no : true ≡ false = sym c ∙ e.0 in cc) ]

      sizes : (n : ℕ) → (n == 22 || n == 62) ≡ true → (n ≡ 22) ⊎ (n ≡ 62)
      sizes n s = elim (eqb_tells n 22) [
        | inl e ↦ inl e.1
        | inr e ↦ elim (eqb_tells n 62) [
          | inl t ↦ inr t.1
          | inr t ↦ absurd (let no : false ≡ true = sym (ap (λ b. b || n == 62) e.0 ∙ t.0) ∙ s in cc)
        ]
      ]

  -- it has a frame
  pub names_married : (r : FrameRef) → reading.is_context_word os o.0 ≡ true → HasContext w.frames o.0 r → act_of w (act.Frame r.page r.at) ≡ context_birth (view_of w) (name_of (stored_of w) o)
  names_married r h has =
      let n = names_context h in
      let a = frame_at w r good has.0 in
      let context : a.begins_at.f.context ≡ o.0 = ap (λ (g : Frame). g.context) (sym a.is) ∙ has.1 in
      let some : a.begins_at.f.context ≢ nil = λ e. good.agree.nil_class (ap (class_at os) (sym (sym context ∙ e)) ∙ (context_stands h).class) in
      let m = a.agrees.married some in
      a.answers ∙ ap Some (sym m.birth ∙ ap (birth_at os) context ∙ birth_of-object_at os o.0 n.x n.there) ∙ sym n.birth

  -- it has none
  pub names_free : reading.is_context_word os o.0 ≡ true → is_married o.0 w.frames ≡ false → act_of w (act.Context o) ≡ context_birth (view_of w) (name_of (stored_of w) o)
  names_free h free =
      let n = names_context h in
      let c = context_there w o.0 n.x good n.there n.context free in
      let is : Some c.x ≡ Some n.x = sym c.there ∙ n.there in
      let object : c.x ≡ n.x = cc in
      answers c o refl ∙ ap (λ (y : Object). Some y.birth) object ∙ sym n.birth

  -- it has none where it is single or widowed
  pub no_body : ((r : FrameRef) → HasContext w.frames o.0 r → ⊥) → is_married o.0 w.frames ≡ false
  no_body none = go (is_married o.0 w.frames) refl
    where
      go : (b : Bool) → is_married o.0 w.frames ≡ b → is_married o.0 w.frames ≡ false
      go true e =
          let b = married_body o.0 w.frames e in
          let placed = placed_on os w.roots.next_birth b.on (good.frames b.p) in
          absurd (none (record { page = b.p; at = b.f.at }) (placed.within, ap (λ (g : Frame). g.context) placed.is ∙ b.is))
      go false e = e

-- what stands for it, and is no frame, is its address
pub context_stands_for : (w : Parts) → IsGood w → (o : Oop) → IsNamed (stored_of w) o → is_context_ref (view_of w) (name_of (stored_of w) o) ≡ true → (r : Act) → act_of w r ≡ context_birth (view_of w) (name_of (stored_of w) o)
    → is_gone r ≡ false → ((p at : ℕ) → r ≡ act.Frame p at → ⊥) → act_of w (act.Context o) ≡ context_birth (view_of w) (name_of (stored_of w) o)
context_stands_for w good o named known (act.Frame p at) value here other = absurd (other p at refl)
context_stands_for w good o named known act.Gone value here other = absurd (cc)
context_stands_for w good o named known (act.Context v) value here other =
    let is = sym (context_known w good o named) ∙ known in
    let n = names_context w good o named is in
    let some : IsSome (act_of w (act.Context v)) = ap is_some value ∙ names_some w good o named is in
    let c = context_act w v good some in
    let births : Some c.x.birth ≡ Some n.x.birth = sym (answers c v refl) ∙ value ∙ n.birth in
    let birth : c.x.birth ≡ n.x.birth = cc in
    let same : v.0 ≡ o.0 =
    same_births w.heap.objects v.0 o.0 good.whole.heap (is_object-object_at w.heap.objects v.0 c.x c.there) (is_object-object_at w.heap.objects o.0 n.x n.there)
    (birth_of-object_at w.heap.objects v.0 c.x c.there ∙ birth ∙ sym (birth_of-object_at w.heap.objects o.0 n.x n.there)) in
    names_free w good o named is (ap (λ a. is_married a w.frames) (sym same) ∙ c.free)

-- ---- the sender of a context that has no frame

-- a word that names a place is no address
place_no_object : (os : List Object) (v : ℕ) → names_place v ≡ true → is_object os v ≡ false
place_no_object os v h = go (is_object os v) refl
  where
    go : (b : Bool) → is_object os v ≡ b → is_object os v ≡ false
    go true e = absurd (let no : kind.Small (small_value v) ≡ kind.Object v = sym (place_small v h) ∙ kind_of-object v (object_placed os v e).aligned in cc)
    go false e = e

nil_no_context : (w : Parts) → IsGood w → reading.is_context_word w.heap.objects nil ≡ false
nil_no_context w good = elim (eqb_tells (class_at w.heap.objects nil) context_class) [
  | inl e ↦ absurd (good.agree.nil_class e.1)
  | inr e ↦ ap (λ b. is_object w.heap.objects nil && b) e.0 ∙ and_right (is_object w.heap.objects nil) false refl
]

pub sender_dead : (ws : List ℕ) → 6 ≤ length ws → slice_index (dead_words ws) 0 ≡ nil
sender_dead [] h = absurd (omega (arith, h))
sender_dead (x ∷ []) h = absurd (omega (arith, h))
sender_dead (x ∷ y ∷ []) h = absurd (omega (arith, h))
sender_dead (x ∷ y ∷ z ∷ ws) h = refl

-- a widowed one still names a place, and its sender is nil: neither is a context
pub context_sender : {w : Parts} {a : ℕ} (good : IsGood w) (c : ContextAct w a) (v : Oop) → v.0 ≡ slot_of w.heap.objects a 0 → context_birth (view_of w) (ref_of w.heap.objects v.0) ≡ sender_birth (view_of w) c.x.birth
unfolding context_of
context_sender {w = w} {a = a} good c v e = go (is_linked c.x) refl
  where
    os : List Object
    os = w.heap.objects

    word : v.0 ≡ slice_index c.x.words 0
    word = e ∙ slot_is c 0

    nil_oop : Oop
    nil_oop = record { 0 = nil }

    go : (b : Bool) → is_linked c.x ≡ b → context_birth (view_of w) (ref_of os v.0) ≡ sender_birth (view_of w) c.x.birth
    go true l =
        let place : names_place v.0 ≡ true = ap names_place word ∙ (both_true (is_heap_context c.x) _ l).1 in
        let none = names_none w good v (field_named c 0 v.0 (omega arith) e) (ap (λ b. b && (class_at os v.0 == context_class)) (place_no_object os v.0 place)) in
        let none_nil = names_none w good nil_oop (is_reference-object os nil good.agree.nil_there) (nil_no_context w good) in
        let dead : slice_index (unframed c.x).words 0 ≡ nil = ap (λ b. slice_index (if b then record c.x { words = dead_words c.x.words } else c.x).words 0) l ∙ sender_dead c.x.words c.whole.fields in
        sym none ∙ none_nil ∙ ap (λ n. context_birth (view_of w) (ref_of os n)) (sym dead) ∙ sym (reads_sender (context_reads c))
    go false l =
        let same : slice_index (unframed c.x).words 0 ≡ slice_index c.x.words 0 = ap (λ b. slice_index (if b then record c.x { words = dead_words c.x.words } else c.x).words 0) l in
        ap (λ n. context_birth (view_of w) (ref_of os n)) (word ∙ sym same) ∙ sym (reads_sender (context_reads c))

-- ---- the active frame

pub ready_active : (w : Parts) → IsGood w → IsSome (view_of w).rest.active → IsReady (stored_of w) (view_of w)
ready_active w good some = go (view_of w).rest.active refl some
  where
    go : (o : Option ℕ) → (view_of w).rest.active ≡ o → IsSome o → IsReady (stored_of w) (view_of w)
    go None e s = absurd (cc)
    go (Some i) e s = good_ready w good (opened_at w i good e)

pub top_act : (w : Parts) → IsGood w → IsSome (view_of w).rest.active → (r : FrameRef) → r ≡ page.frame_ref (active_number w) (page.top (active_page w)) → act_of w (act.Frame r.page r.at) ≡ Some (active_birth (view_of w))
top_act w good some r is =
    let o = opened w good (ready_active w good some) in
    let number : active_number w ≡ o.p = ap (λ (ns : List ℕ). slice_index ns 0) o.recent in
    let ref_is : r ≡ page.frame_ref o.p o.f = is ∙ ap (λ p. page.frame_ref p (page.top (active_page w))) number ∙ ap (λ fs. page.frame_ref o.p (page.top fs)) o.page_is in
    ap (λ (q : FrameRef). act_of w (act.Frame q.page q.at)) ref_is
    ∙ ap (λ fs. birth_from fs o.f.at) o.is
    ∙ ap (λ b. if b then Some o.f.birth else birth_from o.fs o.f.at) (eq-eqb o.f.at o.f.at refl)
    ∙ ap Some (sym o.birth)

-- ---- small laws

pub not_less : (a b : ℕ) → not (nat_le b a) ≡ nat_lt a b
not_less a b = grind (arith, nat_tests)

-- what stands for something isn't gone
pub here_frame : (w : Parts) (p at : ℕ) (o : Option ℕ) → act_of w (act.Frame p at) ≡ o → is_some o ≡ true → is_gone (act.Frame p at) ≡ not (is_some (act_of w (act.Frame p at)))
here_frame w p at o e some = ap not (sym (ap is_some e ∙ some))

pub here_context : (w : Parts) (a : Oop) (o : Option ℕ) → act_of w (act.Context a) ≡ o → is_some o ≡ true → is_gone (act.Context a) ≡ not (is_some (act_of w (act.Context a)))
here_context w a o e some = ap not (sym (ap is_some e ∙ some))
