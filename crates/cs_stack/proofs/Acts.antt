-- Acts: frames by their places, and contexts of the heap that have none.
use Rattle.std.proofs.Common.{◌≡◌, ◌≢◌, ℕ, suc, ◌+◌, ◌-◌, ◌<◌, ◌≤◌, Bool, true, false, refl, sym, ap, subst, ◌∙◌, Option, Some, None, IsSome, IfSome, is_some, List, [], ◌∷◌, length, unwrap_or, option_and_then, arith, inl, inr}
use Rattle.std.specs.Prelude.{◌==◌, ◌||◌, if◌then◌else◌, nat_lt, pos, slice_index, slice_set}
use Rattle.std.specs.Option.{option_map_or}
use Rattle.std.specs.FinMap.{get}
use Rattle.std.proofs.lemmas.Bool.{cases_eq, eq-eqb, or_right}
use Rattle.std.proofs.lemmas.Bool.Decides.{eqb_tells}
use Rattle.std.proofs.lemmas.List.Folds.{list_any_at}
use Rattle.std.proofs.lemmas.List.{get_or-set_other, get_or-set_same, length-map, length-set}
use Rattle.cs_word.specs.Word.{small_word, natural_of_word}
use Rattle.cs_word.specs.declared.Oop.{Oop}
use Rattle.cs_heap.specs.Object.{Object, birth_at, is_object, heap_object, slot_count_of, slot_of}
use Rattle.cs_classes.specs.Meaning.{context_of, depth_in, is_heap_context, obj_of, objects_of, ref_of}
use Rattle.cs_classes.specs.Sound.{is_reference}
use Rattle.cs_classes.proofs.Heaps.{birth_of-object_at, is_object-object_at, stands}
use Rattle.cs_classes.proofs.Objects.{get-objects_of-element}
use Rattle.cs_classes.proofs.Contexts.{depth_is}
use Rattle.cs_classes.proofs.Refs.{count_of-small, is_reference-object, same_births}
use Rattle.cs_classes.proofs.Sorts.{obj_of-context}
use Rattle.cs_classes.proofs.Sounds.{IsWholeContext, sound_at, whole_context}
use Rattle.cs_frame.specs.declared.FrameRef.{FrameRef}
use Rattle.cs_frame.specs.Frame.{Frame, nil}
use Rattle.cs_frame.specs.Page.{IsBase, IsFrame, caller_of, frame, frames_of, frame_index, nth, top, frames_used}
use Rattle.cs_frame.specs.Page as page
use Rattle.cs_frame.proofs.PageLaws.{page_in, top-nth}
use Rattle.cs_marriage.specs.Agree as agree
use Rattle.cs_marriage.specs.Agree.{frame_size}
use Rattle.cs_marriage.proofs.Objects.{context_there as spouse_there}
use Rattle.cs_model.specs.Operation.{nil_of}
use Rattle.cs_model.specs.Return.{closure_at, closure_in, context_birth, has_room, is_live, sender_birth}
use Rattle.cs_model.specs.Ref as ref
use Rattle.cs_model.specs.Obj.{Context, Ctx, Obj, context_class, context_in}
use Rattle.cs_model.specs.State as state
use Rattle.cs_acts.specs.Names.{Names}
use Rattle.cs_acts.specs.Targets.{method_in}
use Rattle.cs_acts.specs.declared.act.Act.TheVariants as act
use Rattle.cs_stack.specs.declared.parts.Parts.{Parts}
use Rattle.cs_stack.specs.View.{act_of, active_in, bare, birth_from, object_birth, dead_words, first_frames, frame_context, frame_sender, has_context, is_linked, is_married, stored_of, unframed, view_of}
use Rattle.cs_stack.specs.Moved.{field_at}
use Rattle.cs_model.specs.Context.{closure_class, context_get}
use Rattle.cs_stack.specs.Good.{FrameFits, FramesFit, IsGood, Lacks, LinkFits, SenderFits}
use Rattle.cs_stack.proofs.Bare.{bare_element, unframed_context}
use Rattle.cs_stack.proofs.Lives.{Lives, lives}
use Rattle.cs_stack.proofs.Framed.{IsOn, above, all_fit, below_on, fits_on, here, onto_bare, onto_frame}
use Rattle.cs_stack.proofs.Addresses.{nil_or_named, word_there}

-- ---- frames by their places

-- the frame of a page that begins at a place
pub record Begins (fs : List Frame) (at : ℕ) : Type 0 where
  pub f : Frame
  pub gs : List Frame
  pub on : IsOn f gs fs
  pub at_is : f.at ≡ at
  pub nth_is : nth fs (frame_index fs at) ≡ f
  pub count : length fs ≡ suc (frame_index fs at + length gs)
  pub next_is : nth fs (suc (frame_index fs at)) ≡ top gs
  pub birth : birth_from fs at ≡ Some f.birth

pub begins : (fs : List Frame) (at : ℕ) → frame_index fs at < length fs → Begins fs at
begins [] at h = absurd (omega (arith, h))
begins (f ∷ fs) at h = elim (eqb_tells f.at at) [ inl e ↦ found e.0 e.1 | inr e ↦ later e.0 (λ l. begins fs at l) ]
  where
    found : (f.at == at) ≡ true → f.at ≡ at → Begins (f ∷ fs) at
    found e is =
        let i : frame_index (f ∷ fs) at ≡ 0 = ap (λ b. if b then 0 else suc (frame_index fs at)) e in
        record {
          f = f;
          gs = fs;
          on = here;
          at_is = is;
          nth_is = ap (nth (f ∷ fs)) i;
          count = omega (arith, i);
          next_is = ap (λ k. nth (f ∷ fs) (suc k)) i ∙ sym (top-nth fs);
          birth = ap (λ b. if b then Some f.birth else birth_from fs at) e;
        }

    later : (f.at == at) ≡ false → (frame_index fs at < length fs → Begins fs at) → Begins (f ∷ fs) at
    later e rest =
        let i : frame_index (f ∷ fs) at ≡ suc (frame_index fs at) = ap (λ b. if b then 0 else suc (frame_index fs at)) e in
        let s = rest (omega (arith, h, i)) in
        record {
          f = s.f;
          gs = s.gs;
          on = above f fs s.on;
          at_is = s.at_is;
          nth_is = ap (nth (f ∷ fs)) i ∙ s.nth_is;
          count = omega (arith, i, s.count);
          next_is = ap (λ k. nth (f ∷ fs) (suc k)) i ∙ s.next_is;
          birth = ap (λ b. if b then Some f.birth else birth_from fs at) e ∙ s.birth;
        }

-- a birth is answered where a frame begins
begun : (fs : List Frame) (at : ℕ) → IsSome (birth_from fs at) → frame_index fs at < length fs
begun [] at h = absurd (cc)
begun (f ∷ fs) at h = elim (eqb_tells f.at at) [
  | inl e ↦ let i : frame_index (f ∷ fs) at ≡ 0 = ap (λ b. if b then 0 else suc (frame_index fs at)) e.0 in omega (arith, i)
  | inr e ↦
      let i : frame_index (f ∷ fs) at ≡ suc (frame_index fs at) = ap (λ b. if b then 0 else suc (frame_index fs at)) e.0 in
      let some : IsSome (birth_from fs at) = sym (ap (λ b. is_some (if b then Some f.birth else birth_from fs at)) e.0) ∙ h in
      omega (arith, i, begun fs at some)
]

-- the last frame of the first of these pages is the active one
pub first_birth : (ps : List (List Frame)) (recent : List ℕ) (r : FrameRef) → 0 < length recent → r ≡ page.frame_ref (slice_index recent 0) (top (frames_of ps (slice_index recent 0)))
    → (frames_of ps (slice_index recent 0) ≡ [] → ⊥) → birth_from (frames_of ps r.page) r.at ≡ active_in (first_frames ps recent)
first_birth ps [] r some is there = absurd (omega (arith, some))
first_birth ps (p ∷ qs) r some is there = go (frames_of ps p) refl
  where
    go : (fs : List Frame) → frames_of ps p ≡ fs → birth_from (frames_of ps r.page) r.at ≡ active_in (frames_of ps p)
    go [] e = absurd (there e)
    go (g ∷ gs) e =
        let page_is : r.page ≡ p = ap (λ (q : FrameRef). q.page) is in
        let at_is : r.at ≡ g.at = ap (λ (q : FrameRef). q.at) is ∙ ap (λ (fs : List Frame). (top fs).at) e in
        ap (λ n. birth_from (frames_of ps n) r.at) page_is ∙ ap (λ fs. birth_from fs r.at) e ∙ ap (birth_from (g ∷ gs)) at_is
        ∙ ap (λ b. if b then Some g.birth else birth_from gs g.at) (eq-eqb g.at g.at refl) ∙ sym (ap active_in e)

-- frames below end before a frame begins
ends_below : {f : Frame} {gs fs : List Frame} (os : List Object) (next : ℕ) → IsOn f gs fs → FramesFit os next fs → f.at + 10 ≤ frames_used fs
ends_below os next here h = omega (arith, h.0.stands)
ends_below {f = f} os next (above e es on) h = omega (arith, ends_below os next on h.1)

-- a frame of a page is found by its place
pub record IsPlaced (f : Frame) (fs : List Frame) : Type 0 where
  pub within : frame_index fs f.at < length fs
  pub is : nth fs (frame_index fs f.at) ≡ f

pub placed_on : {f : Frame} {gs fs : List Frame} (os : List Object) (next : ℕ) → IsOn f gs fs → FramesFit os next fs → IsPlaced f fs
placed_on {f = f} {gs = gs} os next here h =
    let i : frame_index (f ∷ gs) f.at ≡ 0 = ap (λ b. if b then 0 else suc (frame_index gs f.at)) (eq-eqb f.at f.at refl) in
    record { within = omega (arith, i); is = ap (nth (f ∷ gs)) i }
placed_on {f = f} os next (above e es on) h = elim (eqb_tells e.at f.at) [
  | inl s ↦ absurd (omega (arith, s.1, ends_below os next on h.1, h.0.stands))
  | inr s ↦
      let i : frame_index (e ∷ es) f.at ≡ suc (frame_index es f.at) = ap (λ b. if b then 0 else suc (frame_index es f.at)) s.0 in
      let r = placed_on os next on h.1 in
      record { within = omega (arith, i, r.within); is = ap (nth (e ∷ es)) i ∙ r.is }
]

-- and it begins there
pub birth_on : {f : Frame} {gs fs : List Frame} (os : List Object) (next : ℕ) → IsOn f gs fs → FramesFit os next fs → birth_from fs f.at ≡ Some f.birth
birth_on {f = f} {fs = fs} os next on h =
    let p = placed_on os next on h in
    let b = begins fs f.at p.within in
    b.birth ∙ ap (λ (g : Frame). Some g.birth) (sym b.nth_is ∙ p.is)

-- ---- a frame of a world

pub record FrameAct (w : Parts) (p at : ℕ) : Type 0 where
  pub begins_at : Begins (frames_of w.frames p) at
  pub there : IsFrame w.frames (record { page = p; at = at })
  pub is : frame w.frames (record { page = p; at = at }) ≡ begins_at.f
  pub answers : act_of w (act.Frame p at) ≡ Some begins_at.f.birth
  pub found : state.object_at (view_of w) begins_at.f.birth ≡ Some (Ctx (frame_context w.heap.objects begins_at.f begins_at.gs))
  pub fits : FrameFits w.heap.objects w.roots.next_birth begins_at.f begins_at.gs
  pub agrees : agree.FrameAgrees w.heap.objects (record { page = p; at = at }) begins_at.f

pub frame_there : (w : Parts) (p at : ℕ) → IsGood w → IsFrame w.frames (record { page = p; at = at }) → FrameAct w p at
frame_there w p at good within =
    let b = begins (frames_of w.frames p) at within in
    record {
      begins_at = b;
      there = within;
      is = b.nth_is;
      answers = b.birth;
      found = onto_frame w.heap.objects w.roots.next_birth w.frames (objects_of (bare w.heap.objects)) p (all_fit w good) b.on;
      fits = fits_on w.heap.objects w.roots.next_birth b.on (good.frames p);
      agrees = subst (agree.FrameAgrees w.heap.objects (record { page = p; at = at })) b.nth_is (good.agree.frames (record { page = p; at = at }) within);
    }

pub frame_act : (w : Parts) (p at : ℕ) → IsGood w → IsSome (act_of w (act.Frame p at)) → FrameAct w p at
frame_act w p at good some = frame_there w p at good (begun (frames_of w.frames p) at some)

-- the same by a reference
pub frame_at : (w : Parts) (r : FrameRef) → IsGood w → IsFrame w.frames r → FrameAct w r.page r.at
frame_at w r good there = frame_there w r.page r.at good there

-- ---- which contexts have frames

-- a frame of some page has this context
pub record HasBody (a : ℕ) (ps : List (List Frame)) : Type 0 where
  pub p : ℕ
  pub f : Frame
  pub gs : List Frame
  pub on : IsOn f gs (frames_of ps p)
  pub is : f.context ≡ a

has_on : {f : Frame} {gs fs : List Frame} (a : ℕ) → IsOn f gs fs → f.context ≡ a → has_context a fs ≡ true
has_on {f = f} {gs = gs} a here e = ap (λ b. b || has_context a gs) (eq-eqb f.context a e)
has_on a (above e es on) is = ap (λ b. (e.context == a) || b) (has_on a on is) ∙ or_right (e.context == a) true refl

some_on : {f : Frame} {gs fs : List Frame} → IsOn f gs fs → 0 < length fs
some_on here = omega arith
some_on (above e es on) = omega arith

pub body_married : (a : ℕ) (ps : List (List Frame)) → HasBody a ps → is_married a ps ≡ true
body_married a ps b = list_any_at (has_context a) ps b.p [] (page_in ps b.p (some_on b.on)) (has_on a b.on b.is)

on_page_has : (a : ℕ) (fs : List Frame) → has_context a fs ≡ true → (f : Frame) × ((gs : List Frame) × (IsOn f gs fs × (f.context ≡ a)))
on_page_has a [] h = absurd (cc)
on_page_has a (f ∷ fs) h = elim (eqb_tells f.context a) [
  | inl e ↦ (f, (fs, (here, e.1)))
  | inr e ↦ let r = on_page_has a fs (sym (ap (λ b. b || has_context a fs) e.0) ∙ h) in (r.0, (r.1.0, (above f fs r.1.1.0, r.1.1.1)))
]

pub married_body : (a : ℕ) (ps : List (List Frame)) → is_married a ps ≡ true → HasBody a ps
married_body a [] h = absurd (cc)
married_body a (q ∷ qs) h = go (λ m. married_body a qs m) (has_context a q) refl
  where
    go : (is_married a qs ≡ true → HasBody a qs) → (b : Bool) → has_context a q ≡ b → HasBody a (q ∷ qs)
    go rest true e = let r = on_page_has a q e in record { p = 0; f = r.0; gs = r.1.0; on = r.1.1.0; is = r.1.1.1 }
    go rest false e =
        let r = rest (sym (ap (λ b. b || is_married a qs) e) ∙ h) in
        record { p = suc r.p; f = r.f; gs = r.gs; on = r.on; is = r.is }

-- ---- a context of the heap that no frame hides

-- a frame that has the birth of an object has that object for a context
pub body_by_birth : {f : Frame} {gs : List Frame} (w : Parts) (a p : ℕ) (x : Object) → IsGood w → heap_object w.heap.objects a ≡ Some x → IsOn f gs (frames_of w.frames p) → x.birth ≡ f.birth → f.context ≡ a
body_by_birth {f = f} {gs = gs} w a p x good there on same =
    let os = w.heap.objects in
    let fit : FrameFits os w.roots.next_birth f gs = fits_on os w.roots.next_birth on (good.frames p) in
    let placed = placed_on os w.roots.next_birth on (good.frames p) in
    let tie : agree.FrameAgrees os (record { page = p; at = f.at }) f =
    subst (agree.FrameAgrees os (record { page = p; at = f.at })) placed.is (good.agree.frames (record { page = p; at = f.at }) placed.within) in
    let s = stands os a x there in
    elim (cases_eq f.context nil) [
      | inl e ↦
          let no : ◌≡◌ {A = Option Obj} None (Some (obj_of (ref_of os) x)) =
          sym (fit.alone e) ∙ ap (get (objects_of os)) (sym same) ∙ get-objects_of-element os s.0 x good.whole.heap.apart s.1.element in
          absurd (cc)
      | inr ne ↦
          let m = tie.married ne in
          same_births os f.context a good.whole.heap (spouse_there os f.context m.context) (is_object-object_at os a x there) (m.birth ∙ sym same ∙ sym (birth_of-object_at os a x there))
    ]

lacks_all : (i : ℕ) (fs : List Frame) → ((f : Frame) (gs : List Frame) → IsOn f gs fs → i ≢ f.birth) → Lacks i fs
lacks_all i [] h = tt
lacks_all i (f ∷ fs) h = (h f fs here, lacks_all i fs (λ g gs on. h g gs (above f fs on)))

pub free_lacks : (w : Parts) (a : ℕ) (x : Object) → IsGood w → heap_object w.heap.objects a ≡ Some x → is_married a w.frames ≡ false → (p : ℕ) → Lacks x.birth (frames_of w.frames p)
free_lacks w a x good there free p = lacks_all x.birth (frames_of w.frames p) (λ f gs on same.
    let body : HasBody a w.frames = record { p = p; f = f; gs = gs; on = on; is = body_by_birth w a p x good there on same } in
    let no : true ≡ false = sym (body_married a w.frames body) ∙ free in absurd (cc))

pub record ContextAct (w : Parts) (a : ℕ) : Type 0 where
  pub x : Object
  pub there : heap_object w.heap.objects a ≡ Some x
  pub context : is_heap_context x ≡ true
  pub free : is_married a w.frames ≡ false
  pub found : state.object_at (view_of w) x.birth ≡ Some (Ctx (context_of (ref_of w.heap.objects) (unframed x).hash (unframed x).words))
  pub whole : IsWholeContext w.heap.objects x
  pub sender : SenderFits w.heap.objects x
  pub links : is_linked x ≡ true → LinkFits x

pub context_there : (w : Parts) (a : ℕ) (x : Object) → IsGood w → heap_object w.heap.objects a ≡ Some x → is_heap_context x ≡ true → is_married a w.frames ≡ false → ContextAct w a
context_there w a x good there context free =
    let os = w.heap.objects in
    let s = stands os a x there in
    record {
      x = x;
      there = there;
      context = context;
      free = free;
      found = onto_bare os w.frames (objects_of (bare os)) x.birth (free_lacks w a x good there free) ∙ bare_element os s.0 x good.whole.heap s.1.element
          ∙ ap (λ y. Some y) (obj_of-context (ref_of os) (unframed x) (unframed_context x ∙ context));
      whole = whole_context os x (sound_at os a x good.whole.heap there) context;
      sender = good.senders s.0 x s.1.element context;
      links = good.links s.0 x s.1.element;
    }

pub context_act : (w : Parts) (o : Oop) → IsGood w → IsSome (act_of w (act.Context o)) → ContextAct w o.0
context_act w o good some = go (is_married o.0 w.frames) refl (heap_object w.heap.objects o.0) refl some
  where
    is : (x : Object) (c : Bool) → is_heap_context x ≡ c → heap_object w.heap.objects o.0 ≡ Some x → is_married o.0 w.frames ≡ false → IsSome (if c then Some x.birth else None) → ContextAct w o.0
    is x false k e free s = absurd (cc)
    is x true k e free s = context_there w o.0 x good e k free

    go : (h : Bool) → is_married o.0 w.frames ≡ h → (y : Option Object) → heap_object w.heap.objects o.0 ≡ y → IsSome (if h then None else object_birth y) → ContextAct w o.0
    go true free y e s = absurd (cc)
    go false free None e s = absurd (cc)
    go false free (Some x) e s = is x (is_heap_context x) refl e free s

-- what its words are where no frame hides it: all but the first three stay
pub word_kept : (x : Object) (i : ℕ) → 3 ≤ i → slice_index (unframed x).words i ≡ slice_index x.words i
word_kept x i h = go (is_linked x) refl
  where
    go : (b : Bool) → is_linked x ≡ b → slice_index (if b then record x { words = dead_words x.words } else x).words i ≡ slice_index x.words i
    go true e =
        get_or-set_other (slice_set (slice_set x.words 0 nil) 1 nil) 2 i (small_word (pos 0)) 0 (λ e. omega (arith, e, h))
        ∙ get_or-set_other (slice_set x.words 0 nil) 1 i nil 0 (λ e. omega (arith, e, h))
        ∙ get_or-set_other x.words 0 i nil 0 (λ e. omega (arith, e, h))
    go false e = refl

pub words_counted : (x : Object) → length (unframed x).words ≡ length x.words
words_counted x = go (is_linked x)
  where
    go : (b : Bool) → length (if b then record x { words = dead_words x.words } else x).words ≡ length x.words
    go true = length-set (slice_set (slice_set x.words 0 nil) 1 nil) 2 (small_word (pos 0)) ∙ length-set (slice_set x.words 0 nil) 1 nil ∙ length-set x.words 0 nil
    go false = refl

-- and of its pc and its depth a linked one says nothing
pub pc_kept : (x : Object) → 6 ≤ length x.words → (is_linked x ≡ true → LinkFits x) → slice_index (unframed x).words 1 ≡ slice_index x.words 1
pc_kept x l fits = go (is_linked x) refl
  where
    go : (b : Bool) → is_linked x ≡ b → slice_index (if b then record x { words = dead_words x.words } else x).words 1 ≡ slice_index x.words 1
    go true e =
        get_or-set_other (slice_set (slice_set x.words 0 nil) 1 nil) 2 1 (small_word (pos 0)) 0 (λ e. omega (arith, e))
        ∙ get_or-set_same (slice_set x.words 0 nil) 1 nil 0 (omega (arith, l, length-set x.words 0 nil))
        ∙ sym (fits e).0
    go false e = refl

pub nil_counts : natural_of_word nil ≡ None
unfolding natural_of_word
nil_counts = refl

pub depth_kept : (x : Object) → 6 ≤ length x.words → (is_linked x ≡ true → LinkFits x) → depth_in (unframed x).words ≡ depth_in x.words
depth_kept x l fits = go (is_linked x) refl
  where
    go : (b : Bool) → is_linked x ≡ b → depth_in (if b then record x { words = dead_words x.words } else x).words ≡ depth_in x.words
    go true e =
        ap (λ v. unwrap_or (natural_of_word v) 0)
        (get_or-set_same (slice_set (slice_set x.words 0 nil) 1 nil) 2 (small_word (pos 0)) 0
        (omega (arith, l, length-set x.words 0 nil, length-set (slice_set x.words 0 nil) 1 nil)))
        ∙ ap (λ n. unwrap_or n 0) (count_of-small 0 (omega arith)) ∙ sym (ap (λ v. unwrap_or (natural_of_word v) 0) (fits e).1 ∙ ap (λ n. unwrap_or n 0) nil_counts)
    go false e = refl

module _ {w : Parts} {a : ℕ} (c : ContextAct w a) where
  pub answers : (o : Oop) → o.0 ≡ a → act_of w (act.Context o) ≡ Some c.x.birth
  answers o e =
      ap (λ n. if is_married n w.frames then None else object_birth (heap_object w.heap.objects n)) e
      ∙ ap (λ h. if h then None else object_birth (heap_object w.heap.objects a)) c.free
      ∙ ap object_birth c.there ∙ ap (λ b. if b then Some c.x.birth else None) c.context

  pub object : is_object w.heap.objects a ≡ true
  object = is_object-object_at w.heap.objects a c.x c.there

  pub birth_is : birth_at w.heap.objects a ≡ c.x.birth
  birth_is = birth_of-object_at w.heap.objects a c.x c.there

  pub slots_are : slot_count_of w.heap.objects a ≡ length c.x.words
  slots_are = ap (λ (o : Option Object). option_map_or (λ (y : Object). length y.words) o 0) c.there

  pub slot_is : (i : ℕ) → slot_of w.heap.objects a i ≡ slice_index c.x.words i
  slot_is i = ap (λ (o : Option Object). option_map_or (λ (y : Object). slice_index y.words i) o 0) c.there

  pub slot_within : (i : ℕ) → i < 6 → i < slot_count_of w.heap.objects a
  slot_within i l = omega (arith, l, slots_are, c.whole.fields)

  pub slot_named : (i v : ℕ) → i < length c.x.words → v ≡ slot_of w.heap.objects a i → is_reference w.heap.objects v ≡ true
  slot_named i v l e = ap (is_reference w.heap.objects) (e ∙ slot_is i) ∙ word_there w.heap.objects c.x c.whole c.sender i l

  pub field_named : (i v : ℕ) → i < 6 → v ≡ slot_of w.heap.objects a i → is_reference w.heap.objects v ≡ true
  field_named i v l e = slot_named i v (omega (arith, l, c.whole.fields)) e

-- ---- what is read of an act

pub if_some : {A : Type 0} (P : A → Type 0) (o : Option A) (x : A) → o ≡ Some x → P x → IfSome o P
if_some P o x e p = subst (λ q. IfSome q P) (sym e) p

pub record Reads (w : Parts) (birth : ℕ) : Type 0 where
  pub context : Context
  pub found : state.object_at (view_of w) birth ≡ Some (Ctx context)

module _ {w : Parts} {birth : ℕ} (r : Reads w birth) where
  pub reads_closure : closure_at (view_of w) birth ≡ r.context.closure
  reads_closure = ap (λ y. closure_in (nil_of (view_of w)) (context_in y)) r.found

  pub reads_method : method_in (nil_of (view_of w)) (context_in (state.object_at (view_of w) birth)) ≡ r.context.method
  reads_method = ap (λ y. method_in (nil_of (view_of w)) (context_in y)) r.found

  pub reads_live : is_live (view_of w) birth ≡ is_some r.context.pc
  reads_live = ap (λ y. is_some (option_and_then (λ c. c.pc) (context_in y))) r.found

  pub reads_room : has_room (context_in (state.object_at (view_of w) birth)) ≡ nat_lt (length r.context.stack) r.context.size
  reads_room = ap (λ y. has_room (context_in y)) r.found

  pub reads_sender : sender_birth (view_of w) birth ≡ context_birth (view_of w) r.context.sender
  reads_sender = ap (λ y. option_and_then (λ c. context_birth (view_of w) c.sender) (context_in y)) r.found

  pub reads_field : (i : ℕ) → field_at (view_of w) (Some birth) i ≡ context_get (view_of w) r.context i
  reads_field i = ap (λ y. option_and_then (λ c. context_get (view_of w) c i) (context_in y)) r.found

module _ {w : Parts} {p at : ℕ} (good : IsGood w) (a : FrameAct w p at) where
  abbrev f : Frame
  f = a.begins_at.f

  abbrev gs : List Frame
  gs = a.begins_at.gs

  abbrev pub frame_reads : Reads w a.begins_at.f.birth
  frame_reads = record { context = frame_context w.heap.objects a.begins_at.f a.begins_at.gs; found = a.found }

  pub frame_lives : Lives w.heap.objects a.begins_at.f.method (natural_of_word a.begins_at.f.saved_pc)
  frame_lives = lives w.heap.objects f.method (natural_of_word f.saved_pc) a.fits.lies

  pub frame_method_named : is_reference w.heap.objects a.begins_at.f.method ≡ true
  frame_method_named = is_reference-object w.heap.objects f.method (is_object-object_at w.heap.objects f.method frame_lives.object frame_lives.there)

  pub frame_closure : (v : Oop) → v.0 ≡ f.closure → Names (stored_of w) v (closure_at (view_of w) f.birth)
  unfolding frame_context
  frame_closure v e = record { sound = ap (is_reference w.heap.objects) e ∙ nil_or_named closure_class w.heap.objects f.closure a.fits.names.closure; is = ap (ref_of w.heap.objects) e ∙ sym (reads_closure frame_reads) }

  pub frame_method : (v : Oop) → v.0 ≡ f.method → Names (stored_of w) v (method_in (nil_of (view_of w)) (context_in (state.object_at (view_of w) f.birth)))
  unfolding frame_context
  frame_method v e = record {
    sound = ap (is_reference w.heap.objects) e ∙ frame_method_named;
    is = ap (ref_of w.heap.objects) e ∙ sym (reads_method frame_reads);
  }

  pub frame_live : true ≡ is_live (view_of w) f.birth
  unfolding frame_context
  frame_live = sym (reads_live frame_reads ∙ ap is_some frame_lives.at_is)

  pub frame_room : has_room (context_in (state.object_at (view_of w) f.birth))
      ≡ nat_lt (length (frame w.frames (record { page = p; at = at })).stack) (frame_size w.heap.objects (frame w.frames (record { page = p; at = at })))
  unfolding frame_context
  frame_room =
      reads_room frame_reads ∙ ap (λ n. nat_lt n (frame_size w.heap.objects f)) (length-map f.stack (ref_of w.heap.objects))
      ∙ ap (λ (g : Frame). nat_lt (length g.stack) (frame_size w.heap.objects g)) (sym a.is)

  -- the frame below
  pub record Below (g : FrameRef) : Type 0 where
    pub h : Frame
    pub hs : List Frame
    pub above_it : a.begins_at.gs ≡ h ∷ hs
    pub ref_is : g ≡ page.frame_ref p h
    pub there : IsFrame w.frames g
    pub stands : act_of w (act.Frame g.page g.at) ≡ Some h.birth
    pub found : state.object_at (view_of w) h.birth ≡ Some (Ctx (frame_context w.heap.objects h hs))

  below_of : (hs : List Frame) → gs ≡ hs → (IsBase w.frames (record { page = p; at = at }) → ⊥) → (g : FrameRef) → g ≡ page.frame_ref p (caller_of w.frames (record { page = p; at = at })) → Below g
  below_of [] e upper g is = absurd (upper (omega (arith, a.begins_at.count, ap length e)))
  below_of (h ∷ hs) e upper g is =
      let on : IsOn h hs (frames_of w.frames p) = below_on (subst (λ es. IsOn f es (frames_of w.frames p)) e a.begins_at.on) in
      let caller : caller_of w.frames (record { page = p; at = at }) ≡ h = a.begins_at.next_is ∙ ap top e in
      let there : g ≡ page.frame_ref p h = is ∙ ap (λ c. page.frame_ref p c) caller in
      let placed = placed_on w.heap.objects w.roots.next_birth on (good.frames p) in
      record {
        h = h;
        hs = hs;
        above_it = e;
        ref_is = there;
        there = subst (IsFrame w.frames) (sym there) placed.within;
        stands = ap (λ (r : FrameRef). act_of w (act.Frame r.page r.at)) there ∙ birth_on w.heap.objects w.roots.next_birth on (good.frames p);
        found = onto_frame w.heap.objects w.roots.next_birth w.frames (objects_of (bare w.heap.objects)) p (all_fit w good) on;
      }

  pub frame_below : (IsBase w.frames (record { page = p; at = at }) → ⊥) → (g : FrameRef) → g ≡ page.frame_ref p (caller_of w.frames (record { page = p; at = at })) → Below g
  frame_below = below_of gs refl

  pub sender_below : {g : FrameRef} (b : Below g) → (frame_context w.heap.objects a.begins_at.f a.begins_at.gs).sender ≡ ref.Obj b.h.birth
  unfolding frame_context
  sender_below b = ap (λ es. frame_sender w.heap.objects f es) b.above_it

  pub caller_act : (IsBase w.frames (record { page = p; at = at }) → ⊥) → (g : FrameRef) → g ≡ page.frame_ref p (caller_of w.frames (record { page = p; at = at }))
      → (act_of w (act.Frame g.page g.at) ≡ sender_birth (view_of w) f.birth) × (is_some (act_of w (act.Frame g.page g.at)) ≡ true)
  caller_act upper g is =
      let b = frame_below upper g is in
      let sender : sender_birth (view_of w) f.birth ≡ context_birth (view_of w) (ref.Obj b.h.birth) = reads_sender frame_reads ∙ ap (context_birth (view_of w)) (sender_below b) in
      (b.stands ∙ sym (sender ∙ ap (λ y. option_and_then (λ c. Some b.h.birth) (context_in y)) b.found), ap is_some b.stands)

  -- the sender of a base frame
  base_frame : (hs : List Frame) → gs ≡ hs → IsBase w.frames (record { page = p; at = at }) → (v : Oop) → v.0 ≡ f.caller
      → (is_reference w.heap.objects v.0 ≡ true) × ((frame_context w.heap.objects f gs).sender ≡ ref_of w.heap.objects v.0)
  unfolding frame_context
  base_frame (h ∷ hs) e base v is = absurd (omega (arith, base, a.begins_at.count, ap length e))
  base_frame [] e base v is =
      let fits : FrameFits w.heap.objects w.roots.next_birth f [] = subst (FrameFits w.heap.objects w.roots.next_birth f) e a.fits in (
        ap (is_reference w.heap.objects) is ∙ nil_or_named context_class w.heap.objects f.caller fits.sender,
        ap (λ es. frame_sender w.heap.objects f es) e ∙ ap (λ n. ref_of w.heap.objects n) (sym is),
      )

  pub base_sender : IsBase w.frames (record { page = p; at = at }) → (v : Oop) → v.0 ≡ (frame w.frames (record { page = p; at = at })).caller
      → (is_reference w.heap.objects v.0 ≡ true) × ((frame_context w.heap.objects f gs).sender ≡ ref_of w.heap.objects v.0)
  base_sender base v is = base_frame gs refl base v (is ∙ ap (λ (g : Frame). g.caller) a.is)

  pub base_act : IsBase w.frames (record { page = p; at = at }) → (v : Oop) → v.0 ≡ (frame w.frames (record { page = p; at = at })).caller
      → (is_reference w.heap.objects v.0 ≡ true) × (sender_birth (view_of w) f.birth ≡ context_birth (view_of w) (ref_of w.heap.objects v.0))
  base_act base v is =
      let b = base_sender base v is in
      (b.0, reads_sender frame_reads ∙ ap (context_birth (view_of w)) b.1)

module _ {w : Parts} {a : ℕ} (c : ContextAct w a) where
  abbrev pub context_reads : Reads w c.x.birth
  context_reads = record { context = context_of (ref_of w.heap.objects) (unframed c.x).hash (unframed c.x).words; found = c.found }

  word_is : (i v : ℕ) → v ≡ slot_of w.heap.objects a i → v ≡ slice_index c.x.words i
  word_is i v e = e ∙ slot_is c i

  pub kept_word : (i v : ℕ) → 3 ≤ i → v ≡ slot_of w.heap.objects a i → v ≡ slice_index (unframed c.x).words i
  kept_word i v h e = word_is i v e ∙ sym (word_kept c.x i h)

  pub kept_pc : (v : ℕ) → v ≡ slot_of w.heap.objects a 1 → v ≡ slice_index (unframed c.x).words 1
  kept_pc v e = word_is 1 v e ∙ sym (pc_kept c.x c.whole.fields c.links)

  pub kept_depth : (v : ℕ) → v ≡ slot_of w.heap.objects a 2 → unwrap_or (natural_of_word v) 0 ≡ depth_in (unframed c.x).words
  kept_depth v e = ap (λ n. unwrap_or (natural_of_word n) 0) (word_is 2 v e) ∙ sym (depth_kept c.x c.whole.fields c.links)

  pub stack_counted : length (context_of (ref_of w.heap.objects) (unframed c.x).hash (unframed c.x).words).stack ≡ depth_in (unframed c.x).words
  stack_counted =
      depth_is (ref_of w.heap.objects) (unframed c.x).hash (unframed c.x).words
      (omega (arith, c.whole.depth, depth_kept c.x c.whole.fields c.links, words_counted c.x))

  pub context_closure : (v : Oop) → v.0 ≡ slot_of w.heap.objects a 4 → Names (stored_of w) v (closure_at (view_of w) c.x.birth)
  unfolding context_of
  context_closure v e = record { sound = field_named c 4 v.0 (omega arith) e; is = ap (ref_of w.heap.objects) (kept_word 4 v.0 (omega arith) e) ∙ sym (reads_closure context_reads) }

  pub context_method : (v : Oop) → v.0 ≡ slot_of w.heap.objects a 3 → Names (stored_of w) v (method_in (nil_of (view_of w)) (context_in (state.object_at (view_of w) c.x.birth)))
  unfolding context_of
  context_method v e = record { sound = field_named c 3 v.0 (omega arith) e; is = ap (ref_of w.heap.objects) (kept_word 3 v.0 (omega arith) e) ∙ sym (reads_method context_reads) }

  pub context_live : (v : ℕ) → v ≡ slot_of w.heap.objects a 1 → is_some (natural_of_word v) ≡ is_live (view_of w) c.x.birth
  unfolding context_of
  context_live v e = ap (λ n. is_some (natural_of_word n)) (kept_pc v e) ∙ sym (reads_live context_reads)

  size_is : (n : ℕ) → nat_lt n (context_of (ref_of w.heap.objects) (unframed c.x).hash (unframed c.x).words).size ≡ nat_lt n (slot_count_of w.heap.objects a - 6)
  unfolding context_of
  size_is n = ap (λ m. nat_lt n (m - 6)) (words_counted c.x ∙ sym (slots_are c))

  pub context_room : (v : ℕ) → v ≡ slot_of w.heap.objects a 2 → has_room (context_in (state.object_at (view_of w) c.x.birth)) ≡ nat_lt (unwrap_or (natural_of_word v) 0) (slot_count_of w.heap.objects a - 6)
  context_room v e =
      reads_room context_reads ∙ ap (λ n. nat_lt n (context_of (ref_of w.heap.objects) (unframed c.x).hash (unframed c.x).words).size) (stack_counted ∙ sym (kept_depth v e))
      ∙ size_is (unwrap_or (natural_of_word v) 0)
