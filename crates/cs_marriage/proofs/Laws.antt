-- The laws of the agreement, for the crates above: what the calls on frames leave of it.
use Rattle.std.proofs.Common.{◌≡◌, ◌≢◌, inl, inr, ℕ, zero, suc, ◌+◌, ◌-◌, ◌<◌, ◌≤◌, ◌^◌, Bool, true, false, List, [], ◌∷◌, ◌++◌, length, replicate, take, drop, cond, refl, ap, sym, subst, ◌∙◌, arith, length-append, length-take}
use Rattle.std.specs.Prelude.{◌==◌, ◌/◌, ◌%◌, if◌then◌else◌}
use Rattle.std.proofs.lemmas.Bool.{cases_eq, eq-eqb, ne_eqb}
use Rattle.cs_heap.specs.Object.{Object, birth_at, class_at, is_object, slot_count_of, slot_of, hash_set, slot_set}
use Rattle.cs_heap.proofs.Laws.{birth_of-with_hash, birth_of-with_slot, class_of-with_hash, class_of-with_slot, field_of-old, format_of-with_hash, format_of-with_slot, is_object-old, is_object-with_hash, is_object-with_slot, object_at-old, object_placed, slot_count_of-with_hash, slot_count_of-with_slot, slot_of-with_hash, slot_of-with_slot_other_object, slot_of-with_slot_other_slot}
use Rattle.cs_heap.proofs.Laws.{pushed as pushed_object}
use Rattle.std.proofs.lemmas.List.{length-set}
use Rattle.cs_model.specs.Obj.{context_class, context_size}
use Rattle.cs_frame.specs.declared.FrameRef.{FrameRef}
use Rattle.cs_frame.specs.declared.NewFrame.{NewFrame}
use Rattle.cs_frame.specs.Frame.{Frame, IsValue, call_cut, nil, top_popped, value_pushed, with_caller, with_saved_pc}
use Rattle.cs_frame.specs.Frame.{with_value as with_frame_slot}
use Rattle.cs_frame.specs.Page.{HasArguments, IsFrame, AreStacked, called, frame, frames_of, fresh, index_in, frame_index, nth, on_frame, on_nth, on_page, on_top, rest_of, top, frames_used}
use Rattle.cs_frame.proofs.PageLaws.{at-nth_index, end-nth, frame-on_frame, frame-on_frame_other, frames_of-on_page, frames_of-on_page_other, length-on_page, length-stack_called}
use Rattle.cs_marriage.specs.Agree.{Agree, FrameAgrees, HasContext, HasNoFrame, IsContextAt, IsMethodAt, IsWidowed, frame_size, header_at}
use Rattle.cs_marriage.specs.Place.{names_place}
use Rattle.cs_marriage.proofs.Places.{link_names}
use Rattle.cs_marriage.proofs.Agreeing.{fits_like, frame_back, same_ref, size_none, size_some}
use Rattle.cs_marriage.proofs.Objects.{LikeContext, LikeMethod, context_like, context_long, context_there, method_like, method_there}

-- The frames of one page fit, each by its place.
abbrev pub PageFits : List Object → ℕ → List Frame → Type 0
PageFits os p fs = (at : ℕ) → frame_index fs at < length fs → FrameAgrees os (record { page = p; at = at }) (nth fs (frame_index fs at))

pub page_fits : (os : List Object) (ps : List (List Frame)) (p : ℕ) → Agree os ps → PageFits os p (frames_of ps p)
page_fits os ps p agree at lt = agree.frames (record { page = p; at = at }) lt

-- one page is changed, and its frames fit
pub agree_on_page : (os : List Object) (ps : List (List Frame)) (p : ℕ) (h : List Frame → List Frame) → Agree os ps → p < length ps → PageFits os p (h (frames_of ps p))
    → Agree os (on_page ps p h)
agree_on_page os ps p h agree lt fits = record {
  few = omega (arith, agree.few, length-on_page ps p h);
  nil_there = agree.nil_there;
  nil_class = agree.nil_class;
  frames = λ r is. elim (cases_eq r.page p) [
    | inl e ↦ here r is e
    | inr ne ↦ there r is ne
  ];
}
  where
    here : (r : FrameRef) → IsFrame (on_page ps p h) r → r.page ≡ p → FrameAgrees os r (frame (on_page ps p h) r)
    here r is e =
        let same : frames_of (on_page ps p h) r.page ≡ h (frames_of ps p) = ap (frames_of (on_page ps p h)) e ∙ frames_of-on_page ps p h lt in
        let within = subst (λ (fs : List Frame). frame_index fs r.at < length fs) same is in
        subst (λ (fs : List Frame). FrameAgrees os r (nth fs (frame_index fs r.at))) (sym same)
        (subst (λ (n : ℕ). FrameAgrees os (record { page = n; at = r.at }) (nth (h (frames_of ps p)) (frame_index (h (frames_of ps p)) r.at))) (sym e) (fits r.at within))

    there : (r : FrameRef) → IsFrame (on_page ps p h) r → r.page ≢ p → FrameAgrees os r (frame (on_page ps p h) r)
    there r is ne =
        let same = frames_of-on_page_other ps p r.page h ne in
        let old : IsFrame ps r = subst (λ (fs : List Frame). frame_index fs r.at < length fs) same is in
        subst (λ (fs : List Frame). FrameAgrees os r (nth fs (frame_index fs r.at))) (sym same) (agree.frames r old)

-- no frames at all
pub agree_empty : (os : List Object) (n : ℕ) → n ≤ 64 → is_object os nil ≡ true → class_at os nil ≢ context_class → Agree os (replicate n [])
agree_empty os n few there class = record {
  few = omega (arith, few, many n);
  nil_there = there;
  nil_class = class;
  frames = λ r is. absurd (omega (arith, is, ap length (none n r.page)));
}
  where
    many : (n : ℕ) → length (replicate {A = List Frame} n []) ≡ n
    many zero = refl
    many (suc n) = ap suc (many n)

    none : (n p : ℕ) → frames_of (replicate n []) p ≡ []
    none zero p = refl
    none (suc n) zero = refl
    none (suc n) (suc p) = none n p

index_here : (f : Frame) (fs : List Frame) (at : ℕ) → f.at ≡ at → frame_index (f ∷ fs) at ≡ 0
index_here f fs at e = ap (λ b. cond b 0 (suc (frame_index fs at))) (eq-eqb f.at at e)

index_there : (f : Frame) (fs : List Frame) (at : ℕ) → f.at ≢ at → frame_index (f ∷ fs) at ≡ suc (frame_index fs at)
index_there f fs at ne = ap (λ b. cond b 0 (suc (frame_index fs at))) (ne_eqb f.at at ne)

-- a frame above others that fit
pub fits_above : (os : List Object) (p : ℕ) (f : Frame) (fs : List Frame) → FrameAgrees os (record { page = p; at = f.at }) f → PageFits os p fs → PageFits os p (f ∷ fs)
fits_above os p f fs fit rest at lt = elim (cases_eq f.at at) [
  | inl e ↦
      subst (λ k. FrameAgrees os (record { page = p; at = at }) (nth (f ∷ fs) k)) (sym (index_here f fs at e))
      (subst (λ (n : ℕ). FrameAgrees os (record { page = p; at = n }) f) e fit)
  | inr ne ↦
      let i = index_there f fs at ne in
      subst (λ k. FrameAgrees os (record { page = p; at = at }) (nth (f ∷ fs) k)) (sym i) (rest at (omega (arith, lt, i)))
]

-- and the others, where it goes
pub fits_below : (os : List Object) (p : ℕ) (f : Frame) (fs : List Frame) → AreStacked (f ∷ fs) → PageFits os p (f ∷ fs) → PageFits os p fs
fits_below os p f fs stacked fits at lt =
    let end = end-nth fs (frame_index fs at) stacked.1 lt in
    let place = at-nth_index fs at lt in
    let i = index_there f fs at (λ e. omega (arith, e, end, place, stacked.0)) in
    subst (λ k. FrameAgrees os (record { page = p; at = at }) (nth (f ∷ fs) k)) i (fits at (omega (arith, i, lt)))

pub fits_top : (os : List Object) (p : ℕ) (f : Frame) (fs : List Frame) → PageFits os p (f ∷ fs) → FrameAgrees os (record { page = p; at = f.at }) f
fits_top os p f fs fits =
    let i = index_here f fs f.at refl in
    subst (λ k. FrameAgrees os (record { page = p; at = f.at }) (nth (f ∷ fs) k)) i (fits f.at (omega (arith, i)))

-- a frame whose stack is another that is no longer than its size
pub fits_stack : (os : List Object) (r : FrameRef) (f : Frame) (xs : List ℕ) → length xs ≤ frame_size os f → FrameAgrees os r f → FrameAgrees os r (record f { stack = xs })
fits_stack os r f xs le fits = record {
  within = fits.within;
  method = fits.method;
  stack = le;
  married = λ ne. let m = fits.married ne in
      record { context = m.context; birth = m.birth; place = m.place; method = m.method; closure = m.closure; receiver = m.receiver };
}

-- a frame returns
pub agree_dropped : (os : List Object) (ps : List (List Frame)) (p : ℕ) → Agree os ps → p < length ps → AreStacked (frames_of ps p) → Agree os (on_page ps p rest_of)
agree_dropped os ps p agree lt stacked = agree_on_page os ps p rest_of agree lt (go (frames_of ps p) stacked (page_fits os ps p agree))
  where
    go : (fs : List Frame) → AreStacked fs → PageFits os p fs → PageFits os p (rest_of fs)
    go [] st fits = fits
    go (f ∷ fs) st fits = fits_below os p f fs st fits

pub size_least : (header : ℕ) → 16 ≤ context_size header
size_least header = go (header / 2 ^ 17 % 2 == 1)
  where
    go : (b : Bool) → 16 ≤ (if b then 56 else 16)
    go true = omega arith
    go false = omega arith

-- What a new frame asks for: a method of the heap that its stack fits.
pub record NewFits (os : List Object) (new : NewFrame) : Type 0 where
  pub method : IsMethodAt os new.method.0
  pub stack : new.args + new.fill ≤ context_size (header_at os new.method.0)

fits_fresh : (os : List Object) (p : ℕ) (new : NewFrame) (at caller : ℕ) (xs : List ℕ) → NewFits os new → at < 4096 → length (fresh new at caller xs).stack ≡ new.args + new.fill
    → FrameAgrees os (record { page = p; at = at }) (fresh new at caller xs)
fits_fresh os p new at caller xs can lt long = record {
  within = lt;
  method = can.method;
  stack = omega (arith, long, can.stack, size_none os (fresh new at caller xs) refl);
  married = λ ne. absurd (ne refl);
}

-- the address of a method may stand in a frame
pub method_value : (os : List Object) (m : ℕ) → IsMethodAt os m → IsValue m
method_value os m is e = omega (arith, e, (object_placed os m (method_there os m is)).aligned)

-- a call
pub agree_called : (os : List Object) (ps : List (List Frame)) (p : ℕ) (new : NewFrame) → Agree os ps → p < length ps → AreStacked (frames_of ps p)
    → frames_used (frames_of ps p) + 66 ≤ 4096 → HasArguments new.args (frames_of ps p) → NewFits os new → Agree os (on_page ps p (called new))
agree_called os ps p new agree lt stacked room can fits = agree_on_page os ps p (called new) agree lt (go (frames_of ps p) stacked room can (page_fits os ps p agree))
  where
    go : (fs : List Frame) → AreStacked fs → frames_used fs + 66 ≤ 4096 → HasArguments new.args fs → PageFits os p fs → PageFits os p (called new fs)
    go [] st room can old = fits_above os p (fresh new 0 new.receiver.0 []) [] (fits_fresh os p new 0 new.receiver.0 [] fits (omega arith) (length-stack_called new [] can)) old
    go (f ∷ fs) st room can old =
        let short = length-take (length f.stack - (new.args + 1)) f.stack in
        let under = fits_top os p f fs old in
        let cut_fits = fits_stack os (record { page = p; at = f.at }) f (take (length f.stack - (new.args + 1)) f.stack) (omega (arith, short, under.stack)) under in
        fits_above os p (fresh new (frames_used (call_cut new.args f ∷ fs)) nil (drop (length f.stack - new.args) f.stack)) (call_cut new.args f ∷ fs)
        (fits_fresh os p new (frames_used (call_cut new.args f ∷ fs)) nil (drop (length f.stack - new.args) f.stack) fits (omega (arith, short, room)) (length-stack_called new (f ∷ fs) can))
        (fits_above os p (call_cut new.args f) fs cut_fits (fits_below os p f fs st old))

-- every frame has room for 16 values
pub size_fits : (os : List Object) (r : FrameRef) (f : Frame) → FrameAgrees os r f → 16 ≤ frame_size os f
size_fits os r f fits = elim (cases_eq f.context nil) [
  | inl e ↦ omega (arith, size_none os f e, size_least (header_at os f.method))
  | inr ne ↦ omega (arith, size_some os f ne, context_long os f.context (fits.married ne).context)
]

-- a value is pushed on a stack that isn't full
pub agree_pushed : (os : List Object) (ps : List (List Frame)) (p v : ℕ) → Agree os ps → p < length ps → AreStacked (frames_of ps p)
    → length (top (frames_of ps p)).stack < frame_size os (top (frames_of ps p)) → Agree os (on_page ps p (on_top (value_pushed v)))
agree_pushed os ps p v agree lt stacked small = agree_on_page os ps p (on_top (value_pushed v)) agree lt (go (frames_of ps p) stacked small (page_fits os ps p agree))
  where
    go : (fs : List Frame) → AreStacked fs → length (top fs).stack < frame_size os (top fs) → PageFits os p fs → PageFits os p (on_top (value_pushed v) fs)
    go [] st small fits = fits
    go (f ∷ fs) st small fits =
        fits_above os p (value_pushed v f) fs
        (fits_stack os (record { page = p; at = f.at }) f (f.stack ++ v ∷ []) (omega (arith, small, length-append f.stack (v ∷ []))) (fits_top os p f fs fits))
        (fits_below os p f fs st fits)

-- the last value is popped
pub agree_popped : (os : List Object) (ps : List (List Frame)) (p : ℕ) → Agree os ps → p < length ps → AreStacked (frames_of ps p) → Agree os (on_page ps p (on_top top_popped))
agree_popped os ps p agree lt stacked = agree_on_page os ps p (on_top top_popped) agree lt (go (frames_of ps p) stacked (page_fits os ps p agree))
  where
    go : (fs : List Frame) → AreStacked fs → PageFits os p fs → PageFits os p (on_top top_popped fs)
    go [] st fits = fits
    go (f ∷ fs) st fits =
        let under = fits_top os p f fs fits in
        fits_above os p (top_popped f) fs
        (fits_stack os (record { page = p; at = f.at }) f (take (length f.stack - 1) f.stack) (omega (arith, under.stack, length-take (length f.stack - 1) f.stack)) under)
        (fits_below os p f fs st fits)

-- the last frame of a page with frames
pub top_fits : (os : List Object) (ps : List (List Frame)) (p : ℕ) → Agree os ps → 0 < length (frames_of ps p) → FrameAgrees os (record { page = p; at = (top (frames_of ps p)).at }) (top (frames_of ps p))
top_fits os ps p agree some = go (frames_of ps p) some (page_fits os ps p agree)
  where
    go : (fs : List Frame) → 0 < length fs → PageFits os p fs → FrameAgrees os (record { page = p; at = (top fs).at }) (top fs)
    go [] some fits = absurd (omega (arith, some))
    go (f ∷ fs) some fits = fits_top os p f fs fits

-- ---- the heap changes

-- methods and contexts are read the same
pub agree_like : (os ws : List Object) (ps : List (List Frame)) → Agree os ps → is_object ws nil ≡ true → class_at ws nil ≡ class_at os nil
    → ((m : ℕ) → IsMethodAt os m → LikeMethod os ws m) → ((a : ℕ) → IsContextAt os a → LikeContext os ws a) → Agree ws ps
agree_like os ws ps agree there class methods contexts = record {
  few = agree.few;
  nil_there = there;
  nil_class = λ e. agree.nil_class (sym class ∙ e);
  frames = λ r is. let fits = agree.frames r is in
      fits_like os ws r (frame ps r) (methods (frame ps r).method fits.method) (λ ne. contexts (frame ps r).context (fits.married ne).context) fits;
}

-- an object is added
pub agree_grown : (os : List Object) (ps : List (List Frame)) (y : Object) → Agree os ps → Agree (pushed_object os y) ps
agree_grown os ps y agree =
    agree_like os (pushed_object os y) ps agree (is_object-old os y nil agree.nil_there) (field_of-old (λ x. x.class) os y nil agree.nil_there)
    (λ m is. method_like os (pushed_object os y) m (object_at-old os y m (method_there os m is)))
    (λ a at. context_like os (pushed_object os y) a (object_at-old os y a (context_there os a at)))

-- a slot is written of what is no context, and it is no header of a method
pub agree_stored : (os : List Object) (ps : List (List Frame)) (a i v : ℕ) → Agree os ps → class_at os a ≢ context_class → (IsMethodAt os a → i ≢ 0)
    → Agree (slot_set os a i v) ps
agree_stored os ps a i v agree other header =
    agree_like os (slot_set os a i v) ps agree (is_object-with_slot os a i v nil ∙ agree.nil_there) (class_of-with_slot os a i v nil)
    (λ m is. record {
      format = format_of-with_slot os a i v m;
      count = slot_count_of-with_slot os a i v m;
      header = elim (cases_eq a m) [
        | inl e ↦ slot_of-with_slot_other_slot os a i v m 0 (λ z. header (subst (IsMethodAt os) (sym e) is) (sym z))
        | inr ne ↦ slot_of-with_slot_other_object os a i v m 0 ne
      ];
    })
    (λ c at. let ne : a ≢ c = λ e. other (ap (class_at os) e ∙ at.class) in record {
      class = class_of-with_slot os a i v c;
      format = format_of-with_slot os a i v c;
      birth = birth_of-with_slot os a i v c;
      count = slot_count_of-with_slot os a i v c;
      place = slot_of-with_slot_other_object os a i v c 0 ne;
      method = slot_of-with_slot_other_object os a i v c 3 ne;
      closure = slot_of-with_slot_other_object os a i v c 4 ne;
      receiver = slot_of-with_slot_other_object os a i v c 5 ne;
    })

-- an object is given a hash
pub agree_hashed : (os : List Object) (ps : List (List Frame)) (a h : ℕ) → Agree os ps → Agree (hash_set os a h) ps
agree_hashed os ps a h agree =
    agree_like os (hash_set os a h) ps agree (is_object-with_hash os a h nil ∙ agree.nil_there) (class_of-with_hash os a h nil)
    (λ m is. record {
      format = format_of-with_hash os a h m;
      count = slot_count_of-with_hash os a h m;
      header = slot_of-with_hash os a h m 0;
    })
    (λ c at. record {
      class = class_of-with_hash os a h c;
      format = format_of-with_hash os a h c;
      birth = birth_of-with_hash os a h c;
      count = slot_count_of-with_hash os a h c;
      place = slot_of-with_hash os a h c 0;
      method = slot_of-with_hash os a h c 3;
      closure = slot_of-with_hash os a h c 4;
      receiver = slot_of-with_hash os a h c 5;
    })

-- ---- a frame changes in its place

-- what ties a frame to the heap is kept
pub record KeepsTies (g : Frame → Frame) : Type 0 where
  pub place : (f : Frame) → (g f).at ≡ f.at
  pub method : (f : Frame) → (g f).method ≡ f.method
  pub closure : (f : Frame) → (g f).closure ≡ f.closure
  pub context : (f : Frame) → (g f).context ≡ f.context
  pub birth : (f : Frame) → (g f).birth ≡ f.birth
  pub receiver : (f : Frame) → (g f).receiver ≡ f.receiver
  pub stack : (f : Frame) → length (g f).stack ≡ length f.stack

fits_tied : (os : List Object) (r : FrameRef) (f h : Frame) → h.method ≡ f.method → h.closure ≡ f.closure → h.context ≡ f.context → h.birth ≡ f.birth → h.receiver ≡ f.receiver
    → length h.stack ≡ length f.stack → FrameAgrees os r f → FrameAgrees os r h
fits_tied os r f h em ec ex eb er es fits = record {
  within = fits.within;
  method = subst (IsMethodAt os) (sym em) fits.method;
  stack =
      let size : frame_size os h ≡ frame_size os f =
      ap (λ a. if a == nil then context_size (header_at os h.method) else slot_count_of os a - 6) ex
      ∙ ap (λ m. if f.context == nil then context_size (header_at os m) else slot_count_of os f.context - 6) em in
      omega (arith, es, size, fits.stack);
  married = λ ne. let m = fits.married (λ e. ne (ex ∙ e)) in record {
    context = subst (IsContextAt os) (sym ex) m.context;
    birth = ap (birth_at os) ex ∙ m.birth ∙ sym eb;
    place = ap (λ a. slot_of os a 0) ex ∙ m.place;
    method = ap (λ a. slot_of os a 3) ex ∙ m.method ∙ sym em;
    closure = ap (λ a. slot_of os a 4) ex ∙ m.closure ∙ sym ec;
    receiver = ap (λ a. slot_of os a 5) ex ∙ m.receiver ∙ sym er;
  };
}

pub agree_on_frame : (os : List Object) (ps : List (List Frame)) (r : FrameRef) (g : Frame → Frame) → KeepsTies g → Agree os ps → IsFrame ps r → Agree os (on_frame ps r g)
agree_on_frame os ps r g ties agree is = record {
  few = omega (arith, agree.few, length-on_page ps r.page (on_nth (index_in ps r) g));
  nil_there = agree.nil_there;
  nil_class = agree.nil_class;
  frames = λ q iq. elim (same_ref q r) [
    | inl e ↦ subst (λ s. FrameAgrees os s (frame (on_frame ps r g) s)) (sym e) (subst (FrameAgrees os r) (sym (frame-on_frame ps r g ties.place is)) here)
    | inr ne ↦
        let old = frame_back ps r q g ties.place is iq in
        subst (FrameAgrees os q) (sym (frame-on_frame_other ps r q g ties.place is old ne)) (agree.frames q old)
  ];
}
  where
    here : FrameAgrees os r (g (frame ps r))
    here = let f = frame ps r in
        fits_tied os r f (g f) (ties.method f) (ties.closure f) (ties.context f) (ties.birth f) (ties.receiver f) (ties.stack f) (agree.frames r is)

pub ties_saved_pc : (v : ℕ) → KeepsTies (with_saved_pc v)
ties_saved_pc v = record { place = λ f. refl; method = λ f. refl; closure = λ f. refl; context = λ f. refl; birth = λ f. refl; receiver = λ f. refl; stack = λ f. refl }

pub ties_caller : (v : ℕ) → KeepsTies (with_caller v)
ties_caller v = record { place = λ f. refl; method = λ f. refl; closure = λ f. refl; context = λ f. refl; birth = λ f. refl; receiver = λ f. refl; stack = λ f. refl }

pub ties_slot : (i v : ℕ) → KeepsTies (with_frame_slot i v)
ties_slot i v = record { place = λ f. refl; method = λ f. refl; closure = λ f. refl; context = λ f. refl; birth = λ f. refl; receiver = λ f. refl; stack = λ f. length-set f.stack i v }

-- ---- married contexts

-- what a frame names is a context
pub spouse_stands : (os : List Object) (ps : List (List Frame)) (a : ℕ) (r : FrameRef) → Agree os ps → a ≢ nil → HasContext ps a r → IsContextAt os a
spouse_stands os ps a r agree ne h = subst (IsContextAt os) h.1 ((agree.frames r h.0).married (λ e. ne (sym h.1 ∙ e))).context

-- the context of a frame that has returned is widowed
pub widow_left : (os : List Object) (ps qs : List (List Frame)) (a : ℕ) (r : FrameRef) → Agree os ps → a ≢ nil → HasContext ps a r → HasNoFrame qs a → IsWidowed os qs a
widow_left os ps qs a r agree ne h none = record {
  named = ap (λ b. names_place (slot_of os b 0)) (sym h.1) ∙ ap names_place ((agree.frames r h.0).married (λ e. ne (sym h.1 ∙ e))).place ∙ link_names r;
  alone = none;
}
