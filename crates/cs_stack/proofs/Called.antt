-- A new frame stands above the active one, where it fits there.
use Rattle.std.proofs.Common.{◌≡◌, ℕ, ◌+◌, ◌-◌, ◌<◌, ◌≤◌, true, refl, sym, ap, ap₂, subst, ◌∙◌, arith, Some, List, [], ◌∷◌, length, length-drop, length-take, suc, drop, replicate, inl, inr}
use Rattle.std.specs.Prelude.{slice_index, nat_le, if◌then◌else◌}
use Rattle.std.proofs.lemmas.Bool.Decides.{eqb_tells, nat_tests}
use Rattle.std.proofs.lemmas.List.{append_assoc, length-append, length-replicate}
use Rattle.cs_word.specs.declared.Oop.{Oop}
use Rattle.cs_heap.specs.Object.{Object}
use Rattle.cs_frame.specs.declared.FrameRef.{FrameRef}
use Rattle.cs_frame.specs.declared.NewFrame.{NewFrame}
use Rattle.cs_frame.specs.Frame.{Frame, call_cut, nil, with_saved_pc, with_values}
use Rattle.cs_frame.specs.Page.{HasArguments, IsFrame, IsTop, called, fresh, frame, frames_of, frame_index, nth, on_frame, on_nth, on_page, frame_ref, top, frames_used}
use Rattle.cs_frame.proofs.PageLaws.{frames_of-on_page, frames_of-on_page_other, length-on_page, on_page-on_page}
use Rattle.cs_model.specs.Ref as ref
use Rattle.cs_acts.specs.Layout.{LaidBy, entered, page_words}
use Rattle.cs_acts.specs.Ready.{IsReady}
use Rattle.cs_stack.specs.declared.parts.Parts.{Parts}
use Rattle.cs_stack.specs.View.{active_page, births_of, frame_sender, laid_pages, layout_of, stored_of, view_of}
use Rattle.cs_stack.specs.Good.{FrameFits, IsChain, IsGood, base_of}
use Rattle.cs_stack.specs.Moved.{CanBegin, active_number, begun_state, called_page, called_parts, callee, copied_at, given_birth}
use Rattle.cs_stack.proofs.Tops.{Opened}
use Rattle.cs_stack.proofs.Adding.{CanAdd, Stay, added_good, added_layout, added_parts, behind, chain_first, lacks_next, laid_stay}
use Rattle.cs_stack.proofs.Stacking.{longer, longer_page}
use Rattle.cs_stack.proofs.Entering.{cut_edited, cut_fits, cut_parts, entered_state, few, new_fits, new_married, pages_are, there, words_used}

pub at_most : (a b : ℕ) → a ≤ b → nat_le a b ≡ true
at_most a b h = grind (arith, nat_tests, h)

pub first_at : (f : Frame) (fs : List Frame) → frame_index (f ∷ fs) f.at ≡ 0
first_at f fs = elim (eqb_tells f.at f.at) [
  | inl e ↦ ap (λ b. if b then 0 else suc (frame_index fs f.at)) e.0
  | inr e ↦ absurd (e.1 refl)
]

-- the last frame of a page is changed
pub top_on_frame : (ps : List (List Frame)) (p : ℕ) (f : Frame) (fs : List Frame) (g : Frame → Frame) → p < length ps
    → on_frame (on_page ps p (λ _. f ∷ fs)) (frame_ref p f) g ≡ on_page ps p (λ _. g f ∷ fs)
top_on_frame ps p f fs g lt =
    ap (λ n. on_page (on_page ps p (λ _. f ∷ fs)) p (on_nth n g)) (ap (λ (gs : List Frame). frame_index gs f.at) (frames_of-on_page ps p (λ _. f ∷ fs) lt) ∙ first_at f fs)
    ∙ on_page-on_page ps p (λ _. f ∷ fs) (on_nth 0 g) lt

-- ---- the most recent page

module _ {w : Parts} (o : Opened w) where
  pub number_is : active_number w ≡ o.p
  number_is = ap (λ ps. slice_index ps 0) o.recent

  pub active_used : frames_used (frames_of w.frames (active_number w)) ≡ frames_used (active_page w)
  active_used = ap frames_used (ap (frames_of w.frames) number_is ∙ o.is ∙ sym o.page_is)

  pub top_ref : (r : FrameRef) → r ≡ frame_ref (active_number w) (top (active_page w)) → r ≡ frame_ref o.p o.f
  top_ref r is = is ∙ ap₂ (λ n (fs : List Frame). frame_ref n (top fs)) number_is o.page_is

  here : frame_index (frames_of w.frames o.p) o.f.at ≡ 0
  here = ap (λ (fs : List Frame). frame_index fs o.f.at) o.is ∙ first_at o.f o.fs

  pub top_frame : (r : FrameRef) → r ≡ frame_ref (active_number w) (top (active_page w)) → frame w.frames r ≡ o.f
  top_frame r is = ap (frame w.frames) (top_ref r is) ∙ ap (nth (frames_of w.frames o.p)) here ∙ ap (λ (fs : List Frame). nth fs 0) o.is

  pub top_is_frame : (r : FrameRef) → r ≡ frame_ref (active_number w) (top (active_page w)) → IsFrame w.frames r
  top_is_frame r is = subst (IsFrame w.frames) (sym (top_ref r is)) (omega (arith, here, ap length o.is))

-- ---- the frame above it

module _ {w : Parts} (good : IsGood w) (ready : IsReady (stored_of w) (view_of w)) (o : Opened w) {new : NewFrame} {pc : Oop} {copies : ℕ}
    (can : CanBegin (stored_of w) (view_of w) new pc copies) where
  abbrev os : List Object
  os = w.heap.objects

  abbrev next : ℕ
  next = w.roots.next_birth

  abbrev caller : Frame
  caller = call_cut new.args o.f

  abbrev made : Frame
  made = callee os new pc.0 copies (frames_used (caller ∷ o.fs)) nil o.f

  abbrev w1 : Parts
  w1 = cut_parts w o new.args

  pub can_call : HasArguments new.args (frames_of w.frames o.p)
  can_call = subst (HasArguments new.args) (sym o.is) (omega (arith, there good ready o can))

  -- ---- how it is made

  -- without what its closure has copied
  abbrev built : Frame
  built = with_saved_pc pc.0 (fresh new (frames_used (caller ∷ o.fs)) nil (drop (length o.f.stack - new.args) o.f.stack))

  abbrev as_built : List (List Frame)
  as_built = on_page w.frames o.p (λ _. built ∷ caller ∷ o.fs)

  -- that frame, and where it stands
  pub record Built (qs : List (List Frame)) (r : FrameRef) : Type 0 where
    pub is : qs ≡ as_built
    pub ref : r ≡ frame_ref o.p built

  pub frame_built : (t r : FrameRef) (ps qs : List (List Frame)) → t ≡ frame_ref (active_number w) (top (active_page w)) → ps ≡ on_page w.frames t.page (called new)
      → r ≡ frame_ref t.page (top (frames_of ps t.page)) → qs ≡ on_frame ps r (with_saved_pc pc.0) → Built qs r
  frame_built t r ps qs place whole at saved =
      let bare : Frame = fresh new (frames_used (caller ∷ o.fs)) nil (drop (length o.f.stack - new.args) o.f.stack) in
      let page : t.page ≡ o.p = ap (λ (s : FrameRef). s.page) (top_ref o t place) in
      let all : ps ≡ on_page w.frames o.p (λ _. bare ∷ caller ∷ o.fs) = whole ∙ ap (λ n. on_page w.frames n (called new)) page ∙ ap (λ (fs : List Frame). on_page w.frames o.p (λ _. called new fs)) o.is in
      let frames : frames_of ps o.p ≡ bare ∷ caller ∷ o.fs = ap (λ ss. frames_of ss o.p) all ∙ frames_of-on_page w.frames o.p (λ _. bare ∷ caller ∷ o.fs) o.within in
      let ref : r ≡ frame_ref o.p bare = at ∙ ap (λ n. frame_ref n (top (frames_of ps n))) page ∙ ap (λ (fs : List Frame). frame_ref o.p (top fs)) frames in
      record {
        is = saved ∙ ap₂ (λ ss q. on_frame ss q (with_saved_pc pc.0)) all ref ∙ top_on_frame w.frames o.p bare (caller ∷ o.fs) (with_saved_pc pc.0) o.within;
        ref = ref;
      }

  module _ {qs : List (List Frame)} {r : FrameRef} (b : Built qs r) where
    page_is : r.page ≡ o.p
    page_is = ap (λ (s : FrameRef). s.page) b.ref

    pub built_frames : frames_of qs r.page ≡ built ∷ caller ∷ o.fs
    built_frames = ap₂ frames_of b.is page_is ∙ frames_of-on_page w.frames o.p (λ _. built ∷ caller ∷ o.fs) o.within

    pub built_top : IsTop qs r
    built_top = (omega (arith, ap length built_frames), ap (λ (s : FrameRef). s.at) b.ref ∙ sym (ap (λ (fs : List Frame). (top fs).at) built_frames))

    pub built_room : frames_used (active_page w) + 66 ≤ 4096 → frames_used (frames_of qs r.page) + copies ≤ 4096
    built_room room =
        let arguments = length-drop (length o.f.stack - new.args) o.f.stack in
        let nils = length-replicate new.fill nil in
        let all = length-append (drop (length o.f.stack - new.args) o.f.stack) (replicate new.fill nil) in
        let below = length-take (length o.f.stack - (new.args + 1)) o.f.stack in
        omega (arith, room, ap frames_used o.page_is, ap frames_used built_frames, below, arguments, nils, all, few good ready o can, there good ready o can)

    pub frame_made : (zs : List (List Frame)) → zs ≡ longer qs r.page (copied_at os new.closure.0 copies) → zs ≡ on_page w.frames (active_number w) (called_page os new pc.0 copies)
    frame_made zs pushed =
        let copied : List ℕ = copied_at os new.closure.0 copies in
        let arguments : List ℕ = drop (length o.f.stack - new.args) o.f.stack in
        pushed
        ∙ ap (λ (fs : List Frame). on_page qs r.page (λ _. longer_page copied fs)) built_frames
        ∙ ap₂ (λ ss n. on_page ss n (λ _. longer_page copied (built ∷ caller ∷ o.fs))) b.is page_is
        ∙ on_page-on_page w.frames o.p (λ _. built ∷ caller ∷ o.fs) (λ _. longer_page copied (built ∷ caller ∷ o.fs)) o.within
        ∙ ap (λ (xs : List ℕ). on_page w.frames o.p (λ _. with_values xs built ∷ caller ∷ o.fs)) (append_assoc arguments (replicate new.fill nil) copied)
        ∙ ap (λ (fs : List Frame). on_page w.frames o.p (λ _. called_page os new pc.0 copies fs)) (sym o.is)
        ∙ ap (λ n. on_page w.frames n (called_page os new pc.0 copies)) (sym (number_is o))

  -- ---- the world

  frames_is : frames_of w1.frames o.p ≡ caller ∷ o.fs
  frames_is = frames_of-on_page w.frames o.p (λ _. caller ∷ o.fs) o.within

  called_is : called_parts new pc.0 copies w ≡ added_parts w1 o.p made w.pages
  called_is =
      ap (λ ps. record (given_birth w) { frames = ps })
      (ap (λ n. on_page w.frames n (called_page os new pc.0 copies)) (number_is o)
      ∙ ap (λ (fs : List Frame). on_page w.frames o.p (λ _. called_page os new pc.0 copies fs)) o.is
      ∙ sym (on_page-on_page w.frames o.p (λ _. caller ∷ o.fs) (λ gs. made ∷ gs) o.within))

  module _ (room : frames_used (active_page w) + 66 ≤ 4096) where
    short : frames_used (caller ∷ o.fs) + 66 ≤ 4096
    short = omega (arith, room, ap frames_used o.page_is, length-take (length o.f.stack - (new.args + 1)) o.f.stack)

    inside : o.p < length w1.frames
    inside = omega (arith, o.within, length-on_page w.frames o.p (λ _. caller ∷ o.fs))

    above : frames_of (on_page w1.frames o.p (λ gs. made ∷ gs)) o.p ≡ made ∷ caller ∷ o.fs
    above = frames_of-on_page w1.frames o.p (λ gs. made ∷ gs) inside ∙ ap (λ (fs : List Frame). made ∷ fs) frames_is

    fits_above : FrameFits os (next + 1) made (frames_of w1.frames o.p)
    fits_above = subst (FrameFits os (next + 1) made) (sym frames_is)
        (new_fits good ready o can (frames_used (caller ∷ o.fs)) nil (caller ∷ o.fs) refl short (lacks_next os next (caller ∷ o.fs) (cut_fits os next new.args o.f o.fs o.fits, o.rest)) tt)

    can_add : CanAdd w1 o.p made w.pages
    can_add = record {
      within = inside;
      births = can.births;
      fresh = can.birth;
      fits = fits_above;
      married = new_married good ready o can o.p (frames_used (caller ∷ o.fs)) nil (omega (arith, short));
      total = refl;
      sound = good.order;
      rest = o.qs;
      recent = o.recent;
      others = λ q other. (λ h. h, λ h. h);
      chain = chain_first w1.frames (on_page w1.frames o.p (λ gs. made ∷ gs)) o.p o.qs
          (ap (λ (fs : List Frame). (base_of fs).caller) above ∙ sym (ap (λ (fs : List Frame). (base_of fs).caller) frames_is))
          (λ q h. frames_of-on_page_other w1.frames o.p q (λ gs. made ∷ gs) (behind w.pages o.p o.qs good.order o.recent q h))
          (subst (IsChain w1.frames) o.recent (cut_edited w good o new.args).good.chain);
    }

    pub called_good : IsGood (called_parts new pc.0 copies w)
    called_good = subst IsGood (sym called_is) (added_good w1 (cut_edited w good o new.args).good o.p made w.pages can_add)

    pub called_view : view_of (called_parts new pc.0 copies w) ≡ begun_state (stored_of w) (view_of w) new pc copies
    called_view =
        ap view_of called_is
        ∙ entered_state good ready o can o.p (frames_used (caller ∷ o.fs)) nil w.pages can_add (ap (frame_sender os made) frames_is ∙ ap (λ b. ref.Obj b) (sym o.birth))

    cut_stay : Stay w.frames w1.frames o.qs
    cut_stay q h = frames_of-on_page_other w.frames o.p q (λ _. caller ∷ o.fs) (behind w.pages o.p o.qs good.order o.recent q h)

    pub called_layout : LaidBy (entered (view_of w) next) (layout_of w) (layout_of (called_parts new pc.0 copies w))
    unfolding can_add
    called_layout =
        let free : nat_le (page_words (view_of w) (births_of (o.f ∷ o.fs)) + 66) 4096 ≡ true = ap (λ n. nat_le (n + 66) 4096) (words_used w good o ∙ ap frames_used (sym o.page_is)) ∙ at_most _ _ room in
        ap layout_of called_is
        ∙ added_layout w1 (cut_edited w good o new.args).good o.p made w.pages can_add
        ∙ ap₂ (λ (fs : List Frame) bs. Some (record { most = w.pages.total; pages = (next ∷ births_of fs) ∷ bs })) frames_is (laid_stay w.frames w1.frames o.qs cut_stay)
        ∙ ap (λ b. Some (record { most = w.pages.total; pages = if b then (next ∷ births_of (o.f ∷ o.fs)) ∷ laid_pages w.frames o.qs else (next ∷ []) ∷ births_of (o.f ∷ o.fs) ∷ laid_pages w.frames o.qs })) (sym free)
        ∙ ap (λ ps. Some (record { most = w.pages.total; pages = entered (view_of w) next ps })) (sym (pages_are w o))
