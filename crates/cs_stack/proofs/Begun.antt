-- A new frame stands on a page of its own: it is the base frame, and the married context of its caller is its sender.
use Rattle.std.proofs.Common.{◌≡◌, ◌≢◌, ℕ, ◌+◌, ◌-◌, ◌<◌, true, false, refl, sym, ap, ap₂, subst, ◌∙◌, arith, Some, List, [], ◌∷◌, ◌++◌, length, drop, replicate, zero, suc}
use Rattle.std.specs.Prelude.{◌↔◌, Contains, nat_eq, nat_le, if◌then◌else◌}
use Rattle.std.proofs.lemmas.Bool.Decides.{nat_tests}
use Rattle.std.proofs.lemmas.List.{append_assoc}
use Rattle.std.proofs.lemmas.List.Elements.{All-cons}
use Rattle.std.proofs.lemmas.Map.Keys.{IsDistinct-cons}
use Rattle.cs_word.specs.declared.Oop.{Oop}
use Rattle.cs_heap.specs.Object.{Object, is_object}
use Rattle.cs_classes.specs.Meaning.{ref_of}
use Rattle.cs_classes.proofs.Refs.{ref_of-object}
use Rattle.cs_frame.specs.declared.FrameRef.{FrameRef}
use Rattle.cs_frame.specs.declared.NewFrame.{NewFrame}
use Rattle.cs_frame.specs.Frame.{Frame, call_cut, nil, with_caller, with_saved_pc, with_values}
use Rattle.cs_frame.specs.Page.{IsBase, IsFrame, IsTop, called, fresh, frame, frames_of, frame_index, nth, on_frame, on_page, on_top, top, frames_used}
use Rattle.cs_frame.specs.Page as page
use Rattle.cs_frame.proofs.PageLaws.{frames_of-on_page, frames_of-on_page_other, length-on_page, on_page-on_page_other}
use Rattle.cs_marriage.specs.Agree.{AreMarried}
use Rattle.cs_marriage.proofs.Based.{alone, alone_base, alone_frames, alone_on_frame, alone_on_top, alone_top}
use Rattle.cs_marriage.proofs.Objects.{context_there}
use Rattle.cs_model.specs.Ref as ref
use Rattle.cs_model.specs.Obj.{context_class}
use Rattle.cs_model.specs.Read.{active_birth}
use Rattle.cs_acts.specs.Layout.{LaidBy, entered, page_words}
use Rattle.cs_acts.specs.Ready.{IsReady}
use Rattle.cs_pages.specs.Order.{IsFree, IsSoundOrder, Order}
use Rattle.cs_pages.proofs.Lists.{lacks_from_not}
use Rattle.cs_stack.specs.declared.parts.Parts.{Parts}
use Rattle.cs_stack.specs.View.{active_page, births_of, frame_sender, laid_pages, layout_of, stored_of, view_of}
use Rattle.cs_stack.specs.Good.{FrameFits, IsChain, IsGood, base_of, is_nil_or}
use Rattle.cs_stack.specs.Moved.{CanBegin, active_number, begun_parts, begun_state, callee, copied_at, given_birth}
use Rattle.cs_stack.proofs.Tops.{Opened}
use Rattle.cs_stack.proofs.Framed.{IsOn, here}
use Rattle.cs_stack.proofs.Places.{married_on}
use Rattle.cs_stack.proofs.Adding.{CanAdd, Stay, added_good, added_layout, added_parts, behind, chain_stay, laid_stay}
use Rattle.cs_stack.proofs.Entering.{cut_edited, cut_parts, entered_state, new_fits, new_married, pages_are, words_used}
use Rattle.cs_stack.proofs.Called.{number_is, top_frame, top_is_frame, top_ref}
use Rattle.cs_stack.proofs.Stacking.{longer, shorter, shorter_page}
use Rattle.cs_stack.proofs.Addresses.{nil_or_of}

-- ---- a page that is free

pub at_least : (a b : ℕ) → b < a → nat_le a b ≡ false
at_least a b h = grind (arith, nat_tests, h)

no_frames : (fs : List Frame) → ¬ (0 < length fs) → fs ≡ []
no_frames [] h = refl
no_frames (f ∷ fs) h = absurd (h (omega arith))

pub free_empty : (w : Parts) → IsGood w → (p : ℕ) → IsFree w.pages p → frames_of w.frames p ≡ []
free_empty w good p free = no_frames (frames_of w.frames p) (λ h. free.1 ((good.used_pages p).1 h))

pub free_other : {w : Parts} (o : Opened w) (p : ℕ) → IsFree w.pages p → p ≢ o.p
free_other o p free e = free.1 (subst (λ ps. Contains ps p) (sym o.recent) (0, omega arith, sym e))

abbrev pub taken_order : Order → ℕ → Order
taken_order order p = record order { recent = p ∷ order.recent }

taken_sound : (order : Order) (p : ℕ) → IsSoundOrder order → IsFree order p → IsSoundOrder (taken_order order p)
taken_sound order p sound free = record {
  distinct = IsDistinct-cons nat_eq p order.recent (lacks_from_not p order.recent free.1) sound.distinct;
  in_range = All-cons (λ q. q < order.total) p order.recent free.0 sound.in_range;
}

taken_others : (order : Order) (p q : ℕ) → q ≢ p → Contains (p ∷ order.recent) q ↔ Contains order.recent q
taken_others order p q other = (back, λ h. (suc h.0, omega (arith, h.1), h.2))
  where
    back : Contains (p ∷ order.recent) q → Contains order.recent q
    back (zero, within, is) = absurd (other (sym is))
    back (suc n, within, is) = (n, omega (arith, within), is)

-- ---- a caller that is married

module _ (w : Parts) (good : IsGood w) (o : Opened w) (some : o.f.context ≢ nil) where
  married : AreMarried w.heap.objects (page.frame_ref o.p o.f) o.f
  married = married_on w good o.p (subst (IsOn o.f o.fs) (sym o.is) here) some

  spouse_there : is_object w.heap.objects o.f.context ≡ true
  spouse_there = context_there w.heap.objects o.f.context married.context

  spouse_name : ref_of w.heap.objects o.f.context ≡ ref.Obj (active_birth (view_of w))
  spouse_name = ref_of-object w.heap.objects o.f.context spouse_there ∙ ap (λ b. ref.Obj b) (married.birth ∙ sym o.birth)

-- ---- the world

module _ {w : Parts} (good : IsGood w) (ready : IsReady (stored_of w) (view_of w)) (o : Opened w) {new : NewFrame} {pc : Oop} {copies : ℕ}
    (can : CanBegin (stored_of w) (view_of w) new pc copies) (p : ℕ) (free : IsFree w.pages p) (sender : ℕ)
    (same : (top (active_page w)).context ≡ sender) (some : sender ≢ nil) where
  abbrev os : List Object
  os = w.heap.objects

  abbrev next : ℕ
  next = w.roots.next_birth

  abbrev caller : Frame
  caller = call_cut new.args o.f

  abbrev made : Frame
  made = callee os new pc.0 copies 0 sender o.f

  abbrev w1 : Parts
  w1 = cut_parts w o new.args

  abbrev order : Order
  order = taken_order w.pages p

  context_is : o.f.context ≡ sender
  context_is = sym (ap (λ (fs : List Frame). (top fs).context) o.page_is) ∙ same

  has : o.f.context ≢ nil
  has e = some (sym context_is ∙ e)

  pub sender_named : is_nil_or context_class os sender ≡ true
  sender_named = subst (λ a. is_nil_or context_class os a ≡ true) context_is (nil_or_of context_class os o.f.context (spouse_there w good o has) (married w good o has).context.class)

  sender_name : ref_of os sender ≡ ref.Obj (active_birth (view_of w))
  sender_name = subst (λ a. ref_of os a ≡ ref.Obj (active_birth (view_of w))) context_is (spouse_name w good o has)

  other : p ≢ o.p
  other = free_other o p free

  empty : frames_of w.frames p ≡ []
  empty = free_empty w good p free

  still_empty : frames_of w1.frames p ≡ []
  still_empty = frames_of-on_page_other w.frames o.p p (λ _. caller ∷ o.fs) other ∙ empty

  below : frames_of w1.frames o.p ≡ caller ∷ o.fs
  below = frames_of-on_page w.frames o.p (λ _. caller ∷ o.fs) o.within

  begun_is : begun_parts p sender new pc.0 copies w ≡ added_parts w1 p made order
  begun_is =
      let word : ℕ → Frame → Frame = λ a f. callee os new pc.0 copies 0 a f in
      ap (λ ss. record (given_birth w) { pages = order; frames = ss })
      (ap (λ n. on_page (on_page w.frames n (on_top (call_cut new.args))) p (λ _. word sender (top (frames_of w.frames n)) ∷ [])) (number_is o)
      ∙ ap (λ (fs : List Frame). on_page (on_page w.frames o.p (λ _. on_top (call_cut new.args) fs)) p (λ _. word sender (top fs) ∷ [])) o.is
      ∙ ap (λ (fs : List Frame). on_page w1.frames p (λ _. made ∷ fs)) (sym still_empty))

  inside : p < length w1.frames
  inside = omega (arith, free.0, good.total, length-on_page w.frames o.p (λ _. caller ∷ o.fs))

  abbrev ss : List (List Frame)
  ss = on_page w1.frames p (λ gs. made ∷ gs)

  alone_there : frames_of ss p ≡ made ∷ []
  alone_there = frames_of-on_page w1.frames p (λ gs. made ∷ gs) inside ∙ ap (λ (fs : List Frame). made ∷ fs) still_empty

  behind_there : frames_of ss o.p ≡ caller ∷ o.fs
  behind_there = frames_of-on_page_other w1.frames p o.p (λ gs. made ∷ gs) (λ e. other (sym e)) ∙ below

  stays : Stay w1.frames ss w.pages.recent
  stays q h = frames_of-on_page_other w1.frames p q (λ gs. made ∷ gs) (λ e. free.1 (subst (Contains w.pages.recent) e h))

  -- its sender is the context of the last frame of the page behind it
  chain : IsChain ss (p ∷ w.pages.recent)
  chain = subst (λ rs. IsChain ss (p ∷ rs)) (sym o.recent) (
    ap (λ (fs : List Frame). (base_of fs).caller) alone_there ∙ sym context_is ∙ sym (ap (λ (fs : List Frame). (top fs).context) behind_there),
    λ e. has (sym (ap (λ (fs : List Frame). (top fs).context) behind_there) ∙ e),
    subst (IsChain ss) o.recent (chain_stay w1.frames ss w.pages.recent stays (cut_edited w good o new.args).good.chain),
  )

  can_add : CanAdd w1 p made order
  can_add = record {
    within = inside;
    births = can.births;
    fresh = can.birth;
    fits = subst (FrameFits os (next + 1) made) (sym still_empty) (new_fits good ready o can 0 sender [] refl (omega arith) tt sender_named);
    married = new_married good ready o can p 0 sender (omega arith);
    total = refl;
    sound = taken_sound w.pages p good.order free;
    rest = w.pages.recent;
    recent = refl;
    others = taken_others w.pages p;
    chain = chain;
  }

  pub begun_good : IsGood (begun_parts p sender new pc.0 copies w)
  begun_good = subst IsGood (sym begun_is) (added_good w1 (cut_edited w good o new.args).good p made order can_add)

  pub begun_view : view_of (begun_parts p sender new pc.0 copies w) ≡ begun_state (stored_of w) (view_of w) new pc copies
  begun_view =
      ap view_of begun_is
      ∙ entered_state good ready o can p 0 sender order can_add (ap (frame_sender os made) still_empty ∙ sender_name)

  cut_stay : Stay w.frames w1.frames o.qs
  cut_stay q h = frames_of-on_page_other w.frames o.p q (λ _. caller ∷ o.fs) (behind w.pages o.p o.qs good.order o.recent q h)

  pub begun_layout : 4096 < frames_used (active_page w) + 66 → LaidBy (entered (view_of w) next) (layout_of w) (layout_of (begun_parts p sender new pc.0 copies w))
  unfolding can_add
  begun_layout full =
      let tight : nat_le (page_words (view_of w) (births_of (o.f ∷ o.fs)) + 66) 4096 ≡ false = ap (λ n. nat_le (n + 66) 4096) (words_used w good o ∙ ap frames_used (sym o.page_is)) ∙ at_least _ _ full in
      let most : ℕ = w.pages.total in
      ap layout_of begun_is
      ∙ added_layout w1 (cut_edited w good o new.args).good p made order can_add
      ∙ ap (λ (fs : List Frame). Some (record { most = most; pages = (next ∷ births_of fs) ∷ laid_pages w1.frames w.pages.recent })) still_empty
      ∙ ap (λ rs. Some (record { most = most; pages = (next ∷ []) ∷ laid_pages w1.frames rs })) o.recent
      ∙ ap₂ (λ (fs : List Frame) bs. Some (record { most = most; pages = (next ∷ []) ∷ births_of fs ∷ bs })) below (laid_stay w.frames w1.frames o.qs cut_stay)
      ∙ ap (λ b. Some (record { most = most; pages = if b then (next ∷ births_of (o.f ∷ o.fs)) ∷ laid_pages w.frames o.qs else (next ∷ []) ∷ births_of (o.f ∷ o.fs) ∷ laid_pages w.frames o.qs })) (sym tight)
      ∙ ap (λ ps. Some (record { most = most; pages = entered (view_of w) next ps })) (sym (pages_are w o))

-- ---- how the frame is made

-- the frame g stands alone on page p
pub record Stage (ps : List (List Frame)) (p : ℕ) (ss : List (List Frame)) (r : FrameRef) (g : Frame) : Type 0 where
  pub within : p < length ps
  pub is : ss ≡ alone ps p g
  pub ref : r ≡ record { page = p; at = 0 }
  pub at : g.at ≡ 0

module _ {ps : List (List Frame)} {p : ℕ} {ss : List (List Frame)} {r : FrameRef} {g : Frame} (s : Stage ps p ss r g) where
  ref_is : r ≡ page.frame_ref p g
  ref_is = s.ref ∙ ap (λ n. record { page = p; at = n }) (sym s.at)

  page_is : r.page ≡ p
  page_is = ap (λ (q : FrameRef). q.page) s.ref

  frames_are : frames_of ss r.page ≡ g ∷ []
  frames_are = ap₂ frames_of s.is page_is ∙ alone_frames ps p s.within g

  pub stage_base : IsBase ss r
  stage_base = subst (λ qs. IsBase qs r) (sym s.is) (subst (IsBase (alone ps p g)) (sym ref_is) (alone_base ps p s.within g))

  pub stage_top : IsTop ss r
  stage_top = subst (λ qs. IsTop qs r) (sym s.is) (subst (IsTop (alone ps p g)) (sym ref_is) (alone_top ps p s.within g))

  pub stage_used : frames_used (frames_of ss r.page) ≡ 10 + length g.stack
  stage_used = omega (arith, ap frames_used frames_are)

  pub stage_other : (q : ℕ) → q ≢ p → frames_of ss q ≡ frames_of ps q
  stage_other q other = ap (λ qs. frames_of qs q) s.is ∙ frames_of-on_page_other ps p q (λ _. g ∷ []) other

  pub stage_on_frame : (qs : List (List Frame)) (h : Frame → Frame) → (h g).at ≡ g.at → qs ≡ on_frame ss r h → Stage ps p qs r (h g)
  stage_on_frame qs h keeps made = record {
    within = s.within;
    is = made ∙ ap₂ (λ ts q. on_frame ts q h) s.is ref_is ∙ alone_on_frame ps p s.within g h;
    ref = s.ref;
    at = keeps ∙ s.at;
  }

  -- so many values more on its stack
  pub stage_longer : (qs : List (List Frame)) (ys : List ℕ) → qs ≡ longer ss r.page ys → Stage ps p qs r (with_values (g.stack ++ ys) g)
  stage_longer qs ys made = record {
    within = s.within;
    is = made
        ∙ ap (λ (fs : List Frame). on_page ss r.page (on_top (with_values ((top fs).stack ++ ys)))) frames_are
        ∙ ap₂ (λ ts n. on_page ts n (on_top (with_values (g.stack ++ ys)))) s.is page_is
        ∙ alone_on_top ps p s.within g (with_values (g.stack ++ ys));
    ref = s.ref;
    at = s.at;
  }

pub stage_built : (ps : List (List Frame)) (p : ℕ) (ss : List (List Frame)) (r : FrameRef) (new : NewFrame) → p < length ps → frames_of ps p ≡ [] → ss ≡ on_page ps p (called new)
    → r ≡ page.frame_ref p (top (frames_of ss p)) → Stage ps p ss r (fresh new 0 new.receiver.0 [])
stage_built ps p ss r new within empty made at =
    let whole : ss ≡ alone ps p (fresh new 0 new.receiver.0 []) = made ∙ ap (λ (fs : List Frame). on_page ps p (λ _. called new fs)) empty in
    record {
      within = within;
      is = whole;
      ref = at ∙ ap (λ (fs : List Frame). page.frame_ref p (top fs)) (ap (λ qs. frames_of qs p) whole ∙ alone_frames ps p within (fresh new 0 new.receiver.0 []));
      at = refl;
    }

module _ {w : Parts} (o : Opened w) (p : ℕ) (other : p ≢ o.p) {ss : List (List Frame)} {r : FrameRef} {g : Frame} (s : Stage w.frames p ss r g)
    (c : FrameRef) (place : c ≡ page.frame_ref (active_number w) (top (active_page w))) where
  caller_page : c.page ≡ o.p
  caller_page = ap (λ (q : FrameRef). q.page) (top_ref o c place)

  pub caller_frames : frames_of ss c.page ≡ o.f ∷ o.fs
  caller_frames = ap (frames_of ss) caller_page ∙ stage_other s o.p (λ e. other (sym e)) ∙ o.is

  pub caller_same : frame ss c ≡ o.f
  caller_same = ap (λ (fs : List Frame). nth fs (frame_index fs c.at)) (caller_frames ∙ sym (ap (frames_of w.frames) caller_page ∙ o.is)) ∙ top_frame o c place

  pub caller_stands : IsFrame ss c
  caller_stands = subst (λ (fs : List Frame). frame_index fs c.at < length fs) (sym (caller_frames ∙ sym (ap (frames_of w.frames) caller_page ∙ o.is))) (top_is_frame o c place)

  pub caller_top : IsTop ss c
  caller_top = (omega (arith, ap length caller_frames), ap (λ (q : FrameRef). q.at) (top_ref o c place) ∙ sym (ap (λ (fs : List Frame). (top fs).at) caller_frames))

  -- receiver and arguments leave it
  pub stage_cut : (qs : List (List Frame)) (args : ℕ) → qs ≡ shorter ss c.page (args + 1) → qs ≡ on_page (on_page w.frames (active_number w) (on_top (call_cut args))) p (λ _. g ∷ [])
  stage_cut qs args made =
      made
      ∙ ap (λ (fs : List Frame). on_page ss c.page (λ _. shorter_page (args + 1) fs)) caller_frames
      ∙ ap₂ (λ ts n. on_page ts n (λ _. call_cut args o.f ∷ o.fs)) s.is caller_page
      ∙ on_page-on_page_other w.frames p o.p (λ _. g ∷ []) (λ _. call_cut args o.f ∷ o.fs) other
      ∙ ap (λ (fs : List Frame). on_page (on_page w.frames o.p (λ _. on_top (call_cut args) fs)) p (λ _. g ∷ [])) (sym o.is)
      ∙ ap (λ n. on_page (on_page w.frames n (on_top (call_cut args))) p (λ _. g ∷ [])) (sym (number_is o))

-- ---- the frame, part by part

module _ {w : Parts} (good : IsGood w) (ready : IsReady (stored_of w) (view_of w)) (o : Opened w) {new : NewFrame} {pc : Oop} {copies : ℕ}
    (can : CanBegin (stored_of w) (view_of w) new pc copies) (p : ℕ) (free : IsFree w.pages p) (sender : ℕ) where
  abbrev arguments : List ℕ
  arguments = drop (length o.f.stack - new.args) o.f.stack

  abbrev copied : List ℕ
  copied = copied_at w.heap.objects new.closure.0 copies

  -- with these values on its stack
  abbrev pub holding : List ℕ → Frame
  holding xs = record {
    at = 0;
    caller = sender;
    saved_pc = pc.0;
    method = new.method.0;
    closure = new.closure.0;
    context = nil;
    birth = new.birth;
    receiver = new.receiver.0;
    stack = xs;
  }

  pub begun_empty : (ps qs ss : List (List Frame)) (r : FrameRef) → ps ≡ on_page w.frames p (called (record new { args = 0; fill = 0 })) → r ≡ page.frame_ref p (top (frames_of ps p))
      → qs ≡ on_frame ps r (with_caller sender) → ss ≡ on_frame qs r (with_saved_pc pc.0) → Stage w.frames p ss r (holding [])
  begun_empty ps qs ss r built at sent saved =
      let alone : NewFrame = record new { args = 0; fill = 0 } in
      let first = stage_built w.frames p ps r alone (omega (arith, free.0, good.total)) (free_empty w good p free) built at in
      stage_on_frame (stage_on_frame first qs (with_caller sender) refl sent) ss (with_saved_pc pc.0) refl saved

  module _ {ss : List (List Frame)} {r : FrameRef} (c : FrameRef) (place : c ≡ page.frame_ref (active_number w) (top (active_page w))) where
    pub begun_arguments : Stage w.frames p ss r (holding []) → (qs : List (List Frame))
        → qs ≡ on_page ss r.page (on_top (with_values ((top (frames_of ss r.page)).stack ++ drop (length (frame ss c).stack - new.args) (frame ss c).stack)))
        → Stage w.frames p qs r (holding arguments)
    begun_arguments s qs pushed =
        stage_longer s qs arguments (pushed ∙ ap (λ (f : Frame). longer ss r.page (drop (length f.stack - new.args) f.stack)) (caller_same o p (free_other o p free) s c place))

    pub begun_made : Stage w.frames p ss r (holding ((arguments ++ replicate new.fill nil) ++ copied)) → (qs : List (List Frame)) → qs ≡ shorter ss c.page (new.args + 1)
        → qs ≡ on_page (on_page w.frames (active_number w) (on_top (call_cut new.args))) p (λ _. callee w.heap.objects new pc.0 copies 0 sender (top (frames_of w.frames (active_number w))) ∷ [])
    begun_made s qs dropped =
        let active : top (frames_of w.frames (active_number w)) ≡ o.f = ap (λ (fs : List Frame). top fs) (ap (frames_of w.frames) (number_is o) ∙ o.is) in
        stage_cut o p (free_other o p free) s c place qs new.args dropped
        ∙ ap (λ (xs : List ℕ). on_page (on_page w.frames (active_number w) (on_top (call_cut new.args))) p (λ _. holding xs ∷ [])) (append_assoc arguments (replicate new.fill nil) copied)
        ∙ ap (λ (f : Frame). on_page (on_page w.frames (active_number w) (on_top (call_cut new.args))) p (λ _. callee w.heap.objects new pc.0 copies 0 sender f ∷ [])) (sym active)
