-- A new frame where no room is left on the page: the caller is married first, and a call that is refused has its cause.
use Rattle.std.proofs.Common.{◌≡◌, ◌≢◌, ℕ, ◌+◌, ◌<◌, ◌≤◌, Bool, true, false, refl, sym, ap, ap₂, subst, ◌∙◌, arith, Option, Some, None, List, [], ◌∷◌, ◌++◌, length, take, replicate, zero, suc, inl, inr}
use Rattle.std.specs.Prelude.{◌==◌, nat_le, if◌then◌else◌, ◌||◌}
use Rattle.std.specs.FinMap.{get, insert}
use Rattle.std.proofs.lemmas.Bool.Decides.{eqb_tells}
use Rattle.cs_word.specs.Word.{natural_of_word}
use Rattle.cs_word.specs.declared.Oop.{Oop}
use Rattle.cs_frame.specs.declared.FrameRef.{FrameRef}
use Rattle.cs_frame.specs.declared.NewFrame.{NewFrame}
use Rattle.cs_frame.specs.Frame.{Frame}
use Rattle.cs_frame.specs.Page.{frames_of, frame_ref, top, frames_used}
use Rattle.cs_model.specs.Ref.{Ref}
use Rattle.cs_model.specs.Ref as ref
use Rattle.cs_model.specs.Obj.{Context, Ctx, context_size, header_in, is_method, popped}
use Rattle.cs_model.specs.State.{Kept, object_at, object_of, put}
use Rattle.cs_model.specs.Read.{IsRunning, active_birth, active_context, stack_of}
use Rattle.cs_model.specs.Operation.{drop_of, enter_of, enter_with, last_values, nil_of}
use Rattle.cs_model.specs.Enter.{copied_values, enter_block_of}
use Rattle.cs_model.specs.Context.{lies_if_index}
use Rattle.cs_model.specs.Keeps.{Keeps}
use Rattle.cs_model.proofs.Entering.{enter_block_moved}
use Rattle.cs_model.proofs.Operating.{enter_moved}
use Rattle.cs_model.proofs.Same.{same}
use Rattle.cs_acts.proofs.Held.{named_held}
use Rattle.cs_model.specs.Demand.{words_taken, words_below, words_held}
use Rattle.cs_acts.specs.declared.act.Act.{Act}
use Rattle.cs_acts.specs.declared.act.Act.TheVariants as act
use Rattle.cs_acts.specs.declared.act.Full.{Full}
use Rattle.cs_acts.specs.declared.act.Full.TheVariants as full
use Rattle.cs_acts.specs.Full.{CausesFull, IsFullHeap}
use Rattle.cs_acts.specs.Layout.{LaidBy, Layout, entered, first_page, page_words}
use Rattle.cs_acts.specs.Made.{made_by_entering}
use Rattle.cs_acts.specs.Names.{IsNamed, KeepsNames, Store, name_of}
use Rattle.cs_acts.specs.Ready.{IsReady}
use Rattle.cs_stack.specs.declared.parts.Parts.{Parts}
use Rattle.cs_stack.specs.View.{act_of, active_page, birth_from, laid_pages, layout_of, stored_of, view_of}
use Rattle.cs_stack.specs.Good.{IsGood, Lacks}
use Rattle.cs_stack.specs.Moved.{CanBegin, IsContextOf, Takes, active_number, begun_parts, begun_state}
use Rattle.cs_stack.proofs.Maps.{Objects, get_apart, get_here}
use Rattle.cs_stack.proofs.Tops.{Opened, good_ready, opened, opened_at, ready_again}
use Rattle.cs_stack.proofs.Entering.{pages_are, words_used}
use Rattle.cs_stack.proofs.Called.{number_is, top_frame, top_ref}
use Rattle.cs_stack.proofs.Begun.{at_least, begun_good, begun_layout, begun_view}
use Rattle.cs_model.specs.Context.{closure_class, has_class_index}
use Rattle.cs_model.specs.State.{is_nil}

-- ---- the words of a state in which a context is entered

module _ (k : Kept) (args : ℕ) (new : Context → Context) (running : IsRunning k) where
  abbrev t : Kept
  t = enter_with k args new

  same_words : (i : ℕ) → i < k.rest.next → words_taken (object_at k i) ≡ words_taken (object_at t i)
  unfolding enter_with drop_of put
  same_words i below =
      let cut : Objects = insert k.objects (active_birth k) (Ctx (popped (args + 1) (active_context k))) in
      let apart : object_at t i ≡ get cut i = get_apart cut k.rest.next i (Ctx (new (active_context k))) (λ e. omega (arith, e, below)) in
      elim (eqb_tells i (active_birth k)) [
        | inl e ↦ ap words_taken (ap (object_at k) e.1 ∙ running.found)
            ∙ sym (ap words_taken (apart ∙ ap (get cut) e.1 ∙ get_here k.objects (active_birth k) (Ctx (popped (args + 1) (active_context k)))))
        | inr e ↦ sym (ap words_taken (apart ∙ get_apart k.objects (active_birth k) i (Ctx (popped (args + 1) (active_context k))) e.1))
      ]

  same_below : (n : ℕ) → n ≤ k.rest.next → words_below n k ≡ words_below n t
  unfolding words_below
  same_below zero le = refl
  same_below (suc n) le = ap₂ (λ a b. a + b) (same_below n (omega (arith, le))) (same_words n (omega (arith, le)))

  pub words_more : words_held k ≤ words_held t
  unfolding enter_with words_below
  words_more =
      let next : k.rest.next + 1 ≡ suc k.rest.next = omega arith in
      let less : words_below k.rest.next t ≤ words_below (suc k.rest.next) t = omega arith in
      let all = subst (λ n. words_below k.rest.next t ≤ words_below n t) (sym next) less in
      omega (arith, same_below k.rest.next (omega arith), all)

-- ---- why it is refused

pub refused_heap : (s : Store) (l : Option Layout) (k t : Kept) (why : Full) → words_held k ≤ words_held t → (why ≡ full.Heap) × CausesFull s l k 0 k why → CausesFull s l k 0 t why
refused_heap s l k t why more (is, cause) =
    let c : IsFullHeap s l 0 k = subst (λ y. CausesFull s l k 0 k y) is cause in
    subst (λ y. CausesFull s l k 0 t y) (sym is) (record { words = omega (arith, more, c.words); room = c.room })

length_laid : (ps : List (List Frame)) (rs : List ℕ) → length (laid_pages ps rs) ≡ length rs
length_laid ps [] = refl
length_laid ps (r ∷ rs) = ap suc (length_laid ps rs)

pub first_words : (w : Parts) → IsGood w → Opened w → page_words (view_of w) (first_page (laid_pages w.frames w.pages.recent)) ≡ frames_used (active_page w)
first_words w good o = ap (λ ps. page_words (view_of w) (first_page ps)) (pages_are w o) ∙ words_used w good o ∙ sym (ap frames_used o.page_is)

pub refused_stack : (w : Parts) → IsGood w → Opened w → (s : Store) (t : Kept) → length w.pages.recent ≡ w.pages.total → 4096 < frames_used (active_page w) + 66
    → CausesFull s (layout_of w) (view_of w) 0 t full.Stack
refused_stack w good o s t all room = (length_laid w.frames w.pages.recent ∙ all, subst (λ n. 4096 < n + 66) (sym (first_words w good o)) room)

-- one context is made at most
pub made_one : (w : Parts) → IsGood w → Opened w → 4096 < frames_used (active_page w) + 66 → made_by_entering (view_of w) (layout_of w) ≡ 1
made_one w good o room = ap (λ b. if b then 0 else 1) (ap (λ n. nat_le (n + 66) 4096) (first_words w good o) ∙ at_least (frames_used (active_page w) + 66) 4096 room)

-- ---- the caller is married

-- a frame at r has the context a from now on, and else nothing is seen to change
pub record Marries (w v : Parts) (r : FrameRef) (a : ℕ) : Type 0 where
  pub good : IsGood v
  pub view : view_of v ≡ view_of w
  pub context : IsContextOf v r a
  pub acts : (x : Act) → act_of v x ≡ act_of w x
  pub rest : v ≡ record w { heap = v.heap; frames = v.frames }
  pub layout : layout_of v ≡ layout_of w
  pub names : KeepsNames (stored_of w) (stored_of v)

not_from : (i at : ℕ) (fs : List Frame) → Lacks i fs → birth_from fs at ≢ Some i
not_from i at [] l e = absurd (cc)
not_from i at (f ∷ fs) l e = go (f.at == at) e (not_from i at fs l.1)
  where
    go : (b : Bool) → (if b then Some f.birth else birth_from fs at) ≡ Some i → birth_from fs at ≢ Some i → ⊥
    go true h none = l.0 (let same : f.birth ≡ i = cc in sym same)
    go false h none = none h

from_top : (f : Frame) (fs : List Frame) (at : ℕ) → Lacks f.birth fs → birth_from (f ∷ fs) at ≡ Some f.birth → f.at ≡ at
from_top f fs at l h = elim (eqb_tells f.at at) [
  | inl e ↦ e.1
  | inr e ↦ absurd (not_from f.birth at fs l (sym (ap (λ b. if b then Some f.birth else birth_from fs at) e.0) ∙ h))
]

from_here : (f : Frame) (fs : List Frame) → birth_from (f ∷ fs) f.at ≡ Some f.birth
from_here f fs = elim (eqb_tells f.at f.at) [
  | inl e ↦ ap (λ b. if b then Some f.birth else birth_from fs f.at) e.0
  | inr e ↦ absurd (e.1 refl)
]

abbrev pages_in : Option Layout → List (List ℕ)
pages_in None = []
pages_in (Some l) = l.pages

-- what a frame is begun with is still there, and means the same
module _ {s t : Store} {k l : Kept} (names : KeepsNames s t) (view : l ≡ k) {new : NewFrame} {pc : Oop} {copies : ℕ} (can : CanBegin s k new pc copies) where
  pub can_begin_still : CanBegin t l new pc copies
  can_begin_still = subst (λ j. CanBegin t j new pc copies) (sym view) (record {
    method = (names new.method can.method).sound;
    closure = (names new.closure can.closure).sound;
    kind = ap (λ x. is_nil k x || has_class_index closure_class (object_of k x)) (names new.closure can.closure).is ∙ can.kind;
    receiver = (names new.receiver can.receiver).sound;
    code = ap (λ x. is_method (object_of k x)) (names new.method can.method).is ∙ can.code;
    lies = ap (λ x. lies_if_index (object_of k x) (natural_of_word pc.0)) (names new.method can.method).is ∙ can.lies;
    copied = subst (λ x. copies ≤ length (copied_values k x)) (sym (names new.closure can.closure).is) can.copied;
    there = can.there;
    fits = subst (λ x. new.args + (new.fill + copies) ≤ context_size (header_in (object_of k x))) (sym (names new.method can.method).is) can.fits;
    birth = can.birth;
    births = can.births;
  })

  pub begun_state_still : begun_state t l new pc copies ≡ begun_state s k new pc copies
  begun_state_still =
      ap (λ j. begun_state t j new pc copies) view
      ∙ (λ i. enter_with k new.args (λ _. record {
        hash = 0;
        sender = ref.Obj (active_birth k);
        pc = natural_of_word pc.0;
        method = (names new.method can.method).is i;
        closure = (names new.closure can.closure).is i;
        receiver = (names new.receiver can.receiver).is i;
        stack = last_values new.args (stack_of k) ++ (replicate new.fill (nil_of k) ++ take copies (copied_values k ((names new.closure can.closure).is i)));
        size = context_size (header_in (object_of k ((names new.method can.method).is i)));
      }))

module _ {w v : Parts} (good : IsGood w) (ready : IsReady (stored_of w) (view_of w)) {r : FrameRef} {a : ℕ} (m : Marries w v r a)
    (place : r ≡ frame_ref (active_number w) (top (active_page w))) where
  pub married_ready : IsReady (stored_of v) (view_of v)
  married_ready = ready_again w v m.good ready (ap (λ (k : Kept). k.rest.active) m.view)

  o : Opened w
  o = opened w good ready

  u : Opened v
  u = opened v m.good married_ready

  same_number : active_number v ≡ active_number w
  same_number = ap active_number m.rest

  same_birth : u.f.birth ≡ o.f.birth
  same_birth = sym u.birth ∙ ap active_birth m.view ∙ o.birth

  same_at : u.f.at ≡ r.at
  same_at =
      let is : r ≡ frame_ref o.p o.f = top_ref o r place in
      let page : r.page ≡ u.p = ap (λ (q : FrameRef). q.page) place ∙ sym same_number ∙ number_is u in
      let before : birth_from (frames_of w.frames r.page) r.at ≡ Some o.f.birth =
      ap (λ (q : FrameRef). birth_from (frames_of w.frames q.page) q.at) is ∙ ap (λ (fs : List Frame). birth_from fs o.f.at) o.is ∙ from_here o.f o.fs in
      let now : birth_from (frames_of v.frames r.page) r.at ≡ birth_from (u.f ∷ u.fs) r.at = ap (λ (fs : List Frame). birth_from fs r.at) (ap (frames_of v.frames) page ∙ u.is) in
      from_top u.f u.fs r.at u.fits.apart (sym now ∙ m.acts (act.Frame r.page r.at) ∙ before ∙ ap (λ b. Some b) (sym same_birth))

  pub married_place : r ≡ frame_ref (active_number v) (top (active_page v))
  married_place =
      let page : r.page ≡ active_number v = ap (λ (q : FrameRef). q.page) place ∙ sym same_number in
      ap (λ n. record { page = n; at = r.at }) page
      ∙ ap (λ n. record { page = active_number v; at = n }) (sym same_at)
      ∙ ap (λ (fs : List Frame). frame_ref (active_number v) (top fs)) (sym u.page_is)

  pub married_context : (top (active_page v)).context ≡ a
  married_context = ap (λ (fs : List Frame). (top fs).context) u.page_is ∙ sym (ap (λ (f : Frame). f.context) (top_frame u r married_place)) ∙ m.context.0

  same_used : frames_used (active_page v) ≡ frames_used (active_page w)
  same_used =
      sym (first_words v m.good u)
      ∙ ap₂ (λ k l. page_words k (first_page (pages_in l))) m.view m.layout
      ∙ first_words w good o

  module _ {new : NewFrame} {pc : Oop} {copies : ℕ} (can : CanBegin (stored_of w) (view_of w) new pc copies) where
    can_still : CanBegin (stored_of v) (view_of v) new pc copies
    can_still = can_begin_still m.names m.view can

    module _ {z : Parts} (t : Takes v.pages z (λ page. begun_parts page a new pc.0 copies v)) where
      pub overflowed_good : IsGood z
      overflowed_good = subst IsGood (sym t.is) (begun_good m.good married_ready u can_still t.page t.free a married_context m.context.1)

      pub overflowed_view : view_of z ≡ begun_state (stored_of w) (view_of w) new pc copies
      overflowed_view =
          ap view_of t.is
          ∙ begun_view m.good married_ready u can_still t.page t.free a married_context m.context.1
          ∙ begun_state_still m.names m.view can

      pub overflowed_layout : 4096 < frames_used (active_page w) + 66 → LaidBy (entered (view_of w) w.roots.next_birth) (layout_of w) (layout_of z)
      overflowed_layout full =
          let laid = begun_layout m.good married_ready u can_still t.page t.free a married_context m.context.1 (omega (arith, full, same_used)) in
          subst (λ l. LaidBy (entered (view_of w) w.roots.next_birth) l (layout_of z)) m.layout
          (subst (λ (k : Kept). LaidBy (entered k k.rest.next) (layout_of v) (layout_of z)) m.view
          (subst (λ (y : Parts). LaidBy (entered (view_of v) v.roots.next_birth) (layout_of v) (layout_of y)) (sym t.is) laid))

-- ---- the world behind it

entered_active : (k : Kept) (x : Ref) (args : ℕ) (skip : Bool) → (enter_of k x args skip).rest.active ≡ Some k.rest.next
unfolding enter_of enter_with
entered_active k x args skip = refl

pub entered_keeps : (w v : Parts) (method : Oop) (args : ℕ) (skip : Bool) → IsReady (stored_of w) (view_of w) → IsNamed (stored_of w) method
    → view_of v ≡ enter_of (view_of w) (name_of (stored_of w) method) args skip
    → (m : Kept) → Keeps (view_of w) m → Keeps (view_of v) (enter_of m (name_of (stored_of w) method) args skip)
entered_keeps w v method args skip ready named view m keeps =
    let held = named_held (stored_of w) (view_of w) method ready.sound.holds named in
    subst (λ u. Keeps u (enter_of m (name_of (stored_of w) method) args skip)) (sym view) (enter_moved keeps (same (name_of (stored_of w) method) held) args skip).keeps

pub entered_ready : (w v : Parts) (method : Oop) (args : ℕ) (skip : Bool) → IsGood v → view_of v ≡ enter_of (view_of w) (name_of (stored_of w) method) args skip → IsReady (stored_of v) (view_of v)
entered_ready w v method args skip good view =
    good_ready v good (opened_at v _ good (ap (λ (k : Kept). k.rest.active) view ∙ entered_active (view_of w) (name_of (stored_of w) method) args skip))

block_active : (k : Kept) (x : Ref) (args : ℕ) → (enter_block_of k x args).rest.active ≡ Some k.rest.next
unfolding enter_block_of enter_with
block_active k x args = refl

pub block_keeps : (w v : Parts) (closure : Oop) (args : ℕ) → IsReady (stored_of w) (view_of w) → IsNamed (stored_of w) closure
    → view_of v ≡ enter_block_of (view_of w) (name_of (stored_of w) closure) args
    → (m : Kept) → Keeps (view_of w) m → Keeps (view_of v) (enter_block_of m (name_of (stored_of w) closure) args)
block_keeps w v closure args ready named view m keeps =
    let held = named_held (stored_of w) (view_of w) closure ready.sound.holds named in
    subst (λ u. Keeps u (enter_block_of m (name_of (stored_of w) closure) args)) (sym view) (enter_block_moved keeps (same (name_of (stored_of w) closure) held) args).keeps

pub block_ready : (w v : Parts) (closure : Oop) (args : ℕ) → IsGood v → view_of v ≡ enter_block_of (view_of w) (name_of (stored_of w) closure) args → IsReady (stored_of v) (view_of v)
block_ready w v closure args good view =
    good_ready v good (opened_at v _ good (ap (λ (k : Kept). k.rest.active) view ∙ block_active (view_of w) (name_of (stored_of w) closure) args))
