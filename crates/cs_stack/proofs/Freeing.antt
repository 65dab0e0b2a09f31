-- The active frame goes, by what a call sees of it: another frame is below it, or its page is given back.
use Rattle.std.proofs.Common.{◌≡◌, ◌≢◌, ◌↔◌, ℕ, ◌+◌, ◌≤◌, true, refl, sym, ap, subst, ◌∙◌, arith, Some, is_some, List, [], ◌∷◌, length, option_and_then, suc}
use Rattle.std.specs.Prelude.{Contains, IfSome, slice_index, if◌then◌else◌}
use Rattle.std.specs.FinMap.{get}
use Rattle.std.proofs.lemmas.Bool.{eq-eqb}
use Rattle.std.proofs.lemmas.List.{nil_from_length}
use Rattle.cs_heap.specs.Object.{Object, birth_at, is_object}
use Rattle.cs_classes.specs.Meaning.{objects_of}
use Rattle.cs_classes.specs.Sound.{is_reference}
use Rattle.cs_frame.specs.declared.FrameRef.{FrameRef}
use Rattle.cs_frame.specs.Frame.{Frame, nil}
use Rattle.cs_frame.specs.Page.{IsBase, IsFrame, frame, frames_of, index_in, frame_index, nth, on_page, frame_ref, rest_of, top}
use Rattle.cs_marriage.specs.Marriage.{CanBase}
use Rattle.cs_pages.specs.Order.{IsFree, IsSoundOrder, Order, without}
use Rattle.cs_model.specs.Obj.{Context, Ctx, context_in}
use Rattle.cs_model.specs.Read.{active_birth}
use Rattle.cs_model.specs.Return.{sender_birth}
use Rattle.cs_acts.specs.Layout.{LaidBy, left}
use Rattle.cs_acts.specs.Made.{contexts_in}
use Rattle.cs_acts.specs.Ready.{IsReady}
use Rattle.cs_acts.proofs.Firsts.{nil_names}
use Rattle.cs_stack.specs.declared.parts.Parts.{Parts}
use Rattle.cs_stack.specs.View.{active_page, bare, laid_pages, layout_of, stored_of, view_of}
use Rattle.cs_stack.specs.Good.{IsGood}
use Rattle.cs_stack.specs.Moved.{Takes, Unwound, active_number, based_parts}
use Rattle.cs_stack.proofs.Based.{based_contexts, based_good, based_layout, based_names, based_view}
use Rattle.cs_stack.proofs.Leaving.{Target, next_of, tell}
use Rattle.cs_stack.proofs.Rebasing.{IsLive, bare_objects, can_base, live_at}
use Rattle.cs_stack.proofs.Tops.{Opened}
use Rattle.cs_stack.proofs.Unwinding.{freed_good, laid_alone, other, recent_is, sender_at, to_below, to_page, unwinds}

-- a page was given back
pub record Frees (old new : Order) (p : ℕ) : Type 0 where
  pub freed : new ≡ record old { recent = without p old.recent }
  pub free : IsFree new p
  pub others : (q : ℕ) → q ≢ p → Contains new.recent q ↔ Contains old.recent q
  pub sound : IsSoundOrder new

module _ {w : Parts} (good : IsGood w) (ready : IsReady (stored_of w) (view_of w)) (o : Opened w) (g : Target w) (alone : o.fs ≡ []) (pages : Order) (free : Frees w.pages pages o.p) where
  abbrev os : List Object
  os = w.heap.objects

  abbrev u : Parts
  u = record w { frames = on_page w.frames o.p rest_of; pages = pages }

  pub good_freed : IsGood u
  good_freed = freed_good good ready o (next_of g) alone pages free.freed free.free free.others free.sound

  recent : pages.recent ≡ o.qs
  recent = recent_is good ready o (next_of g) alone pages free.freed free.free free.others free.sound

  -- ---- no other page is used

  module _ (none : pages.recent ≡ []) where
    last : o.qs ≡ []
    last = sym recent ∙ none

    found : get (objects_of (bare os)) g.t ≡ Some (Ctx g.c)
    found = sym (ap (λ m. get m g.t) (bare_objects good_freed none)) ∙ other good ready o pages g.t g.arrives.other ∙ g.sends.there

    live : is_some g.c.pc ≡ true
    live = sym (ap (λ p. is_some (option_and_then (λ (c : Context). c.pc) (context_in p))) g.sends.there) ∙ g.arrives.live

    sender : (is_object os o.f.caller ≡ true) × (birth_at os o.f.caller ≡ g.t)
    sender = sender_at good ready o (next_of g) alone pages free.freed free.free free.others free.sound

    pub sender_live : IsLive os o.f.caller
    sender_live = live_at os w.classes w.roots o.f.caller g.t g.c good.whole good.senders sender.0 sender.1 found live

    pub can_rebase : CanBase os o.f.caller
    can_rebase = can_base good.whole sender_live good.pcs good.births

    nil_named : is_reference os nil ≡ true
    nil_named = (nil_names (stored_of w) (view_of w) (record { 0 = nil }) ready.sound refl).sound

    module _ (page : ℕ) (unused : IsFree pages page) where
      laid : layout_of (based_parts page o.f.caller u) ≡ Some (record { most = w.pages.total; pages = (g.t ∷ []) ∷ [] })
      laid = based_layout good_freed none o.f.caller sender_live page unused nil_named
          ∙ ap (λ n. Some (record { most = pages.total; pages = (n ∷ []) ∷ [] })) sender.1
          ∙ ap (λ (n : Order). Some (record { most = n.total; pages = (g.t ∷ []) ∷ [] })) free.freed

      pub to_context : Unwound w (based_parts page o.f.caller u) g.t
      to_context = record {
        good = based_good good_freed none o.f.caller sender_live page unused nil_named;
        state = unwinds good ready o pages g.t (view_of (based_parts page o.f.caller u))
            (based_view good_freed none o.f.caller sender_live page unused nil_named ∙ ap (λ n. record (view_of u) { rest = record (view_of w).rest { active = Some n } }) sender.1);
        layout = subst (λ l. LaidBy (left g.t) l (layout_of (based_parts page o.f.caller u)))
            (sym (laid_alone good ready o (next_of g) alone pages free.freed free.free free.others free.sound
            ∙ ap (λ ns. Some (record { most = w.pages.total; pages = (o.f.birth ∷ []) ∷ laid_pages w.frames ns })) last)) laid;
        names = based_names good_freed none o.f.caller sender_live page unused nil_named;
      }

      pub same_contexts : contexts_in (based_parts page o.f.caller u).heap.objects ≡ contexts_in w.heap.objects
      same_contexts = based_contexts good_freed none o.f.caller sender_live page unused nil_named

  -- ---- another one is

  pub to_next : (pages.recent ≡ [] → ⊥) → Unwound w u g.t
  to_next some = go o.qs refl
    where
      go : (ns : List ℕ) → o.qs ≡ ns → Unwound w u g.t
      go [] e = absurd (some (recent ∙ e))
      go (q ∷ rs) e = to_page good ready o (next_of g) alone pages free.freed free.free free.others free.sound q rs e

-- ---- what a call sees

first_at : (f : Frame) (fs : List Frame) → frame_index (f ∷ fs) f.at ≡ 0
first_at f fs = ap (λ b. if b then 0 else suc (frame_index fs f.at)) (eq-eqb f.at f.at refl)

module _ {w : Parts} (o : Opened w) (r : FrameRef) (at_top : r ≡ frame_ref (active_number w) (top (active_page w))) where
  pub page_is : r.page ≡ o.p
  page_is = ap (λ (q : FrameRef). q.page) at_top ∙ ap (λ ns. slice_index ns 0) o.recent

  at_is : r.at ≡ o.f.at
  at_is = ap (λ (q : FrameRef). q.at) at_top ∙ ap (λ fs. (top fs).at) o.page_is

  frames_are : frames_of w.frames r.page ≡ o.f ∷ o.fs
  frames_are = ap (frames_of w.frames) page_is ∙ o.is

  index_is : index_in w.frames r ≡ 0
  index_is = ap (λ fs. frame_index fs r.at) frames_are ∙ ap (frame_index (o.f ∷ o.fs)) at_is ∙ first_at o.f o.fs

  pub top_there : IsFrame w.frames r
  top_there = omega (arith, index_is, ap length frames_are)

  pub top_is : frame w.frames r ≡ o.f
  top_is = ap (nth (frames_of w.frames r.page)) index_is ∙ ap (λ fs. nth fs 0) frames_are

  pub is_alone : IsBase w.frames r → o.fs ≡ []
  is_alone base = nil_from_length o.fs (omega (arith, base, index_is, ap length frames_are))

  pub is_above : (IsBase w.frames r → ⊥) → o.fs ≡ [] → ⊥
  is_above above none = above (omega (arith, index_is, ap length frames_are, ap length none))

  pub drops : (good : IsGood w) (ready : IsReady (stored_of w) (view_of w)) (g : Target w) (ps : List (List Frame)) → (IsBase w.frames r → ⊥) → ps ≡ on_page w.frames r.page rest_of
      → IfSome (sender_birth (view_of w) (active_birth (view_of w))) (Unwound w (record w { frames = ps }))
  drops good ready g ps above is =
      tell g (Unwound w (record w { frames = ps }))
      (subst (λ qs. Unwound w (record w { frames = qs }) g.t) (sym (is ∙ ap (λ p. on_page w.frames p rest_of) page_is)) (go o.fs refl))
    where
      go : (fs : List Frame) → o.fs ≡ fs → Unwound w (record w { frames = on_page w.frames o.p rest_of }) g.t
      go [] e = absurd (is_above above e)
      go (d ∷ ds) e = to_below good ready o (next_of g) d ds e

  -- ---- the page is given back

  module _ (good : IsGood w) (ready : IsReady (stored_of w) (view_of w)) (g : Target w) (base : IsBase w.frames r) (ps : List (List Frame)) (pages : Order)
      (ps_is : ps ≡ on_page w.frames r.page rest_of) (frees : Frees w.pages pages r.page) where
    abbrev v : Parts
    v = record w { frames = ps; pages = pages }

    dropped_is : v ≡ record w { frames = on_page w.frames o.p rest_of; pages = pages }
    dropped_is = ap (λ qs. record w { frames = qs; pages = pages }) (ps_is ∙ ap (λ p. on_page w.frames p rest_of) page_is)

    free : Frees w.pages pages o.p
    free = subst (Frees w.pages pages) page_is frees

    pub page_good : IsGood v
    page_good = subst IsGood (sym dropped_is) (good_freed good ready o g (is_alone base) pages free)

    pub page_next : (length pages.recent ≡ 0 → ⊥) → IfSome (sender_birth (view_of w) (active_birth (view_of w))) (Unwound w v)
    page_next some = tell g (Unwound w v) (subst (λ n. Unwound w n g.t) (sym dropped_is) (to_next good ready o g (is_alone base) pages free (λ e. some (ap length e))))

    module _ (none : length pages.recent ≡ 0) (sender : ℕ) (sender_is : sender ≡ (frame w.frames r).caller) where
      caller_is : o.f.caller ≡ sender
      caller_is = sym (sender_is ∙ ap (λ (f : Frame). f.caller) top_is)

      empty : pages.recent ≡ []
      empty = nil_from_length pages.recent none

      pub page_can : CanBase w.heap.objects sender
      page_can = subst (CanBase w.heap.objects) caller_is (can_rebase good ready o g (is_alone base) pages free empty)

      module _ (z : Parts) (takes : Takes pages z (λ page. based_parts page sender v)) where
        made : z ≡ based_parts takes.page o.f.caller (record w { frames = on_page w.frames o.p rest_of; pages = pages })
        made = takes.is ∙ ap (λ n. based_parts takes.page sender n) dropped_is
            ∙ ap (λ n. based_parts takes.page n (record w { frames = on_page w.frames o.p rest_of; pages = pages })) (sym caller_is)

        pub page_context : IfSome (sender_birth (view_of w) (active_birth (view_of w))) (Unwound w z)
        page_context = tell g (Unwound w z) (subst (λ n. Unwound w n g.t) (sym made) (to_context good ready o g (is_alone base) pages free empty takes.page takes.free))

        pub page_contexts : contexts_in z.heap.objects ≤ contexts_in w.heap.objects + 0
        page_contexts = omega (arith, ap (λ (n : Parts). contexts_in n.heap.objects) made, same_contexts good ready o g (is_alone base) pages free empty takes.page takes.free)
