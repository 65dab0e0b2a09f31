-- The active frame is gone on the way of a return past a home: its context has died, and the frame behind it, if there is one, is active.
use Rattle.std.proofs.Common.{◌≡◌, ◌≢◌, ◌⊎◌, ℕ, Bool, true, false, refl, sym, ap, subst, ◌∙◌, Option, Some, None, List, [], ◌∷◌, map, inl, inr}
use Rattle.std.specs.Prelude.{◌||◌, if◌then◌else◌}
use Rattle.std.specs.List.{filter}
use Rattle.std.proofs.lemmas.Bool.{cases_eq}
use Rattle.std.proofs.lemmas.Bool.Decides.{eqb_tells}
use Rattle.cs_heap.specs.Object.{heap_object}
use Rattle.cs_frame.specs.declared.FrameRef.{FrameRef}
use Rattle.cs_frame.specs.Frame.{Frame}
use Rattle.cs_frame.specs.Page.{IsBase, frames_of, on_page, frame_ref, rest_of, top}
use Rattle.cs_pages.specs.Order.{Order}
use Rattle.cs_model.specs.State as state
use Rattle.cs_model.specs.State.{Rest}
use Rattle.cs_model.specs.Read.{active_birth, active_context}
use Rattle.cs_model.specs.Return.{is_among, sender_birth}
use Rattle.cs_acts.specs.declared.act.Act.{Act}
use Rattle.cs_acts.specs.declared.act.Act.TheVariants as act
use Rattle.cs_acts.specs.Layout.{Layout, has_frame, left_of, none_dies}
use Rattle.cs_acts.specs.Ready.{IsReady}
use Rattle.cs_stack.specs.declared.parts.Parts.{Parts}
use Rattle.cs_stack.specs.Cuts.{Dies, Fades, IsDead, Stays}
use Rattle.cs_stack.specs.Good.{IsGood}
use Rattle.cs_stack.specs.Moved.{Unwound, active_number}
use Rattle.cs_stack.specs.View.{act_of, active_page, birth_from, object_birth, births_of, is_married, laid_pages, stored_of, view_of}
use Rattle.cs_stack.proofs.Acts.{HasBody, body_married, married_body}
use Rattle.cs_stack.proofs.CutWays.{among_not}
use Rattle.cs_stack.proofs.Dropping.{gone_here, gone_other}
use Rattle.cs_stack.proofs.Framed.{IsOn, above, all_fit}
use Rattle.cs_stack.proofs.Freeing.{Frees, is_above, is_alone, page_is}
use Rattle.cs_stack.proofs.Leaving.{Next}
use Rattle.cs_stack.proofs.Tops.{Opened}
use Rattle.cs_stack.proofs.Unwinding.{died, freed_good, laid, laid_freed, laid_now, other, recent_is, to_below, to_page}

-- ---- what is left of the pages

abbrev in_layout : Option Layout → List (List ℕ)
in_layout None = []
in_layout (Some l) = l.pages

-- the last frame of a page is among those that die
spare : (dying : List ℕ) (i : ℕ) (is : List ℕ) (pages : List (List ℕ)) → is_among i dying ≡ true
    → filter has_frame (map (left_of dying) ((i ∷ is) ∷ pages)) ≡ filter has_frame (map (left_of dying) (is ∷ pages))
unfolding left_of
spare dying i is pages h = ap (λ b. filter has_frame ((if b then left_of dying is else (if none_dies dying is then i ∷ is else [])) ∷ map (left_of dying) pages)) h

-- a page without frames counts for none
empty_page : (dying : List ℕ) (pages : List (List ℕ)) → filter has_frame (map (left_of dying) ([] ∷ pages)) ≡ filter has_frame (map (left_of dying) pages)
unfolding left_of
empty_page dying pages = refl

module _ {w : Parts} (good : IsGood w) (ready : IsReady (stored_of w) (view_of w)) (o : Opened w) where
  abbrev fewer : List (List Frame)
  fewer = on_page w.frames o.p rest_of

  here : frames_of fewer o.p ≡ o.fs
  here = gone_here o.p o.f o.fs (all_fit w good) o.is

  elsewhere : (q : ℕ) → q ≢ o.p → frames_of fewer q ≡ frames_of w.frames q
  elsewhere q ne = gone_other o.p o.f o.fs (all_fit w good) o.is q ne

  -- ---- acts

  below_act : (fs : List Frame) (f : Frame) (at j : ℕ) → f.birth ≢ j → birth_from (f ∷ fs) at ≡ Some j → birth_from fs at ≡ Some j
  below_act fs f at j ne h = elim (eqb_tells f.at at) [
    | inl e ↦ absurd (let is : Some f.birth ≡ Some j = sym (ap (λ b. if b then Some f.birth else birth_from fs at) e.0) ∙ h in let same : f.birth ≡ j = cc in ne same)
    | inr e ↦ sym (ap (λ b. if b then Some f.birth else birth_from fs at) e.0) ∙ h
  ]

  frame_kept : (q at j : ℕ) → o.f.birth ≢ j → birth_from (frames_of w.frames q) at ≡ Some j → birth_from (frames_of fewer q) at ≡ Some j
  frame_kept q at j ne h = elim (cases_eq q o.p) [
    | inl e ↦ ap (λ n. birth_from (frames_of fewer n) at) e ∙ ap (λ fs. birth_from fs at) here
        ∙ below_act o.fs o.f at j ne (ap (λ fs. birth_from fs at) (sym o.is) ∙ ap (λ n. birth_from (frames_of w.frames n) at) (sym e) ∙ h)
    | inr off ↦ ap (λ fs. birth_from fs at) (elsewhere q off) ∙ h
  ]

  body_before : (a : ℕ) → HasBody a fewer → HasBody a w.frames
  body_before a b = record { p = b.p; f = b.f; gs = b.gs; on = on; is = b.is }
    where
      on : IsOn b.f b.gs (frames_of w.frames b.p)
      on = elim (cases_eq b.p o.p) [
        | inl e ↦ subst (λ n. IsOn b.f b.gs (frames_of w.frames n)) (sym e)
            (subst (IsOn b.f b.gs) (sym o.is) (above o.f o.fs (subst (IsOn b.f b.gs) (ap (frames_of fewer) e ∙ here) b.on)))
        | inr off ↦ subst (IsOn b.f b.gs) (elsewhere b.p off) b.on
      ]

  still_free : (a : ℕ) → is_married a w.frames ≡ false → is_married a fewer ≡ false
  still_free a free = go (is_married a fewer) refl
    where
      go : (b : Bool) → is_married a fewer ≡ b → is_married a fewer ≡ false
      go false e = e
      go true e = absurd (let no : true ≡ false = sym (body_married a w.frames (body_before a (married_body a fewer e))) ∙ free in cc)

  act_kept : (pages : Order) (a : Act) (j : ℕ) → o.f.birth ≢ j → act_of w a ≡ Some j → act_of (record w { frames = fewer; pages = pages }) a ≡ Some j
  act_kept pages (act.Frame q at) j ne h = frame_kept q at j ne h
  act_kept pages (act.Context c) j ne h = go (is_married c.0 w.frames) refl
    where
      go : (b : Bool) → is_married c.0 w.frames ≡ b → act_of (record w { frames = fewer; pages = pages }) (act.Context c) ≡ Some j
      go true e = absurd (let no : ◌≡◌ {A = Option ℕ} None (Some j) = sym (ap (λ b. if b then None else object_birth (heap_object w.heap.objects c.0)) e) ∙ h in cc)
      go false e =
          ap (λ b. if b then None else object_birth (heap_object w.heap.objects c.0)) (still_free c.0 e)
          ∙ sym (ap (λ b. if b then None else object_birth (heap_object w.heap.objects c.0)) e) ∙ h
  act_kept pages act.Gone j ne h = absurd (cc)

  -- ---- the state

  gone_dies : (pages : Order) → Dies (view_of w) (view_of (record w { frames = fewer; pages = pages })) (active_birth (view_of w) ∷ [])
  gone_dies pages = record {
    died = λ i h. elim (eqb_tells i (active_birth (view_of w))) [
      | inl e ↦ (
        active_context (view_of w),
        ap (state.object_at (view_of w)) e.1 ∙ ready.running.found,
        subst (λ n. IsDead (view_of w) (view_of (record w { frames = fewer; pages = pages })) n (active_context (view_of w))) (sym e.1) (died good ready o pages),
      )
      | inr e ↦ absurd (let no : false ≡ true = sym (ap (λ b. b || false) e.0) ∙ h in cc)
    ];
    other = λ i h. other good ready o pages i (among_not i (active_birth (view_of w)) [] h).0;
  }

  kept : (pages : Order) → pages.total ≡ w.pages.total → Stays w (record w { frames = fewer; pages = pages })
  kept pages total = record { rest = λ active. refl; names = λ x named. record { sound = named; is = refl }; total = total; limit = refl; contexts = refl }

  dies_here : (dying : List ℕ) → is_among (active_birth (view_of w)) dying ≡ true → is_among o.f.birth dying ≡ true
  dies_here dying h = ap (λ n. is_among n dying) (sym o.birth) ∙ h

  laid_first : laid_pages w.frames w.pages.recent ≡ (o.f.birth ∷ births_of o.fs) ∷ laid_pages w.frames o.qs
  laid_first = ap in_layout (laid good ready o)

  acts : (pages : Order) (a : Act) (j : ℕ) → active_birth (view_of w) ≢ j → act_of w a ≡ Some j → act_of (record w { frames = fewer; pages = pages }) a ≡ Some j
  acts pages a j ne h = act_kept pages a j (λ e. ne (o.birth ∙ e)) h

  -- ---- another frame is below

  module _ (g : Next w) where
    next_is : (v : Parts) (j : ℕ) → Unwound w v g.t → sender_birth (view_of w) (active_birth (view_of w)) ≡ Some j → (view_of v).rest.active ≡ Some j
    next_is v j u e = ap (λ (r : Rest). r.active) u.state.rest ∙ sym g.is ∙ e

    fades_below : (d : Frame) (ds : List Frame) → o.fs ≡ d ∷ ds → Fades w (record w { frames = on_page w.frames o.p rest_of }) (active_birth (view_of w))
    fades_below d ds below =
        let u = to_below good ready o g d ds below in
        record {
          good = u.good;
          stays = kept w.pages refl;
          dies = gone_dies w.pages;
          next = λ j e. inl (next_is (record w { frames = on_page w.frames o.p rest_of }) j u e);
          acts = acts w.pages;
          layout = λ dying h.
              ap (λ ps. filter has_frame (map (left_of dying) ps)) (ap in_layout (laid_now good ready o g d ds below))
              ∙ ap (λ fs. filter has_frame (map (left_of dying) (births_of fs ∷ laid_pages w.frames o.qs))) (sym below)
              ∙ sym (spare dying o.f.birth (births_of o.fs) (laid_pages w.frames o.qs) (dies_here dying h))
              ∙ sym (ap (λ ps. filter has_frame (map (left_of dying) ps)) laid_first);
        }

    -- ---- the page is given back

    module _ (alone : o.fs ≡ []) (pages : Order) (free : Frees w.pages pages o.p) where
      abbrev v : Parts
      v = record w { frames = on_page w.frames o.p rest_of; pages = pages }

      after : (qs : List ℕ) → o.qs ≡ qs → (j : ℕ) → sender_birth (view_of w) (active_birth (view_of w)) ≡ Some j → ((view_of v).rest.active ≡ Some j) ⊎ (v.pages.recent ≡ [])
      after [] e j s = inr (recent_is good ready o g alone pages free.freed free.free free.others free.sound ∙ e)
      after (q ∷ rs) e j s = inl (next_is v j (to_page good ready o g alone pages free.freed free.free free.others free.sound q rs e) s)

      fades_alone : Fades w (record w { frames = on_page w.frames o.p rest_of; pages = pages }) (active_birth (view_of w))
      fades_alone = record {
        good = freed_good good ready o g alone pages free.freed free.free free.others free.sound;
        stays = kept pages (ap (λ (n : Order). n.total) free.freed);
        dies = gone_dies pages;
        next = after o.qs refl;
        acts = acts pages;
        layout = λ dying h.
            ap (λ ps. filter has_frame (map (left_of dying) ps)) (ap in_layout (laid_freed good ready o g alone pages free.freed free.free free.others free.sound))
            ∙ sym (empty_page dying (laid_pages w.frames o.qs))
            ∙ ap (λ fs. filter has_frame (map (left_of dying) (births_of fs ∷ laid_pages w.frames o.qs))) (sym alone)
            ∙ sym (spare dying o.f.birth (births_of o.fs) (laid_pages w.frames o.qs) (dies_here dying h))
            ∙ sym (ap (λ ps. filter has_frame (map (left_of dying) ps)) laid_first);
      }

  -- ---- what a call sees

  module _ (g : Next w) (r : FrameRef) (at_top : r ≡ frame_ref (active_number w) (top (active_page w))) (ps : List (List Frame)) (ps_is : ps ≡ on_page w.frames r.page rest_of) where
    is_fewer : ps ≡ on_page w.frames o.p rest_of
    is_fewer = ps_is ∙ ap (λ p. on_page w.frames p rest_of) (page_is o r at_top)

    pub drop_below : (IsBase w.frames r → ⊥) → Fades w (record w { frames = ps }) (active_birth (view_of w))
    drop_below upper = subst (λ qs. Fades w (record w { frames = qs }) (active_birth (view_of w))) (sym is_fewer) (go o.fs refl)
      where
        go : (fs : List Frame) → o.fs ≡ fs → Fades w (record w { frames = on_page w.frames o.p rest_of }) (active_birth (view_of w))
        go [] e = absurd (is_above o r at_top upper e)
        go (d ∷ ds) e = fades_below g d ds e

    pub drop_alone : IsBase w.frames r → (pages : Order) → Frees w.pages pages r.page → Fades w (record w { frames = ps; pages = pages }) (active_birth (view_of w))
    drop_alone base pages frees =
        subst (λ qs. Fades w (record w { frames = qs; pages = pages }) (active_birth (view_of w))) (sym is_fewer)
        (fades_alone g (is_alone o r at_top base) pages (subst (Frees w.pages pages) (page_is o r at_top) frees))
