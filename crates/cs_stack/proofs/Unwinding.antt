-- The active frame goes, and its sender is active: the frame below it, or the last one of the page behind it.
use Rattle.std.proofs.Common.{◌≡◌, ◌≢◌, ◌⊎◌, ◌↔◌, ℕ, ◌<◌, true, false, refl, sym, ap, subst, ◌∙◌, arith, Option, Some, None, List, [], ◌∷◌, length, inl, inr}
use Rattle.std.specs.Prelude.{Contains, nat_eq, not, ◌==◌, ◌%◌, ◌/◌, Bool, if◌then◌else◌}
use Rattle.std.specs.List.{AllByRecursion, IsDistinct}
use Rattle.std.specs.FinMap.{get}
use Rattle.std.proofs.lemmas.Bool.{cases_eq, eq-eqb, eqb-false}
use Rattle.std.proofs.lemmas.Map.Keys.{IsDistinct-head, IsDistinct-tail}
use Rattle.cs_model.specs.Words.{small_value}
use Rattle.cs_word.specs.declared.Kind.{Kind}
use Rattle.cs_word.specs.declared.Kind.TheVariants as kind
use Rattle.cs_word.specs.Word.{kind_of}
use Rattle.cs_heap.specs.Object.{Object, birth_at, is_object}
use Rattle.cs_classes.specs.Meaning.{objects_of, ref_of, ref_of_kind}
use Rattle.cs_classes.specs.Sound.{is_reference, is_reference_kind}
use Rattle.cs_frame.specs.Frame.{Frame, nil}
use Rattle.cs_frame.specs.Page.{frames_of, on_page, rest_of, top}
use Rattle.cs_frame.specs.Page.{frame_ref as ref_of_frame}
use Rattle.cs_frame.proofs.PageLaws.{length-on_page}
use Rattle.cs_marriage.specs.Agree.{AreMarried}
use Rattle.cs_marriage.proofs.Laws.{agree_dropped, top_fits}
use Rattle.cs_pages.specs.Order.{IsFree, IsSoundOrder, Order, without}
use Rattle.cs_pages.proofs.Lists.{Lacks as Off, without-lacking}
use Rattle.cs_model.specs.Ref as ref
use Rattle.cs_model.specs.Obj.{Ctx, context_class, dead}
use Rattle.cs_model.specs.State as state
use Rattle.cs_model.specs.State.{Kept}
use Rattle.cs_model.specs.Read.{active_birth, active_context}
use Rattle.cs_acts.specs.Layout.{LaidBy, is_on, left, touched}
use Rattle.cs_acts.specs.Ready.{IsReady}
use Rattle.cs_acts.proofs.Firsts.{nil_names}
use Rattle.cs_stack.specs.declared.parts.Parts.{Parts}
use Rattle.cs_stack.specs.View.{active_in, active_page, bare, births_of, first_frames, frame_context, frame_sender, laid_pages, layout_of, stored_of, view_of}
use Rattle.cs_stack.specs.Good.{AreApart, IsChain, IsGood, Lacks, base_of}
use Rattle.cs_stack.specs.Good as good_specs
use Rattle.cs_stack.specs.Moved.{Unwinds, Unwound}
use Rattle.cs_stack.proofs.Bare.{bare_none}
use Rattle.cs_stack.proofs.Dying.{widow}
use Rattle.cs_stack.proofs.Dropping.{chain_apart, chain_first, chain_rest, gone_fit, gone_here, gone_other, laid_apart, onto_gone, onto_kept, touched_first}
use Rattle.cs_stack.proofs.Framed.{AllFit, IsOn, all_fit, here}
use Rattle.cs_stack.proofs.Laid.{off_births}
use Rattle.cs_stack.proofs.Leaving.{Next}
use Rattle.cs_stack.proofs.Places.{good_stacked, married_on}
use Rattle.cs_stack.proofs.Tops.{Opened}
use Rattle.cs_stack.proofs.Addresses.{nil_or_named}

-- ---- words that name objects

pub kind_address : (w a : ℕ) → kind_of w ≡ kind.Object a → a ≡ w
kind_address w a e = go (w % 2 == 1) (w % 4 == 2) (w % 8 == 0) e
  where
    go : (p q r : Bool) → (if p then kind.Small (small_value w) else (if q then kind.Character (w / 4) else (if r then kind.Object w else kind.Link w))) ≡ kind.Object a → a ≡ w
    go true q r h = absurd (cc)
    go false true r h = absurd (cc)
    go false false true h = let is : w ≡ a = cc in sym is
    go false false false h = absurd (cc)

-- a word that names an object is its address
pub address_of-object : (os : List Object) (word i : ℕ) → is_reference os word ≡ true → ref_of os word ≡ ref.Obj i → (is_object os word ≡ true) × (birth_at os word ≡ i)
unfolding is_reference ref_of
address_of-object os word i named is = go (kind_of word) refl named is
  where
    go : (k : Kind) → kind_of word ≡ k → is_reference_kind os k ≡ true → ref_of_kind os k ≡ ref.Obj i → (is_object os word ≡ true) × (birth_at os word ≡ i)
    go (kind.Small z) e n s = absurd (cc)
    go (kind.Character code) e n s = absurd (cc)
    go (kind.Link l) e n s = absurd (cc)
    go (kind.Object a) e n s =
        let same : a ≡ word = kind_address word a e in
        (subst (λ b. is_object os b ≡ true) same n, subst (λ b. birth_at os b ≡ i) same (cc))

-- ---- the order of the pages

pub distinct_off : (w : Parts) (p : ℕ) (qs : List ℕ) → IsGood w → w.pages.recent ≡ p ∷ qs → Off p qs
distinct_off w p qs good e = IsDistinct-head _ p qs (subst (λ xs. IsDistinct nat_eq xs) e good.order.distinct)

-- what the order of the pages must be for these frames
pub record IsOrdered (ps : List (List Frame)) (pages : Order) : Type 0 where
  pub total : pages.total ≡ length ps
  pub order : IsSoundOrder pages
  pub used_pages : (p : ℕ) → Contains pages.recent p ↔ (0 < length (frames_of ps p))
  pub chain : IsChain ps pages.recent

module _ {w : Parts} (good : IsGood w) (ready : IsReady (stored_of w) (view_of w)) (o : Opened w) where
  abbrev os : List Object
  os = w.heap.objects

  abbrev qs : List (List Frame)
  qs = on_page w.frames o.p rest_of

  -- the frame is gone, and these pages are used
  abbrev dropped : Order → Parts
  dropped pages = record w { frames = on_page w.frames o.p rest_of; pages = pages }

  abbrev fit : AllFit w.heap.objects w.roots.next_birth w.frames
  fit = all_fit w good

  pub good_dropped : (pages : Order) → IsOrdered (on_page w.frames o.p rest_of) pages → IsGood (dropped pages)
  good_dropped pages ordered =
      let all = gone_fit o.p o.f o.fs fit o.is in
      record {
        whole = good.whole;
        within = good.within;
        most = good.most;
        births = good.births;
        pcs = good.pcs;
        senders = good.senders;
        links = good.links;
        agree = agree_dropped os w.frames o.p good.agree o.within (good_stacked w good o.p);
        frames = all.frames;
        apart = all.apart;
        total = ordered.total;
        order = ordered.order;
        used_pages = ordered.used_pages;
        chain = ordered.chain;
      }

  nil_name : ref_of os nil ≡ ref.Obj (view_of w).rest.nil
  nil_name = (nil_names (stored_of w) (view_of w) (record { 0 = nil }) ready.sound refl).is

  married : o.f.context ≢ nil → AreMarried os (ref_of_frame o.p o.f) o.f
  married = married_on w good o.p (subst (IsOn o.f o.fs) (sym o.is) here)

  here_is : (pages : Order) → state.object_at (view_of (dropped pages)) (active_birth (view_of w)) ≡ get (objects_of (bare os)) o.f.birth
  here_is pages = ap (state.object_at (view_of (dropped pages))) o.birth ∙ onto_gone o.p o.f o.fs fit o.is (objects_of (bare os))

  pub died : (pages : Order) → (state.object_at (view_of (dropped pages)) (active_birth (view_of w)) ≡ None)
      ⊎ (state.object_at (view_of (dropped pages)) (active_birth (view_of w)) ≡ Some (Ctx (dead (view_of w).rest.nil (active_context (view_of w)))))
  died pages = elim (cases_eq o.f.context nil) [
    | inl none ↦ inl (here_is pages ∙ bare_none os o.f.birth good.whole.heap (o.fits.alone none))
    | inr ne ↦ inr (here_is pages ∙ widow good.whole (ref_of_frame o.p o.f) o.f o.fs ne (married ne) (view_of w).rest.nil nil_name
        ∙ ap (λ c. Some (Ctx (dead (view_of w).rest.nil c))) (sym o.context))
  ]

  pub other : (pages : Order) (i : ℕ) → i ≢ active_birth (view_of w) → state.object_at (view_of (dropped pages)) i ≡ state.object_at (view_of w) i
  other pages i off = onto_kept o.p o.f o.fs fit o.is (objects_of (bare os)) i (λ e. off (e ∙ sym o.birth))

  -- what is left of the state, with another context active
  pub unwinds : (pages : Order) (t : ℕ) (u : Kept) → u ≡ record (view_of (dropped pages)) { rest = record (view_of w).rest { active = Some t } } → Unwinds (view_of w) u t
  unwinds pages t u is = subst (λ k. Unwinds (view_of w) k t) (sym is) (record { rest = refl; died = died pages; other = other pages })

  off : Off o.p o.qs
  off = distinct_off w o.p o.qs good o.recent

  chain : IsChain w.frames (o.p ∷ o.qs)
  chain = subst (IsChain w.frames) o.recent good.chain

  pub laid : layout_of w ≡ Some (record { most = w.pages.total; pages = births_of (o.f ∷ o.fs) ∷ laid_pages w.frames o.qs })
  laid = ap (λ ns. Some (record { most = w.pages.total; pages = laid_pages w.frames ns })) o.recent
      ∙ ap (λ fs. Some (record { most = w.pages.total; pages = births_of fs ∷ laid_pages w.frames o.qs })) o.is

  total_kept : w.pages.total ≡ length (on_page w.frames o.p rest_of)
  total_kept = good.total ∙ sym (length-on_page w.frames o.p rest_of)

  module _ (g : Next w) where
    pub sender_is : ref.Obj g.t ≡ frame_sender os o.f o.fs
    unfolding frame_context
    sender_is = sym g.sends.is ∙ ap (λ c. c.sender) o.context

    -- ---- to the frame below

    module _ (d : Frame) (ds : List Frame) (below : o.fs ≡ d ∷ ds) where
      goal_is : g.t ≡ d.birth
      goal_is = let same : ref.Obj g.t ≡ ref.Obj d.birth = sender_is ∙ ap (frame_sender os o.f) below in cc

      stays : frames_of (on_page w.frames o.p rest_of) o.p ≡ d ∷ ds
      stays = gone_here o.p o.f o.fs fit o.is ∙ below

      both : frames_of w.frames o.p ≡ o.f ∷ d ∷ ds
      both = o.is ∙ ap (λ fs. o.f ∷ fs) below

      used_kept : (q : ℕ) → Contains w.pages.recent q ↔ (0 < length (frames_of (on_page w.frames o.p rest_of) q))
      used_kept q = elim (cases_eq q o.p) [
        | inl e ↦ (
          λ _. subst (λ n. 0 < length (frames_of (on_page w.frames o.p rest_of) n)) (sym e) (omega (arith, ap length stays)),
          λ _. (good.used_pages q).1 (subst (λ n. 0 < length (frames_of w.frames n)) (sym e) (omega (arith, ap length both))),
        )
        | inr ne ↦ (
          λ h. subst (λ fs. 0 < length fs) (sym (gone_other o.p o.f o.fs fit o.is q ne)) ((good.used_pages q).0 h),
          λ h. (good.used_pages q).1 (subst (λ fs. 0 < length fs) (gone_other o.p o.f o.fs fit o.is q ne) h),
        )
      ]

      ordered : IsOrdered (on_page w.frames o.p rest_of) w.pages
      ordered = record {
        total = total_kept;
        order = good.order;
        used_pages = used_kept;
        chain = subst (IsChain (on_page w.frames o.p rest_of)) (sym o.recent)
            (chain_first w.frames o.p rest_of o.qs off (ap (λ fs. (base_of fs).caller) stays ∙ sym (ap (λ fs. (base_of fs).caller) both)) chain);
      }

      page_is : active_page (dropped w.pages) ≡ d ∷ ds
      page_is = ap (first_frames (on_page w.frames o.p rest_of)) o.recent ∙ stays

      pub laid_now : layout_of (dropped w.pages) ≡ Some (record { most = w.pages.total; pages = births_of (d ∷ ds) ∷ laid_pages w.frames o.qs })
      laid_now = ap (λ ns. Some (record { most = w.pages.total; pages = laid_pages (on_page w.frames o.p rest_of) ns })) o.recent
          ∙ ap (λ fs. Some (record { most = w.pages.total; pages = births_of fs ∷ laid_pages (on_page w.frames o.p rest_of) o.qs })) stays
          ∙ ap (λ pages. Some (record { most = w.pages.total; pages = births_of (d ∷ ds) ∷ pages })) (laid_apart w.frames o.p rest_of o.qs off)

      pub to_below : Unwound w (dropped w.pages) g.t
      to_below = record {
        good = good_dropped w.pages ordered;
        state = unwinds w.pages g.t (view_of (dropped w.pages))
            (ap (λ (b : Option ℕ). record (view_of (dropped w.pages)) { rest = record (view_of w).rest { active = b } }) (ap active_in page_is ∙ ap (λ n. Some n) (sym goal_is)));
        layout = subst (λ l. LaidBy (left g.t) l (layout_of (dropped w.pages))) (sym (laid ∙ ap (λ fs. Some (record { most = w.pages.total; pages = births_of (o.f ∷ fs) ∷ laid_pages w.frames o.qs })) below)) laid_now;
        names = λ x named. record { sound = named; is = refl };
      }

    -- ---- the page is given back

    module _ (alone : o.fs ≡ []) (pages : Order) (freed : pages ≡ record w.pages { recent = without o.p w.pages.recent }) (free : IsFree pages o.p)
        (others : (q : ℕ) → q ≢ o.p → Contains pages.recent q ↔ Contains w.pages.recent q) (sound : IsSoundOrder pages) where
      pub recent_is : pages.recent ≡ o.qs
      recent_is =
          ap (λ (n : Order). n.recent) freed ∙ ap (without o.p) o.recent
          ∙ ap (λ b. if not b then o.p ∷ without o.p o.qs else without o.p o.qs) (eq-eqb o.p o.p refl) ∙ without-lacking o.p o.qs off

      empty_here : frames_of (on_page w.frames o.p rest_of) o.p ≡ []
      empty_here = gone_here o.p o.f o.fs fit o.is ∙ alone

      used_freed : (q : ℕ) → Contains pages.recent q ↔ (0 < length (frames_of (on_page w.frames o.p rest_of) q))
      used_freed q = elim (cases_eq q o.p) [
        | inl e ↦ (
          λ h. absurd (free.1 (subst (Contains pages.recent) e h)),
          λ h. absurd (let none = ap length (ap (frames_of (on_page w.frames o.p rest_of)) e ∙ empty_here) in omega (arith, h, none)),
        )
        | inr ne ↦ (
          λ h. subst (λ fs. 0 < length fs) (sym (gone_other o.p o.f o.fs fit o.is q ne)) ((good.used_pages q).0 ((others q ne).0 h)),
          λ h. (others q ne).1 ((good.used_pages q).1 (subst (λ fs. 0 < length fs) (gone_other o.p o.f o.fs fit o.is q ne) h)),
        )
      ]

      freed_ordered : IsOrdered (on_page w.frames o.p rest_of) pages
      freed_ordered = record {
        total = ap (λ (n : Order). n.total) freed ∙ total_kept;
        order = sound;
        used_pages = used_freed;
        chain = subst (IsChain (on_page w.frames o.p rest_of)) (sym recent_is) (chain_apart w.frames o.p rest_of o.qs off (chain_rest w.frames o.p o.qs chain));
      }

      pub freed_good : IsGood (dropped pages)
      freed_good = good_dropped pages freed_ordered

      pub laid_freed : layout_of (dropped pages) ≡ Some (record { most = w.pages.total; pages = laid_pages w.frames o.qs })
      laid_freed = ap (λ (n : Order). Some (record { most = n.total; pages = laid_pages (on_page w.frames o.p rest_of) pages.recent })) freed
          ∙ ap (λ ns. Some (record { most = w.pages.total; pages = laid_pages (on_page w.frames o.p rest_of) ns })) recent_is
          ∙ ap (λ ns. Some (record { most = w.pages.total; pages = ns })) (laid_apart w.frames o.p rest_of o.qs off)

      caller_names : is_reference os o.f.caller ≡ true
      caller_names = nil_or_named context_class os o.f.caller (subst (good_specs.FrameFits os w.roots.next_birth o.f) alone o.fits).sender

      pub sender_at : (is_object os o.f.caller ≡ true) × (birth_at os o.f.caller ≡ g.t)
      sender_at = address_of-object os o.f.caller g.t caller_names (sym (sender_is ∙ ap (frame_sender os o.f) alone))

      pub laid_alone : layout_of w ≡ Some (record { most = w.pages.total; pages = (o.f.birth ∷ []) ∷ laid_pages w.frames o.qs })
      laid_alone = laid ∙ ap (λ fs. Some (record { most = w.pages.total; pages = births_of (o.f ∷ fs) ∷ laid_pages w.frames o.qs })) alone

      -- another page is behind it
      module _ (q : ℕ) (rs : List ℕ) (more : o.qs ≡ q ∷ rs) where
        linked : ((base_of (frames_of w.frames o.p)).caller ≡ (top (frames_of w.frames q)).context) × ((top (frames_of w.frames q)).context ≢ nil)
        linked = let c : IsChain w.frames (o.p ∷ q ∷ rs) = subst (λ ns. IsChain w.frames (o.p ∷ ns)) more chain in (c.0, c.1)

        caller_is : o.f.caller ≡ (top (frames_of w.frames q)).context
        caller_is = sym (ap (λ fs. (base_of fs).caller) (o.is ∙ ap (λ fs. o.f ∷ fs) alone)) ∙ linked.0

        some : 0 < length (frames_of w.frames q)
        some = (good.used_pages q).0 (subst (λ ns. Contains ns q) (sym (o.recent ∙ ap (λ ns. o.p ∷ ns) more)) (1, omega arith, refl))

        next_is : (top (frames_of w.frames q)).birth ≡ g.t
        next_is = sym ((top_fits os w.frames q good.agree some).married linked.1).birth ∙ ap (birth_at os) (sym caller_is) ∙ sender_at.1

        apart_off : (i : ℕ) (fs gs : List Frame) → AreApart fs gs → 0 < length fs → (top fs).birth ≡ i → is_on i (births_of gs) ≡ false
        apart_off i [] gs h some e = absurd (omega (arith, some))
        apart_off i (f ∷ fs) gs h some e = off_births i gs (subst (λ n. Lacks n gs) e h.0)

        all_off : (ns : List ℕ) → Off q ns → AllByRecursion (λ page. is_on g.t page ≡ false) (laid_pages w.frames ns)
        all_off [] l = tt
        all_off (n ∷ ns) l = (apart_off g.t (frames_of w.frames q) (frames_of w.frames n) (good.apart q n (eqb-false q n l.0)) some next_is, all_off ns l.1)

        next_off : Off q rs
        next_off = IsDistinct-head _ q rs (subst (λ ns. IsDistinct nat_eq ns) more (IsDistinct-tail _ o.p o.qs (subst (λ ns. IsDistinct nat_eq ns) o.recent good.order.distinct)))

        touched_is : (fs : List Frame) → 0 < length fs → (top fs).birth ≡ g.t → touched g.t (births_of fs ∷ laid_pages w.frames rs) ≡ births_of fs ∷ laid_pages w.frames rs
        touched_is [] some e = absurd (omega (arith, some))
        touched_is (f ∷ fs) some e =
            subst (λ n. touched g.t ((n ∷ births_of fs) ∷ laid_pages w.frames rs) ≡ (n ∷ births_of fs) ∷ laid_pages w.frames rs) (sym e)
            (touched_first g.t (births_of fs) (laid_pages w.frames rs) (all_off rs next_off))

        active_is : (fs : List Frame) → 0 < length fs → (top fs).birth ≡ g.t → active_in fs ≡ Some g.t
        active_is [] some e = absurd (omega (arith, some))
        active_is (f ∷ fs) some e = ap (λ n. Some n) e

        page_next : active_page (dropped pages) ≡ frames_of w.frames q
        page_next = ap (first_frames (on_page w.frames o.p rest_of)) (recent_is ∙ more) ∙ gone_other o.p o.f o.fs fit o.is q (λ e. eqb-false o.p q (subst (Off o.p) more off).0 (sym e))

        layout_is : LaidBy (left g.t) (layout_of w) (layout_of (dropped pages))
        layout_is = subst (λ l. LaidBy (left g.t) l (layout_of (dropped pages))) (sym (laid_alone ∙ ap (λ ns. Some (record { most = w.pages.total; pages = (o.f.birth ∷ []) ∷ laid_pages w.frames ns })) more))
            (laid_freed ∙ ap (λ ns. Some (record { most = w.pages.total; pages = laid_pages w.frames ns })) more
            ∙ ap (λ ns. Some (record { most = w.pages.total; pages = ns })) (sym (touched_is (frames_of w.frames q) some next_is)))

        pub to_page : Unwound w (dropped pages) g.t
        to_page = record {
          good = freed_good;
          state = unwinds pages g.t (view_of (dropped pages))
              (ap (λ (b : Option ℕ). record (view_of (dropped pages)) { rest = record (view_of w).rest { active = b } }) (ap active_in page_next ∙ active_is (frames_of w.frames q) some next_is));
          layout = layout_is;
          names = λ x named. record { sound = named; is = refl };
        }
