-- The pages without the last frame of one of them.
use Rattle.std.proofs.Common.{◌≡◌, ◌≢◌, ℕ, ◌<◌, true, false, refl, sym, ap, subst, ◌∙◌, arith, List, [], ◌∷◌, ◌++◌, length, inl, inr}
use Rattle.std.specs.Prelude.{◌||◌, not}
use Rattle.std.specs.List.{AllByRecursion, filter}
use Rattle.std.specs.FinMap.{get}
use Rattle.std.proofs.lemmas.Bool.{cases_eq, eq-eqb, eqb-false}
use Rattle.cs_heap.specs.Object.{Object}
use Rattle.cs_frame.specs.Frame.{Frame}
use Rattle.cs_frame.specs.Page.{frames_of, on_page, rest_of, top}
use Rattle.cs_frame.proofs.PageLaws.{frames_of-on_page, frames_of-on_page_other, length-on_page, on_page-on_page, page_in}
use Rattle.cs_acts.specs.Layout.{is_on, touched}
use Rattle.cs_model.specs.Obj.{Ctx}
use Rattle.cs_pages.proofs.Lists.{Lacks as Off}
use Rattle.cs_stack.specs.View.{births_of, frame_context, frames_onto, laid_pages, pages_onto}
use Rattle.cs_stack.specs.Good.{AreApart, FramesFit, IsChain, Lacks, base_of}
use Rattle.cs_stack.proofs.Maps.{Objects, get_apart}
use Rattle.cs_stack.proofs.Framed.{AllFit, front, onto_bare}

-- ---- frames apart

pub apart_rest : (f : Frame) (fs gs : List Frame) → AreApart gs (f ∷ fs) → AreApart gs fs
apart_rest f fs [] h = tt
apart_rest f fs (g ∷ gs) h = (h.0.1, apart_rest f fs gs h.1)

-- ---- other pages stay

off_ne : (p q : ℕ) (qs : List ℕ) → Off p (q ∷ qs) → q ≢ p
off_ne p q qs l e = eqb-false p q l.0 (sym e)

pub chain_apart : (ps : List (List Frame)) (p : ℕ) (h : List Frame → List Frame) (qs : List ℕ) → Off p qs → IsChain ps qs → IsChain (on_page ps p h) qs
chain_apart ps p h [] l c = tt
chain_apart ps p h (q ∷ []) l c = tt
chain_apart ps p h (q ∷ r ∷ rs) l c =
    let first = frames_of-on_page_other ps p q h (off_ne p q (r ∷ rs) l) in
    let second = frames_of-on_page_other ps p r h (off_ne p r rs l.1) in (
      ap (λ fs. (base_of fs).caller) first ∙ c.0 ∙ ap (λ fs. (top fs).context) (sym second),
      (λ e. c.1 (ap (λ fs. (top fs).context) (sym second) ∙ e)),
      chain_apart ps p h (r ∷ rs) l.1 c.2,
    )

-- a page whose base frame keeps its sender stays before the others
pub chain_first : (ps : List (List Frame)) (p : ℕ) (h : List Frame → List Frame) (qs : List ℕ) → Off p qs → (base_of (frames_of (on_page ps p h) p)).caller ≡ (base_of (frames_of ps p)).caller
    → IsChain ps (p ∷ qs) → IsChain (on_page ps p h) (p ∷ qs)
chain_first ps p h [] l same c = tt
chain_first ps p h (r ∷ rs) l same c =
    let second = frames_of-on_page_other ps p r h (off_ne p r rs l) in (
      same ∙ c.0 ∙ ap (λ fs. (top fs).context) (sym second),
      (λ e. c.1 (ap (λ fs. (top fs).context) (sym second) ∙ e)),
      chain_apart ps p h (r ∷ rs) l c.2,
    )

pub chain_rest : (ps : List (List Frame)) (p : ℕ) (qs : List ℕ) → IsChain ps (p ∷ qs) → IsChain ps qs
chain_rest ps p [] c = tt
chain_rest ps p (q ∷ qs) c = c.2

pub laid_apart : (ps : List (List Frame)) (p : ℕ) (h : List Frame → List Frame) (qs : List ℕ) → Off p qs → laid_pages (on_page ps p h) qs ≡ laid_pages ps qs
laid_apart ps p h [] l = refl
laid_apart ps p h (q ∷ qs) l =
    ap (λ fs. births_of fs ∷ laid_pages (on_page ps p h) qs) (frames_of-on_page_other ps p q h (off_ne p q qs l))
    ∙ ap (λ pages. births_of (frames_of ps q) ∷ pages) (laid_apart ps p h qs l.1)

-- ---- births on pages

filter_on : (i : ℕ) (pages : List (List ℕ)) → AllByRecursion (λ page. is_on i page ≡ false) pages → filter (is_on i) pages ≡ []
filter_on i [] h = refl
filter_on i (page ∷ pages) h = rw h.0 (filter_on i pages h.1)

filter_off : (i : ℕ) (pages : List (List ℕ)) → AllByRecursion (λ page. is_on i page ≡ false) pages → filter (λ page. not (is_on i page)) pages ≡ pages
filter_off i [] h = refl
filter_off i (page ∷ pages) h = rw h.0 (ap (λ ps. page ∷ ps) (filter_off i pages h.1))

-- the page of a frame that is the first one already
pub touched_first : (i : ℕ) (is : List ℕ) (pages : List (List ℕ)) → AllByRecursion (λ page. is_on i page ≡ false) pages → touched i ((i ∷ is) ∷ pages) ≡ (i ∷ is) ∷ pages
touched_first i is pages h =
    let here : is_on i (i ∷ is) ≡ true = ap (λ b. b || is_on i is) (eq-eqb i i refl) in
    rw here (ap (λ ps. (i ∷ is) ∷ ps) (ap (λ ps. ps ++ filter (λ page. not (is_on i page)) pages) (filter_on i pages h) ∙ filter_off i pages h))

-- ---- the last frame of page p goes

module _ {os : List Object} {next : ℕ} {ps : List (List Frame)} (p : ℕ) (f : Frame) (fs : List Frame) (fit : AllFit os next ps) (is : frames_of ps p ≡ f ∷ fs) where
  abbrev gone : List (List Frame)
  gone = on_page ps p rest_of

  pub within : p < length ps
  within = page_in ps p (omega (arith, ap length is))

  pub gone_here : frames_of (on_page ps p rest_of) p ≡ fs
  gone_here = frames_of-on_page ps p rest_of within ∙ ap rest_of is

  pub gone_other : (q : ℕ) → q ≢ p → frames_of (on_page ps p rest_of) q ≡ frames_of ps q
  gone_other q ne = frames_of-on_page_other ps p q rest_of ne

  own : FramesFit os next (f ∷ fs)
  own = subst (FramesFit os next) is (fit.frames p)

  far : (q : ℕ) → q ≢ p → AreApart (f ∷ fs) (frames_of ps q)
  far q ne = subst (λ es. AreApart es (frames_of ps q)) is (fit.apart p q (λ e. ne (sym e)))

  pub gone_lacks : (q : ℕ) → Lacks f.birth (frames_of (on_page ps p rest_of) q)
  gone_lacks q = elim (cases_eq q p) [
    | inl e ↦ subst (λ n. Lacks f.birth (frames_of (on_page ps p rest_of) n)) (sym e) (subst (Lacks f.birth) (sym gone_here) own.0.apart)
    | inr ne ↦ subst (Lacks f.birth) (sym (gone_other q ne)) (far q ne).0
  ]

  gone_frames : (q : ℕ) → FramesFit os next (frames_of (on_page ps p rest_of) q)
  gone_frames q = elim (cases_eq q p) [
    | inl e ↦ subst (λ n. FramesFit os next (frames_of (on_page ps p rest_of) n)) (sym e) (subst (FramesFit os next) (sym gone_here) own.1)
    | inr ne ↦ subst (FramesFit os next) (sym (gone_other q ne)) (fit.frames q)
  ]

  gone_apart : (q r : ℕ) → q ≢ r → AreApart (frames_of (on_page ps p rest_of) q) (frames_of (on_page ps p rest_of) r)
  gone_apart q r ne = elim (cases_eq q p) [
    | inl e ↦
        let other : r ≢ p = λ h. ne (e ∙ sym h) in
        subst (λ n. AreApart (frames_of (on_page ps p rest_of) n) (frames_of (on_page ps p rest_of) r)) (sym e)
        (subst (λ es. AreApart es (frames_of (on_page ps p rest_of) r)) (sym gone_here) (subst (AreApart fs) (sym (gone_other r other)) (far r other).1))
    | inr off ↦ subst (λ es. AreApart es (frames_of (on_page ps p rest_of) r)) (sym (gone_other q off)) (elim (cases_eq r p) [
      | inl e ↦ subst (λ n. AreApart (frames_of ps q) (frames_of (on_page ps p rest_of) n)) (sym e)
          (subst (AreApart (frames_of ps q)) (sym gone_here) (apart_rest f fs (frames_of ps q) (subst (AreApart (frames_of ps q)) is (fit.apart q p off))))
      | inr away ↦ subst (AreApart (frames_of ps q)) (sym (gone_other r away)) (fit.apart q r ne)
    ])
  ]

  pub gone_fit : AllFit os next (on_page ps p rest_of)
  gone_fit = record { frames = gone_frames; apart = gone_apart }

  -- ---- what stands at a birth

  pub onto_gone : (m : Objects) → get (pages_onto os (on_page ps p rest_of) m) f.birth ≡ get m f.birth
  onto_gone m = onto_bare os (on_page ps p rest_of) m f.birth gone_lacks

  pub onto_kept : (m : Objects) (i : ℕ) → i ≢ f.birth → get (pages_onto os (on_page ps p rest_of) m) i ≡ get (pages_onto os ps m) i
  unfolding frames_onto
  onto_kept m i ne =
      let low : Objects = pages_onto os (on_page ps p (λ _. [])) m in
      let new : pages_onto os (on_page ps p rest_of) m ≡ frames_onto os fs low =
      front os next (on_page ps p rest_of) m p gone_fit (omega (arith, within, length-on_page ps p rest_of))
      ∙ ap (λ es. frames_onto os es (pages_onto os (on_page (on_page ps p rest_of) p (λ _. [])) m)) gone_here
      ∙ ap (λ qs. frames_onto os fs (pages_onto os qs m)) (on_page-on_page ps p rest_of (λ _. []) within) in
      let old : pages_onto os ps m ≡ frames_onto os (f ∷ fs) low = front os next ps m p fit within ∙ ap (λ es. frames_onto os es low) is in
      ap (λ n. get n i) new ∙ sym (ap (λ n. get n i) old ∙ get_apart (frames_onto os fs low) f.birth i (Ctx (frame_context os f fs)) ne)
