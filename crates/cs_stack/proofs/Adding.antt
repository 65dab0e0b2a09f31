-- A new frame on a page of a good world: above the last frame of the most recent page, or alone on one that was free.
use Rattle.std.proofs.Common.{◌≡◌, ◌≢◌, ℕ, ◌+◌, ◌<◌, refl, sym, ap, ap₂, subst, ◌∙◌, arith, Some, List, [], ◌∷◌, length, inl, inr, suc}
use Rattle.std.specs.Prelude.{◌↔◌, Contains, nat_eq}
use Rattle.std.specs.List.{IsDistinct}
use Rattle.std.specs.Ordering.{nat_cmp}
use Rattle.std.specs.FinMap.{FinMap, insert}
use Rattle.std.proofs.lemmas.Bool.{cases_eq}
use Rattle.std.proofs.lemmas.Map.Keys.{IsDistinct-head}
use Rattle.cs_heap.specs.Object.{Object}
use Rattle.cs_classes.specs.declared.Roots.{Roots}
use Rattle.cs_classes.specs.Meaning.{kept_of, objects_of}
use Rattle.cs_classes.specs.Sound.{IsWhole}
use Rattle.cs_frame.specs.Frame.{Frame}
use Rattle.cs_frame.specs.Page.{frames_of, on_page, top}
use Rattle.cs_frame.proofs.PageLaws.{frames_of-on_page, frames_of-on_page_other, length-on_page, on_page-on_page}
use Rattle.cs_marriage.specs.Agree as marriage
use Rattle.cs_marriage.specs.Agree.{Agree}
use Rattle.cs_marriage.proofs.Laws.{agree_on_page, fits_above, page_fits}
use Rattle.cs_model.specs.Obj.{Context, Ctx}
use Rattle.cs_model.specs.State.{Kept, put, with_rest}
use Rattle.cs_model.specs.Operation.{activate, with_next}
use Rattle.cs_pages.specs.Order.{IsSoundOrder, Order}
use Rattle.cs_pages.proofs.Lists.{lacks_not}
use Rattle.cs_stack.specs.declared.parts.Parts.{Parts}
use Rattle.cs_stack.specs.View.{active_in, active_page, bare, births_of, first_frames, frame_context, frames_onto, laid_pages, layout_of, pages_onto, view_of}
use Rattle.cs_stack.specs.Good.{AreApart, FrameFits, FramesFit, IsChain, IsGood, Lacks, base_of}
use Rattle.cs_stack.proofs.Maps.{Objects}
use Rattle.cs_stack.proofs.Framed.{front}

-- ---- the frames that stand already

-- a birth that no frame was given yet
pub lacks_next : (os : List Object) (n : ℕ) (fs : List Frame) → FramesFit os n fs → Lacks n fs
lacks_next os n [] h = tt
lacks_next os n (f ∷ fs) h = (λ e. omega (arith, e, h.0.birth), lacks_next os n fs h.1)

fits_later : (os : List Object) (n : ℕ) (f : Frame) (fs : List Frame) → FrameFits os n f fs → FrameFits os (n + 1) f fs
fits_later os n f fs h = record {
  names = h.names;
  lies = h.lies;
  fits = h.fits;
  stands = h.stands;
  room = h.room;
  birth = omega (arith, h.birth);
  apart = h.apart;
  sender = h.sender;
  alone = h.alone;
}

fit_later : (os : List Object) (n : ℕ) (fs : List Frame) → FramesFit os n fs → FramesFit os (n + 1) fs
fit_later os n [] h = tt
fit_later os n (f ∷ fs) h = (fits_later os n f fs h.0, fit_later os n fs h.1)

apart_new : (os : List Object) (n : ℕ) (e : Frame) (gs fs : List Frame) → e.birth ≡ n → FramesFit os n gs → AreApart gs fs → AreApart gs (e ∷ fs)
apart_new os n e [] fs is fit a = tt
apart_new os n e (g ∷ gs) fs is fit a = ((λ s. omega (arith, s, is, fit.0.birth), a.0), apart_new os n e gs fs is fit.1 a.1)

-- one more birth was given
later_whole : (os : List Object) (table : FinMap nat_cmp ℕ) (roots : Roots) → IsWhole os table roots → IsWhole os table (record roots { next_birth = roots.next_birth + 1 })
later_whole os table roots whole = record {
  heap = whole.heap;
  first = whole.first;
  nil = whole.nil;
  singles = whole.singles;
  births = λ j x h. omega (arith, whole.births j x h);
  indices = whole.indices;
  classes = whole.classes;
  entries = whole.entries;
  special = whole.special;
  array = record { format = whole.array.format; slots = whole.array.slots };
  last_hash = whole.last_hash;
  header = whole.header;
}

-- ---- pages behind the first

-- a page that stands first stands nowhere else
pub behind : (order : Order) (p : ℕ) (rest : List ℕ) → IsSoundOrder order → order.recent ≡ p ∷ rest → (q : ℕ) → Contains rest q → q ≢ p
behind order p rest sound is q in_rest e =
    lacks_not p rest (IsDistinct-head nat_eq p rest (subst (λ ps. IsDistinct nat_eq ps) is sound.distinct)) (subst (Contains rest) e in_rest)

-- these pages have the same frames
abbrev pub Stay : List (List Frame) → List (List Frame) → List ℕ → Type 0
Stay ps ss rs = (q : ℕ) → Contains rs q → frames_of ss q ≡ frames_of ps q

later : (r : ℕ) (rs : List ℕ) (q : ℕ) → Contains rs q → Contains (r ∷ rs) q
later r rs q (k, within, is) = (suc k, omega (arith, within), is)

pub laid_stay : (ps ss : List (List Frame)) (rs : List ℕ) → Stay ps ss rs → laid_pages ss rs ≡ laid_pages ps rs
laid_stay ps ss [] stay = refl
laid_stay ps ss (r ∷ rs) stay =
    ap₂ (λ (f : List Frame) (bs : List (List ℕ)). births_of f ∷ bs) (stay r (0, omega arith, refl)) (laid_stay ps ss rs (λ q h. stay q (later r rs q h)))

pub chain_stay : (ps ss : List (List Frame)) (rs : List ℕ) → Stay ps ss rs → IsChain ps rs → IsChain ss rs
chain_stay ps ss [] stay c = tt
chain_stay ps ss (p ∷ []) stay c = tt
chain_stay ps ss (p ∷ q ∷ rs) stay c =
    let first = stay p (0, omega arith, refl) in
    let second = stay q (1, omega arith, refl) in (
      ap (λ (f : List Frame). (base_of f).caller) first ∙ c.0 ∙ sym (ap (λ (f : List Frame). (top f).context) second),
      λ e. c.1 (sym (ap (λ (f : List Frame). (top f).context) second) ∙ e),
      chain_stay ps ss (q ∷ rs) (λ n h. stay n (later p (q ∷ rs) n h)) c.2,
    )

-- the first page has the same base frame's sender
pub chain_first : (ps ss : List (List Frame)) (p : ℕ) (rs : List ℕ) → (base_of (frames_of ss p)).caller ≡ (base_of (frames_of ps p)).caller → Stay ps ss rs
    → IsChain ps (p ∷ rs) → IsChain ss (p ∷ rs)
chain_first ps ss p [] caller stay c = tt
chain_first ps ss p (q ∷ rs) caller stay c =
    let second = stay q (0, omega arith, refl) in (
      caller ∙ c.0 ∙ sym (ap (λ (f : List Frame). (top f).context) second),
      λ e. c.1 (sym (ap (λ (f : List Frame). (top f).context) second) ∙ e),
      chain_stay ps ss (q ∷ rs) stay c.2,
    )

-- ---- the new frame

-- a context more, which is active
abbrev pub begun_kept : Kept → Context → Kept
begun_kept k c = with_rest (activate (Some k.rest.next) (with_next (k.rest.next + 1) k.rest)) (put k k.rest.next (Ctx c))

abbrev pub added_frames : Parts → ℕ → Frame → List (List Frame)
added_frames w m new = on_page w.frames m (λ gs. new ∷ gs)

abbrev pub added_parts : Parts → ℕ → Frame → Order → Parts
added_parts w m new order = record w { roots = record w.roots { next_birth = w.roots.next_birth + 1 }; pages = order; frames = added_frames w m new }

-- The frame fits above those of page m, which is the most recent one from now on, and the pages are a chain again.
pub record CanAdd (w : Parts) (m : ℕ) (new : Frame) (order : Order) : Type 0 where
  pub within : m < length w.frames
  pub births : w.roots.next_birth < 4611686018427387904
  pub fresh : new.birth ≡ w.roots.next_birth
  pub fits : FrameFits w.heap.objects (w.roots.next_birth + 1) new (frames_of w.frames m)
  pub married : marriage.FrameAgrees w.heap.objects (record { page = m; at = new.at }) new
  pub total : order.total ≡ w.pages.total
  pub sound : IsSoundOrder order
  pub rest : List ℕ
  pub recent : order.recent ≡ m ∷ rest
  pub others : (q : ℕ) → q ≢ m → Contains order.recent q ↔ Contains w.pages.recent q
  pub chain : IsChain (added_frames w m new) (m ∷ rest)

module _ (w : Parts) (good : IsGood w) (m : ℕ) (new : Frame) (order : Order) (can : CanAdd w m new order) where
  abbrev os : List Object
  os = w.heap.objects

  abbrev next : ℕ
  next = w.roots.next_birth

  abbrev ps : List (List Frame)
  ps = w.frames

  abbrev ss : List (List Frame)
  ss = added_frames w m new

  pub added_here : frames_of ss m ≡ new ∷ frames_of ps m
  added_here = frames_of-on_page ps m (λ gs. new ∷ gs) can.within

  pub added_there : (q : ℕ) → q ≢ m → frames_of ss q ≡ frames_of ps q
  added_there q other = frames_of-on_page_other ps m q (λ gs. new ∷ gs) other

  fit : (q : ℕ) → FramesFit os (next + 1) (frames_of ss q)
  fit q = elim (cases_eq q m) [
    | inl e ↦ subst (λ fs. FramesFit os (next + 1) fs) (sym (ap (frames_of ss) e ∙ added_here)) (can.fits, fit_later os next (frames_of ps m) (good.frames m))
    | inr other ↦ subst (λ fs. FramesFit os (next + 1) fs) (sym (added_there q other)) (fit_later os next (frames_of ps q) (good.frames q))
  ]

  new_apart : (q : ℕ) → q ≢ m → AreApart (new ∷ frames_of ps m) (frames_of ps q)
  new_apart q other = (subst (λ i. Lacks i (frames_of ps q)) (sym can.fresh) (lacks_next os next (frames_of ps q) (good.frames q)), good.apart m q (λ e. other (sym e)))

  apart : (q r : ℕ) → q ≢ r → AreApart (frames_of ss q) (frames_of ss r)
  apart q r differ = elim (cases_eq q m) [
    | inl e ↦ subst (λ fs. AreApart fs (frames_of ss r)) (sym (ap (frames_of ss) e ∙ added_here))
        (subst (λ fs. AreApart (new ∷ frames_of ps m) fs) (sym (added_there r (λ s. differ (e ∙ sym s)))) (new_apart r (λ s. differ (e ∙ sym s))))
    | inr other ↦ subst (λ fs. AreApart fs (frames_of ss r)) (sym (added_there q other)) (elim (cases_eq r m) [
      | inl e ↦ subst (λ fs. AreApart (frames_of ps q) fs) (sym (ap (frames_of ss) e ∙ added_here))
          (apart_new os next new (frames_of ps q) (frames_of ps m) can.fresh (good.frames q) (good.apart q m other))
      | inr off ↦ subst (λ fs. AreApart (frames_of ps q) fs) (sym (added_there r off)) (good.apart q r differ)
    ])
  ]

  used_pages : (q : ℕ) → Contains order.recent q ↔ (0 < length (frames_of ss q))
  used_pages q = elim (cases_eq q m) [
    | inl e ↦ (
      λ _. omega (arith, ap length (ap (frames_of ss) e ∙ added_here)),
      λ _. subst (λ qs. Contains qs q) (sym can.recent) (0, omega arith, sym e),
    )
    | inr other ↦ (
      λ h. omega (arith, ap length (added_there q other), (good.used_pages q).0 ((can.others q other).0 h)),
      λ h. (can.others q other).1 ((good.used_pages q).1 (omega (arith, h, ap length (added_there q other)))),
    )
  ]

  pub added_good : IsGood (added_parts w m new order)
  added_good = record {
    whole = later_whole os w.classes w.roots good.whole;
    within = good.within;
    most = good.most;
    births = omega (arith, can.births);
    pcs = good.pcs;
    senders = good.senders;
    links = good.links;
    agree = agree_on_page os ps m (λ gs. new ∷ gs) good.agree can.within (fits_above os m new (frames_of ps m) can.married (page_fits os ps m good.agree));
    frames = fit;
    apart = apart;
    total = can.total ∙ good.total ∙ sym (length-on_page ps m (λ gs. new ∷ gs));
    order = can.sound;
    used_pages = used_pages;
    chain = subst (IsChain ss) (sym can.recent) can.chain;
  }

  -- ---- its context

  objects : pages_onto os ss (objects_of (bare os)) ≡ insert (pages_onto os ps (objects_of (bare os))) next (Ctx (frame_context os new (frames_of ps m)))
  unfolding frames_onto
  objects =
      let map : Objects = objects_of (bare os) in
      front os (next + 1) ss map m (record { frames = fit; apart = apart }) (omega (arith, can.within, length-on_page ps m (λ gs. new ∷ gs)))
      ∙ ap (λ es. frames_onto os es (pages_onto os (on_page ss m (λ _. [])) map)) added_here
      ∙ ap (λ qs. frames_onto os (new ∷ frames_of ps m) (pages_onto os qs map)) (on_page-on_page ps m (λ gs. new ∷ gs) (λ _. []) can.within)
      ∙ ap (λ b. insert (frames_onto os (frames_of ps m) (pages_onto os (on_page ps m (λ _. [])) map)) b (Ctx (frame_context os new (frames_of ps m)))) can.fresh
      ∙ ap (λ n. insert n next (Ctx (frame_context os new (frames_of ps m)))) (sym (front os next ps map m (record { frames = good.frames; apart = good.apart }) can.within))

  active : active_in (active_page (added_parts w m new order)) ≡ Some next
  active = ap (λ rs. active_in (first_frames ss rs)) can.recent ∙ ap active_in added_here ∙ ap (λ b. Some b) can.fresh

  pub added_view : view_of (added_parts w m new order) ≡ begun_kept (view_of w) (frame_context os new (frames_of ps m))
  unfolding put
  added_view =
      ap₂ (λ n a. record { objects = n; rest = (kept_of (bare os) w.classes (record w.roots { next_birth = next + 1 }) a).rest }) objects active

  -- ---- the layout

  pub stay : Stay ps ss can.rest
  stay q h = added_there q (behind order m can.rest can.sound can.recent q h)

  pub added_layout : layout_of (added_parts w m new order) ≡ Some (record { most = w.pages.total; pages = (next ∷ births_of (frames_of ps m)) ∷ laid_pages ps can.rest })
  added_layout =
      ap (λ rs. Some (record { most = order.total; pages = laid_pages ss rs })) can.recent
      ∙ ap (λ n. Some (record { most = n; pages = laid_pages ss (m ∷ can.rest) })) can.total
      ∙ ap₂ (λ (f : List Frame) (bs : List (List ℕ)). Some (record { most = w.pages.total; pages = births_of f ∷ bs })) added_here (laid_stay ps ss can.rest stay)
      ∙ ap (λ b. Some (record { most = w.pages.total; pages = (b ∷ births_of (frames_of ps m)) ∷ laid_pages ps can.rest })) can.fresh
