-- All pages: what a call may use of one of them, and what it owes where it changed one.
use Rattle.std.proofs.Common.{◌≡◌, ℕ, zero, suc, ◌+◌, ◌-◌, ◌*◌, ◌<◌, ◌≤◌, ◌⊎◌, List, [], ◌∷◌, length, get_or, set, refl, sym, ◌∙◌, ap, subst, inl, inr, arith}
use Rattle.std.proofs.lemmas.List.{length-set, get_or_default, set-get_or}
use Rattle.cs_frame.specs.declared.PageHead.{PageHead}
use Rattle.cs_frame.specs.declared.FrameRef.{FrameRef}
use Rattle.cs_frame.specs.Frame.{Frame}
use Rattle.cs_frame.specs.Page.{nth, on_nth, frames_of, index_in, IsFrame, frame, on_frame}
use Rattle.cs_frame.specs.Layout.{frame_at, frames_down, IsWholeFrame, IsPageOfWords, ArePages, AreFramesLaid, pages_of}
use Rattle.cs_frame.proofs.Words.{Same, no_link_same}
use Rattle.cs_frame.proofs.Stacks.{begin_nth, end_nth, length-frames, nth-frames, base_below, Lies, lies, frames_same, nth_changed}
use Rattle.cs_frame.proofs.PageLaws.{at-nth_index, page_in, page-IsFrame}

pub length-pages : (w : List ℕ) (base : ℕ) (hs : List PageHead) → length (pages_of w base hs) ≡ length hs
length-pages w base [] = refl
length-pages w base (h ∷ hs) = ap suc (length-pages w (base + 4096) hs)

-- each page has its head
pub page_count : {w : List ℕ} {hs : List PageHead} {ps : List (List Frame)} → AreFramesLaid w hs → pages_of w 0 hs ≡ ps → (p : ℕ) → p < length ps → p < length hs
page_count {w} {hs} laid e p lt = omega (arith, length-pages w 0 hs, ap length e)

-- the page that begins at b has the head h, and shows the frames fs
pub record Shows (w : List ℕ) (b : ℕ) (h : PageHead) (fs : List Frame) : Type 0 where
  pub is : fs ≡ frames_down h.count w b h.frame h.end
  pub page : IsPageOfWords w b h

pub page_at : (w : List ℕ) (base : ℕ) (hs : List PageHead) (p b : ℕ) (h : PageHead) → ArePages w base hs → p < length hs
    → h ≡ get_or hs p h → b ≡ base + p * 4096 → Shows w b h (get_or (pages_of w base hs) p [])
page_at w base [] p b h al lt e eb = absurd (omega arith)
page_at w base (g ∷ hs) zero b h al lt e eb =
    let F : PageHead → ℕ → Type 0 = λ k c. Shows w c k (frames_down g.count w base g.frame g.end) in
    let eb' : base ≡ b = omega arith in
    subst (λ k. F k b) (sym e) (subst (λ c. F g c) eb' (record { is = refl; page = al.0 }))
page_at w base (g ∷ hs) (suc p) b h al lt e eb = page_at w (base + 4096) hs p b h al.1 (omega arith) e (omega arith)

pub page_same : (v w : List ℕ) (base : ℕ) (h : PageHead) → Same v w base (base + 4096) → IsPageOfWords w base h
    → (frames_down h.count v base h.frame h.end ≡ frames_down h.count w base h.frame h.end) × IsPageOfWords v base h
page_same v w base h s pg =
    let le = pg.within in let low = base_below h.count w base h.frame h.end pg.stands in
    let r = frames_same h.count v w base h.frame h.end pg.stands (λ k a b. s k a (omega arith)) in
    (r.0, record { stands = r.1; within = le; free = no_link_same v w h.end (base + 4096) (λ k a b. s k (omega arith) b) pg.free })

pub pages_same : (v w : List ℕ) (base : ℕ) (hs : List PageHead) → ArePages w base hs
    → ((k : ℕ) → base ≤ k → get_or v k 0 ≡ get_or w k 0) → (pages_of v base hs ≡ pages_of w base hs) × ArePages v base hs
pages_same v w base [] al s = (refl, tt)
pages_same v w base (h ∷ hs) al s =
    let here = page_same v w base h (λ k a b. s k a) al.0 in
    let rest = pages_same v w (base + 4096) hs al.1 (λ k a. s k (omega arith)) in (
      ap (λ (fs : List Frame). fs ∷ pages_of v (base + 4096) hs) here.0 ∙ ap (λ (ps : List (List Frame)). frames_down h.count w base h.frame h.end ∷ ps) rest.0,
      (here.1, rest.1),
    )

-- the words off the page that begins at b
abbrev pub SameOff : List ℕ → List ℕ → ℕ → Type 0
SameOff v w b = (k : ℕ) → (k < b) ⊎ (b + 4096 ≤ k) → get_or v k 0 ≡ get_or w k 0

pub page_set : (v w : List ℕ) (base : ℕ) (hs : List PageHead) (p b : ℕ) (h : PageHead) → ArePages w base hs → p < length hs
    → b ≡ base + p * 4096 → SameOff v w b → IsPageOfWords v b h
    → (pages_of v base (set hs p h) ≡ set (pages_of w base hs) p (frames_down h.count v b h.frame h.end)) × ArePages v base (set hs p h)
page_set v w base [] p b h al lt eb s pg = absurd (omega arith)
page_set v w base (g ∷ hs) zero b h al lt eb s pg =
    let eb' : b ≡ base = omega arith in
    let rest = pages_same v w (base + 4096) hs al.1 (λ k a. s k (inr (omega arith))) in (
      ap (λ (ps : List (List Frame)). frames_down h.count v base h.frame h.end ∷ ps) rest.0
          ∙ ap (λ (c : ℕ). frames_down h.count v c h.frame h.end ∷ pages_of w (base + 4096) hs) (sym eb'),
      (subst (λ (c : ℕ). IsPageOfWords v c h) eb' pg, rest.1),
    )
page_set v w base (g ∷ hs) (suc p) b h al lt eb s pg =
    let here = page_same v w base g (λ k a c. s k (inl (omega arith))) al.0 in
    let rest = page_set v w (base + 4096) hs p b h al.1 (omega arith) (omega arith) s pg in (
      ap (λ (fs : List Frame). fs ∷ pages_of v (base + 4096) (set hs p h)) here.0
          ∙ ap (λ (ps : List (List Frame)). frames_down g.count w base g.frame g.end ∷ ps) rest.0,
      (here.1, rest.1),
    )

-- what a call that works on page p may use
pub record Opened (w : List ℕ) (hs : List PageHead) (p : ℕ) (h : PageHead) (fs : List Frame) : Type 0 where
  pub page_in : p < length hs
  pub is : fs ≡ frames_down h.count w (p * 4096) h.frame h.end
  pub page : IsPageOfWords w (p * 4096) h
  pub low : p * 4096 + 10 * h.count ≤ h.end
  pub high : h.end ≤ p * 4096 + 4096
  pub fits : p * 4096 + 4096 ≤ length w
  pub small : length w ≤ 262144
  pub few : p < 64

pub opened : {w : List ℕ} {hs : List PageHead} {ps : List (List Frame)} {h : PageHead} → AreFramesLaid w hs → pages_of w 0 hs ≡ ps → (p : ℕ)
    → p < length ps → h ≡ get_or hs p h → Opened w hs p h (frames_of ps p)
opened {w} {hs} {ps} {h} laid e p lt eh =
    let in' : p < length hs = omega (arith, length-pages w 0 hs, ap length e) in
    let on : Shows w (p * 4096) h (get_or ps p []) =
    subst (λ (qs : List (List Frame)). Shows w (p * 4096) h (get_or qs p [])) e
    (page_at w 0 hs p (p * 4096) h laid.pages in' eh (omega arith)) in
    let few = laid.few in let len = laid.len in
    record {
      page_in = in';
      is = on.is;
      page = on.page;
      low = base_below h.count w (p * 4096) h.frame h.end on.page.stands;
      high = on.page.within;
      fits = omega arith;
      small = omega arith;
      few = omega arith;
    }

-- what a call owes that left page p with the head h
pub closed : {v w : List ℕ} {hs : List PageHead} {ps : List (List Frame)} {p : ℕ} (h : PageHead) → AreFramesLaid w hs → pages_of w 0 hs ≡ ps → p < length hs
    → length v ≡ length w → SameOff v w (p * 4096) → IsPageOfWords v (p * 4096) h
    → AreFramesLaid v (set hs p h) × (pages_of v 0 (set hs p h) ≡ set ps p (frames_down h.count v (p * 4096) h.frame h.end))
closed {v} {w} {hs} {ps} {p} h laid e lt len s pg =
    let r = page_set v w 0 hs p (p * 4096) h laid.pages lt (omega arith) s pg in
    let few = laid.few in let l = laid.len in (
      record { few = omega (arith, length-set hs p h); len = omega (arith, length-set hs p h); pages = r.1 },
      r.0 ∙ ap (λ (qs : List (List Frame)). set qs p (frames_down h.count v (p * 4096) h.frame h.end)) e,
    )

-- the frame that a reference names, which ends at `end`
pub record Found (w : List ℕ) (hs : List PageHead) (ps : List (List Frame)) (r : FrameRef) : Type 0 where
  pub head : PageHead
  pub head_is : head ≡ get_or hs r.page head
  pub open' : Opened w hs r.page head (frames_of ps r.page)
  pub index_in' : index_in ps r < head.count
  pub begin_is : begin_nth (index_in ps r) w head.frame ≡ r.page * 4096 + r.at
  pub end : ℕ
  pub end_is : end ≡ end_nth (index_in ps r) w head.frame head.end
  pub lie : Lies head.count (index_in ps r) w (r.page * 4096) head.frame head.end
  pub whole : IsWholeFrame w (r.page * 4096 + r.at) end
  pub overhead : r.page * 4096 + r.at + 10 ≤ end
  pub high : end ≤ r.page * 4096 + 4096
  pub fits : r.page * 4096 + 4096 ≤ length w
  pub small : length w ≤ 262144
  pub few : r.page < 64
  pub is : frame ps r ≡ frame_at w (r.page * 4096) (r.page * 4096 + r.at) end

pub found : {w : List ℕ} {hs : List PageHead} {ps : List (List Frame)} → AreFramesLaid w hs → pages_of w 0 hs ≡ ps → (r : FrameRef)
    → IsFrame ps r → Found w hs ps r
found {w} {hs} {ps} laid e r is =
    let h0 : PageHead = record { frame = 0; end = 0; count = 0 } in
    let h = get_or hs r.page h0 in
    let lt : r.page < length ps = page-IsFrame ps r is in
    let eh : h ≡ get_or hs r.page h = get_or_default hs r.page h0 h (omega (arith, length-pages w 0 hs, ap length e)) in
    let o = opened laid e r.page lt eh in
    let k = index_in ps r in
    let n : k < h.count = omega (arith, ap length o.is, length-frames h.count w (r.page * 4096) h.frame h.end) in
    let l = lies h.count k w (r.page * 4096) h.frame h.end o.page.stands n in
    let there : frame ps r ≡ frame_at w (r.page * 4096) (begin_nth k w h.frame) (end_nth k w h.frame h.end) =
    ap (λ (fs : List Frame). nth fs k) o.is ∙ nth-frames h.count k w (r.page * 4096) h.frame h.end n in
    let over = l.over in let under = l.under in let high = o.high in
    let place : begin_nth k w h.frame ≡ r.page * 4096 + r.at =
    let a : r.at ≡ begin_nth k w h.frame - r.page * 4096 = sym (at-nth_index (frames_of ps r.page) r.at is) ∙ ap (λ (f : Frame). f.at) there in omega arith in
    let whole : IsWholeFrame w (r.page * 4096 + r.at) (end_nth k w h.frame h.end) = subst (λ (b : ℕ). IsWholeFrame w b (end_nth k w h.frame h.end)) place l.whole in
    record {
      head = h;
      head_is = eh;
      open' = o;
      index_in' = n;
      begin_is = place;
      end = end_nth k w h.frame h.end;
      end_is = refl;
      lie = l;
      whole = whole;
      overhead = whole.overhead;
      high = omega arith;
      fits = o.fits;
      small = o.small;
      few = o.few;
      is = there ∙ ap (λ (b : ℕ). frame_at w (r.page * 4096) b (end_nth k w h.frame h.end)) place;
    }

-- a change inside a frame, not of its link, that makes of it what g does
pub inner_done : (g : Frame → Frame) {w v : List ℕ} {hs : List PageHead} {ps : List (List Frame)} {r : FrameRef} → AreFramesLaid w hs → pages_of w 0 hs ≡ ps
    → (f : Found w hs ps r) → length v ≡ length w
    → ((j : ℕ) → (j ≤ r.page * 4096 + r.at) ⊎ (f.end ≤ j) → get_or v j 0 ≡ get_or w j 0)
    → IsWholeFrame v (r.page * 4096 + r.at) f.end
    → frame_at v (r.page * 4096) (r.page * 4096 + r.at) f.end ≡ g (frame_at w (r.page * 4096) (r.page * 4096 + r.at) f.end)
    → AreFramesLaid v hs × (pages_of v 0 hs ≡ on_frame ps r g)
inner_done g {w} {v} {hs} {ps} {r} laid e f len s whole here =
    let h = f.head in let o = f.open' in let k = index_in ps r in let b = r.page * 4096 in
    let P : ℕ → ℕ → Type 0 = λ x y. ((j : ℕ) → (j ≤ x) ⊎ (y ≤ j) → get_or v j 0 ≡ get_or w j 0) × IsWholeFrame v x y × (frame_at v b x y ≡ g (frame_at w b x y)) in
    let q : P (begin_nth k w h.frame) (end_nth k w h.frame h.end) =
    subst (λ (x : ℕ). P x (end_nth k w h.frame h.end)) (sym f.begin_is) (subst (λ (y : ℕ). P (r.page * 4096 + r.at) y) f.end_is (s, whole, here)) in
    let c = nth_changed g h.count k v w b h.frame h.end o.page.stands f.index_in' q.0 q.1 q.2 in
    let over = f.overhead in let high = f.high in let top = o.high in
    let under = f.lie.under in let e1 = f.end_is in
    let pg : IsPageOfWords v b h = record {
      stands = c.1;
      within = top;
      free = no_link_same v w h.end (b + 4096) (λ j a d. s j (inr (omega arith))) o.page.free;
    } in
    let x = closed h laid e o.page_in len (off s over high) pg in
    let same : set hs r.page h ≡ hs = ap (λ (k' : PageHead). set hs r.page k') f.head_is ∙ set-get_or hs r.page h in
    let G : List PageHead → Type 0 = λ ks. AreFramesLaid v ks × (pages_of v 0 ks ≡ on_frame ps r g) in
    subst G same (x.0, x.1 ∙ ap (λ (fs : List Frame). set ps r.page fs) (c.0 ∙ ap (on_nth k g) (sym o.is)))
  where
    off : ((j : ℕ) → (j ≤ r.page * 4096 + r.at) ⊎ (f.end ≤ j) → get_or v j 0 ≡ get_or w j 0) → r.page * 4096 + r.at + 10 ≤ f.end → f.end ≤ r.page * 4096 + 4096
        → SameOff v w (r.page * 4096)
    off s over high j (inl a) = s j (inl (omega arith))
    off s over high j (inr a) = s j (inr (omega arith))
