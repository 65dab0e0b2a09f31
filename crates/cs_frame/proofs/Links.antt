-- The words of low bits 100 in the zone are exactly the saved frame pointers of its frames.
use Rattle.std.proofs.Common.{◌≡◌, ◌≢◌, ℕ, zero, suc, ◌+◌, ◌-◌, ◌*◌, ◌/◌, ◌%◌, ◌<◌, ◌≤◌, List, length, get_or, cond, true, false, eqb, refl, sym, ◌∙◌, ap, subst, inl, inr, arith}
use Rattle.std.proofs.lemmas.Bool.{cases_lt, cases_eq, eq-eqb, ne_eqb}
use Rattle.std.proofs.lemmas.List.{get_or_default}
use Rattle.cs_frame.specs.declared.PageHead.{PageHead}
use Rattle.cs_frame.specs.declared.FrameRef.{FrameRef}
use Rattle.cs_frame.specs.Frame.{Frame, IsLink}
use Rattle.cs_frame.specs.Page.{frames_of, frame_index, IsFrame}
use Rattle.cs_frame.specs.Layout.{frames_down, below, Stands, AreFramesLaid, pages_of}
use Rattle.cs_frame.proofs.Stacks.{length-frames, base_below}
use Rattle.cs_frame.proofs.Pages.{Opened, opened, Found, found, length-pages}

-- a frame's first word is a link
pub link-is_frame : {w : List ℕ} {hs : List PageHead} → AreFramesLaid w hs → (r : FrameRef) → IsFrame (pages_of w 0 hs) r → IsLink (get_or w (r.page * 4096 + r.at) 0)
link-is_frame laid r is = (found laid refl r is).whole.link

-- a link below the end of a page's frames is a frame's first word
link_below : (n : ℕ) (w : List ℕ) (base fp sp k : ℕ) → Stands n w base fp sp → base ≤ k → k < sp → IsLink (get_or w k 0)
    → frame_index (frames_down n w base fp sp) (k - base) < n
link_below zero w base fp sp k st low high is = absurd (omega arith)
link_below (suc n) w base fp sp k st low high is =
    let fits = base_below n w base (below w fp) fp st.1 in
    elim (cases_lt k fp) [
      | inl lt ↦
          let r = link_below n w base (below w fp) fp k st.1 low lt is in
          let ne : eqb (fp - base) (k - base) ≡ false = ne_eqb (fp - base) (k - base) (omega arith) in
          rw ne (omega arith)
      | inr ge ↦ elim (cases_eq k fp) [
        | inl e ↦ let same : eqb (fp - base) (k - base) ≡ true = eq-eqb (fp - base) (k - base) (omega arith) in rw same (omega arith)
        | inr ne ↦ absurd (st.0.values k (omega arith) high is)
      ]
    ]

-- and every link of the zone is one
pub frame-is_link : {w : List ℕ} {hs : List PageHead} → AreFramesLaid w hs → (k : ℕ) → k < length w → IsLink (get_or w k 0)
    → IsFrame (pages_of w 0 hs) (record { page = k / 4096; at = k % 4096 })
frame-is_link {w} {hs} laid k lt is =
    let p = k / 4096 in
    let len = laid.len in
    let ps = pages_of w 0 hs in
    let in' : p < length hs = omega arith in
    let page_in : p < length ps = omega (arith, length-pages w 0 hs) in
    let h0 : PageHead = record { frame = 0; end = 0; count = 0 } in
    let h = get_or hs p h0 in
    let o = opened {ps = ps} {h = h} laid refl p page_in (get_or_default hs p h0 h in') in
    let at : k - p * 4096 ≡ k % 4096 = omega arith in
    let shorter : k < h.end = elim (cases_lt k h.end) [ inl a ↦ a | inr a ↦ absurd (o.page.free k a (omega arith) is) ] in
    let there = link_below h.count w (p * 4096) h.frame h.end k o.page.stands (omega arith) shorter is in
    let F : List Frame → Type 0 = λ fs. frame_index fs (k % 4096) < length fs in
    subst F (sym o.is) (let n = length-frames h.count w (p * 4096) h.frame h.end in
    let i = ap (frame_index (frames_down h.count w (p * 4096) h.frame h.end)) at in omega arith)
