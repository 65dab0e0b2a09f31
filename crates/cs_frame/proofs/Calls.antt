-- Each call that changes one page or one frame, over plain lists.
use Rattle.std.proofs.Common.{◌≡◌, ◌≢◌, ℕ, zero, suc, ◌+◌, ◌-◌, ◌*◌, ◌/◌, ◌%◌, ◌<◌, ◌≤◌, ◌⊎◌, List, [], ◌∷◌, ◌++◌, length, get_or, set, refl, sym, ◌∙◌, ap, subst, inl, inr, arith, get_or-set_other, get_or-set_same}
use Rattle.std.proofs.lemmas.List.{length-set}
use Rattle.std.proofs.lemmas.Bool.{cases_eq}
use Rattle.cs_frame.specs.declared.PageHead.{PageHead}
use Rattle.cs_frame.specs.declared.Part.{Part}
use Rattle.cs_frame.specs.declared.Part.TheVariants as part
use Rattle.cs_frame.specs.declared.FrameRef.{FrameRef}
use Rattle.cs_frame.specs.Frame.{Frame, IsPc, value_pushed, top_popped, with_value}
use Rattle.cs_frame.specs.Page.{frames_used, AreStacked, top, on_top, rest_of, nth, frames_of, on_page, index_in, IsFrame, frame, on_frame, IsBase, caller_of}
use Rattle.cs_frame.specs.Layout.{words_from, frame_at, frames_down, below, IsWholeFrame, IsPageOfWords, AreFramesLaid, pages_of, offset_of, part_of, with_part, CanHold}
use Rattle.cs_frame.proofs.Words.{words_same, words_at, length-words, words_set, frame_parts, overhead_same}
use Rattle.cs_frame.proofs.Stacks.{begin_nth, begin-suc, length-frames, nth-frames, lies, used_is, stacked}
use Rattle.cs_frame.proofs.PageLaws.{page_in}
use Rattle.cs_frame.proofs.Pages.{Opened, opened, closed, SameOff, Found, found, inner_done}
use Rattle.cs_frame.proofs.Ends.{pushed_top, Pops, pops, Drops, drops}

-- a write on the page changes no other
pub off_page : (w : List ℕ) (b i x : ℕ) → b ≤ i → i < b + 4096 → SameOff (set w i x) w b
off_page w b i x le lt k (inl a) = get_or-set_other w i k x 0 (omega arith)
off_page w b i x le lt k (inr a) = get_or-set_other w i k x 0 (omega arith)

pub some_frame : {w : List ℕ} {hs : List PageHead} {p : ℕ} {h : PageHead} {fs : List Frame} → Opened w hs p h fs → length fs ≡ h.count
some_frame {w} {p = p} {h = h} o = ap length o.is ∙ length-frames h.count w (p * 4096) h.frame h.end

pub used_words : {w : List ℕ} {hs : List PageHead} {p : ℕ} {h : PageHead} {fs : List Frame} → Opened w hs p h fs → p * 4096 + frames_used fs ≡ h.end
used_words {w} {p = p} {h = h} o =
    let e = ap frames_used o.is in let u = used_is h.count w (p * 4096) h.frame h.end o.page.stands in omega arith

pub stacked_page : {w : List ℕ} {hs : List PageHead} {p : ℕ} {h : PageHead} {fs : List Frame} → Opened w hs p h fs → AreStacked fs
stacked_page {w} {p = p} {h = h} o = subst AreStacked (sym o.is) (stacked h.count w (p * 4096) h.frame h.end o.page.stands)

pub push_done : {w v : List ℕ} {hs : List PageHead} {ps : List (List Frame)} {h : PageHead} → AreFramesLaid w hs → pages_of w 0 hs ≡ ps → (p x : ℕ)
    → 0 < length (frames_of ps p) → h ≡ get_or hs p h → frames_used (frames_of ps p) < 4096 → x % 8 ≢ 4 → v ≡ set w h.end x
    → let h' : PageHead = record { frame = h.frame; end = h.end + 1; count = h.count } in
    AreFramesLaid v (set hs p h') × (pages_of v 0 (set hs p h') ≡ on_page ps p (on_top (value_pushed x)))
push_done {w} {v} {hs} {ps} {h} laid e p x some eh room plain ev =
    let o = opened laid e p (page_in ps p some) eh in
    let b = p * 4096 in
    let h' : PageHead = record { frame = h.frame; end = h.end + 1; count = h.count } in
    let u = used_words o in let n = some_frame o in
    let low = o.low in let fits = o.fits in
    let t = pushed_top h.count w b h.frame h.end (b + 4096) x o.page.stands (omega arith) (omega arith) plain o.page.free in
    let pg : IsPageOfWords (set w h.end x) b h' = record { stands = t.1; within = omega arith; free = t.2 } in
    let c = closed h' laid e o.page_in (length-set w h.end x) (off_page w b h.end x (omega arith) (omega arith)) pg in
    let G : List ℕ → Type 0 = λ us. AreFramesLaid us (set hs p h') × (pages_of us 0 (set hs p h') ≡ on_page ps p (on_top (value_pushed x))) in
    subst G (sym ev) (c.0, c.1 ∙ ap (λ (fs : List Frame). set ps p fs) (t.0 ∙ ap (on_top (value_pushed x)) (sym o.is)))

pub pop_bounds : {w : List ℕ} {hs : List PageHead} {ps : List (List Frame)} {h : PageHead} → AreFramesLaid w hs → pages_of w 0 hs ≡ ps → (p : ℕ)
    → 0 < length (frames_of ps p) → h ≡ get_or hs p h → 0 < length (top (frames_of ps p)).stack
    → Opened w hs p h (frames_of ps p) × Pops h.count w (p * 4096) h.frame h.end (p * 4096 + 4096)
pop_bounds {w} {hs} {ps} {h} laid e p some eh value =
    let o = opened laid e p (page_in ps p some) eh in
    let value' : 0 < length (top (frames_down h.count w (p * 4096) h.frame h.end)).stack =
    subst (λ (fs : List Frame). 0 < length (top fs).stack) o.is value in
    (o, pops h.count w (p * 4096) h.frame h.end (p * 4096 + 4096) o.page.stands value' o.page.free)

pub pop_done : {w : List ℕ} {hs : List PageHead} {ps : List (List Frame)} {h : PageHead} → AreFramesLaid w hs → pages_of w 0 hs ≡ ps → (p : ℕ)
    → 0 < length (frames_of ps p) → h ≡ get_or hs p h → 0 < length (top (frames_of ps p)).stack
    → let h' : PageHead = record { frame = h.frame; end = h.end - 1; count = h.count } in
    AreFramesLaid w (set hs p h') × (pages_of w 0 (set hs p h') ≡ on_page ps p (on_top top_popped))
pop_done {w} {hs} {ps} {h} laid e p some eh value =
    let q = pop_bounds laid e p some eh value in let o = q.0 in let t = q.1 in
    let h' : PageHead = record { frame = h.frame; end = h.end - 1; count = h.count } in
    let high = o.high in
    let pg : IsPageOfWords w (p * 4096) h' = record { stands = t.stands; within = omega arith; free = t.free } in
    let c = closed h' laid e o.page_in refl (λ k a. refl) pg in
    (c.0, c.1 ∙ ap (λ (fs : List Frame). set ps p fs) (t.frames ∙ ap (on_top top_popped) (sym o.is)))

pub pop_value : {w : List ℕ} {hs : List PageHead} {ps : List (List Frame)} {h : PageHead} {x : ℕ} → AreFramesLaid w hs → pages_of w 0 hs ≡ ps → (p : ℕ)
    → 0 < length (frames_of ps p) → h ≡ get_or hs p h → 0 < length (top (frames_of ps p)).stack → x ≡ get_or w (h.end - 1) 0
    → let h' : PageHead = record { frame = h.frame; end = h.end - 1; count = h.count } in
    (top (frames_of ps p)).stack ≡ (top (frames_of (pages_of w 0 (set hs p h')) p)).stack ++ x ∷ []
pop_value {w} {hs} {ps} {h} {x} laid e p some eh value ex =
    let q = pop_bounds laid e p some eh value in let o = q.0 in let t = q.1 in
    let h' : PageHead = record { frame = h.frame; end = h.end - 1; count = h.count } in
    let d = pop_done laid e p some eh value in
    let S : List Frame → List ℕ = λ fs. (top fs).stack in
    let now : frames_of (pages_of w 0 (set hs p h')) p ≡ frames_down h.count w (p * 4096) h.frame (h.end - 1) =
    ap (λ (qs : List (List Frame)). frames_of qs p) d.1 ∙ (get_or-set_same ps p (on_top top_popped (frames_of ps p)) [] (page_in ps p some)
    ∙ (ap (on_top top_popped) o.is ∙ sym t.frames)) in
    ap S o.is ∙ (t.value ∙ (ap (λ (ys : List ℕ). ys ++ get_or w (h.end - 1) 0 ∷ []) (ap S (sym now))
    ∙ ap (λ (y : ℕ). S (frames_of (pages_of w 0 (set hs p h')) p) ++ y ∷ []) (sym ex)))

pub drop_bounds : {w : List ℕ} {hs : List PageHead} {ps : List (List Frame)} {h : PageHead} → AreFramesLaid w hs → pages_of w 0 hs ≡ ps → (p : ℕ)
    → 0 < length (frames_of ps p) → h ≡ get_or hs p h
    → Opened w hs p h (frames_of ps p) × Drops h.count w (p * 4096) h.frame h.end (p * 4096 + 4096)
drop_bounds {w} {hs} {ps} {h} laid e p some eh =
    let o = opened laid e p (page_in ps p some) eh in
    let some' : 0 < length (frames_down h.count w (p * 4096) h.frame h.end) = subst (λ (fs : List Frame). 0 < length fs) o.is some in
    let high = o.high in let fits = o.fits in
    (o, drops h.count w (p * 4096) h.frame h.end (p * 4096 + 4096) o.page.stands some' (omega arith) o.page.free)

pub drop_done : {w v : List ℕ} {hs : List PageHead} {ps : List (List Frame)} {h : PageHead} {link : ℕ} → AreFramesLaid w hs → pages_of w 0 hs ≡ ps → (p : ℕ)
    → 0 < length (frames_of ps p) → h ≡ get_or hs p h → link ≡ get_or w h.frame 0 → v ≡ set w h.frame 0
    → let h' : PageHead = record { frame = link / 8; end = h.frame; count = h.count - 1 } in
    AreFramesLaid v (set hs p h') × (pages_of v 0 (set hs p h') ≡ on_page ps p rest_of)
drop_done {w} {v} {hs} {ps} {h} {link} laid e p some eh el ev =
    let q = drop_bounds laid e p some eh in let o = q.0 in let t = q.1 in
    let b = p * 4096 in
    let a = t.begin in let c = t.end in let high = o.high in
    let h' : PageHead = record { frame = below w h.frame; end = h.frame; count = h.count - 1 } in
    let pg : IsPageOfWords (set w h.frame 0) b h' = record { stands = t.stands; within = omega arith; free = t.free } in
    let r = closed h' laid e o.page_in (length-set w h.frame 0) (off_page w b h.frame 0 (omega arith) (omega arith)) pg in
    let G : List ℕ → ℕ → Type 0 = λ us l. let g : PageHead = record { frame = l / 8; end = h.frame; count = h.count - 1 } in
    AreFramesLaid us (set hs p g) × (pages_of us 0 (set hs p g) ≡ on_page ps p rest_of) in
    subst (λ (us : List ℕ). G us link) (sym ev) (subst (λ (l : ℕ). G (set w h.frame 0) l) (sym el)
    (r.0, r.1 ∙ ap (λ (fs : List Frame). set ps p fs) (t.frames ∙ ap rest_of (sym o.is))))

pub top_empty : {w : List ℕ} {hs : List PageHead} {p : ℕ} {h : PageHead} {fs : List Frame} → Opened w hs p h fs → h.count ≡ 0 → fs ≡ []
top_empty {w} {p = p} {h = h} o z = o.is ∙ ap (λ (n : ℕ). frames_down n w (p * 4096) h.frame h.end) z

pub top_place : {w : List ℕ} {hs : List PageHead} {p : ℕ} {h : PageHead} {fs : List Frame} → Opened w hs p h fs → h.count ≢ 0
    → (h.frame - p * 4096 ≡ (top fs).at) × (p * 4096 ≤ h.frame)
top_place {w} {p = p} {h = h} o ne =
    let l = lies h.count 0 w (p * 4096) h.frame h.end o.page.stands (omega arith) in let over = l.over in
    (sym (ap (λ (gs : List Frame). (top gs).at) o.is ∙ top_at h.count ne), omega arith)
  where
    top_at : (n : ℕ) → n ≢ 0 → (top (frames_down n w (p * 4096) h.frame h.end)).at ≡ h.frame - p * 4096
    top_at zero ne = absurd (ne refl)
    top_at (suc n) ne = refl

-- values

pub slot_is : {w : List ℕ} {hs : List PageHead} {ps : List (List Frame)} {r : FrameRef} → Found w hs ps r → (i : ℕ) (d : ℕ) → i < length (frame ps r).stack
    → get_or w ((r.page * 4096 + r.at) + (10 + i)) 0 ≡ get_or (frame ps r).stack i d
slot_is {w} {ps = ps} {r = r} f i d lt =
    let a = r.page * 4096 + r.at in let n = f.end - (a + 10) in
    let e : (a + 10) + i ≡ a + (10 + i) = omega arith in
    let len = ap (λ (g : Frame). length g.stack) f.is in let l = length-words w (a + 10) n in
    sym (ap (λ (g : Frame). get_or g.stack i d) f.is ∙ (words_at w (a + 10) n i d (omega arith) ∙ ap (λ (k : ℕ). get_or w k 0) e))

pub depth_is : {w : List ℕ} {hs : List PageHead} {ps : List (List Frame)} {r : FrameRef} → (f : Found w hs ps r)
    → length (frame ps r).stack ≡ f.end - ((r.page * 4096 + r.at) + 10)
depth_is {w} {ps = ps} {r = r} f =
    let a = r.page * 4096 + r.at in
    ap (λ (g : Frame). length g.stack) f.is ∙ length-words w (a + 10) (f.end - (a + 10))

-- a write of the k-th word of a frame, not its link
pub whole_set : (w : List ℕ) (fp sp k x : ℕ) → IsWholeFrame w fp sp → 0 < k → fp + k < sp → fp + k < length w → x % 8 ≢ 4 → (k ≡ 2 → IsPc x)
    → IsWholeFrame (set w (fp + k) x) fp sp
whole_set w fp sp k x h pos lt len plain pc =
    record {
      overhead = h.overhead;
      link = ap (λ (y : ℕ). y % 8) (get_or-set_other w (fp + k) fp x 0 (omega arith)) ∙ h.link;
      values = λ j a b. elim (cases_eq j (fp + k)) [
        | inl q ↦ subst (λ (m : ℕ). get_or (set w (fp + k) x) m 0 % 8 ≢ 4) (sym q) (subst (λ (y : ℕ). y % 8 ≢ 4) (sym (get_or-set_same w (fp + k) x 0 len)) plain)
        | inr ne ↦ subst (λ (y : ℕ). y % 8 ≢ 4) (sym (get_or-set_other w (fp + k) j x 0 ne)) (h.values j a b)
      ];
      pc = elim (cases_eq (fp + 2) (fp + k)) [
        | inl q ↦ subst (λ (m : ℕ). IsPc (get_or (set w (fp + k) x) m 0)) (sym q) (subst (λ (y : ℕ). IsPc y) (sym (get_or-set_same w (fp + k) x 0 len)) (pc (omega arith)))
        | inr ne ↦ subst (λ (y : ℕ). IsPc y) (sym (get_or-set_other w (fp + k) (fp + 2) x 0 ne)) h.pc
      ];
    }

set_done : (g : Frame → Frame) {w v : List ℕ} {hs : List PageHead} {ps : List (List Frame)} {r : FrameRef} (k x : ℕ) → AreFramesLaid w hs → pages_of w 0 hs ≡ ps
    → (f : Found w hs ps r) → 0 < k → (r.page * 4096 + r.at) + k < f.end → x % 8 ≢ 4 → (k ≡ 2 → IsPc x) → v ≡ set w ((r.page * 4096 + r.at) + k) x
    → (let a = r.page * 4096 + r.at in frame_at (set w (a + k) x) (r.page * 4096) a f.end ≡ g (frame_at w (r.page * 4096) a f.end))
    → AreFramesLaid v hs × (pages_of v 0 hs ≡ on_frame ps r g)
set_done g {w} {v} {hs} {ps} {r} k x laid e f pos lt plain pc ev here =
    let a = r.page * 4096 + r.at in let high = f.high in let fits = f.fits in
    let d = inner_done g {v = set w (a + k) x} laid e f (length-set w (a + k) x) (away f.end lt)
    (whole_set w a f.end k x f.whole pos lt (omega arith) plain pc) here in
    subst (λ (us : List ℕ). AreFramesLaid us hs × (pages_of us 0 hs ≡ on_frame ps r g)) (sym ev) d
  where
    away : (end : ℕ) → (r.page * 4096 + r.at) + k < end → (j : ℕ) → (j ≤ r.page * 4096 + r.at) ⊎ (end ≤ j) → get_or (set w ((r.page * 4096 + r.at) + k) x) j 0 ≡ get_or w j 0
    away end lt j (inl c) = get_or-set_other w ((r.page * 4096 + r.at) + k) j x 0 (omega arith)
    away end lt j (inr c) = get_or-set_other w ((r.page * 4096 + r.at) + k) j x 0 (omega arith)

pub set_slot_done : {w v : List ℕ} {hs : List PageHead} {ps : List (List Frame)} → AreFramesLaid w hs → pages_of w 0 hs ≡ ps → (r : FrameRef) (i x : ℕ)
    → IsFrame ps r → i < length (frame ps r).stack → x % 8 ≢ 4 → v ≡ set w ((r.page * 4096 + r.at) + (10 + i)) x
    → AreFramesLaid v hs × (pages_of v 0 hs ≡ on_frame ps r (with_value i x))
set_slot_done {w} {v} {hs} {ps} laid e r i x is li plain ev =
    let f = found laid e r is in
    let a = r.page * 4096 + r.at in let n = f.end - (a + 10) in
    let d = depth_is f in let high = f.high in let fits = f.fits in
    let k : (a + 10) + i ≡ a + (10 + i) = omega arith in
    let ws : words_from (set w (a + (10 + i)) x) (a + 10) n ≡ set (words_from w (a + 10) n) i x =
    subst (λ (j : ℕ). words_from (set w j x) (a + 10) n ≡ set (words_from w (a + 10) n) i x) k
    (words_set w (a + 10) n i x (omega arith) (omega arith)) in
    set_done (with_value i x) (10 + i) x laid e f (omega arith) (omega arith) plain (λ z. absurd (omega arith)) ev
    (overhead_same (set w (a + (10 + i)) x) w (r.page * 4096) a f.end f.end (λ j l m. get_or-set_other w (a + (10 + i)) j x 0 (omega arith))
    ∙ ap (λ (ys : List ℕ). record (frame_at w (r.page * 4096) a f.end) { stack = ys }) ws)

-- parts of the overhead

pub offset_bounds : (q : Part) → (0 < offset_of q) × (offset_of q < 10)
offset_bounds part.Caller = (omega arith, omega arith)
offset_bounds part.SavedPc = (omega arith, omega arith)
offset_bounds part.Method = (omega arith, omega arith)
offset_bounds part.Closure = (omega arith, omega arith)
offset_bounds part.Context = (omega arith, omega arith)
offset_bounds part.Receiver = (omega arith, omega arith)

pub part_word : (q : Part) (w : List ℕ) (base fp sp : ℕ) → part_of q (frame_at w base fp sp) ≡ get_or w (fp + offset_of q) 0
part_word part.Caller w base fp sp = refl
part_word part.SavedPc w base fp sp = refl
part_word part.Method w base fp sp = refl
part_word part.Closure w base fp sp = refl
part_word part.Context w base fp sp = refl
part_word part.Receiver w base fp sp = refl

pub part_held : (q : Part) (w : List ℕ) (fp sp : ℕ) → IsWholeFrame w fp sp → CanHold q (get_or w (fp + offset_of q) 0)
part_held part.Caller w fp sp h = let le = h.overhead in h.values (fp + 1) (omega arith) (omega arith)
part_held part.SavedPc w fp sp h = h.pc
part_held part.Method w fp sp h = let le = h.overhead in h.values (fp + 3) (omega arith) (omega arith)
part_held part.Closure w fp sp h = let le = h.overhead in h.values (fp + 4) (omega arith) (omega arith)
part_held part.Context w fp sp h = let le = h.overhead in h.values (fp + 5) (omega arith) (omega arith)
part_held part.Receiver w fp sp h = let le = h.overhead in h.values (fp + 8) (omega arith) (omega arith)

pub pc_plain : (x : ℕ) → IsPc x → x % 8 ≢ 4
pc_plain x (inl n) e = omega arith
pc_plain x (inr odd) e = omega arith

pub held_plain : (q : Part) (x : ℕ) → CanHold q x → x % 8 ≢ 4
held_plain part.Caller x h = h
held_plain part.SavedPc x h = pc_plain x h
held_plain part.Method x h = h
held_plain part.Closure x h = h
held_plain part.Context x h = h
held_plain part.Receiver x h = h

pub held_pc : (q : Part) (x : ℕ) → CanHold q x → offset_of q ≡ 2 → IsPc x
held_pc part.Caller x h e = absurd (omega arith)
held_pc part.SavedPc x h e = h
held_pc part.Method x h e = absurd (omega arith)
held_pc part.Closure x h e = absurd (omega arith)
held_pc part.Context x h e = absurd (omega arith)
held_pc part.Receiver x h e = absurd (omega arith)

pub part_set : (q : Part) (w : List ℕ) (base fp sp x : ℕ) → fp + 10 ≤ length w
    → frame_at (set w (fp + offset_of q) x) base fp sp ≡ with_part q x (frame_at w base fp sp)
part_set q w base fp sp x fits = by_part q (λ k j ne. get_or-set_other w (fp + k) j x 0 ne) (λ k lt. get_or-set_same w (fp + k) x 0 (omega arith)) (stack (offset_of q) (offset_bounds q).1)
  where
    stack : (k : ℕ) → k < 10 → words_from (set w (fp + k) x) (fp + 10) (sp - (fp + 10)) ≡ words_from w (fp + 10) (sp - (fp + 10))
    stack k lt = words_same (set w (fp + k) x) w (fp + 10) (sp - (fp + 10)) (λ j a b. get_or-set_other w (fp + k) j x 0 (omega arith))

    by_part : (q : Part) → ((k j : ℕ) → j ≢ fp + k → get_or (set w (fp + k) x) j 0 ≡ get_or w j 0) → ((k : ℕ) → k < 10 → get_or (set w (fp + k) x) (fp + k) 0 ≡ x)
        → words_from (set w (fp + offset_of q) x) (fp + 10) (sp - (fp + 10)) ≡ words_from w (fp + 10) (sp - (fp + 10))
        → frame_at (set w (fp + offset_of q) x) base fp sp ≡ with_part q x (frame_at w base fp sp)
    by_part part.Caller o s st = frame_parts (set w (fp + 1) x) base fp sp _ _ _ _ _ _ _ _ _ (s 1 (omega arith)) (o 1 (fp + 2) (omega arith)) (o 1 (fp + 3) (omega arith))
        (o 1 (fp + 4) (omega arith)) (o 1 (fp + 5) (omega arith)) (o 1 (fp + 6) (omega arith)) (o 1 (fp + 7) (omega arith)) (o 1 (fp + 8) (omega arith)) st
    by_part part.SavedPc o s st = frame_parts (set w (fp + 2) x) base fp sp _ _ _ _ _ _ _ _ _ (o 2 (fp + 1) (omega arith)) (s 2 (omega arith)) (o 2 (fp + 3) (omega arith))
        (o 2 (fp + 4) (omega arith)) (o 2 (fp + 5) (omega arith)) (o 2 (fp + 6) (omega arith)) (o 2 (fp + 7) (omega arith)) (o 2 (fp + 8) (omega arith)) st
    by_part part.Method o s st = frame_parts (set w (fp + 3) x) base fp sp _ _ _ _ _ _ _ _ _ (o 3 (fp + 1) (omega arith)) (o 3 (fp + 2) (omega arith)) (s 3 (omega arith))
        (o 3 (fp + 4) (omega arith)) (o 3 (fp + 5) (omega arith)) (o 3 (fp + 6) (omega arith)) (o 3 (fp + 7) (omega arith)) (o 3 (fp + 8) (omega arith)) st
    by_part part.Closure o s st = frame_parts (set w (fp + 4) x) base fp sp _ _ _ _ _ _ _ _ _ (o 4 (fp + 1) (omega arith)) (o 4 (fp + 2) (omega arith)) (o 4 (fp + 3) (omega arith))
        (s 4 (omega arith)) (o 4 (fp + 5) (omega arith)) (o 4 (fp + 6) (omega arith)) (o 4 (fp + 7) (omega arith)) (o 4 (fp + 8) (omega arith)) st
    by_part part.Context o s st = frame_parts (set w (fp + 5) x) base fp sp _ _ _ _ _ _ _ _ _ (o 5 (fp + 1) (omega arith)) (o 5 (fp + 2) (omega arith)) (o 5 (fp + 3) (omega arith))
        (o 5 (fp + 4) (omega arith)) (s 5 (omega arith)) (o 5 (fp + 6) (omega arith)) (o 5 (fp + 7) (omega arith)) (o 5 (fp + 8) (omega arith)) st
    by_part part.Receiver o s st = frame_parts (set w (fp + 8) x) base fp sp _ _ _ _ _ _ _ _ _ (o 8 (fp + 1) (omega arith)) (o 8 (fp + 2) (omega arith)) (o 8 (fp + 3) (omega arith))
        (o 8 (fp + 4) (omega arith)) (o 8 (fp + 5) (omega arith)) (o 8 (fp + 6) (omega arith)) (o 8 (fp + 7) (omega arith)) (s 8 (omega arith)) st

pub set_part_done : {w v : List ℕ} {hs : List PageHead} {ps : List (List Frame)} → AreFramesLaid w hs → pages_of w 0 hs ≡ ps → (r : FrameRef) (q : Part) (x : ℕ)
    → IsFrame ps r → CanHold q x → v ≡ set w ((r.page * 4096 + r.at) + offset_of q) x
    → AreFramesLaid v hs × (pages_of v 0 hs ≡ on_frame ps r (with_part q x))
set_part_done {w} {v} {hs} {ps} laid e r q x is held ev =
    let f = found laid e r is in
    let a = r.page * 4096 + r.at in
    let over = f.overhead in let high = f.high in let fits = f.fits in
    let b = offset_bounds q in let b0 = b.0 in let b1 = b.1 in
    set_done (with_part q x) (offset_of q) x laid e f b0 (omega arith) (held_plain q x held) (held_pc q x held) ev
    (part_set q w (r.page * 4096) a f.end x (omega arith))

-- the caller

-- the frame is the base frame exactly where it begins its page
pub base_zero : {w : List ℕ} {hs : List PageHead} {ps : List (List Frame)} {r : FrameRef} → Found w hs ps r → IsBase ps r → r.at ≡ 0
base_zero {w} {ps = ps} {r = r} f is =
    let n = some_frame f.open' in
    let b = f.lie.base_is (is ∙ n) in let e = f.begin_is in omega arith

pub zero_base : {w : List ℕ} {hs : List PageHead} {ps : List (List Frame)} {r : FrameRef} → Found w hs ps r → r.at ≡ 0 → IsBase ps r
zero_base {w} {ps = ps} {r = r} f z =
    let n = some_frame f.open' in
    let over = f.lie.over in let e = f.begin_is in let i = f.index_in' in omega arith

-- a frame that isn't the base frame has its link to the caller
pub caller_place : {w : List ℕ} {hs : List PageHead} {ps : List (List Frame)} {r : FrameRef} → Found w hs ps r → r.at ≢ 0
    → (r.page * 4096 ≤ below w (r.page * 4096 + r.at)) × ((caller_of ps r).at ≡ below w (r.page * 4096 + r.at) - r.page * 4096)
caller_place {w} {ps = ps} {r = r} f ne =
    let h = f.head in let k = index_in ps r in let b = r.page * 4096 in
    let i = f.index_in' in let e = f.begin_is in
    let not_last : suc k ≢ h.count = λ q. ne (let z = f.lie.base_is q in omega arith) in
    let lt : suc k < h.count = omega arith in
    let l = lies h.count (suc k) w b h.frame h.end f.open'.page.stands lt in
    let s : begin_nth (suc k) w h.frame ≡ below w (b + r.at) = begin-suc k w h.frame ∙ ap (below w) f.begin_is in
    let over = l.over in (
      omega arith,
      ap (λ (fs : List Frame). (nth fs (suc k)).at) f.open'.is ∙ (ap (λ (g : Frame). g.at) (nth-frames h.count (suc k) w b h.frame h.end lt)
          ∙ ap (λ (n : ℕ). n - b) s),
    )
