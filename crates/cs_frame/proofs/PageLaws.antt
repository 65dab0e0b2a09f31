-- Laws of pages as lists of frames, for the crates above: what a change leaves alone, where a frame stands, and how many
-- words are used.
use Rattle.std.proofs.Common.{subst, ◌≡◌, ◌≢◌, ℕ, zero, suc, ◌+◌, ◌-◌, ◌<◌, ◌≤◌, List, [], ◌∷◌, ◌++◌, length, get_or, set, take, drop, replicate, cond, eqb, refl, sym, ◌∙◌, ap, inl, inr, arith, get_or-set_other, get_or-set_same, length-append, length-drop}
use Rattle.std.proofs.lemmas.Bool.{cases_Bool, cases_eq, eqb-true, eq-eqb, ne_eqb}
use Rattle.std.proofs.lemmas.List.{length-set, length-replicate, length-take, set-set, set-get_or, set_comm, take_at}
use Rattle.std.proofs.Math.Seq.{drop-nil, split_at}
use Rattle.cs_frame.specs.declared.FrameRef.{FrameRef}
use Rattle.cs_frame.specs.declared.NewFrame.{NewFrame}
use Rattle.cs_frame.specs.Frame.{Frame, value_pushed, top_popped, with_values, call_cut, nil}
use Rattle.cs_frame.specs.Page.{frames_used, AreStacked, top, on_top, rest_of, nth, on_nth, frame_index, frames_of, on_page, index_in, IsFrame, frame, on_frame, IsTop, called, HasArguments}

-- Pages.

pub length-on_page : (ps : List (List Frame)) (p : ℕ) (h : List Frame → List Frame) → length (on_page ps p h) ≡ length ps
length-on_page ps p h = length-set ps p (h (frames_of ps p))

pub frames_of-on_page : (ps : List (List Frame)) (p : ℕ) (h : List Frame → List Frame) → p < length ps → frames_of (on_page ps p h) p ≡ h (frames_of ps p)
frames_of-on_page ps p h lt = get_or-set_same ps p (h (frames_of ps p)) [] lt

pub frames_of-on_page_other : (ps : List (List Frame)) (p q : ℕ) (h : List Frame → List Frame) → q ≢ p → frames_of (on_page ps p h) q ≡ frames_of ps q
frames_of-on_page_other ps p q h ne = get_or-set_other ps p q (h (frames_of ps p)) [] ne

-- two changes of one page are one
pub on_page-on_page : (ps : List (List Frame)) (p : ℕ) (g h : List Frame → List Frame) → p < length ps → on_page (on_page ps p g) p h ≡ on_page ps p (λ fs. h (g fs))
on_page-on_page ps p g h lt =
    set-set ps p (g (frames_of ps p)) (h (frames_of (on_page ps p g) p))
    ∙ ap (λ (fs : List Frame). set ps p (h fs)) (frames_of-on_page ps p g lt)

-- changes of two pages come in any order
pub on_page-on_page_other : (ps : List (List Frame)) (p q : ℕ) (g h : List Frame → List Frame) → p ≢ q
    → on_page (on_page ps p g) q h ≡ on_page (on_page ps q h) p g
on_page-on_page_other ps p q g h ne =
    ap (λ (fs : List Frame). set (on_page ps p g) q (h fs)) (frames_of-on_page_other ps p q g (λ e. ne (sym e)))
    ∙ (set_comm ps p q (g (frames_of ps p)) (h (frames_of ps q)) ne
    ∙ ap (λ (fs : List Frame). set (on_page ps q h) p (g fs)) (sym (frames_of-on_page_other ps q p h ne)))

pub on_page-same : (ps : List (List Frame)) (p : ℕ) (h : List Frame → List Frame) → h (frames_of ps p) ≡ frames_of ps p → on_page ps p h ≡ ps
on_page-same ps p h e = ap (λ (fs : List Frame). set ps p fs) e ∙ set-get_or ps p []

-- a page that has frames is one of the pages
pub page_in : (ps : List (List Frame)) (p : ℕ) → 0 < length (frames_of ps p) → p < length ps
page_in [] p lt = absurd (omega arith)
page_in (q ∷ qs) zero lt = omega arith
page_in (q ∷ qs) (suc p) lt = let r = page_in qs p lt in omega arith

-- One frame of a page.

pub length-on_top : (g : Frame → Frame) (fs : List Frame) → length (on_top g fs) ≡ length fs
length-on_top g [] = refl
length-on_top g (f ∷ fs) = refl

pub length-on_nth : (k : ℕ) (g : Frame → Frame) (fs : List Frame) → length (on_nth k g fs) ≡ length fs
length-on_nth k g [] = refl
length-on_nth zero g (f ∷ fs) = refl
length-on_nth (suc k) g (f ∷ fs) = ap suc (length-on_nth k g fs)

pub top-nth : (fs : List Frame) → top fs ≡ nth fs 0
top-nth [] = refl
top-nth (f ∷ fs) = refl

pub on_top-on_nth : (g : Frame → Frame) (fs : List Frame) → on_top g fs ≡ on_nth 0 g fs
on_top-on_nth g [] = refl
on_top-on_nth g (f ∷ fs) = refl

pub nth-on_nth : (k : ℕ) (g : Frame → Frame) (fs : List Frame) → k < length fs → nth (on_nth k g fs) k ≡ g (nth fs k)
nth-on_nth k g [] lt = absurd (omega arith)
nth-on_nth zero g (f ∷ fs) lt = refl
nth-on_nth (suc k) g (f ∷ fs) lt = nth-on_nth k g fs (omega arith)

pub nth-on_nth_other : (j k : ℕ) (g : Frame → Frame) (fs : List Frame) → j ≢ k → nth (on_nth k g fs) j ≡ nth fs j
nth-on_nth_other j k g [] ne = refl
nth-on_nth_other zero zero g (f ∷ fs) ne = absurd (ne refl)
nth-on_nth_other (suc j) zero g (f ∷ fs) ne = refl
nth-on_nth_other zero (suc k) g (f ∷ fs) ne = refl
nth-on_nth_other (suc j) (suc k) g (f ∷ fs) ne = nth-on_nth_other j k g fs (λ e. ne (ap suc e))

pub on_nth-on_nth : (k : ℕ) (g h : Frame → Frame) (fs : List Frame) → on_nth k h (on_nth k g fs) ≡ on_nth k (λ f. h (g f)) fs
on_nth-on_nth k g h [] = refl
on_nth-on_nth zero g h (f ∷ fs) = refl
on_nth-on_nth (suc k) g h (f ∷ fs) = ap (λ (gs : List Frame). f ∷ gs) (on_nth-on_nth k g h fs)

-- Where a frame stands. No change of a frame's parts moves it.

abbrev pub KeepsPlace : (Frame → Frame) → Type 0
KeepsPlace g = (f : Frame) → (g f).at ≡ f.at

pub index_of-on_nth : (k : ℕ) (g : Frame → Frame) (fs : List Frame) (at : ℕ) → KeepsPlace g → frame_index (on_nth k g fs) at ≡ frame_index fs at
index_of-on_nth k g [] at keeps = refl
index_of-on_nth zero g (f ∷ fs) at keeps = ap (λ (n : ℕ). cond (eqb n at) 0 (suc (frame_index fs at))) (keeps f)
index_of-on_nth (suc k) g (f ∷ fs) at keeps = ap (λ (n : ℕ). cond (eqb f.at at) 0 (suc n)) (index_of-on_nth k g fs at keeps)

pub index_of-on_top : (g : Frame → Frame) (fs : List Frame) (at : ℕ) → KeepsPlace g → frame_index (on_top g fs) at ≡ frame_index fs at
index_of-on_top g fs at keeps = ap (λ (gs : List Frame). frame_index gs at) (on_top-on_nth g fs) ∙ index_of-on_nth 0 g fs at keeps

-- the frame that is found at a place begins there
pub at-nth_index : (fs : List Frame) (at : ℕ) → frame_index fs at < length fs → (nth fs (frame_index fs at)).at ≡ at
at-nth_index [] at lt = absurd (omega arith)
at-nth_index (f ∷ fs) at lt = elim (cases_Bool (eqb f.at at)) [
  | inl t ↦ rw t (eqb-true f.at at t)
  | inr n ↦ rw n (at-nth_index fs at (let l = rw n at lt in omega arith))
]

-- the last frame of a page is a frame, with none above it
pub IsTop-is_frame : (ps : List (List Frame)) (r : FrameRef) → IsTop ps r → (index_in ps r ≡ 0) × IsFrame ps r
IsTop-is_frame ps r is = first (frames_of ps r.page) is.0 is.1
  where
    first : (fs : List Frame) → 0 < length fs → r.at ≡ (top fs).at → (frame_index fs r.at ≡ 0) × (frame_index fs r.at < length fs)
    first [] lt e = absurd (omega arith)
    first (f ∷ fs) lt e =
        let here : frame_index (f ∷ fs) r.at ≡ 0 = ap (λ b. cond b 0 (suc (frame_index fs r.at))) (eq-eqb f.at r.at (sym e)) in
        (here, omega arith)

-- and it stays the last one while it and the frames below change
pub IsTop-on_top : (ps : List (List Frame)) (r : FrameRef) (g : Frame → Frame) → KeepsPlace g → IsTop ps r → IsTop (on_page ps r.page (on_top g)) r
IsTop-on_top ps r g keeps is =
    subst (λ (fs : List Frame). (0 < length fs) × (r.at ≡ (top fs).at)) (sym (frames_of-on_page ps r.page (on_top g) (page_in ps r.page is.0)))
    (first (frames_of ps r.page) is.0 is.1)
  where
    first : (fs : List Frame) → 0 < length fs → r.at ≡ (top fs).at → (0 < length (on_top g fs)) × (r.at ≡ (top (on_top g fs)).at)
    first [] lt e = absurd (omega arith)
    first (f ∷ fs) lt e = (omega arith, e ∙ sym (keeps f))

pub page-IsFrame : (ps : List (List Frame)) (r : FrameRef) → IsFrame ps r → r.page < length ps
page-IsFrame ps r is = page_in ps r.page (omega arith)

-- A change of one frame leaves every other frame and page.

pub index_in-on_frame : (ps : List (List Frame)) (r q : FrameRef) (g : Frame → Frame) → KeepsPlace g → IsFrame ps r → index_in (on_frame ps r g) q ≡ index_in ps q
index_in-on_frame ps r q g keeps is = elim (cases_eq q.page r.page) [
  | inl e ↦ ap (λ (p : ℕ). frame_index (frames_of (on_frame ps r g) p) q.at) e
      ∙ (ap (λ (fs : List Frame). frame_index fs q.at) (frames_of-on_page ps r.page (on_nth (index_in ps r) g) (page-IsFrame ps r is))
      ∙ (index_of-on_nth (index_in ps r) g (frames_of ps r.page) q.at keeps ∙ ap (λ (p : ℕ). frame_index (frames_of ps p) q.at) (sym e)))
  | inr ne ↦ ap (λ (fs : List Frame). frame_index fs q.at) (frames_of-on_page_other ps r.page q.page (on_nth (index_in ps r) g) ne)
]

pub frame-on_frame : (ps : List (List Frame)) (r : FrameRef) (g : Frame → Frame) → KeepsPlace g → IsFrame ps r → frame (on_frame ps r g) r ≡ g (frame ps r)
frame-on_frame ps r g keeps is =
    ap (λ (k : ℕ). nth (frames_of (on_frame ps r g) r.page) k) (index_in-on_frame ps r r g keeps is)
    ∙ (ap (λ (fs : List Frame). nth fs (index_in ps r)) (frames_of-on_page ps r.page (on_nth (index_in ps r) g) (page-IsFrame ps r is))
    ∙ nth-on_nth (index_in ps r) g (frames_of ps r.page) is)

pub frame-on_frame_other : (ps : List (List Frame)) (r q : FrameRef) (g : Frame → Frame) → KeepsPlace g → IsFrame ps r → IsFrame ps q → q ≢ r
    → frame (on_frame ps r g) q ≡ frame ps q
frame-on_frame_other ps r q g keeps is iq ne =
    ap (λ (k : ℕ). nth (frames_of (on_frame ps r g) q.page) k) (index_in-on_frame ps r q g keeps is) ∙ elim (cases_eq q.page r.page) [
      | inl e ↦
          ap (λ (p : ℕ). nth (frames_of (on_frame ps r g) p) (index_in ps q)) e
          ∙ (ap (λ (fs : List Frame). nth fs (index_in ps q)) (frames_of-on_page ps r.page (on_nth (index_in ps r) g) (page-IsFrame ps r is))
          ∙ (nth-on_nth_other (index_in ps q) (index_in ps r) g (frames_of ps r.page) (apart e)
          ∙ ap (λ (p : ℕ). nth (frames_of ps p) (index_in ps q)) (sym e)))
      | inr other ↦ ap (λ (fs : List Frame). nth fs (index_in ps q)) (frames_of-on_page_other ps r.page q.page (on_nth (index_in ps r) g) other)
    ]
  where
    apart : q.page ≡ r.page → index_in ps q ≢ index_in ps r
    apart e i =
        let at : q.at ≡ r.at = sym (at-nth_index (frames_of ps q.page) q.at iq)
        ∙ (ap (λ (p : ℕ). (nth (frames_of ps p) (index_in ps q)).at) e ∙ (ap (λ (k : ℕ). (nth (frames_of ps r.page) k).at) i
        ∙ at-nth_index (frames_of ps r.page) r.at is)) in
        ne (ap (λ (p : ℕ). record { page = p; at = q.at }) e ∙ ap (λ (n : ℕ). record { page = r.page; at = n }) at)

pub IsFrame-on_frame : (ps : List (List Frame)) (r q : FrameRef) (g : Frame → Frame) → KeepsPlace g → IsFrame ps r → IsFrame ps q → IsFrame (on_frame ps r g) q
IsFrame-on_frame ps r q g keeps is iq =
    let i = index_in-on_frame ps r q g keeps is in let n = same in omega arith
  where
    same : length (frames_of (on_frame ps r g) q.page) ≡ length (frames_of ps q.page)
    same = elim (cases_eq q.page r.page) [
      | inl e ↦ ap (λ (p : ℕ). length (frames_of (on_frame ps r g) p)) e
          ∙ (ap length (frames_of-on_page ps r.page (on_nth (index_in ps r) g) (page-IsFrame ps r is))
          ∙ (length-on_nth (index_in ps r) g (frames_of ps r.page) ∙ ap (λ (p : ℕ). length (frames_of ps p)) (sym e)))
      | inr ne ↦ ap length (frames_of-on_page_other ps r.page q.page (on_nth (index_in ps r) g) ne)
    ]

-- The stack of the last frame.

pub popped-pushed : (v : ℕ) (f : Frame) → top_popped (value_pushed v f) ≡ f
popped-pushed v f =
    let n : length f.stack ≡ length (f.stack ++ v ∷ []) - 1 = omega (arith, length-append f.stack (v ∷ [])) in
    ap (λ (xs : List ℕ). with_values xs f) (take_at f.stack (v ∷ []) _ n)

-- a push and then a pop give the page back
pub popped-pushed_page : (ps : List (List Frame)) (p : ℕ) (v : ℕ) → p < length ps → on_page (on_page ps p (on_top (value_pushed v))) p (on_top top_popped) ≡ ps
popped-pushed_page ps p v lt =
    on_page-on_page ps p (on_top (value_pushed v)) (on_top top_popped) lt
    ∙ on_page-same ps p (λ fs. on_top top_popped (on_top (value_pushed v) fs)) (back (frames_of ps p))
  where
    back : (fs : List Frame) → on_top top_popped (on_top (value_pushed v) fs) ≡ fs
    back [] = refl
    back (f ∷ fs) = ap (λ (g : Frame). g ∷ fs) (popped-pushed v f)

-- what a call takes of a stack: the receiver and the arguments above it
pub stack-cut : (xs : List ℕ) (args : ℕ) → args + 1 ≤ length xs
    → xs ≡ take (length xs - (args + 1)) xs ++ get_or xs (length xs - (args + 1)) nil ∷ drop (length xs - args) xs
stack-cut xs args le =
    let i = length xs - (args + 1) in
    let e : suc i ≡ length xs - args = omega arith in
    split_at xs i nil (omega arith) ∙ ap (λ (j : ℕ). take i xs ++ get_or xs i nil ∷ drop j xs) e

-- Calls.

pub length-called : (new : NewFrame) (fs : List Frame) → length (called new fs) ≡ suc (length fs)
length-called new [] = refl
length-called new (f ∷ fs) = refl

-- of the frames below, the caller alone is changed
pub rest_of-called : (new : NewFrame) (fs : List Frame) → rest_of (called new fs) ≡ on_top (call_cut new.args) fs
rest_of-called new [] = refl
rest_of-called new (f ∷ fs) = refl

pub stack-called : (new : NewFrame) (fs : List Frame) → (top (called new fs)).stack ≡ drop (length (top fs).stack - new.args) (top fs).stack ++ replicate new.fill nil
stack-called new [] = ap (λ (xs : List ℕ). xs ++ replicate new.fill nil) (sym (drop-nil {A = ℕ} (0 - new.args)))
stack-called new (f ∷ fs) = refl

pub length-stack_called : (new : NewFrame) (fs : List Frame) → HasArguments new.args fs → length (top (called new fs)).stack ≡ new.args + new.fill
length-stack_called new [] can = omega (arith, length-replicate new.fill nil)
length-stack_called new (f ∷ fs) can =
    omega (
      arith,
      length-append (drop (length f.stack - new.args) f.stack) (replicate new.fill nil),
      length-drop (length f.stack - new.args) f.stack,
      length-replicate new.fill nil,
    )

-- The words that are used.

pub used-on_nth : (k : ℕ) (g : Frame → Frame) (fs : List Frame) → k < length fs
    → frames_used (on_nth k g fs) + length (nth fs k).stack ≡ frames_used fs + length (g (nth fs k)).stack
used-on_nth k g [] lt = absurd (omega arith)
used-on_nth zero g (f ∷ fs) lt = omega arith
used-on_nth (suc k) g (f ∷ fs) lt = let r = used-on_nth k g fs (omega arith) in omega arith

pub used-pushed : (v : ℕ) (fs : List Frame) → 0 < length fs → frames_used (on_top (value_pushed v) fs) ≡ frames_used fs + 1
used-pushed v [] lt = absurd (omega arith)
used-pushed v (f ∷ fs) lt = omega (arith, length-append f.stack (v ∷ []))

pub used-popped : (fs : List Frame) → 0 < length (top fs).stack → frames_used (on_top top_popped fs) + 1 ≡ frames_used fs
used-popped [] lt = absurd (omega arith)
used-popped (f ∷ fs) lt = omega (arith, length-take (length f.stack - 1) f.stack)

pub used-rest_of : (fs : List Frame) → 0 < length fs → frames_used (rest_of fs) + (10 + length (top fs).stack) ≡ frames_used fs
used-rest_of [] lt = absurd (omega arith)
used-rest_of (f ∷ fs) lt = refl

-- the receiver's word is freed, and the arguments take as many words as before
pub used-called : (new : NewFrame) (fs : List Frame) → 0 < length fs → HasArguments new.args fs → frames_used (called new fs) ≡ frames_used fs + 9 + new.fill
used-called new [] lt can = absurd (omega arith)
used-called new (f ∷ fs) lt can =
    omega (arith, length-stack_called new (f ∷ fs) can, length-take (length f.stack - (new.args + 1)) f.stack)

pub used-called_base : (new : NewFrame) → frames_used (called new []) ≡ 10 + new.fill
used-called_base new = omega (arith, length-replicate new.fill nil)

-- Frames that lie on each other.

pub end-nth : (fs : List Frame) (k : ℕ) → AreStacked fs → k < length fs → (nth fs k).at + (10 + length (nth fs k).stack) ≤ frames_used fs
end-nth [] k st lt = absurd (omega arith)
end-nth (f ∷ fs) zero st lt = omega (arith, st.0)
end-nth (f ∷ fs) (suc k) st lt = let r = end-nth fs k st.1 (omega arith) in omega arith

-- no two frames begin at one place
pub index_of-nth : (fs : List Frame) (k : ℕ) → AreStacked fs → k < length fs → frame_index fs (nth fs k).at ≡ k
index_of-nth [] k st lt = absurd (omega arith)
index_of-nth (f ∷ fs) zero st lt = ap (λ b. cond b 0 (suc (frame_index fs f.at))) (eq-eqb f.at f.at refl)
index_of-nth (f ∷ fs) (suc k) st lt =
    let r = end-nth fs k st.1 (omega arith) in let at = st.0 in
    ap (λ b. cond b 0 (suc (frame_index fs (nth fs k).at))) (ne_eqb f.at (nth fs k).at (omega arith)) ∙ ap suc (index_of-nth fs k st.1 (omega arith))

-- the base frame begins its page
pub at-base : (fs : List Frame) (k : ℕ) → AreStacked fs → suc k ≡ length fs → (nth fs k).at ≡ 0
at-base [] k st e = absurd (omega arith)
at-base (f ∷ []) zero st e = st.0
at-base (f ∷ g ∷ fs) zero st e = absurd (omega arith)
at-base (f ∷ fs) (suc k) st e = at-base fs k st.1 (omega arith)

pub stacked-on_top : (g : Frame → Frame) (fs : List Frame) → KeepsPlace g → AreStacked fs → AreStacked (on_top g fs)
stacked-on_top g [] keeps st = st
stacked-on_top g (f ∷ fs) keeps st = (keeps f ∙ st.0, st.1)

pub stacked-on_nth : (k : ℕ) (g : Frame → Frame) (fs : List Frame) → KeepsPlace g → length (g (nth fs k)).stack ≡ length (nth fs k).stack → AreStacked fs
    → AreStacked (on_nth k g fs)
stacked-on_nth k g [] keeps len st = st
stacked-on_nth zero g (f ∷ fs) keeps len st = (keeps f ∙ st.0, st.1)
stacked-on_nth (suc k) g (f ∷ fs) keeps len st = (st.0 ∙ sym (size k fs len), stacked-on_nth k g fs keeps len st.1)
  where
    size : (k : ℕ) (fs : List Frame) → length (g (nth fs k)).stack ≡ length (nth fs k).stack → frames_used (on_nth k g fs) ≡ frames_used fs
    size k [] len = refl
    size zero (f ∷ fs) len = omega arith
    size (suc k) (f ∷ fs) len = let r = size k fs len in omega arith

pub stacked-rest_of : (fs : List Frame) → AreStacked fs → AreStacked (rest_of fs)
stacked-rest_of [] st = st
stacked-rest_of (f ∷ fs) st = st.1

pub stacked-called : (new : NewFrame) (fs : List Frame) → AreStacked fs → AreStacked (called new fs)
stacked-called new [] st = (refl, tt)
stacked-called new (f ∷ fs) st = (refl, st)
