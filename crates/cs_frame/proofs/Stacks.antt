-- The frames of one page, counted from the last one.
use Rattle.std.proofs.Common.{◌≡◌, ℕ, zero, suc, ◌+◌, ◌-◌, ◌*◌, ◌/◌, ◌<◌, ◌≤◌, ◌⊎◌, List, ◌∷◌, length, get_or, refl, sym, ◌∙◌, ap, subst, inl, inr, arith}
use Rattle.cs_frame.specs.Frame.{Frame}
use Rattle.cs_frame.specs.Page.{frames_used, AreStacked, nth, on_nth}
use Rattle.cs_frame.specs.Layout.{frame_at, frames_down, below, IsWholeFrame, Stands}
use Rattle.cs_frame.proofs.Words.{Same, length-words, frame_same, whole_same}

-- where the frame with k frames above it begins, and where its stack ends

abbrev pub begin_nth : ℕ → List ℕ → ℕ → ℕ
begin_nth zero w fp = fp
begin_nth (suc k) w fp = begin_nth k w (below w fp)

abbrev pub end_nth : ℕ → List ℕ → ℕ → ℕ → ℕ
end_nth zero w fp sp = sp
end_nth (suc k) w fp sp = end_nth k w (below w fp) fp

pub begin-suc : (k : ℕ) (w : List ℕ) (fp : ℕ) → begin_nth (suc k) w fp ≡ below w (begin_nth k w fp)
begin-suc zero w fp = refl
begin-suc (suc k) w fp = begin-suc k w (below w fp)

pub end-suc : (k : ℕ) (w : List ℕ) (fp sp : ℕ) → end_nth (suc k) w fp sp ≡ begin_nth k w fp
end-suc zero w fp sp = refl
end-suc (suc k) w fp sp = end-suc k w (below w fp) fp

pub length-frames : (n : ℕ) (w : List ℕ) (base fp sp : ℕ) → length (frames_down n w base fp sp) ≡ n
length-frames zero w base fp sp = refl
length-frames (suc n) w base fp sp = ap suc (length-frames n w base (below w fp) fp)

pub nth-frames : (n k : ℕ) (w : List ℕ) (base fp sp : ℕ) → k < n → nth (frames_down n w base fp sp) k ≡ frame_at w base (begin_nth k w fp) (end_nth k w fp sp)
nth-frames zero k w base fp sp lt = absurd (omega arith)
nth-frames (suc n) zero w base fp sp lt = refl
nth-frames (suc n) (suc k) w base fp sp lt = nth-frames n k w base (below w fp) fp (omega arith)

-- n frames take 10 words each at least
pub base_below : (n : ℕ) (w : List ℕ) (base fp sp : ℕ) → Stands n w base fp sp → base + 10 * n ≤ sp
base_below zero w base fp sp st = omega arith
base_below (suc n) w base fp sp st = let r = base_below n w base (below w fp) fp st.1 in let le = st.0.overhead in omega arith

-- the frame with k above it is whole, and lies between base and sp
pub record Lies (n k : ℕ) (w : List ℕ) (base fp sp : ℕ) : Type 0 where
  pub whole : IsWholeFrame w (begin_nth k w fp) (end_nth k w fp sp)
  pub over : base + 10 * (n - suc k) ≤ begin_nth k w fp
  pub under : end_nth k w fp sp ≤ sp
  pub base_is : suc k ≡ n → begin_nth k w fp ≡ base

pub lies : (n k : ℕ) (w : List ℕ) (base fp sp : ℕ) → Stands n w base fp sp → k < n → Lies n k w base fp sp
lies zero k w base fp sp st lt = absurd (omega arith)
lies (suc n) zero w base fp sp st lt =
    let r = base_below n w base (below w fp) fp st.1 in
    record { whole = st.0; over = omega arith; under = omega arith; base_is = λ e. lowest n st.1 (omega arith) }
  where
    lowest : (m : ℕ) → Stands m w base (below w fp) fp → m ≡ 0 → fp ≡ base
    lowest zero s e = s
    lowest (suc m) s e = absurd (omega arith)
lies (suc n) (suc k) w base fp sp st lt =
    let r = lies n k w base (below w fp) fp st.1 (omega arith) in
    let a = r.over in let b = r.under in let c = st.0.overhead in
    record { whole = r.whole; over = omega arith; under = omega arith; base_is = λ e. r.base_is (omega arith) }

pub used_is : (n : ℕ) (w : List ℕ) (base fp sp : ℕ) → Stands n w base fp sp → base + frames_used (frames_down n w base fp sp) ≡ sp
used_is zero w base fp sp st = omega (arith, st)
used_is (suc n) w base fp sp st =
    let r = used_is n w base (below w fp) fp st.1 in let le = st.0.overhead in
    omega (arith, length-words w (fp + 10) (sp - (fp + 10)))

pub stacked : (n : ℕ) (w : List ℕ) (base fp sp : ℕ) → Stands n w base fp sp → AreStacked (frames_down n w base fp sp)
stacked zero w base fp sp st = tt
stacked (suc n) w base fp sp st =
    (let r = used_is n w base (below w fp) fp st.1 in omega arith, stacked n w base (below w fp) fp st.1)

pub frames_same : (n : ℕ) (v w : List ℕ) (base fp sp : ℕ) → Stands n w base fp sp → Same v w base sp
    → (frames_down n v base fp sp ≡ frames_down n w base fp sp) × Stands n v base fp sp
frames_same zero v w base fp sp st s = (refl, st)
frames_same (suc n) v w base fp sp st s =
    let low = base_below n w base (below w fp) fp st.1 in let le = st.0.overhead in
    let link : get_or v fp 0 ≡ get_or w fp 0 = s fp (omega arith) (omega arith) in
    let rest = frames_same n v w base (below w fp) fp st.1 (λ k a b. s k a (omega arith)) in
    let here : frame_at v base fp sp ≡ frame_at w base fp sp = frame_same v w base fp sp le (λ k a b. s k (omega arith) b) in
    let F : ℕ → List Frame = λ l. frames_down n v base (l / 8) fp in
    let S : ℕ → Type 0 = λ l. Stands n v base (l / 8) fp in (
      ap (λ (f : Frame). f ∷ frames_down n v base (below v fp) fp) here ∙ ap (λ (fs : List Frame). frame_at w base fp sp ∷ fs) (ap F link ∙ rest.0),
      (whole_same v w fp sp (λ k a b. s k (omega arith) b) st.0, subst S (sym link) rest.1),
    )

-- the last frame may change above its link, and the others stay
pub top_changed : (n : ℕ) (v w : List ℕ) (base fp sp sp' : ℕ) → Stands (suc n) w base fp sp → Same v w base (fp + 1) → IsWholeFrame v fp sp'
    → (frames_down (suc n) v base fp sp' ≡ frame_at v base fp sp' ∷ frames_down n w base (below w fp) fp) × Stands (suc n) v base fp sp'
top_changed n v w base fp sp sp' st s whole =
    let low = base_below n w base (below w fp) fp st.1 in
    let link : get_or v fp 0 ≡ get_or w fp 0 = s fp (omega arith) (omega arith) in
    let rest = frames_same n v w base (below w fp) fp st.1 (λ k a b. s k a (omega arith)) in
    let F : ℕ → List Frame = λ l. frames_down n v base (l / 8) fp in
    let S : ℕ → Type 0 = λ l. Stands n v base (l / 8) fp in
    (ap (λ (fs : List Frame). frame_at v base fp sp' ∷ fs) (ap F link ∙ rest.0), (whole, subst S (sym link) rest.1))

-- a change inside the frame with k above it, not of its link
pub nth_changed : (g : Frame → Frame) (n k : ℕ) (v w : List ℕ) (base fp sp : ℕ) → Stands n w base fp sp → k < n
    → ((j : ℕ) → (j ≤ begin_nth k w fp) ⊎ (end_nth k w fp sp ≤ j) → get_or v j 0 ≡ get_or w j 0)
    → IsWholeFrame v (begin_nth k w fp) (end_nth k w fp sp)
    → frame_at v base (begin_nth k w fp) (end_nth k w fp sp) ≡ g (frame_at w base (begin_nth k w fp) (end_nth k w fp sp))
    → (frames_down n v base fp sp ≡ on_nth k g (frames_down n w base fp sp)) × Stands n v base fp sp
nth_changed g zero k v w base fp sp st lt s whole here = absurd (omega arith)
nth_changed g (suc n) zero v w base fp sp st lt s whole here =
    let c = top_changed n v w base fp sp sp st (λ k a b. s k (inl (omega arith))) whole in
    (c.0 ∙ ap (λ (f : Frame). f ∷ frames_down n w base (below w fp) fp) here, c.1)
nth_changed g (suc n) (suc k) v w base fp sp st lt s whole here =
    let l = lies n k w base (below w fp) fp st.1 (omega arith) in
    let under = l.under in
    let link : get_or v fp 0 ≡ get_or w fp 0 = s fp (inr under) in
    let rest = nth_changed g n k v w base (below w fp) fp st.1 (omega arith) s whole here in
    let same : Same v w fp sp = λ j a b. s j (inr (omega arith)) in
    let mine : frame_at v base fp sp ≡ frame_at w base fp sp = frame_same v w base fp sp st.0.overhead same in
    let F : ℕ → List Frame = λ l. frames_down n v base (l / 8) fp in
    let S : ℕ → Type 0 = λ l. Stands n v base (l / 8) fp in (
      ap (λ (f : Frame). f ∷ frames_down n v base (below v fp) fp) mine ∙ ap (λ (fs : List Frame). frame_at w base fp sp ∷ fs) (ap F link ∙ rest.0),
      (whole_same v w fp sp same st.0, subst S (sym link) rest.1),
    )
