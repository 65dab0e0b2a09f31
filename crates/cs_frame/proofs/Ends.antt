-- The last frame of a page: a value comes or goes, or the frame itself goes.
use Rattle.std.proofs.Common.{◌≡◌, ◌≢◌, ℕ, zero, suc, ◌+◌, ◌-◌, ◌%◌, ◌<◌, ◌≤◌, List, [], ◌∷◌, ◌++◌, length, get_or, set, take, sym, ◌∙◌, ap, subst, inl, inr, arith, get_or-set_other, get_or-set_same}
use Rattle.std.proofs.lemmas.Bool.{cases_lt, cases_eq}
use Rattle.cs_frame.specs.Frame.{Frame, value_pushed, top_popped}
use Rattle.cs_frame.specs.Page.{top, on_top, rest_of}
use Rattle.cs_frame.specs.Layout.{words_from, frame_at, frames_down, below, NoLink, IsWholeFrame, Stands}
use Rattle.cs_frame.proofs.Words.{Same, words_same, words_more, words_take, length-words, overhead_same, whole_to, no_link_same}
use Rattle.cs_frame.proofs.Stacks.{base_below, frames_same, top_changed}

-- the last frame takes the word above it; the words from sp up to e were free
pub pushed_top : (n : ℕ) (w : List ℕ) (base fp sp e x : ℕ) → Stands n w base fp sp → 0 < n → sp < length w → x % 8 ≢ 4 → NoLink w sp e
    → (frames_down n (set w sp x) base fp (sp + 1) ≡ on_top (value_pushed x) (frames_down n w base fp sp))
    × Stands n (set w sp x) base fp (sp + 1) × NoLink (set w sp x) (sp + 1) e
pushed_top zero w base fp sp e x st pos lt plain free = absurd (omega arith)
pushed_top (suc n) w base fp sp e x st pos lt plain free =
    let v = set w sp x in
    let le = st.0.overhead in
    let s : Same v w base sp = λ k a b. get_or-set_other w sp k x 0 (omega arith) in
    let low = base_below n w base (below w fp) fp st.1 in
    let near : Same v w fp sp = λ k a b. s k (omega arith) b in
    let whole : IsWholeFrame v fp (sp + 1) = whole_to v w fp sp (sp + 1) (omega arith) (λ k a b. near k a (omega arith))
    (values n w base fp sp x st.0 lt plain) st.0 in
    let c = top_changed n v w base fp sp (sp + 1) st (λ k a b. s k a (omega arith)) whole in
    let m = sp - (fp + 10) in
    let e1 : (sp + 1) - (fp + 10) ≡ suc m = omega arith in
    let end : (fp + 10) + m ≡ sp = omega arith in
    let stack : words_from v (fp + 10) ((sp + 1) - (fp + 10)) ≡ words_from w (fp + 10) m ++ x ∷ [] =
    ap (λ (j : ℕ). words_from v (fp + 10) j) e1 ∙ (words_more v (fp + 10) m
    ∙ (ap (λ (j : ℕ). words_from v (fp + 10) m ++ get_or v j 0 ∷ []) end
    ∙ (ap (λ (y : ℕ). words_from v (fp + 10) m ++ y ∷ []) (get_or-set_same w sp x 0 lt)
    ∙ ap (λ (ys : List ℕ). ys ++ x ∷ []) (words_same v w (fp + 10) m (λ k a b. near k (omega arith) (omega arith)))))) in
    let here : frame_at v base fp (sp + 1) ≡ value_pushed x (frame_at w base fp sp) =
    overhead_same v w base fp sp (sp + 1) (λ k a b. near k a (omega arith))
    ∙ ap (λ (ys : List ℕ). record (frame_at w base fp sp) { stack = ys }) stack in (
      c.0 ∙ ap (λ (f : Frame). f ∷ frames_down n w base (below w fp) fp) here,
      c.1,
      no_link_same v w (sp + 1) e (λ k a b. get_or-set_other w sp k x 0 (omega arith)) (λ k a b. free k (omega arith) b),
    )
  where
    values : (n : ℕ) (w : List ℕ) (base fp sp x : ℕ) → IsWholeFrame w fp sp → sp < length w → x % 8 ≢ 4 → NoLink (set w sp x) (fp + 10) (sp + 1)
    values n w base fp sp x whole lt plain k a b = elim (cases_eq k sp) [
      | inl q ↦ subst (λ (m : ℕ). get_or (set w sp x) m 0 % 8 ≢ 4) (sym q) (subst (λ (y : ℕ). y % 8 ≢ 4) (sym (get_or-set_same w sp x 0 lt)) plain)
      | inr ne ↦ subst (λ (y : ℕ). y % 8 ≢ 4) (sym (get_or-set_other w sp k x 0 ne)) (whole.values k (omega arith) (omega arith))
    ]

-- what a pop of the last frame's last value gives
pub record Pops (n : ℕ) (w : List ℕ) (base fp sp e : ℕ) : Type 0 where
  pub frames : frames_down n w base fp (sp - 1) ≡ on_top top_popped (frames_down n w base fp sp)
  pub stands : Stands n w base fp (sp - 1)
  pub free : NoLink w (sp - 1) e
  pub value : (top (frames_down n w base fp sp)).stack ≡ (top (frames_down n w base fp (sp - 1))).stack ++ get_or w (sp - 1) 0 ∷ []
  pub deep : 1 ≤ sp

pub pops : (n : ℕ) (w : List ℕ) (base fp sp e : ℕ) → Stands n w base fp sp → 0 < length (top (frames_down n w base fp sp)).stack → NoLink w sp e
    → Pops n w base fp sp e
pops zero w base fp sp e st some free = absurd (omega arith)
pops (suc n) w base fp sp e st some free =
    let le = st.0.overhead in
    let d = sp - (fp + 10) in let m = (sp - 1) - (fp + 10) in
    let len = length-words w (fp + 10) d in
    let e1 : d ≡ suc m = omega arith in
    let end : (fp + 10) + m ≡ sp - 1 = omega arith in
    let W : ℕ → List ℕ = λ j. words_from w (fp + 10) j in
    let shorter : m ≡ length (W d) - 1 = omega arith in
    let cut : W m ≡ take (length (W d) - 1) (W d) =
    sym (words_take w (fp + 10) m d (omega arith)) ∙ ap (λ (j : ℕ). take j (W d)) shorter in
    let whole : IsWholeFrame w fp (sp - 1) =
    record { overhead = omega arith; link = st.0.link; values = λ k a b. st.0.values k a (omega arith); pc = st.0.pc } in
    record {
      frames = ap (λ (ys : List ℕ). record (frame_at w base fp sp) { stack = ys } ∷ frames_down n w base (below w fp) fp) cut;
      stands = (whole, st.1);
      free = λ k a b. elim (cases_lt k sp) [ inl c ↦ st.0.values k (omega arith) c | inr c ↦ free k c b ];
      value = ap W e1 ∙ (words_more w (fp + 10) m ∙ ap (λ (k : ℕ). W m ++ get_or w k 0 ∷ []) end);
      deep = omega arith;
    }

-- what is left once the last frame is gone and its link is cleared
pub record Drops (n : ℕ) (w : List ℕ) (base fp sp e : ℕ) : Type 0 where
  pub frames : frames_down (n - 1) (set w fp 0) base (below w fp) fp ≡ rest_of (frames_down n w base fp sp)
  pub stands : Stands (n - 1) (set w fp 0) base (below w fp) fp
  pub free : NoLink (set w fp 0) fp e
  pub begin : base ≤ fp
  pub end : fp + 10 ≤ sp
  pub some : 0 < n

pub drops : (n : ℕ) (w : List ℕ) (base fp sp e : ℕ) → Stands n w base fp sp → 0 < length (frames_down n w base fp sp) → sp ≤ length w → NoLink w sp e
    → Drops n w base fp sp e
drops zero w base fp sp e st some le free = absurd (omega arith)
drops (suc n) w base fp sp e st some le free =
    let low = base_below n w base (below w fp) fp st.1 in
    let over = st.0.overhead in
    let r = frames_same n (set w fp 0) w base (below w fp) fp st.1 (λ k a c. get_or-set_other w fp k 0 0 (omega arith)) in
    let one : n ≡ suc n - 1 = omega arith in
    let P : ℕ → Type 0 = λ j. (frames_down j (set w fp 0) base (below w fp) fp ≡ frames_down n w base (below w fp) fp) × Stands j (set w fp 0) base (below w fp) fp in
    let q = subst P one r in
    record { frames = q.0; stands = q.1; free = no_link n w base fp sp e st.0 over le free; begin = omega arith; end = over; some = omega arith }
  where
    no_link : (n : ℕ) (w : List ℕ) (base fp sp e : ℕ) → IsWholeFrame w fp sp → fp + 10 ≤ sp → sp ≤ length w → NoLink w sp e → NoLink (set w fp 0) fp e
    no_link n w base fp sp e whole over le free k a b = elim (cases_eq k fp) [
      | inl q ↦ subst (λ (m : ℕ). get_or (set w fp 0) m 0 % 8 ≢ 4) (sym q)
          (subst (λ (y : ℕ). y % 8 ≢ 4) (sym (get_or-set_same w fp 0 0 (omega arith))) (λ z. omega arith))
      | inr ne ↦ subst (λ (y : ℕ). y % 8 ≢ 4) (sym (get_or-set_other w fp k 0 0 ne)) (elim (cases_lt k sp) [
        | inl c ↦ whole.values k (omega arith) c
        | inr c ↦ free k c b
      ])
    ]
