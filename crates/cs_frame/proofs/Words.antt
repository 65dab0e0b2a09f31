-- Runs of words, and one frame read from them.
use Rattle.std.proofs.Common.{◌≡◌, ℕ, zero, suc, ◌+◌, ◌-◌, ◌%◌, ◌<◌, ◌≤◌, ◌⊎◌, List, [], ◌∷◌, ◌++◌, length, get_or, set, take, drop, replicate, refl, sym, ◌∙◌, ap, subst, inl, inr, arith, get_or-set_other, get_or-set_same, add-zero}
use Rattle.cs_frame.specs.Frame.{IsPc}
use Rattle.cs_frame.specs.Layout.{words_from, frame_at, joined, NoLink, IsWholeFrame}
use Rattle.cs_frame.specs.Written.{AllAre}

-- the two agree on the words from i up to j
abbrev pub Same : List ℕ → List ℕ → ℕ → ℕ → Type 0
Same v w i j = (k : ℕ) → i ≤ k → k < j → get_or v k 0 ≡ get_or w k 0

pub words_same : (v w : List ℕ) (i n : ℕ) → Same v w i (i + n) → words_from v i n ≡ words_from w i n
words_same v w i zero s = refl
words_same v w i (suc n) s =
    ap (λ (x : ℕ). x ∷ words_from v (i + 1) n) (s i (omega arith) (omega arith))
    ∙ ap (λ (ys : List ℕ). get_or w i 0 ∷ ys) (words_same v w (i + 1) n (λ k a b. s k (omega arith) (omega arith)))

pub words_more : (w : List ℕ) (i n : ℕ) → words_from w i (suc n) ≡ words_from w i n ++ get_or w (i + n) 0 ∷ []
words_more w i zero = rw add-zero
words_more w i (suc n) =
    let e : (i + 1) + n ≡ i + suc n = omega arith in
    ap (λ (ys : List ℕ). get_or w i 0 ∷ ys) (words_more w (i + 1) n ∙ ap (λ (k : ℕ). words_from w (i + 1) n ++ get_or w k 0 ∷ []) e)

pub length-words : (w : List ℕ) (i n : ℕ) → length (words_from w i n) ≡ n
length-words w i zero = refl
length-words w i (suc n) = ap suc (length-words w (i + 1) n)

pub words_at : (w : List ℕ) (i n k : ℕ) (d : ℕ) → k < n → get_or (words_from w i n) k d ≡ get_or w (i + k) 0
words_at w i zero k d h = absurd (omega arith)
words_at w i (suc n) zero d h = rw add-zero
words_at w i (suc n) (suc k) d h =
    let e : (i + 1) + k ≡ i + suc k = omega arith in
    words_at w (i + 1) n k d (omega arith) ∙ ap (λ (j : ℕ). get_or w j 0) e

pub words_append : (w : List ℕ) (i m n : ℕ) → words_from w i (m + n) ≡ words_from w i m ++ words_from w (i + m) n
words_append w i zero n =
    let e : 0 + n ≡ n = omega arith in let f : i + 0 ≡ i = omega arith in
    ap (λ (j : ℕ). words_from w i j) e ∙ ap (λ (j : ℕ). words_from w j n) (sym f)
words_append w i (suc m) n =
    let e : suc m + n ≡ suc (m + n) = omega arith in let f : (i + 1) + m ≡ i + suc m = omega arith in
    ap (λ (j : ℕ). words_from w i j) e ∙ ap (λ (ys : List ℕ). get_or w i 0 ∷ ys)
    (words_append w (i + 1) m n ∙ ap (λ (j : ℕ). words_from w (i + 1) m ++ words_from w j n) f)

pub words_take : (w : List ℕ) (i m n : ℕ) → m ≤ n → take m (words_from w i n) ≡ words_from w i m
words_take w i zero n le = refl
words_take w i (suc m) zero le = absurd (omega arith)
words_take w i (suc m) (suc n) le = ap (λ (ys : List ℕ). get_or w i 0 ∷ ys) (words_take w (i + 1) m n (omega arith))

pub words_drop : (w : List ℕ) (i m n : ℕ) → m ≤ n → drop m (words_from w i n) ≡ words_from w (i + m) (n - m)
words_drop w i zero n le =
    let e : n - 0 ≡ n = omega arith in let f : i + 0 ≡ i = omega arith in
    rw (e, f)
words_drop w i (suc m) zero le = absurd (omega arith)
words_drop w i (suc m) (suc n) le =
    let e : n - m ≡ suc n - suc m = omega arith in let f : (i + 1) + m ≡ i + suc m = omega arith in
    words_drop w (i + 1) m n (omega arith) ∙ (ap (λ (j : ℕ). words_from w j (n - m)) f ∙ ap (λ (j : ℕ). words_from w (i + suc m) j) e)

pub words_moved : (v w : List ℕ) (i j n : ℕ) → ((k : ℕ) → k < n → get_or v (i + k) 0 ≡ get_or w (j + k) 0) → words_from v i n ≡ words_from w j n
words_moved v w i j zero s = refl
words_moved v w i j (suc n) s =
    let first : get_or v i 0 ≡ get_or w j 0 =
    ap (λ (k : ℕ). get_or v k 0) (let e : i ≡ i + 0 = omega arith in e) ∙ (s 0 (omega arith) ∙ ap (λ (k : ℕ). get_or w k 0) (let e : j + 0 ≡ j = omega arith in e)) in
    let rest = words_moved v w (i + 1) (j + 1) n (λ k a.
    ap (λ (m : ℕ). get_or v m 0) (let e : (i + 1) + k ≡ i + suc k = omega arith in e) ∙ (s (suc k) (omega arith)
    ∙ ap (λ (m : ℕ). get_or w m 0) (let e : j + suc k ≡ (j + 1) + k = omega arith in e))) in
    ap (λ (x : ℕ). x ∷ words_from v (i + 1) n) first ∙ ap (λ (ys : List ℕ). get_or w j 0 ∷ ys) rest

pub words_const : (v : List ℕ) (i n x : ℕ) → AllAre v i (i + n) x → words_from v i n ≡ replicate n x
words_const v i zero x a = refl
words_const v i (suc n) x a =
    ap (λ (y : ℕ). y ∷ words_from v (i + 1) n) (a i (omega arith) (omega arith))
    ∙ ap (λ (ys : List ℕ). x ∷ ys) (words_const v (i + 1) n x (λ k l m. a k (omega arith) (omega arith)))

-- a write of the k-th word of a run
pub words_set : (w : List ℕ) (i n k x : ℕ) → k < n → i + k < length w → words_from (set w (i + k) x) i n ≡ set (words_from w i n) k x
words_set w i zero k x h lt = absurd (omega arith)
words_set w i (suc n) zero x h lt =
    let e : i + 0 ≡ i = omega arith in let lt' : i < length w = omega arith in
    subst (λ (j : ℕ). words_from (set w j x) i (suc n) ≡ x ∷ words_from w (i + 1) n) (sym e)
    (ap (λ (y : ℕ). y ∷ words_from (set w i x) (i + 1) n) (get_or-set_same w i x 0 lt')
    ∙ ap (λ (ys : List ℕ). x ∷ ys) (words_same (set w i x) w (i + 1) n (λ j a b. get_or-set_other w i j x 0 (omega arith))))
words_set w i (suc n) (suc k) x h lt =
    let e : (i + 1) + k ≡ i + suc k = omega arith in
    subst (λ (j : ℕ). words_from (set w j x) i (suc n) ≡ get_or w i 0 ∷ set (words_from w (i + 1) n) k x) e
    (ap (λ (y : ℕ). y ∷ words_from (set w ((i + 1) + k) x) (i + 1) n) (get_or-set_other w ((i + 1) + k) i x 0 (omega arith))
    ∙ ap (λ (ys : List ℕ). get_or w i 0 ∷ ys) (words_set w (i + 1) n k x (omega arith) (omega arith)))

-- a frame by its words
pub frame_parts : (v : List ℕ) (base fp sp a1 a2 a3 a4 a5 a6 a7 a8 : ℕ) (stack : List ℕ) → get_or v (fp + 1) 0 ≡ a1 → get_or v (fp + 2) 0 ≡ a2
    → get_or v (fp + 3) 0 ≡ a3 → get_or v (fp + 4) 0 ≡ a4 → get_or v (fp + 5) 0 ≡ a5 → get_or v (fp + 6) 0 ≡ a6 → get_or v (fp + 7) 0 ≡ a7
    → get_or v (fp + 8) 0 ≡ a8 → words_from v (fp + 10) (sp - (fp + 10)) ≡ stack
    → frame_at v base fp sp ≡ record {
      at = fp - base;
      caller = a1;
      saved_pc = a2;
      method = a3;
      closure = a4;
      context = a5;
      birth = joined a6 a7;
      receiver = a8;
      stack = stack;
    }
frame_parts v base fp sp a1 a2 a3 a4 a5 a6 a7 a8 stack e1 e2 e3 e4 e5 e6 e7 e8 es = rw (e1, e2, e3, e4, e5, e6, e7, e8, es)

-- a frame whose overhead stays
pub overhead_same : (v w : List ℕ) (base fp sp sp' : ℕ) → Same v w fp (fp + 10)
    → frame_at v base fp sp' ≡ record (frame_at w base fp sp) { stack = words_from v (fp + 10) (sp' - (fp + 10)) }
overhead_same v w base fp sp sp' s =
    frame_parts v base fp sp' _ _ _ _ _ _ _ _ _ (s (fp + 1) (omega arith) (omega arith)) (s (fp + 2) (omega arith) (omega arith))
    (s (fp + 3) (omega arith) (omega arith)) (s (fp + 4) (omega arith) (omega arith)) (s (fp + 5) (omega arith) (omega arith))
    (s (fp + 6) (omega arith) (omega arith)) (s (fp + 7) (omega arith) (omega arith)) (s (fp + 8) (omega arith) (omega arith)) refl

pub frame_same : (v w : List ℕ) (base fp sp : ℕ) → fp + 10 ≤ sp → Same v w fp sp → frame_at v base fp sp ≡ frame_at w base fp sp
frame_same v w base fp sp le s =
    overhead_same v w base fp sp sp (λ k a b. s k a (omega arith))
    ∙ ap (λ (ys : List ℕ). record (frame_at w base fp sp) { stack = ys })
    (words_same v w (fp + 10) (sp - (fp + 10)) (λ k a b. s k (omega arith) (omega arith)))

pub no_link_same : (v w : List ℕ) (i j : ℕ) → Same v w i j → NoLink w i j → NoLink v i j
no_link_same v w i j s n k a b e = n k a b (ap (λ (x : ℕ). x % 8) (sym (s k a b)) ∙ e)

pub pc_same : (v w : List ℕ) (k : ℕ) → get_or v k 0 ≡ get_or w k 0 → IsPc (get_or w k 0) → IsPc (get_or v k 0)
pc_same v w k e p = subst (λ (n : ℕ). IsPc n) (sym e) p

pub whole_same : (v w : List ℕ) (fp sp : ℕ) → Same v w fp sp → IsWholeFrame w fp sp → IsWholeFrame v fp sp
whole_same v w fp sp s h =
    let le = h.overhead in
    record {
      overhead = le;
      link = ap (λ (x : ℕ). x % 8) (s fp (omega arith) (omega arith)) ∙ h.link;
      values = no_link_same v w (fp + 1) sp (λ k a b. s k (omega arith) b) h.values;
      pc = pc_same v w (fp + 2) (s (fp + 2) (omega arith) (omega arith)) h.pc;
    }

-- the same frame with another end, above which all words up to there are no links
pub whole_to : (v w : List ℕ) (fp sp sp' : ℕ) → fp + 10 ≤ sp' → Same v w fp (fp + 10) → NoLink v (fp + 10) sp' → IsWholeFrame w fp sp → IsWholeFrame v fp sp'
whole_to v w fp sp sp' le s n h =
    let le0 = h.overhead in
    record {
      overhead = le;
      link = ap (λ (x : ℕ). x % 8) (s fp (omega arith) (omega arith)) ∙ h.link;
      values = λ k a b. elim (below_or k (fp + 10)) [
        | inl c ↦ (λ e. h.values k a (omega arith) (ap (λ (x : ℕ). x % 8) (sym (s k (omega arith) c)) ∙ e))
        | inr c ↦ n k c b
      ];
      pc = pc_same v w (fp + 2) (s (fp + 2) (omega arith) (omega arith)) h.pc;
    }
  where
    below_or : (a b : ℕ) → (a < b) ⊎ (b ≤ a)
    below_or a zero = inr (omega arith)
    below_or zero (suc b) = inl (omega arith)
    below_or (suc a) (suc b) = elim (below_or a b) [ inl c ↦ inl (omega arith) | inr c ↦ inr (omega arith) ]
