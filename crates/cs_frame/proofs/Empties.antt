-- Pages without a frame.
use Rattle.std.proofs.Common.{◌≡◌, ℕ, zero, suc, ◌+◌, ◌*◌, ◌≤◌, List, [], ◌∷◌, ◌++◌, length, get_or, replicate, refl, sym, ◌∙◌, ap, subst, arith}
use Rattle.std.proofs.lemmas.List.{length-replicate}
use Rattle.cs_frame.specs.declared.PageHead.{PageHead}
use Rattle.cs_frame.specs.Frame.{Frame}
use Rattle.cs_frame.specs.Layout.{ArePages, AreFramesLaid, pages_of}
use Rattle.cs_frame.specs.Written.{empty_heads}

abbrev pub empty_head : ℕ → PageHead
empty_head base = record { frame = base; end = base; count = 0 }

pub heads-more : (b n : ℕ) → empty_heads b (suc n) ≡ empty_heads b n ++ empty_head (b + n * 4096) ∷ []
heads-more b zero = ap (λ (a : ℕ). empty_head a ∷ []) (let e : b ≡ b + zero * 4096 = omega arith in e)
heads-more b (suc n) =
    ap (λ (hs : List PageHead). empty_head b ∷ hs) (heads-more (b + 4096) n
    ∙ ap (λ (a : ℕ). empty_heads (b + 4096) n ++ empty_head a ∷ []) (let e : (b + 4096) + n * 4096 ≡ b + suc n * 4096 = omega arith in e))

pub heads-next : (n : ℕ) (hs : List PageHead) → hs ≡ empty_heads 0 n → hs ++ empty_head (n * 4096) ∷ [] ≡ empty_heads 0 (n + 1)
heads-next n hs e =
    let one : suc n ≡ n + 1 = omega arith in let z : 0 + n * 4096 ≡ n * 4096 = omega arith in
    ap (λ (gs : List PageHead). gs ++ empty_head (n * 4096) ∷ []) e
    ∙ (ap (λ (a : ℕ). empty_heads 0 n ++ empty_head a ∷ []) (sym z) ∙ (sym (heads-more 0 n) ∙ ap (empty_heads 0) one))

pub length-heads : (b n : ℕ) → length (empty_heads b n) ≡ n
length-heads b zero = refl
length-heads b (suc n) = ap suc (length-heads (b + 4096) n)

pub zero-at : (n k : ℕ) → let none : ℕ = 0 in get_or (replicate n none) k none ≡ none
zero-at zero k = refl
zero-at (suc n) zero = refl
zero-at (suc n) (suc k) = zero-at n k

pub none_yet : (w : List ℕ) (b n : ℕ) → ((k : ℕ) → get_or w k 0 ≡ 0) → (pages_of w b (empty_heads b n) ≡ replicate n []) × ArePages w b (empty_heads b n)
none_yet w b zero z = (refl, tt)
none_yet w b (suc n) z =
    let r = none_yet w (b + 4096) n z in (
      ap (λ (ps : List (List Frame)). [] ∷ ps) r.0,
      (record { stands = refl; within = omega arith; free = λ k a c e. let y = z k in omega arith }, r.1),
    )

pub laid_new : (w : List ℕ) (hs : List PageHead) (n : ℕ) → n ≤ 64 → w ≡ replicate (n * 4096) 0 → hs ≡ empty_heads 0 n
    → AreFramesLaid w hs × (pages_of w 0 hs ≡ replicate n [])
laid_new w hs n le ew eh =
    let r = none_yet w 0 n (λ k. ap (λ (us : List ℕ). get_or us k 0) ew ∙ zero-at (n * 4096) k) in
    let G : List PageHead → Type 0 = λ gs. AreFramesLaid w gs × (pages_of w 0 gs ≡ replicate n []) in
    let lw = ap length ew in let lr = length-replicate {A = ℕ} (n * 4096) 0 in let lh = length-heads 0 n in
    subst G (sym eh) (record { few = omega arith; len = omega arith; pages = r.1 }, r.0)
