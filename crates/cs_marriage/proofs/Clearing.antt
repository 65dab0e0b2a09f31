-- Words that are set to nil one after another.
use Rattle.std.proofs.Common.{◌≡◌, ℕ, zero, suc, ◌+◌, ◌-◌, ◌<◌, List, [], ◌∷◌, ◌++◌, length, get_or, set, take, replicate, refl, ap, sym, ◌∙◌, arith}
use Rattle.cs_heap.specs.Object.{Object}
use Rattle.cs_heap.proofs.Laws.{KeepsCount}
use Rattle.cs_frame.specs.Frame.{nil}
use Rattle.cs_marriage.specs.Marriage.{cleared, cleared_from}

-- the first k words are kept, and the next n are nil
abbrev pub filled : ℕ → ℕ → List ℕ → List ℕ
filled k n [] = []
filled zero zero (w ∷ ws) = w ∷ ws
filled zero (suc n) (w ∷ ws) = nil ∷ filled zero n ws
filled (suc k) n (w ∷ ws) = w ∷ filled k n ws

abbrev pub filled_from : ℕ → ℕ → Object → Object
filled_from k n x = record x { words = filled k n x.words }

pub filled-none : (k : ℕ) (ws : List ℕ) → filled k 0 ws ≡ ws
filled-none zero [] = refl
filled-none zero (w ∷ ws) = refl
filled-none (suc k) [] = refl
filled-none (suc k) (w ∷ ws) = ap (λ (vs : List ℕ). w ∷ vs) (filled-none k ws)

pub length-filled : (k n : ℕ) (ws : List ℕ) → length (filled k n ws) ≡ length ws
length-filled k n [] = refl
length-filled zero zero (w ∷ ws) = refl
length-filled zero (suc n) (w ∷ ws) = ap suc (length-filled zero n ws)
length-filled (suc k) n (w ∷ ws) = ap suc (length-filled k n ws)

pub filled-more : (k n : ℕ) (ws : List ℕ) → set (filled k n ws) (k + n) nil ≡ filled k (n + 1) ws
filled-more k n [] = refl
filled-more zero zero (w ∷ ws) = ap (λ (vs : List ℕ). nil ∷ vs) (sym (filled-none 0 ws))
filled-more zero (suc n) (w ∷ ws) =
    let i : 0 + suc n ≡ suc (0 + n) = omega arith in
    let j : suc (n + 1) ≡ suc n + 1 = omega arith in
    ap (λ m. set (nil ∷ filled 0 n ws) m nil) i ∙ (ap (λ (vs : List ℕ). nil ∷ vs) (filled-more zero n ws) ∙ ap (λ m. filled 0 m (w ∷ ws)) j)
filled-more (suc k) n (w ∷ ws) =
    let i : suc k + n ≡ suc (k + n) = omega arith in
    ap (λ m. set (w ∷ filled k n ws) m nil) i ∙ ap (λ (vs : List ℕ). w ∷ vs) (filled-more k n ws)

filled-front : (ws : List ℕ) → filled 0 (length ws) ws ≡ replicate (length ws) nil
filled-front [] = refl
filled-front (w ∷ ws) = ap (λ (vs : List ℕ). nil ∷ vs) (filled-front ws)

take-none : (k : ℕ) → take {A = ℕ} k [] ≡ []
take-none zero = refl
take-none (suc k) = refl

pub filled-all : (k : ℕ) (ws : List ℕ) → filled k (length ws - k) ws ≡ cleared k ws
filled-all k [] =
    let z : 0 - k ≡ 0 = omega arith in
    sym (ap (λ (vs : List ℕ). vs ++ replicate (0 - k) nil) (take-none k) ∙ ap (λ n. replicate n nil) z)
filled-all zero (w ∷ ws) =
    let e : length (w ∷ ws) - 0 ≡ length (w ∷ ws) = omega arith in
    ap (λ n. filled 0 n (w ∷ ws)) e ∙ (filled-front (w ∷ ws) ∙ ap (λ n. replicate n nil) (sym e))
filled-all (suc k) (w ∷ ws) =
    let e : length (w ∷ ws) - suc k ≡ length ws - k = omega arith in
    ap (λ n. w ∷ filled k n ws) e ∙ (ap (λ (vs : List ℕ). w ∷ vs) (filled-all k ws) ∙ ap (λ n. w ∷ (take k ws ++ replicate n nil)) (sym e))

-- as many words, and the first the same
pub length-cleared : (k : ℕ) (ws : List ℕ) → length (cleared k ws) ≡ length ws
length-cleared k ws = ap length (sym (filled-all k ws)) ∙ length-filled k (length ws - k) ws

pub get_or-filled : (k n : ℕ) (ws : List ℕ) (i : ℕ) → i < k → get_or (filled k n ws) i 0 ≡ get_or ws i 0
get_or-filled k n [] i lt = refl
get_or-filled zero n (w ∷ ws) i lt = absurd (omega (arith, lt))
get_or-filled (suc k) n (w ∷ ws) zero lt = refl
get_or-filled (suc k) n (w ∷ ws) (suc i) lt = get_or-filled k n ws i (omega (arith, lt))

pub get_or-cleared : (k : ℕ) (ws : List ℕ) (i : ℕ) → i < k → get_or (cleared k ws) i 0 ≡ get_or ws i 0
get_or-cleared k ws i lt = ap (λ (vs : List ℕ). get_or vs i 0) (sym (filled-all k ws)) ∙ get_or-filled k (length ws - k) ws i lt

pub cleared_keeps : (k : ℕ) → KeepsCount (cleared_from k)
cleared_keeps k x = length-cleared k x.words

pub filled_keeps : (k n : ℕ) → KeepsCount (filled_from k n)
filled_keeps k n x = length-filled k n x.words
