-- Numbers in bytes.
use Rattle.std.proofs.Common.{◌≡◌, ℕ, zero, suc, ◌+◌, ◌-◌, ◌*◌, ◌<◌, ◌≤◌, List, ◌++◌, take, drop, length, length-drop, get_or, refl, ap, sym, ◌∙◌, arith}
use Rattle.std.proofs.lemmas.List.{take_all, get_or-drop, get_or-take, ext_get_or, drop-drop}
use Rattle.std.proofs.Math.Seq.{take-append_seam}
use Rattle.byteorder.specs.Endian.{little_from, little_number, IsRead}
use Rattle.cs_model.specs.ImageFile.{number_at, u32_at, u32s_at, u64_at, u64s_at}

-- `&xs[i..]`
pub slice_to_end : {A : Type 0} (xs : List A) (i : ℕ) → take (length xs - i) (drop i xs) ≡ drop i xs
slice_to_end xs i = take_all (length xs - i) (drop i xs) (simp length-drop (omega arith))

little_from-drop : (n i : ℕ) (bytes : List ℕ) (place at : ℕ) → at ≡ place + i → little_from i n (drop place bytes) ≡ number_at n bytes at
little_from-drop zero i bytes place at e = refl
little_from-drop (suc n) i bytes place at e =
    let here : get_or (drop place bytes) i 0 ≡ get_or bytes at 0 = get_or-drop place bytes i 0 ∙ ap (λ k. get_or bytes k 0) (sym e) in
    let rest = little_from-drop n (suc i) bytes place (at + 1) (omega (arith, e)) in
    rw (here, rest) refl

pub little_number-drop : (n : ℕ) (bytes : List ℕ) (place : ℕ) → little_number n (drop place bytes) ≡ number_at n bytes place
little_number-drop n bytes place = little_from-drop n 0 bytes place place (omega arith)

-- ---- words

pub length-u32s_at : (n : ℕ) (bytes : List ℕ) (place : ℕ) → length (u32s_at n bytes place) ≡ n
length-u32s_at zero bytes place = refl
length-u32s_at (suc n) bytes place = ap suc (length-u32s_at n bytes (place + 4))

get_or-u32s_at : (n : ℕ) (bytes : List ℕ) (place k at : ℕ) → k < n → at ≡ place + 4 * k → get_or (u32s_at n bytes place) k 0 ≡ u32_at bytes at
get_or-u32s_at zero bytes place k at h e = absurd (omega (arith, h))
get_or-u32s_at (suc n) bytes place zero at h e = let here : place ≡ at = omega (arith, e) in ap (u32_at bytes) here
get_or-u32s_at (suc n) bytes place (suc k) at h e = get_or-u32s_at n bytes (place + 4) k at (omega (arith, h)) (omega (arith, e))

-- ---- what was read of a part of the bytes

little_from-same : (n i : ℕ) (xs ys : List ℕ) → ((k : ℕ) → k < i + n → get_or xs k 0 ≡ get_or ys k 0) → little_from i n xs ≡ little_from i n ys
little_from-same zero i xs ys same = refl
little_from-same (suc n) i xs ys same =
    let here = same i (omega arith) in
    let rest = little_from-same n (suc i) xs ys (λ k h. same k (omega (arith, h))) in
    rw (here, rest) refl

-- the number of n bytes, of which m are given from a place on
number_read : (n m at place : ℕ) (bytes : List ℕ) → at + n ≤ m → little_number n (drop at (take m (drop place bytes))) ≡ number_at n bytes (place + at)
number_read n m at place bytes fits =
    little_from-same n 0 (drop at (take m (drop place bytes))) (drop at (drop place bytes)) (λ k h.
    get_or-drop at (take m (drop place bytes)) k 0 ∙ get_or-take m (drop place bytes) (at + k) 0 (omega (arith, fits, h)) ∙ sym (get_or-drop at (drop place bytes) k 0))
    ∙ ap (little_number n) (drop-drop at place bytes)
    ∙ little_number-drop n bytes (place + at)

-- words that were read from m bytes behind a place
pub words_read : (bytes src : List ℕ) (place n m : ℕ) (words : List ℕ) → src ≡ take m (drop place bytes) → 4 * n ≤ m → length words ≡ n
    → IsRead little_number 4 src words → words ≡ u32s_at n bytes place
unfolding u32_at
words_read bytes src place n m words from fits len read = ext_get_or 0 words (u32s_at n bytes place) (len ∙ sym (length-u32s_at n bytes place)) (λ i h.
    read i h
    ∙ ap (λ (s : List ℕ). little_number 4 (drop (4 * i) s)) from
    ∙ number_read 4 m (4 * i) place bytes (omega (arith, h, len, fits))
    ∙ sym (get_or-u32s_at n bytes place i (place + 4 * i) (omega (arith, h, len)) refl))

-- and numbers of 8 bytes
pub length-u64s_at : (n : ℕ) (bytes : List ℕ) (place : ℕ) → length (u64s_at n bytes place) ≡ n
length-u64s_at zero bytes place = refl
length-u64s_at (suc n) bytes place = ap suc (length-u64s_at n bytes (place + 8))

get_or-u64s_at : (n : ℕ) (bytes : List ℕ) (place k at : ℕ) → k < n → at ≡ place + 8 * k → get_or (u64s_at n bytes place) k 0 ≡ u64_at bytes at
get_or-u64s_at zero bytes place k at h e = absurd (omega (arith, h))
get_or-u64s_at (suc n) bytes place zero at h e = let here : place ≡ at = omega (arith, e) in ap (u64_at bytes) here
get_or-u64s_at (suc n) bytes place (suc k) at h e = get_or-u64s_at n bytes (place + 8) k at (omega (arith, h)) (omega (arith, e))

pub numbers_read : (bytes src : List ℕ) (place n m : ℕ) (numbers : List ℕ) → src ≡ take m (drop place bytes) → 8 * n ≤ m → length numbers ≡ n
    → IsRead little_number 8 src numbers → numbers ≡ u64s_at n bytes place
unfolding u64_at
numbers_read bytes src place n m numbers from fits len read = ext_get_or 0 numbers (u64s_at n bytes place) (len ∙ sym (length-u64s_at n bytes place)) (λ i h.
    read i h
    ∙ ap (λ (s : List ℕ). little_number 8 (drop (8 * i) s)) from
    ∙ number_read 8 m (8 * i) place bytes (omega (arith, h, len, fits))
    ∙ sym (get_or-u64s_at n bytes place i (place + 8 * i) (omega (arith, h, len)) refl))

-- a whole vector that was written as a slice
pub whole_written : (xs ys : List ℕ) (n : ℕ) → length xs ≡ n → length ys ≡ n → take n (xs ++ drop (length xs) ys) ≡ xs
whole_written xs ys n e d = rw (← e) (take-append_seam xs (drop (length xs) ys))
