-- Shifts past the width of a SmallInteger.
use Rattle.std.proofs.Common.{◌≡◌, ◌≢◌, ℕ, ℤ, pos, negsuc, ◌*ℤ◌, ◌^◌, ◌*◌, ◌<◌, ◌≤◌, ◌/◌, zero, suc, refl, arith, ap, ◌∙◌, sym, None, min, inl, inr}
use Rattle.std.specs.Prelude.{neg_ℤ}
use Rattle.std.proofs.Math.Nat.{pow-le-pow_right, div-eq_of_lt, mul-le-mul_right}
use Rattle.std.specs.Int.{int_div_euclid}
use Rattle.std.specs.Int.Signed.{shr_z}
use Rattle.std.specs.Int.RustNames.{unsigned_abs}
use Rattle.std.proofs.lemmas.Bool.{cases_lt}
use Rattle.std.proofs.lemmas.Int.{ints}
use Rattle.cs_word.specs.Word.{IsSmall}
use Rattle.cs_model.specs.Arithmetic.{if_small}

-- 2^n for an n above 30
large : (n : ℕ) → 30 < n → 2 ^ 31 ≤ 2 ^ n
large n h = let two : 0 < 2 = omega arith in let above : 31 ≤ n = omega arith in pow-le-pow_right two above

-- so is its product with a number that isn't 0
large_product : (m n : ℕ) → 0 < m → 30 < n → 2 ^ 31 ≤ m * 2 ^ n
large_product m n h above = grind (arith, large n above, mul-le-mul_right)

if_small-above : (q : ℕ) → 2 ^ 31 ≤ q → if_small (pos q) ≡ None
if_small-above q h = grind arith

if_small-below : (q : ℕ) → 2 ^ 31 ≤ q → if_small (neg_ℤ (pos q)) ≡ None
if_small-below zero h = absurd (omega (arith, h))
if_small-below (suc q) h = grind arith

-- a number but 0 times such a power is no SmallInteger
pub if_small-large : (a : ℤ) (n : ℕ) → a ≢ pos 0 → 30 < n → if_small (a *ℤ pos (2 ^ n)) ≡ None
if_small-large (pos zero) n nonzero h = absurd (nonzero refl)
if_small-large (pos (suc m)) n nonzero h = if_small-above (suc m * 2 ^ n) (large_product (suc m) n (omega arith) h)
if_small-large (negsuc m) n nonzero h = if_small-below (suc m * 2 ^ n) (large_product (suc m) n (omega arith) h)

-- a SmallInteger divided by such a power is 0 or -1
vanishes : (m n : ℕ) → m < 2 ^ 30 → 30 < n → m / 2 ^ n ≡ 0
vanishes m n small h = let below : m < 2 ^ n = omega (arith, large n h) in div-eq_of_lt below

shr-vanishes : (a : ℤ) (n : ℕ) → IsSmall a → 30 < n → shr_z a (2 ^ 31) ≡ int_div_euclid a (pos (2 ^ n))
shr-vanishes (pos m) n small h =
    let fits : m < 2 ^ 30 = omega (arith, ints, small.1) in
    ap pos (vanishes m 31 fits (omega arith) ∙ sym (vanishes m n fits h))
shr-vanishes (negsuc m) n small h =
    let fits : m < 2 ^ 30 = omega (arith, ints, small.0) in
    ap negsuc (vanishes m 31 fits (omega arith) ∙ sym (vanishes m n fits h))

shr-floor : (a : ℤ) (n : ℕ) → shr_z a (2 ^ n) ≡ int_div_euclid a (pos (2 ^ n))
shr-floor (pos m) n = refl
shr-floor (negsuc m) n = refl

-- from 31 bits on, a shift to the right leaves the sign alone
pub shr-capped : (a : ℤ) (k n : ℕ) → IsSmall a → k ≡ min n 31 → shr_z a (2 ^ k) ≡ int_div_euclid a (pos (2 ^ n))
shr-capped a k n small capped = elim (cases_lt n 31) [
  | inl below ↦ let same : k ≡ n = omega arith in ap (λ i. shr_z a (2 ^ i)) same ∙ shr-floor a n
  | inr above ↦
      let same : k ≡ 31 = omega arith in
      ap (λ i. shr_z a (2 ^ i)) same ∙ shr-vanishes a n small (omega arith)
]

-- the magnitude of a SmallInteger
pub magnitude : (a : ℤ) → IsSmall a → unsigned_abs a ≤ 2 ^ 30
magnitude (pos m) small = omega (arith, ints, small.1)
magnitude (negsuc m) small = omega (arith, ints, small.0)
