-- Rounding down by a negative divisor is rounding down with both signs turned.
use Rattle.std.proofs.Common.{◌≡◌, ℤ, pos, negsuc, ◌<ℤ◌, refl, arith}
use Rattle.std.specs.Prelude.{neg_ℤ}
use Rattle.std.proofs.lemmas.Int.{ints}
use Rattle.std.specs.Int.{int_div_euclid, int_rem_euclid}
use Rattle.cs_model.specs.Arithmetic.{floor_quotient, floor_remainder, if_small}

pub floor_quotient_neg : (a b : ℤ) → b <ℤ pos 0 → floor_quotient a b ≡ if_small (int_div_euclid (neg_ℤ a) (neg_ℤ b))
floor_quotient_neg a (pos n) h = absurd (omega (arith, ints, h))
floor_quotient_neg a (negsuc n) h = refl

pub floor_remainder_neg : (a b : ℤ) → b <ℤ pos 0 → floor_remainder a b ≡ if_small (neg_ℤ (int_rem_euclid (neg_ℤ a) (neg_ℤ b)))
floor_remainder_neg a (pos n) h = absurd (omega (arith, ints, h))
floor_remainder_neg a (negsuc n) h = refl
