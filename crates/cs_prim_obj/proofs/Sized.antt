-- How large a number of so many bytes is.
use Rattle.std.proofs.Common.{ℕ, zero, suc, ◌+◌, ◌*◌, ◌<◌, ◌^◌, arith}

-- at most seven bytes leave room for one more in 64 bits
pub number_fits : (i n : ℕ) → i < 8 → n < 256 ^ i → n < 72057594037927936
number_fits zero n l h = omega (arith, h)
number_fits (suc zero) n l h = omega (arith, h)
number_fits (suc (suc zero)) n l h = omega (arith, h)
number_fits (suc (suc (suc zero))) n l h = omega (arith, h)
number_fits (suc (suc (suc (suc zero)))) n l h = omega (arith, h)
number_fits (suc (suc (suc (suc (suc zero))))) n l h = omega (arith, h)
number_fits (suc (suc (suc (suc (suc (suc zero)))))) n l h = omega (arith, h)
number_fits (suc (suc (suc (suc (suc (suc (suc zero))))))) n l h = omega (arith, h)
number_fits (suc (suc (suc (suc (suc (suc (suc (suc i)))))))) n l h = absurd (omega (arith, l))

pub number_grows : (i n b : ℕ) → i < 8 → n < 256 ^ i → b < 256 → 256 * n + b < 256 ^ (i + 1)
number_grows zero n b l h s = omega (arith, h, s)
number_grows (suc zero) n b l h s = omega (arith, h, s)
number_grows (suc (suc zero)) n b l h s = omega (arith, h, s)
number_grows (suc (suc (suc zero))) n b l h s = omega (arith, h, s)
number_grows (suc (suc (suc (suc zero)))) n b l h s = omega (arith, h, s)
number_grows (suc (suc (suc (suc (suc zero))))) n b l h s = omega (arith, h, s)
number_grows (suc (suc (suc (suc (suc (suc zero)))))) n b l h s = omega (arith, h, s)
number_grows (suc (suc (suc (suc (suc (suc (suc zero))))))) n b l h s = omega (arith, h, s)
number_grows (suc (suc (suc (suc (suc (suc (suc (suc i)))))))) n b l h s = absurd (omega (arith, l))
