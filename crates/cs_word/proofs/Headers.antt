-- Laws of headers, for the crates above.
use Rattle.std.proofs.Common.{◌≡◌, ℕ, zero, suc, ◌+◌, ◌*◌, ◌/◌, ◌%◌, ◌<◌, ◌^◌, Bool, true, false, cond, max, bit_and, bit_or, ap, ◌∙◌, arith}
use Rattle.std.proofs.lemmas.Nat.Bits.{and_high_mask, and_pow, bit_at_lowest, bit_at-suc, bit_at_or, bit_at-zero, bit_at-lt, same_from_bits}
use Rattle.std.specs.Int.{bit_at}
use Rattle.std.proofs.lemmas.Grind.{common_steps}
use Rattle.cs_word.specs.declared.header.Header.{Header}
use Rattle.cs_word.specs.Header.{header_of, header_bits, flag_bits, IsWritable}

-- what was written is read again
pub header_of-header_bits : (h : Header) → IsWritable h → flag_bits h.flags < 2 ^ 5 → header_of (header_bits h) ≡ h
header_of-header_bits h writable five = grind (arith, common_steps)

-- ---- the flag isImmutable, as the calls on sets of bits say it

pub has_immutable : (n : ℕ) → bit_and n 1 ≡ n % 2
has_immutable n = and_pow n 0 ∙ omega (arith, bit_at_lowest n)

set_lowest : (n : ℕ) → bit_or n 1 ≡ n / 2 * 2 + 1
set_lowest n = same_from_bits (bit_or n 1) (n / 2 * 2 + 1) (λ i. bit_at_or n 1 i ∙ at i)
  where
    half : (n : ℕ) → (n / 2 * 2 + 1) / 2 ≡ n / 2
    half n = omega arith

    at : (i : ℕ) → max (bit_at n i) (bit_at 1 i) ≡ bit_at (n / 2 * 2 + 1) i
    at zero = omega (arith, bit_at-lt n 0, bit_at_lowest (n / 2 * 2 + 1), bit_at_lowest 1)
    at (suc i) =
        let none : bit_at 1 (suc i) ≡ 0 = bit_at-suc 1 i ∙ bit_at-zero i in
        omega (arith, none, bit_at-suc n i, bit_at-suc (n / 2 * 2 + 1) i, ap (λ m. bit_at m i) (half n))

pub set_immutable : (on : Bool) (n : ℕ) → n < 2 ^ 8 → cond on (bit_or n 1) (bit_and n 254) ≡ n / 2 * 2 + cond on 1 0
set_immutable true n small = set_lowest n
set_immutable false n small = and_high_mask 8 1 (omega arith) n small ∙ omega arith
