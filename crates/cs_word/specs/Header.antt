-- The 64 bits of an object header of 32-bit Spur.
use Rattle.std.specs.Prelude.{ℕ, ◌+◌, ◌*◌, ◌/◌, ◌%◌, ◌^◌, ◌<◌, ◌==◌, Bool, if◌then◌else◌}
use Rattle.cs_word.specs.declared.header.Flags.{Flags}
use Rattle.cs_word.specs.declared.header.Header.{Header}

-- the flags as a number: bit 0 isImmutable, 1 remembered, 2 pinned, 3 grey, 4 marked
abbrev pub flag_bits : Flags → ℕ
flag_bits flags = flags.0

-- the flags say that an object is read-only, or are made to say so or not
abbrev pub is_immutable : Flags → Bool
is_immutable flags = flag_bits flags % 2 == 1

abbrev pub with_immutable : Bool → Flags → Flags
with_immutable on flags = record { 0 = flag_bits flags / 2 * 2 + (if on then 1 else 0) }

-- bit i of a number, 0 or 1
abbrev pub bit : ℕ → ℕ → ℕ
bit n i = n / 2 ^ i % 2

-- the five flags of a header
abbrev pub header_flags : ℕ → ℕ
header_flags bits = bit bits 23 + 2 * bit bits 29 + 4 * bit bits 30 + 8 * bit bits 31 + 16 * bit bits 55

-- what a header says: its bits 22 and 54 are dropped
abbrev pub header_of : ℕ → Header
header_of bits = record {
  class = bits % 2 ^ 22;
  flags = record { 0 = header_flags bits };
  format = bits / 2 ^ 24 % 2 ^ 5;
  hash = bits / 2 ^ 32 % 2 ^ 22;
  slots = bits / 2 ^ 56;
}

-- the bits of a header, of which 22 and 54 are 0
abbrev pub header_bits : Header → ℕ
header_bits h = h.class + 2 ^ 24 * h.format + 2 ^ 32 * h.hash + 2 ^ 56 * h.slots
    + 2 ^ 23 * bit (flag_bits h.flags) 0 + 2 ^ 29 * bit (flag_bits h.flags) 1 + 2 ^ 30 * bit (flag_bits h.flags) 2
    + 2 ^ 31 * bit (flag_bits h.flags) 3 + 2 ^ 55 * bit (flag_bits h.flags) 4

-- class and hash have 22 bits, and the format has 5
pub record IsWritable (h : Header) : Type 0 where
  pub class : h.class < 2 ^ 22
  pub format : h.format < 2 ^ 5
  pub hash : h.hash < 2 ^ 22
