-- Arithmetic on SmallIntegers, as the integer primitives of the Blue Book give it.
use Rattle.std.specs.Prelude.{ℤ, pos, negsuc, neg_ℤ, ◌*ℤ◌, ◌^◌, Option, Some, None, nat_lt, zero, suc, if◌then◌else◌}
use Rattle.std.specs.Int.RustNames.{int_div}
use Rattle.std.specs.Int.{int_div_euclid, int_rem_euclid}

-- the number, where it is a SmallInteger
abbrev pub if_small : ℤ → Option ℤ
if_small (pos n) = if nat_lt n (2 ^ 30) then Some (pos n) else None
if_small (negsuc n) = if nat_lt n (2 ^ 30) then Some (negsuc n) else None

-- the quotient rounded down, for a divisor that isn't 0
abbrev pub floor_div : ℤ → ℤ → ℤ
floor_div a (pos b) = int_div_euclid a (pos b)
floor_div a (negsuc b) = int_div_euclid (neg_ℤ a) (pos (suc b))

-- what that quotient leaves: 0, or of the divisor's sign
abbrev pub floor_rem : ℤ → ℤ → ℤ
floor_rem a (pos b) = int_rem_euclid a (pos b)
floor_rem a (negsuc b) = neg_ℤ (int_rem_euclid (neg_ℤ a) (pos (suc b)))

-- a quotient, where there is one
abbrev pub unless_zero : ℤ → Option ℤ → Option ℤ
unless_zero (pos zero) quotient = None
unless_zero (pos (suc n)) quotient = quotient
unless_zero (negsuc n) quotient = quotient

-- `quo:` rounds toward zero
abbrev pub quotient : ℤ → ℤ → Option ℤ
quotient a b = unless_zero b (if_small (int_div a b))

-- `//` rounds down
abbrev pub floor_quotient : ℤ → ℤ → Option ℤ
floor_quotient a b = unless_zero b (if_small (floor_div a b))

-- `\\` is what `//` leaves
abbrev pub floor_remainder : ℤ → ℤ → Option ℤ
floor_remainder a b = unless_zero b (if_small (floor_rem a b))

-- `bitShift:` multiplies by a power of two to the left, and divides by it, rounding down, to the right
abbrev pub shifted : ℤ → ℤ → Option ℤ
shifted a (pos n) = if_small (a *ℤ pos (2 ^ n))
shifted a (negsuc n) = Some (floor_div a (pos (2 ^ suc n)))

-- `/` has an answer where the division leaves nothing
abbrev pub if_divides : ℤ → Option ℤ → Option ℤ
if_divides (pos zero) quotient = quotient
if_divides (pos (suc n)) quotient = None
if_divides (negsuc n) quotient = None

abbrev pub exact_quotient : ℤ → ℤ → Option ℤ
exact_quotient a b = unless_zero b (if_divides (floor_rem a b) (if_small (floor_div a b)))
