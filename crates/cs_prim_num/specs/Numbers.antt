-- The primitives of this crate.
use Rattle.std.specs.Prelude.{◌≡◌, ℕ, ◌&&◌, ◌||◌, Bool, false, nat_le, Option, None, Some}
use Rattle.cs_acts.specs.declared.arithmetic.Operation.{Operation}
use Rattle.cs_acts.specs.Arithmetic.{primitive_of}

-- those that compute something of two SmallIntegers
abbrev pub computes : ℕ → Bool
computes number = nat_le 1 number && nat_le number 17

-- and those on floats and large integers, which fail
abbrev pub is_on_numbers : ℕ → Bool
is_on_numbers number = computes number || (nat_le 21 number && nat_le number 37) || (nat_le 40 number && nat_le number 59)

-- this is the number of the primitive that computes the same, or that of one that computes nothing
abbrev pub HasOperation : Option Operation → ℕ → Type 0
HasOperation None number = computes number ≡ false
HasOperation (Some operation) number = primitive_of operation ≡ number
