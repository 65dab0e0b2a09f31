-- The numbers and names of a command line.
use Rattle.std.specs.Prelude.{ℕ, ◌+◌, ◌*◌, ◌-◌, ◌==◌, ◌&&◌, nat_le, nat_lt, if◌then◌else◌, List, [], ◌∷◌, length, Option, Some, None}
use Rattle.std.specs.Char.{is_ascii_digit}

-- the number that some digits end whose first ones are those of n
unfoldable pub digits_from : ℕ → List ℕ → Option ℕ
digits_from n [] = Some n
digits_from n (b ∷ bytes) = if is_ascii_digit b then digits_from (10 * n + (b - 48)) bytes else None

-- a number in decimal digits without leading zeros
abbrev pub decimal_number : List ℕ → Option ℕ
decimal_number [] = None
decimal_number (b ∷ bytes) = if b == 48 && nat_lt 0 (length bytes) then None else digits_from 0 (b ∷ bytes)

abbrev pub at_most : ℕ → ℕ → Option ℕ
at_most most n = if nat_le n most then Some n else None

-- the most steps that a line may ask for
abbrev pub most_steps : ℕ
most_steps = 1000000000000

-- the longest name, in bytes
abbrev pub longest_name : ℕ
longest_name = 4096
