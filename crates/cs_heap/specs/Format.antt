-- The formats of objects, as 32-bit Spur numbers them, and what each asks of the number of slots.
use Rattle.std.specs.Prelude.{ℕ, ◌-◌, ◌%◌, ◌==◌, ◌&&◌, ◌||◌, Bool, if◌then◌else◌, nat_le, nat_lt}
use Rattle.cs_model.specs.Words.{unused_units}

-- 0 no fields; 1 named, 2 indexed, 3 named and indexed fields; 4 weak; 5 ephemeron
abbrev pub is_pointers : ℕ → Bool
is_pointers format = nat_lt format 6

-- 9 units of 64 bits; 10 of 32; 12 and 13 of 16; 16 to 19 bytes
abbrev pub is_raw : ℕ → Bool
is_raw format = format == 9 || format == 10 || format == 12 || format == 13 || nat_le 16 format && nat_lt format 20

-- 24 to 27 compiled methods
abbrev pub is_code : ℕ → Bool
is_code format = nat_le 24 format && nat_lt format 28

-- an object of this format may have so many slots: none without fields, pairs for units of 64 bits, and at least
-- one where units are unused
abbrev pub format_allows : ℕ → ℕ → Bool
format_allows format slots = (is_pointers format || is_raw format || is_code format)
    && (if format == 0 then slots == 0 else
    (if format == 9 then slots % 2 == 0 else unused_units format == 0 || nat_lt 0 slots))
