-- What the integer primitives give, and the special selectors that do the same (Blue Book, part four: arithmetic
-- primitives; special selectors).
use Rattle.std.specs.Prelude.{ℕ, ◌+◌, ◌==◌, ◌&&◌, ℤ, ◌+ℤ◌, ◌-ℤ◌, ◌*ℤ◌, Bool, not, nat_le, nat_lt, if◌then◌else◌, Option, Some, None, option_map, int_lt}
use Rattle.std.specs.Ordering.{int_eq}
use Rattle.std.specs.Int.{w32, int_bit_and, int_bit_or, int_bit_xor}
use Rattle.cs_model.specs.Ref.{Ref, Small}
use Rattle.cs_model.specs.Ref as ref
use Rattle.cs_model.specs.State.{Kept}
use Rattle.cs_model.specs.Arithmetic.{if_small, exact_quotient, floor_quotient, floor_remainder, quotient, shifted}

abbrev pub boolean : Kept → Bool → Ref
boolean k b = ref.Obj (if b then k.rest.true_ else k.rest.false_)

-- primitives 3 to 8: < > <= >= = ~=
abbrev pub comparison : ℕ → ℤ → ℤ → Bool
comparison number a b =
    if number == 3 then int_lt a b else
    if number == 4 then int_lt b a else
    if number == 5 then not (int_lt b a) else
    if number == 6 then not (int_lt a b) else
    if number == 7 then int_eq a b else
    not (int_eq a b)

-- primitives 1, 2 and 9 to 17: + - * / \\ // quo bitAnd: bitOr: bitXor: bitShift:
abbrev pub computation : ℕ → ℤ → ℤ → Option ℤ
computation number a b =
    if number == 1 then if_small (a +ℤ b) else
    if number == 2 then if_small (a -ℤ b) else
    if number == 9 then if_small (a *ℤ b) else
    if number == 10 then exact_quotient a b else
    if number == 11 then floor_remainder a b else
    if number == 12 then floor_quotient a b else
    if number == 13 then quotient a b else
    if number == 14 then Some (int_bit_and w32 a b) else
    if number == 15 then Some (int_bit_or w32 a b) else
    if number == 16 then Some (int_bit_xor w32 a b) else
    if number == 17 then shifted a b else
    None

-- what primitive `number` gives of two SmallIntegers, where its result is defined and fits
unfoldable pub number_result : Kept → ℕ → ℤ → ℤ → Option Ref
number_result k number a b =
    if nat_le 3 number && nat_le number 8 then Some (boolean k (comparison number a b)) else
    option_map (λ z. Small z) (computation number a b)

-- the integer primitive of special selector i: + - < > <= >= = ~= * / \\ @ bitShift: // bitAnd: bitOr:, where `@` has none
abbrev pub selector_primitive : ℕ → ℕ
selector_primitive i =
    if nat_lt i 11 then i + 1 else
    if i == 12 then 17 else
    if i == 13 then 12 else
    if i == 14 then 14 else
    if i == 15 then 15 else
    0
