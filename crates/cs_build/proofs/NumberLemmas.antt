-- Digits read one after another, as the model reads them, where a number above a bound stands as the bound.
use Rattle.std.proofs.Common.{◌≡◌, ℕ, Bool, true, false, ◌+◌, ◌*◌, ◌-◌, ◌<◌, ◌≤◌, List, [], ◌∷◌, Some, None, option_map, length, get_or, drop, drop-cons, add-one, refl, arith, if◌then◌else◌, ◌==◌, nat_lt, min, ap}
use Rattle.std.proofs.lemmas.Bool.Decides.{nat_tests}
use Rattle.std.proofs.lemmas.List.{drop_all}
use Rattle.std.specs.Prelude.{pos, Option}
use Rattle.std.specs.Char.{is_ascii_digit}
use Rattle.cs_model.specs.Line.{digits_from, decimal_number}
use Rattle.cs_build.specs.Narrow.{narrow}

-- what a number of digits comes to, where one above the bound is the bound
abbrev pub bounded : Option ℕ → Option ℕ
bounded o = option_map (min 2147483648) o

-- one digit more
pub digits_from-digit : (n : ℕ) (bytes : List ℕ) (i : ℕ) → i < length bytes → is_ascii_digit (get_or bytes i 0) ≡ true
    → digits_from n (drop i bytes) ≡ digits_from (10 * n + (get_or bytes i 0 - 48)) (drop (i + 1) bytes)
unfolding digits_from
digits_from-digit n bytes i h digit = rw (add-one, drop-cons bytes i 0, digit) refl

-- a byte that is no digit
pub digits_from-other : (n : ℕ) (bytes : List ℕ) (i : ℕ) → i < length bytes → is_ascii_digit (get_or bytes i 0) ≡ false
    → digits_from n (drop i bytes) ≡ None
unfolding digits_from
digits_from-other n bytes i h other = rw (drop-cons bytes i 0, other) refl

-- no byte more
pub digits_from-end : (n : ℕ) (bytes : List ℕ) (i : ℕ) → length bytes ≤ i → digits_from n (drop i bytes) ≡ Some n
unfolding digits_from
digits_from-end n bytes i h = rw (drop_all i bytes h) refl

step : (m n d : ℕ) → min 2147483648 m ≡ min 2147483648 n → min 2147483648 (10 * m + d) ≡ min 2147483648 (10 * n + d)
step m n d e = omega (arith, e)

-- what counts of the number so far is its bounded size
pub digits_from-bounded : (bytes : List ℕ) (m n : ℕ) → min 2147483648 m ≡ min 2147483648 n
    → bounded (digits_from m bytes) ≡ bounded (digits_from n bytes)
unfolding digits_from
digits_from-bounded [] m n e = ap (λ k. Some k) e
digits_from-bounded (b ∷ bytes) m n e =
    go (is_ascii_digit b) (digits_from-bounded bytes (10 * m + (b - 48)) (10 * n + (b - 48)) (step m n (b - 48) e))
  where
    go : (digit : Bool) → bounded (digits_from (10 * m + (b - 48)) bytes) ≡ bounded (digits_from (10 * n + (b - 48)) bytes)
        → bounded (if digit then digits_from (10 * m + (b - 48)) bytes else None) ≡ bounded (if digit then digits_from (10 * n + (b - 48)) bytes else None)
    go true rest = rest
    go false rest = refl

-- one digit more, where the number so far is bounded
pub bounded-digit : (n m : ℕ) (bytes : List ℕ) (i : ℕ) → i < length bytes → is_ascii_digit (get_or bytes i 0) ≡ true
    → m ≡ min (10 * n + (get_or bytes i 0 - 48)) 2147483648
    → bounded (digits_from n (drop i bytes)) ≡ bounded (digits_from m (drop (i + 1) bytes))
bounded-digit n m bytes i h digit e = rw (digits_from-digit n bytes i h digit)
    (digits_from-bounded (drop (i + 1) bytes) (10 * n + (get_or bytes i 0 - 48)) m (omega (arith, e)))

-- a number that doesn't begin with a zero that more bytes follow
pub number_in-digits : (bytes : List ℕ) → 0 < length bytes → (get_or bytes 0 0 ≡ 48 → length bytes ≤ 1) → decimal_number bytes ≡ digits_from 0 bytes
number_in-digits [] some alone = absurd (omega (arith, some))
number_in-digits (b ∷ bytes) some alone = go (b == 48) refl
  where
    go : (zero : Bool) → (b == 48) ≡ zero → decimal_number (b ∷ bytes) ≡ digits_from 0 (b ∷ bytes)
    go true e =
        let first : b ≡ 48 = grind (arith, nat_tests) in
        let none : length bytes ≡ 0 = omega (arith, alone first) in
        rw (e, none) refl
    go false e = rw e refl

-- one that does
pub number_in-zero : (bytes : List ℕ) → get_or bytes 0 0 ≡ 48 → 1 < length bytes → decimal_number bytes ≡ None
number_in-zero [] zero more = absurd (omega (arith, more))
number_in-zero (b ∷ bytes) zero more =
    let first : (b == 48) ≡ true = grind (arith, nat_tests, zero) in
    let long : nat_lt 0 (length bytes) ≡ true = grind (arith, nat_tests, more) in
    rw (first, long) refl

pub ruleset numbers = (bounded-digit, digits_from-other, digits_from-end, number_in-digits, number_in-zero)

narrow-pos : (n : ℕ) → narrow (pos n) ≡ pos (min (min 2147483648 n) 2147483647)
narrow-pos n = ap (λ k. pos k) (omega arith)

-- the narrow number of a size without a sign
pub narrow-natural : (o : Option ℕ) (r : Option ℕ) → r ≡ bounded o
    → option_map (λ n. narrow (pos n)) o ≡ option_map (λ size. pos (min size 2147483647)) r
narrow-natural None r e = rw e refl
narrow-natural (Some n) r e = rw (e, narrow-pos n) refl

pub ruleset narrowing = (narrow-natural)
