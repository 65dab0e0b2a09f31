-- Digits read one after another, as the model reads them.
use Rattle.std.proofs.Common.{◌≡◌, ℕ, Bool, true, false, ◌+◌, ◌*◌, ◌-◌, ◌<◌, ◌≤◌, List, [], ◌∷◌, Some, None, option_and_then, length, get_or, drop, drop-cons, add-one, refl, arith, if◌then◌else◌, ◌==◌, nat_lt, nat_le, Option}
use Rattle.std.proofs.lemmas.Bool.Decides.{nat_tests}
use Rattle.std.proofs.lemmas.List.{drop_all}
use Rattle.std.specs.Char.{is_ascii_digit}
use Rattle.cs_model.specs.Line.{at_most, digits_from, decimal_number}
use Rattle.cs_model.specs.Text.{number_between}

-- one digit more
pub digits_from-digit : (n : ℕ) (bytes : List ℕ) (i : ℕ) → i < length bytes → is_ascii_digit (get_or bytes i 0) ≡ true
    → digits_from n (drop i bytes) ≡ digits_from (10 * n + (get_or bytes i 0 - 48)) (drop (i + 1) bytes)
unfolding digits_from
digits_from-digit n bytes i h digit = rw (add-one, drop-cons bytes i 0, digit) refl

-- a byte that is no digit
pub digits_from-other : (n : ℕ) (bytes : List ℕ) (i : ℕ) → i < length bytes → is_ascii_digit (get_or bytes i 0) ≡ false
    → digits_from n (drop i bytes) ≡ None
unfolding digits_from
digits_from-other n bytes i h other = rw (drop-cons bytes i 0, other) refl

-- no byte more
pub digits_from-end : (n : ℕ) (bytes : List ℕ) (i : ℕ) → length bytes ≤ i → digits_from n (drop i bytes) ≡ Some n
unfolding digits_from
digits_from-end n bytes i h = rw (drop_all i bytes h) refl

at_most-above : (most n : ℕ) → most < n → at_most most n ≡ None
at_most-above most n h = grind (arith, nat_tests)

pub at_most-within : (most n : ℕ) → n ≤ most → at_most most n ≡ Some n
at_most-within most n h = grind (arith, nat_tests)

-- what is above a bound stays above it
pub digits_from-above : (most : ℕ) (bytes : List ℕ) (n : ℕ) → most < n → option_and_then (at_most most) (digits_from n bytes) ≡ None
unfolding digits_from
digits_from-above most [] n h = at_most-above most n h
digits_from-above most (b ∷ bytes) n h = go (is_ascii_digit b) (digits_from-above most bytes (10 * n + (b - 48)) (omega arith))
  where
    go : (digit : Bool) → option_and_then (at_most most) (digits_from (10 * n + (b - 48)) bytes) ≡ None
        → option_and_then (at_most most) (if digit then digits_from (10 * n + (b - 48)) bytes else None) ≡ None
    go true rest = rest
    go false rest = refl

-- a number that doesn't begin with a zero that more bytes follow
pub number_in-digits : (bytes : List ℕ) → 0 < length bytes → (get_or bytes 0 0 ≡ 48 → length bytes ≤ 1) → decimal_number bytes ≡ digits_from 0 bytes
number_in-digits [] some alone = absurd (omega (arith, some))
number_in-digits (b ∷ bytes) some alone = go (b == 48) refl
  where
    go : (zero : Bool) → (b == 48) ≡ zero → decimal_number (b ∷ bytes) ≡ digits_from 0 (b ∷ bytes)
    go true e =
        let first : b ≡ 48 = grind (arith, nat_tests) in
        let none : length bytes ≡ 0 = omega (arith, alone first) in
        rw (e, none) refl
    go false e = rw e refl

-- one that does
pub number_in-zero : (bytes : List ℕ) → get_or bytes 0 0 ≡ 48 → 1 < length bytes → decimal_number bytes ≡ None
number_in-zero [] zero more = absurd (omega (arith, more))
number_in-zero (b ∷ bytes) zero more =
    let first : (b == 48) ≡ true = grind (arith, nat_tests, zero) in
    let long : nat_lt 0 (length bytes) ≡ true = grind (arith, nat_tests, more) in
    rw (first, long) refl

-- a number within bounds is one that is at most so much and at least so much
pub between : (lowest highest : ℕ) (word : List ℕ)
    → number_between lowest highest word ≡ option_and_then (λ n. if nat_lt n lowest then None else Some n) (option_and_then (at_most highest) (decimal_number word))
between lowest highest word = go (decimal_number word) where
  go : (o : Option ℕ) → option_and_then (λ n. if nat_lt n lowest then None else at_most highest n) o ≡ option_and_then (λ n. if nat_lt n lowest then None else Some n) (option_and_then (at_most highest) o)
  go None = refl
  go (Some n) = cases (nat_lt n lowest) (nat_le n highest) refl refl where
    cases : (a b : Bool) → nat_lt n lowest ≡ a → nat_le n highest ≡ b
        → (if nat_lt n lowest then None else at_most highest n) ≡ option_and_then (λ n. if nat_lt n lowest then None else Some n) (at_most highest n)
    cases true true ha hb = rw (hb, ha) refl
    cases true false ha hb = rw (hb, ha) refl
    cases false true ha hb = rw (hb, ha) refl
    cases false false ha hb = rw (hb, ha) refl

pub ruleset numbers = (digits_from-digit, digits_from-other, digits_from-end, digits_from-above, at_most-within, number_in-digits, number_in-zero)
