-- The rows of the table, by what they compute.
use Rattle.std.proofs.Common.{◌≡◌, ◌≢◌, ◌∙◌, ℕ, Bool, true, false, refl, sym, ap, arith, Option, nat_le, option_and_then}
use Rattle.std.specs.Prelude.{◌==◌, if◌then◌else◌}
use Rattle.std.proofs.lemmas.Bool.Decides.{nat_tests}
use Rattle.cs_model.specs.Ref.{Ref}
use Rattle.cs_model.specs.State.{Kept}
use Rattle.cs_model.specs.Exec.{small_operands}
use Rattle.cs_model.specs.Number.{number_result}
use Rattle.cs_model.specs.PrimAnswer.{answer_if, fail}
use Rattle.cs_model.specs.PrimNumber.{number_prim}
use Rattle.cs_model.specs.PrimTable.{is_listed, kept_prim}
use Rattle.cs_model.proofs.Listing.{other, unlisted_kept}
use Rattle.cs_acts.specs.declared.arithmetic.Operation.{Operation}
use Rattle.cs_acts.specs.declared.arithmetic.Operation.TheVariants.{Add, Subtract, Less, Greater, AtMost, AtLeast, Equal, NotEqual, Multiply, Divide, Modulo, DivideDown, Quotient, BitAnd, BitOr, BitXor, BitShift}
use Rattle.cs_acts.specs.Arithmetic.{primitive_of}
use Rattle.cs_prim_num.specs.Numbers.{computes, is_on_numbers}

-- ---- by number

row_of : (k : Kept) (args : ℕ) (operation : Operation) → number_prim k (primitive_of operation) args ≡ kept_prim (primitive_of operation) args k
unfolding kept_prim
row_of k args Add = refl
row_of k args Subtract = refl
row_of k args Less = refl
row_of k args Greater = refl
row_of k args AtMost = refl
row_of k args AtLeast = refl
row_of k args Equal = refl
row_of k args NotEqual = refl
row_of k args Multiply = refl
row_of k args Divide = refl
row_of k args Modulo = refl
row_of k args DivideDown = refl
row_of k args Quotient = refl
row_of k args BitAnd = refl
row_of k args BitOr = refl
row_of k args BitXor = refl
row_of k args BitShift = refl

pub computing_row : (k : Kept) (number args : ℕ) (operation : Operation) → primitive_of operation ≡ number → number_prim k (primitive_of operation) args ≡ kept_prim number args k
computing_row k number args operation h = row_of k args operation ∙ ap (λ n. kept_prim n args k) h

-- the others lie between 18 and 60, so they aren't listed
pub failing_row : (k : Kept) (number args : ℕ) → computes number ≡ false → is_on_numbers number ≡ true → kept_prim number args k ≡ fail k
failing_row k number args none h = unlisted_kept number args k unlisted
  where
    low : nat_le number 18 ≡ false
    low = grind (arith, nat_tests, none, h)

    high : nat_le 60 number ≡ false
    high = grind (arith, nat_tests, none, h)

    below : (m : ℕ) → nat_le 60 m ≡ true → nat_le m number ≡ false
    below m e = grind (arith, nat_tests, high, e)

    above : (n : ℕ) → nat_le 60 n ≡ true → (number == n) ≡ false
    above n e = other (λ m. nat_le 60 m) number n high e

    not_18 : (number == 18) ≡ false
    not_18 = other (λ m. nat_le m 18) number 18 low refl

    unlisted : is_listed number ≡ false
    unlisted =
        rw (
          none,
          not_18,
          below 60 refl,
          below 68 refl,
          below 73 refl,
          below 77 refl,
          above 105 refl,
          above 110 refl,
          above 111 refl,
          above 148 refl,
          above 163 refl,
          above 164 refl,
          above 175 refl,
          below 256 refl,
          above 83 refl,
          above 84 refl,
          above 188 refl,
          below 85 refl,
          above 167 refl,
          below 195 refl,
          below 201 refl,
          above 221 refl,
          above 222 refl,
          below 210 refl,
          above 97 refl,
          above 113 refl,
          above 135 refl,
          above 136 refl,
          above 900 refl,
          above 901 refl,
        ) refl

-- ---- by what is computed

abbrev result_at : Kept → ℕ → Option Ref
result_at k number = option_and_then (λ p. number_result k number p.0 p.1) (small_operands k)

pub wrong_count : (k : Kept) (number args : ℕ) → args ≢ 1 → number_prim k number args ≡ fail k
unfolding number_prim
wrong_count k number args h = ap (λ (b : Bool). if b then answer_if k 1 (result_at k number) else fail k) counts
  where
    counts : (1 == args) ≡ false
    counts = grind (arith, nat_tests, h)

counted : (k : Kept) (number : ℕ) → number_prim k number 1 ≡ answer_if k 1 (result_at k number)
unfolding number_prim
counted k number = refl

pub computed_row : (k : Kept) (number args : ℕ) (o : Option Ref) → args ≡ 1 → o ≡ result_at k number → number_prim k number args ≡ answer_if k 1 o
computed_row k number args o one is = ap (number_prim k number) one ∙ counted k number ∙ ap (answer_if k 1) (sym is)
