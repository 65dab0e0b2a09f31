use Rattle.std.proofs.Common.{◌≡◌, pos, sym, ap, ap₂, ◌∙◌, ◌*ℤ◌, ◌^◌, ◌<◌, ◌≤◌, arith, to_z, of_z, w32, w64, FitsSigned}
use Rattle.std.proofs.lemmas.Int.{ints, to_z-of_z, fits_signed_mul}
use Rattle.std.proofs.Math.Nat.{pow-le-pow_right}
use Rattle.cs_model.specs.Arithmetic.{if_small}
use Rattle.cs_word.proofs.Shifts.{if_small-large, magnitude}
use Rattle.cs_word.proofs.arithmetic.shifted_left.Goals as goal

pub returns-then-amount-gt30 : goal.returns-then-amount-gt30
returns-then-amount-gt30 c =
    sym (if_small-large c.args.a c.args.amount (λ zero. c.if-a-eq0.false (ap (of_z w32) zero)) c.if-amount-gt30.true)

pub returns-else-amount-gt30 : goal.returns-else-amount-gt30
returns-else-amount-gt30 c =
    let power = pos (2 ^ c.args.amount) in
    let two : 0 < 2 = omega arith in
    let bound : 2 ^ c.args.amount ≤ 2 ^ 30 = pow-le-pow_right two c.if-amount-gt30.false in
    let left : to_z w64 (of_z w64 c.from.result) ≡ c.args.a = omega (arith, ints) in
    let right : to_z w64 (of_z w64 c.from-else-amount-gt30.result) ≡ pos (2 ^ c.args.amount) = omega (arith, ints, bound) in
    let fits : FitsSigned w64 (c.args.a *ℤ power) =
    fits_signed_mul w64 c.args.a power (2 ^ 30) (2 ^ 30) (magnitude c.args.a c.requires) bound (omega arith) in
    c.narrowed.ensures
    ∙ ap if_small (ap₂ (λ x y. to_z w64 (of_z w64 (x *ℤ y))) left right ∙ to_z-of_z w64 (c.args.a *ℤ power) fits)
