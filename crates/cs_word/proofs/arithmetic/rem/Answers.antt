use Rattle.std.proofs.Common.{◌≡◌, pos, to_z, of_z, w32, w64, ap, ap₂, sym, ◌∙◌, arith, ◌-ℤ◌}
use Rattle.std.specs.Prelude.{neg_ℤ}
use Rattle.std.specs.Int.{int_rem_euclid}
use Rattle.std.proofs.lemmas.Int.{ints}
use Rattle.cs_model.specs.Arithmetic.{if_small}
use Rattle.cs_word.proofs.Floor.{floor_remainder_neg}
use Rattle.cs_word.proofs.arithmetic.rem.Goals as goal

pub returns-else-b-gt0 : goal.returns-else-b-gt0
returns-else-b-gt0 c =
    let dividend : to_z w32 (of_z w32 (pos 0 -ℤ to_z w32 (of_z w32 c.args.a))) ≡ neg_ℤ c.args.a = omega (arith, ints) in
    let divisor : to_z w32 (of_z w32 (pos 0 -ℤ to_z w32 (of_z w32 c.args.b))) ≡ neg_ℤ c.args.b = omega (arith, ints) in
    let wide : to_z w64 (of_z w64 c.from-else-b-gt0.result) ≡ neg_ℤ c.rem_euclid-else-b-gt0.result = omega (arith, ints) in
    c.narrowed-else-b-gt0.ensures
    ∙ ap if_small (wide ∙ ap neg_ℤ (c.rem_euclid-else-b-gt0.ensures.value ∙ ap₂ int_rem_euclid dividend divisor))
    ∙ sym (floor_remainder_neg c.args.a c.args.b (omega (arith, ints)))
