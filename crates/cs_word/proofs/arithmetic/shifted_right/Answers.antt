use Rattle.std.proofs.Common.{◌≡◌, ap, ◌∙◌, ◌^◌, ◌≤◌, arith, to_z, of_z, w32, FitsSigned}
use Rattle.std.proofs.lemmas.Int.{ints, to_z-of_z}
use Rattle.std.specs.Int.Signed.{shr_z, mag_shr, mag}
use Rattle.cs_word.proofs.Shifts.{shr-capped}
use Rattle.cs_word.proofs.arithmetic.shifted_right.Goals as goal

pub returns : goal.returns
returns c =
    let value : to_z w32 (of_z w32 c.args.a) ≡ c.args.a = omega (arith, ints) in
    let smaller : mag (shr_z c.args.a (2 ^ c.min.result)) ≤ mag c.args.a = mag_shr c.args.a (2 ^ c.min.result) in
    let fits : FitsSigned w32 (shr_z c.args.a (2 ^ c.min.result)) = record { sfits = omega (arith, c.ranges.a.sfits) } in
    ap (λ z. to_z w32 (of_z w32 (shr_z z (2 ^ c.min.result)))) value
    ∙ to_z-of_z w32 (shr_z c.args.a (2 ^ c.min.result)) fits
    ∙ shr-capped c.args.a c.min.result c.args.amount c.requires (omega arith)
