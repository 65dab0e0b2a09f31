use Rattle.std.proofs.Common.{arith, ap, ap₂, sym, ◌∙◌, ◌≡◌, Some, option_map, to_z, of_z, w32}
use Rattle.std.proofs.lemmas.Int.{ints}
use Rattle.cs_model.specs.Ref as ref
use Rattle.cs_model.specs.Number.{computation}
use Rattle.cs_acts.specs.Arithmetic.{primitive_of}
use Rattle.cs_acts.proofs.Bits.{number-computed}
use Rattle.cs_acts.proofs.arithmetic.number_result.Goals as goal

pub returns-in-Some-compute : goal.returns-in-Some-compute
returns-in-Some-compute g c =
    let word = c.small_word.ensures (g.W.World.stored c.args.w.now) in
    let value : to_z w32 (of_z w32 c.in-Some-compute.value) ≡ c.in-Some-compute.value = omega (arith, ints, c.in-Some-compute.ensures.small.0, c.in-Some-compute.ensures.small.1) in
    let left : to_z w32 (of_z w32 c.args.a) ≡ c.args.a = omega (arith, ints, c.requires.a_small.0, c.requires.a_small.1) in
    let right : to_z w32 (of_z w32 c.args.b) ≡ c.args.b = omega (arith, ints, c.requires.b_small.0, c.requires.b_small.1) in
    record {
      sound = word.sound;
      is = ap (λ r. Some r) (word.is ∙ ap (λ z. ref.Small z) value)
          ∙ ap (option_map (λ z. ref.Small z)) (c.in-Some-compute.ensures.value ∙ ap₂ (computation (primitive_of c.args.operation)) left right)
          ∙ sym (number-computed (g.W.World.view c.args.w.now) (primitive_of c.args.operation) c.args.a c.args.b _ (sym c.in_default.is ∙ c.compare.ensures));
    }
