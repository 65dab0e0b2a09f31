use Rattle.std.proofs.Common.{arith, ap, ap₂, sym, ◌∙◌, ◌≡◌, to_z, of_z, w32}
use Rattle.std.proofs.lemmas.Int.{ints}
use Rattle.cs_model.specs.Number.{computation}
use Rattle.cs_acts.specs.Arithmetic.{primitive_of}
use Rattle.cs_acts.proofs.Bits.{and-small, or-small, xor-small}
use Rattle.cs_acts.proofs.arithmetic.compute.Goals as goal

pub returns-in-Subtract-clause-value : goal.returns-in-Subtract-clause-value
returns-in-Subtract-clause-value c =
    let left : to_z w32 (of_z w32 c.args.a) ≡ c.args.a = omega (arith, ints, c.requires.a_small.0, c.requires.a_small.1) in
    let right : to_z w32 (of_z w32 c.args.b) ≡ c.args.b = omega (arith, ints, c.requires.b_small.0, c.requires.b_small.1) in
    c.sub.ensures ∙ ap₂ (computation 2) left right ∙ ap (λ o. computation (primitive_of o) c.args.a c.args.b) (sym c.in-Subtract.is)

pub returns-in-Multiply-clause-value : goal.returns-in-Multiply-clause-value
returns-in-Multiply-clause-value c =
    let left : to_z w32 (of_z w32 c.args.a) ≡ c.args.a = omega (arith, ints, c.requires.a_small.0, c.requires.a_small.1) in
    let right : to_z w32 (of_z w32 c.args.b) ≡ c.args.b = omega (arith, ints, c.requires.b_small.0, c.requires.b_small.1) in
    c.mul.ensures ∙ ap₂ (computation 9) left right ∙ ap (λ o. computation (primitive_of o) c.args.a c.args.b) (sym c.in-Multiply.is)

pub returns-in-Divide-clause-value : goal.returns-in-Divide-clause-value
returns-in-Divide-clause-value c =
    let left : to_z w32 (of_z w32 c.args.a) ≡ c.args.a = omega (arith, ints, c.requires.a_small.0, c.requires.a_small.1) in
    let right : to_z w32 (of_z w32 c.args.b) ≡ c.args.b = omega (arith, ints, c.requires.b_small.0, c.requires.b_small.1) in
    c.exact_quotient.ensures ∙ ap₂ (computation 10) left right ∙ ap (λ o. computation (primitive_of o) c.args.a c.args.b) (sym c.in-Divide.is)

pub returns-in-Modulo-clause-value : goal.returns-in-Modulo-clause-value
returns-in-Modulo-clause-value c =
    let left : to_z w32 (of_z w32 c.args.a) ≡ c.args.a = omega (arith, ints, c.requires.a_small.0, c.requires.a_small.1) in
    let right : to_z w32 (of_z w32 c.args.b) ≡ c.args.b = omega (arith, ints, c.requires.b_small.0, c.requires.b_small.1) in
    c.rem.ensures ∙ ap₂ (computation 11) left right ∙ ap (λ o. computation (primitive_of o) c.args.a c.args.b) (sym c.in-Modulo.is)

pub returns-in-DivideDown-clause-value : goal.returns-in-DivideDown-clause-value
returns-in-DivideDown-clause-value c =
    let left : to_z w32 (of_z w32 c.args.a) ≡ c.args.a = omega (arith, ints, c.requires.a_small.0, c.requires.a_small.1) in
    let right : to_z w32 (of_z w32 c.args.b) ≡ c.args.b = omega (arith, ints, c.requires.b_small.0, c.requires.b_small.1) in
    c.div.ensures ∙ ap₂ (computation 12) left right ∙ ap (λ o. computation (primitive_of o) c.args.a c.args.b) (sym c.in-DivideDown.is)

pub returns-in-Quotient-clause-value : goal.returns-in-Quotient-clause-value
returns-in-Quotient-clause-value c =
    let left : to_z w32 (of_z w32 c.args.a) ≡ c.args.a = omega (arith, ints, c.requires.a_small.0, c.requires.a_small.1) in
    let right : to_z w32 (of_z w32 c.args.b) ≡ c.args.b = omega (arith, ints, c.requires.b_small.0, c.requires.b_small.1) in
    c.quo.ensures ∙ ap₂ (computation 13) left right ∙ ap (λ o. computation (primitive_of o) c.args.a c.args.b) (sym c.in-Quotient.is)

pub returns-in-BitShift-clause-value : goal.returns-in-BitShift-clause-value
returns-in-BitShift-clause-value c =
    let left : to_z w32 (of_z w32 c.args.a) ≡ c.args.a = omega (arith, ints, c.requires.a_small.0, c.requires.a_small.1) in
    let right : to_z w32 (of_z w32 c.args.b) ≡ c.args.b = omega (arith, ints, c.requires.b_small.0, c.requires.b_small.1) in
    c.shift.ensures ∙ ap₂ (computation 17) left right ∙ ap (λ o. computation (primitive_of o) c.args.a c.args.b) (sym c.in-BitShift.is)

pub returns-in-BitAnd-clause-small : goal.returns-in-BitAnd-clause-small
returns-in-BitAnd-clause-small c = and-small c.args.a c.args.b c.requires.a_small c.requires.b_small

pub returns-in-BitOr-clause-small : goal.returns-in-BitOr-clause-small
returns-in-BitOr-clause-small c = or-small c.args.a c.args.b c.requires.a_small c.requires.b_small

pub returns-in-BitXor-clause-small : goal.returns-in-BitXor-clause-small
returns-in-BitXor-clause-small c = xor-small c.args.a c.args.b c.requires.a_small c.requires.b_small
