use Rattle.std.proofs.Common.{◌≡◌, ◌∙◌, ◌+◌, ◌-◌, ap₂, arith, refl}
use Rattle.cs_prim_obj.specs.Elements.{element_number}
use Rattle.cs_prim_obj.proofs.Indexing.{number_step}
use Rattle.cs_prim_obj.proofs.Sized.{number_fits, number_grows}
use Rattle.cs_prim_obj.proofs.elements.number.Goals as goal

pub loop-i-init : goal.loop-i-init
unfolding element_number
loop-i-init c = (refl, omega arith)

pub overflow_add-place-in-loop-i : goal.overflow_add-place-in-loop-i
overflow_add-place-in-loop-i c = omega (arith, c.requires.fits)

pub overflow_mul-number : goal.overflow_mul-number
overflow_mul-number c = omega (arith, number_fits c.loop-i.i c.loop-i.number (omega (arith, c.loop-i-test.true, c.requires.most)) c.loop-i.invariant.1)

pub overflow_add-number : goal.overflow_add-number
overflow_add-number c = omega (arith, number_fits c.loop-i.i c.loop-i.number (omega (arith, c.loop-i-test.true, c.requires.most)) c.loop-i.invariant.1, c.from.ensures, c.byte.type_inv)

pub loop-i-preserved : goal.loop-i-preserved
loop-i-preserved c = (
  number_step c.args.heap.now.objects c.args.o.0 c.args.at c.args.size c.loop-i.i c.loop-i.number c.from.result c.loop-i-test.true c.loop-i.invariant.0 (c.from.ensures ∙ c.byte.ensures),
  number_grows c.loop-i.i c.loop-i.number c.from.result (omega (arith, c.loop-i-test.true, c.requires.most)) c.loop-i.invariant.1 (omega (arith, c.from.ensures, c.byte.type_inv)),
)

pub returns : goal.returns
returns c =
    let end : c.loop-i.i ≡ c.args.size = omega (arith, c.loop-i-test.false, c.loop-i.auto.i-end) in
    let start : c.args.at + (c.args.size - c.loop-i.i) ≡ c.args.at = omega (arith, end) in
    c.loop-i.invariant.0 ∙ ap₂ (element_number c.args.heap.now.objects c.args.o.0) start end
