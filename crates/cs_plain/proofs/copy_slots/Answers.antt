use Rattle.std.proofs.Common.{ap, arith, refl, ◌∙◌}
use Rattle.cs_plain.specs.Storing.{values_copied}
use Rattle.cs_plain.proofs.Copying.{copied-more, count-in}
use Rattle.cs_plain.proofs.copy_slots.Goals as goal

pub loop-i-init : goal.loop-i-init
unfolding values_copied
loop-i-init c = refl

pub overflow_add-at : goal.overflow_add-at
overflow_add-at c = omega (arith, c.requires.few, c.loop-i-test.true)

pub slot-value-requires : goal.slot-value-requires
slot-value-requires c =
    omega (arith, c.requires.from (omega (arith, c.loop-i-test.true)), c.loop-i-test.true, count-in c.loop-i.heap c.args.heap.now c.args.from.0 c.args.at c.args.to.0 c.args.start c.loop-i.i c.args.from.0 c.loop-i.invariant)

pub set_slot-requires : goal.set_slot-requires
set_slot-requires c =
    omega (arith, c.requires.to, c.loop-i-test.true, count-in c.loop-i.heap c.args.heap.now c.args.from.0 c.args.at c.args.to.0 c.args.start c.loop-i.i c.args.to.0 c.loop-i.invariant)

pub loop-i-preserved : goal.loop-i-preserved
loop-i-preserved c =
    copied-more c.args.heap.now c.loop-i.heap c.set_slot.new.self c.args.from.0 c.args.at c.args.to.0 c.args.start c.loop-i.i c.slot-value.result.0 c.loop-i.invariant c.slot-value.ensures c.requires.unwatched c.set_slot.ensures

pub returns : goal.returns
returns c =
    c.loop-i.invariant
    ∙ ap (λ n. record c.args.heap.now { objects = values_copied c.args.heap.now.objects c.args.from.0 c.args.at c.args.to.0 c.args.start n }) (omega arith)
