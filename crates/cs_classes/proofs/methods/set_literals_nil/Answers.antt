use Rattle.std.proofs.Common.{ap, arith, refl, ◌∙◌}
use Rattle.cs_classes.specs.Methods.{nil_literals}
use Rattle.cs_classes.proofs.Coding.{count-in_nil, nil-more}
use Rattle.cs_classes.proofs.methods.set_literals_nil.Goals as goal

pub loop-i-init : goal.loop-i-init
unfolding nil_literals
loop-i-init c = refl

pub set_slot-requires : goal.set_slot-requires
set_slot-requires c = omega (arith, c.requires.slots, c.loop-i-test.true, count-in_nil c.loop-i.heap c.args.heap.now c.args.method.0 c.loop-i.i c.args.method.0 c.loop-i.invariant)

pub loop-i-preserved : goal.loop-i-preserved
loop-i-preserved c = nil-more c.args.heap.now c.loop-i.heap c.set_slot.new.self c.args.method.0 c.loop-i.i c.loop-i.invariant c.requires.unwatched c.set_slot.ensures

pub returns : goal.returns
returns c = c.loop-i.invariant ∙ ap (λ n. record c.args.heap.now { objects = nil_literals c.args.heap.now.objects c.args.method.0 n }) (omega arith)
