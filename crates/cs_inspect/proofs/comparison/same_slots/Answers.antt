use Rattle.std.proofs.Common.{arith, ◌∙◌}
use Rattle.cs_inspect.proofs.Comparisons.{slots_end, slots_more, slots_stop}
use Rattle.cs_inspect.proofs.comparison.same_slots.Goals as goal

pub loop-i-preserved : goal.loop-i-preserved
loop-i-preserved c =
    slots_more c.args.a.now.addresses.now.keys c.args.a.now.image.now.heap.objects c.args.o.0 c.args.b.now.addresses.now.keys c.args.b.now.image.now.heap.objects c.args.p.0 c.loop-i.i c.args.end c.same_slot-same.result (omega arith) c.requires.first c.requires.second c.same_slot-same.ensures c.if-not-same.false
    ∙ c.loop-i.invariant

pub returns-then-not-same : goal.returns-then-not-same
returns-then-not-same c =
    slots_stop c.args.a.now.addresses.now.keys c.args.a.now.image.now.heap.objects c.args.o.0 c.args.b.now.addresses.now.keys c.args.b.now.image.now.heap.objects c.args.p.0 c.loop-i.i c.args.end c.same_slot-same.result (omega arith) c.requires.first c.requires.second c.same_slot-same.ensures c.if-not-same.true
    ∙ c.loop-i.invariant

pub returns : goal.returns
returns c =
    slots_end c.args.a.now.addresses.now.keys c.args.a.now.image.now.heap.objects c.args.o.0 c.args.b.now.addresses.now.keys c.args.b.now.image.now.heap.objects c.args.p.0 c.loop-i.i c.args.end (omega arith) ∙ c.loop-i.invariant
