use Rattle.std.proofs.Common.{arith, drop}
use Rattle.cs_heap.specs.Object.{words_at}
use Rattle.cs_inspect.proofs.Reaching.{none_reached, slot_reached}
use Rattle.cs_inspect.proofs.numbering.reach_slots.Goals as goal

pub loop-i-init : goal.loop-i-init
loop-i-init c = none_reached c.args.heap.now.objects c.args.from (drop c.args.from (words_at c.args.heap.now.objects c.args.o.0)) c.args.addresses.now.keys

pub loop-i-preserved : goal.loop-i-preserved
loop-i-preserved c = slot_reached c.args.heap.now.objects c.args.o.0 c.args.from c.loop-i.i c.slot.result.0 _ _ _ (omega arith) (omega (arith, c.requires.within)) c.slot.ensures c.loop-i.invariant c.in_ok-reach.ensures
