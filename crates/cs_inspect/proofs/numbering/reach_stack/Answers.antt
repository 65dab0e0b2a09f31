use Rattle.std.proofs.Common.{arith}
use Rattle.cs_heap.specs.Object.{words_at}
use Rattle.cs_classes.specs.Meaning.{depth_in}
use Rattle.cs_inspect.proofs.Meanings.{context_there, depth_read}
use Rattle.cs_inspect.proofs.Reaching.{ok_is, stack_reached}
use Rattle.cs_inspect.proofs.numbering.reach_stack.Goals as goal

pub slot-requires : goal.slot-requires
slot-requires c = let t = context_there c.args.heap.now.objects c.args.o.0 c.requires.sound c.requires.object c.requires.context in omega (arith, t.fields)

pub reach_slots-requires-clause-within : goal.reach_slots-requires-clause-within
reach_slots-requires-clause-within c =
    let t = context_there c.args.heap.now.objects c.args.o.0 c.requires.sound c.requires.object c.requires.context in
    omega (arith, t.depth, depth_read c.args.heap.now.objects c.args.o.0 c.unwrap_or-depth.result c.slot.result.0 c.natural.result c.unwrap_or-depth.ensures c.natural.ensures.value c.slot.ensures)

pub returns : goal.returns
returns c =
    ok_is _ _ _ _ c.reach_slots.ensures
    (stack_reached c.args.heap.now.objects c.args.addresses.now.keys (words_at c.args.heap.now.objects c.args.o.0) (depth_in (words_at c.args.heap.now.objects c.args.o.0)) c.unwrap_or-depth.result (depth_read c.args.heap.now.objects c.args.o.0 c.unwrap_or-depth.result c.slot.result.0 c.natural.result c.unwrap_or-depth.ensures c.natural.ensures.value c.slot.ensures))
