use Rattle.std.proofs.Common.{arith}
use Rattle.cs_inspect.proofs.Meanings.{context_there}
use Rattle.cs_inspect.proofs.line.push_place.Goals as goal

pub push_slot-requires-clause-within : goal.push_slot-requires-clause-within
push_slot-requires-clause-within c = let t = context_there c.args.heap.now.objects c.args.o.0 c.requires.sound c.requires.object c.requires.context in omega (arith, t.fields)

pub push_slot-requires-clause-named : goal.push_slot-requires-clause-named
push_slot-requires-clause-named c = (context_there c.args.heap.now.objects c.args.o.0 c.requires.sound c.requires.object c.requires.context).sender

pub slot-requires : goal.slot-requires
slot-requires c = let t = context_there c.args.heap.now.objects c.args.o.0 c.requires.sound c.requires.object c.requires.context in omega (arith, t.fields)
