use Rattle.std.proofs.Common.{arith}
use Rattle.cs_inspect.proofs.Meanings.{context_there, named_reference}
use Rattle.cs_inspect.proofs.line.push_activation.Goals as goal

pub push_slot-requires-clause-within : goal.push_slot-requires-clause-within
push_slot-requires-clause-within c = let t = context_there c.args.heap.now.objects c.args.o.0 c.requires.sound c.requires.object c.requires.context in omega (arith, t.fields)

pub push_slot-requires-clause-named : goal.push_slot-requires-clause-named
push_slot-requires-clause-named c =
    let t = context_there c.args.heap.now.objects c.args.o.0 c.requires.sound c.requires.object c.requires.context in
    named_reference c.args.heap.now.objects _ (t.others 3 (omega arith) (omega (arith, t.fields)))

pub push_slot-requires-2-clause-within : goal.push_slot-requires-2-clause-within
push_slot-requires-2-clause-within c = let t = context_there c.args.heap.now.objects c.args.o.0 c.requires.sound c.requires.object c.requires.context in omega (arith, t.fields)

pub push_slot-requires-2-clause-named : goal.push_slot-requires-2-clause-named
push_slot-requires-2-clause-named c =
    let t = context_there c.args.heap.now.objects c.args.o.0 c.requires.sound c.requires.object c.requires.context in
    named_reference c.args.heap.now.objects _ (t.others 4 (omega arith) (omega (arith, t.fields)))

pub push_slot-requires-3-clause-within : goal.push_slot-requires-3-clause-within
push_slot-requires-3-clause-within c = let t = context_there c.args.heap.now.objects c.args.o.0 c.requires.sound c.requires.object c.requires.context in omega (arith, t.fields)

pub push_slot-requires-3-clause-named : goal.push_slot-requires-3-clause-named
push_slot-requires-3-clause-named c =
    let t = context_there c.args.heap.now.objects c.args.o.0 c.requires.sound c.requires.object c.requires.context in
    named_reference c.args.heap.now.objects _ (t.others 5 (omega arith) (omega (arith, t.fields)))
