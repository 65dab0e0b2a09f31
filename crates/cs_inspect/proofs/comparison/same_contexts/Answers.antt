use Rattle.std.proofs.Common.{arith}
use Rattle.cs_inspect.proofs.Meanings.{context_there}
use Rattle.cs_inspect.proofs.comparison.same_contexts.Goals as goal

pub same_places-requires-clause-first : goal.same_places-requires-clause-first
same_places-requires-clause-first c =
    let t = context_there c.args.a.now.image.now.heap.objects c.args.o.0 c.requires.first c.requires.object_first c.requires.context_first in omega (arith, t.fields)

pub same_places-requires-clause-second : goal.same_places-requires-clause-second
same_places-requires-clause-second c =
    let t = context_there c.args.b.now.image.now.heap.objects c.args.p.0 c.requires.second c.requires.object_second c.requires.context_second in omega (arith, t.fields)

pub same_activations-requires-clause-first : goal.same_activations-requires-clause-first
same_activations-requires-clause-first c =
    let t = context_there c.args.a.now.image.now.heap.objects c.args.o.0 c.requires.first c.requires.object_first c.requires.context_first in omega (arith, t.fields)

pub same_activations-requires-clause-second : goal.same_activations-requires-clause-second
same_activations-requires-clause-second c =
    let t = context_there c.args.b.now.image.now.heap.objects c.args.p.0 c.requires.second c.requires.object_second c.requires.context_second in omega (arith, t.fields)

pub same_stacks-requires-clause-first : goal.same_stacks-requires-clause-first
same_stacks-requires-clause-first c =
    let t = context_there c.args.a.now.image.now.heap.objects c.args.o.0 c.requires.first c.requires.object_first c.requires.context_first in omega (arith, t.depth)

pub same_stacks-requires-clause-second : goal.same_stacks-requires-clause-second
same_stacks-requires-clause-second c =
    let t = context_there c.args.b.now.image.now.heap.objects c.args.p.0 c.requires.second c.requires.object_second c.requires.context_second in omega (arith, t.depth)
