use Rattle.std.proofs.Common.{◌∙◌, arith}
use Rattle.cs_inspect.proofs.Comparisons.{stacks_other, stacks_same}
use Rattle.cs_inspect.proofs.comparison.same_stacks.Goals as goal

pub overflow_add-held : goal.overflow_add-held
overflow_add-held c =
    omega (arith, c.requires.first, c.requires.fits, c.depth-held.ensures)

pub same_slots-requires-clause-first : goal.same_slots-requires-clause-first
same_slots-requires-clause-first c =
    omega (arith, c.requires.first, c.depth-held.ensures)

pub same_slots-requires-clause-second : goal.same_slots-requires-clause-second
same_slots-requires-clause-second c =
    omega (arith, c.requires.second, c.depth.ensures, c.if-held-depth.false)

pub returns-then-held-depth : goal.returns-then-held-depth
returns-then-held-depth c =
    stacks_other c.args.a.now.addresses.now.keys c.args.a.now.image.now.heap.objects c.args.o.0 c.args.b.now.addresses.now.keys c.args.b.now.image.now.heap.objects c.args.p.0 c.depth-held.result c.depth.result c.requires.first c.requires.second c.depth-held.ensures c.depth.ensures c.if-held-depth.true

pub returns : goal.returns
returns c =
    c.same_slots.ensures ∙ stacks_same c.args.a.now.addresses.now.keys c.args.a.now.image.now.heap.objects c.args.o.0 c.args.b.now.addresses.now.keys c.args.b.now.image.now.heap.objects c.args.p.0 c.depth-held.result c.depth.result c.depth-held.ensures c.depth.ensures c.if-held-depth.false
