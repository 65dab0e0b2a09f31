use Rattle.std.proofs.Common.{◌∙◌, arith, ap}
use Rattle.cs_model.specs.Obj.{literal_count}
use Rattle.cs_inspect.proofs.Comparisons.{literals_same}
use Rattle.cs_inspect.proofs.Meanings.{method_there}
use Rattle.cs_inspect.proofs.comparison.same_literals.Goals as goal

pub same_slots-requires-clause-second : goal.same_slots-requires-clause-second
same_slots-requires-clause-second c =
    let t = method_there c.args.b.now.image.now.heap.objects c.args.p.0 c.requires.second c.requires.object_second c.requires.method_second in
    omega (arith, t.slots, c.code_start.ensures.value, ap literal_count c.requires.header)

pub returns : goal.returns
returns c =
    c.same_slots.ensures ∙ literals_same c.args.a.now.addresses.now.keys c.args.a.now.image.now.heap.objects c.args.o.0 c.args.b.now.addresses.now.keys c.args.b.now.image.now.heap.objects c.args.p.0 c.code_start.result c.code_start.ensures.value c.requires.header
