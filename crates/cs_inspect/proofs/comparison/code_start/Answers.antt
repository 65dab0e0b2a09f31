use Rattle.std.proofs.Common.{arith, ap}
use Rattle.cs_model.specs.Obj.{literal_count}
use Rattle.cs_inspect.proofs.Comparisons.{code_within, header_word}
use Rattle.cs_inspect.proofs.Meanings.{method_there}
use Rattle.cs_inspect.proofs.comparison.code_start.Goals as goal

pub method_header-requires : goal.method_header-requires
method_header-requires c =
    let t = method_there c.args.heap.now.objects c.args.o.0 c.requires.sound c.requires.object c.requires.method in omega (arith, t.slots)

pub returns : goal.returns
returns c =
    let same = ap literal_count (header_word c.args.heap.now.objects c.args.o.0 c.method_header.result.0 c.method_header.ensures) in
    let t = method_there c.args.heap.now.objects c.args.o.0 c.requires.sound c.requires.object c.requires.method in
    record { value = omega (arith, same, c.literals.ensures.value); within = omega (arith, same, c.literals.ensures.value, code_within c.args.heap.now.objects c.args.o.0 t) }
