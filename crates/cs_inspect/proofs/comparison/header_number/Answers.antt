use Rattle.std.proofs.Common.{arith}
use Rattle.cs_inspect.proofs.Comparisons.{header_word}
use Rattle.cs_inspect.proofs.Meanings.{method_there}
use Rattle.cs_inspect.proofs.comparison.header_number.Goals as goal

pub method_header-requires : goal.method_header-requires
method_header-requires c =
    let t = method_there c.args.heap.now.objects c.args.o.0 c.requires.sound c.requires.object c.requires.method in omega (arith, t.slots)

pub returns : goal.returns
returns c =
    header_word c.args.heap.now.objects c.args.o.0 c.method_header.result.0 c.method_header.ensures
