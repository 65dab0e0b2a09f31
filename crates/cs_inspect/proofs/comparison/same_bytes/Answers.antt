use Rattle.std.proofs.Common.{arith, ◌∙◌}
use Rattle.cs_inspect.proofs.Comparisons.{bytes_end, bytes_more, bytes_stop}
use Rattle.cs_inspect.proofs.comparison.same_bytes.Goals as goal

pub loop-i-preserved : goal.loop-i-preserved
loop-i-preserved c =
    bytes_more c.args.a.now.objects c.args.o.0 c.args.b.now.objects c.args.p.0 c.loop-i.i c.args.end c.byte.result c.byte-in-loop-i.result (omega arith) c.requires.first c.requires.second c.byte.ensures c.byte-in-loop-i.ensures c.if-byte.false
    ∙ c.loop-i.invariant

pub returns-then-byte : goal.returns-then-byte
returns-then-byte c =
    bytes_stop c.args.a.now.objects c.args.o.0 c.args.b.now.objects c.args.p.0 c.loop-i.i c.args.end c.byte.result c.byte-in-loop-i.result (omega arith) c.requires.first c.requires.second c.byte.ensures c.byte-in-loop-i.ensures c.if-byte.true
    ∙ c.loop-i.invariant

pub returns : goal.returns
returns c =
    bytes_end c.args.a.now.objects c.args.o.0 c.args.b.now.objects c.args.p.0 c.loop-i.i c.args.end (omega arith) ∙ c.loop-i.invariant
