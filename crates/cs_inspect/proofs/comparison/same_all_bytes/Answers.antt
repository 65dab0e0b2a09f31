use Rattle.std.proofs.Common.{◌∙◌}
use Rattle.cs_inspect.proofs.Comparisons.{raw_other, raw_whole_same}
use Rattle.cs_inspect.proofs.comparison.same_all_bytes.Goals as goal

pub returns-then-end-byte_count : goal.returns-then-end-byte_count
returns-then-end-byte_count c =
    raw_other c.args.a.now.objects c.args.o.0 c.args.b.now.objects c.args.p.0 c.byte_count-end.result c.byte_count.result c.byte_count-end.ensures.value c.byte_count.ensures.value c.if-end-byte_count.true

pub returns : goal.returns
returns c =
    c.same_bytes.ensures ∙ raw_whole_same c.args.a.now.objects c.args.o.0 c.args.b.now.objects c.args.p.0 c.byte_count-end.result c.byte_count.result c.byte_count-end.ensures.value c.byte_count.ensures.value c.if-end-byte_count.false
