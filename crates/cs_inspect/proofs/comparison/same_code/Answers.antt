use Rattle.std.proofs.Common.{◌∙◌}
use Rattle.cs_inspect.proofs.Comparisons.{code_other, code_same}
use Rattle.cs_inspect.proofs.Meanings.{method_there}
use Rattle.cs_inspect.proofs.comparison.same_code.Goals as goal

pub returns-then-end-code_end : goal.returns-then-end-code_end
returns-then-end-code_end c =
    code_other c.args.a.now.objects c.args.o.0 c.args.b.now.objects c.args.p.0 c.code_end-end.result c.code_end.result (method_there c.args.a.now.objects c.args.o.0 c.requires.first c.requires.object_first c.requires.method_first) (method_there c.args.b.now.objects c.args.p.0 c.requires.second c.requires.object_second c.requires.method_second) c.requires.header c.code_end-end.ensures.value c.code_end.ensures.value c.if-end-code_end.true

pub returns : goal.returns
returns c =
    c.same_bytes.ensures ∙ code_same c.args.a.now.objects c.args.o.0 c.args.b.now.objects c.args.p.0 c.code_start.result c.code_end-end.result c.code_end.result c.code_start.ensures.value c.requires.header c.code_end-end.ensures.value c.code_end.ensures.value c.if-end-code_end.false
