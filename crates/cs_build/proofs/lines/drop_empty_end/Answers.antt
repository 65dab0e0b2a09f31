use Rattle.std.proofs.Common.{◌∙◌, sym}
use Rattle.cs_build.proofs.LineLemmas.{lines_in-keep, lines_in-cut}
use Rattle.cs_build.proofs.lines.drop_empty_end.Goals as goal

pub returns-then-is_empty : goal.returns-then-is_empty
returns-then-is_empty c =
    lines_in-cut _ _ _ _ c.args.parts.now.ok.0 c.pop-empty.ensures.rest
    (rw (c.in-Some.is, c.deref.ensures.value) at c.last.ensures.value) (sym c.is_empty.ensures ∙ c.if-is_empty.true)

pub returns-else-is_empty : goal.returns-else-is_empty
returns-else-is_empty c =
    lines_in-keep _ _ (rw (c.in-Some.is, c.deref.ensures.value) at c.last.ensures.value) (sym c.is_empty.ensures ∙ c.if-is_empty.false)
