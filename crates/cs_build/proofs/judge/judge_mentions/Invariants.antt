use Rattle.std.proofs.Common.{◌≡◌, drop}
use Rattle.cs_model.specs.BuilderFault.{mention_fault}
use Rattle.cs_build.specs.Lines.{forms_by, lines_by}
use Rattle.cs_build.proofs.judge.judge_mentions.Given as goal

abbrev pub invariant-loop-line : goal.invariant-loop-line
invariant-loop-line l =
    mention_fault (forms_by l.lines) (lines_by l.lines) ≡ mention_fault (forms_by l.lines) (lines_by (drop l.line-index l.lines))
