use Rattle.cs_build.proofs.Judging.{AreJudged}
use Rattle.cs_build.proofs.judge.judge_lines.Given as goal

abbrev pub invariant-loop-i : goal.invariant-loop-i
invariant-loop-i l = AreJudged l.lines l.i l.tables
