use Rattle.std.proofs.Common.{map, drop}
use Rattle.cs_build.specs.Meaning.{form_by}
use Rattle.cs_build.specs.Counted.{Counts}
use Rattle.cs_build.proofs.numbering.births_of.Given as goal

abbrev pub invariant-loop-i : goal.invariant-loop-i
invariant-loop-i l = Counts l.births (map form_by l.forms) (map form_by (drop l.i l.forms))
