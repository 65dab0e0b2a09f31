use Rattle.std.proofs.Common.{length, ◌-◌, ◌≡◌, ◌≤◌, ◌++◌, map, take, drop}
use Rattle.std.specs.List.{before_first}
use Rattle.cs_model.specs.BuilderFault.{is_end_line}
use Rattle.cs_build.specs.Meaning.{form_by}
use Rattle.cs_build.proofs.method.body_of.Given as goal

abbrev pub invariant-loop-end : goal.invariant-loop-end
invariant-loop-end l = (l.end ≤ length l.forms)
    × (before_first is_end_line (map form_by l.forms) ≡ map form_by (take l.end l.forms) ++ before_first is_end_line (map form_by (drop l.end l.forms)))

abbrev pub decreases-loop-end : goal.decreases-loop-end
decreases-loop-end l = length l.forms - l.end
