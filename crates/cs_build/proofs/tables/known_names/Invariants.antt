use Rattle.std.proofs.Common.{◌≤◌, drop}
use Rattle.cs_build.proofs.Judging.{HasClasses}
use Rattle.cs_build.proofs.tables.known_names.Given as goal

abbrev pub invariant-loop-left : goal.invariant-loop-left
invariant-loop-left l = (l.left ≤ 22) × HasClasses l.names (drop l.left l.classes)

abbrev pub decreases-loop-left : goal.decreases-loop-left
decreases-loop-left l = l.left
