use Rattle.std.proofs.Common.{◌-◌, length}
use Rattle.cs_image.proofs.Cutting.{IsCutTo}
use Rattle.cs_image.proofs.cut.cut.Given as goal

abbrev pub invariant-loop-at : goal.invariant-loop-at
invariant-loop-at l = IsCutTo l.words.items l.objects.items l.starts.items l.at

abbrev pub decreases-loop-at : goal.decreases-loop-at
decreases-loop-at l = length l.words.items - l.at
