use Rattle.std.proofs.Common.{◌≡◌}
use Rattle.cs_image.proofs.Scanning.{lost_among}
use Rattle.cs_image.proofs.reference.lost_in.Given as goal

abbrev pub invariant-loop-i : goal.invariant-loop-i
invariant-loop-i l = lost_among l.file l.place l.words l.i ≡ lost_among l.file l.place l.words 0
