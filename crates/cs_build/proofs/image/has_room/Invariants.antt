use Rattle.std.proofs.Common.{◌≡◌, ◌+◌, ◌*◌, map, take}
use Rattle.cs_build.specs.Laid.{laid_by, laid_size}
use Rattle.cs_build.proofs.image.has_room.Given as goal

abbrev pub invariant-loop-object : goal.invariant-loop-object
invariant-loop-object l = l.words ≡ 22 + 1028 * l.fn.pages + laid_size (map laid_by (take l.object-index l.objects))
