use Rattle.std.proofs.Common.{◌≡◌}
use Rattle.cs_image.specs.Loading.{classes_at}
use Rattle.cs_image.proofs.memory.load_classes.Given as goal

abbrev pub invariant-loop-index : goal.invariant-loop-index
invariant-loop-index l = l.classes ≡ classes_at l.file l.index
