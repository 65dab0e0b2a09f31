use Rattle.std.proofs.Common.{◌≡◌}
use Rattle.cs_model.specs.ImageFault.{bad_ref}
use Rattle.cs_image.proofs.Scanning.{lost_from}
use Rattle.cs_image.proofs.reference.bad_reference.Given as goal

abbrev pub invariant-loop-number : goal.invariant-loop-number
invariant-loop-number l = lost_from l.file l.file.objects l.number ≡ bad_ref l.file
