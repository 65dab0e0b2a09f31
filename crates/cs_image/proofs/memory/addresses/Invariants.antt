use Rattle.cs_image.proofs.Placing.{IsPlacedTo}
use Rattle.cs_image.proofs.memory.addresses.Given as goal

abbrev pub invariant-loop-number : goal.invariant-loop-number
invariant-loop-number l = IsPlacedTo l.file.objects l.addresses.items l.used l.number l.limit_words
