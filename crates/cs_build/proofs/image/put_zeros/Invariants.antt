use Rattle.std.proofs.Common.{◌≡◌, replicate}
use Rattle.cs_build.specs.Laid.{put_words}
use Rattle.cs_build.proofs.image.put_zeros.Given as goal

abbrev pub invariant-loop : goal.invariant-loop
invariant-loop l = l.out.items ≡ put_words l.fn.out.items (replicate l.counter 0)
