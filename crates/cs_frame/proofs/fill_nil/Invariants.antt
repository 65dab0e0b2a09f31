use Rattle.std.proofs.Common.{◌+◌}
use Rattle.cs_frame.specs.Written.{SameOutside, AllAre}
use Rattle.cs_frame.proofs.fill_nil.Given as goal

abbrev pub invariant-loop-k : goal.invariant-loop-k
invariant-loop-k l = record { outside : SameOutside l.fn.zone l.zone l.from (l.from + l.k); nils : AllAre l.zone l.from (l.from + l.k) 65536 }
