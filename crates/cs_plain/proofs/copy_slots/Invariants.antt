use Rattle.std.proofs.Common.{◌≡◌}
use Rattle.cs_plain.specs.Storing.{values_copied}
use Rattle.cs_plain.proofs.copy_slots.Given as goal

abbrev pub invariant-loop-i : goal.invariant-loop-i
invariant-loop-i l = l.heap ≡ record l.fn.heap { objects = values_copied l.fn.heap.objects l.from.0 l.at l.to.0 l.start l.i }
