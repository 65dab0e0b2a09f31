use Rattle.cs_inspect.proofs.Ordering.{Walked, left}
use Rattle.cs_inspect.proofs.order.by_birth.Given as goal

abbrev pub invariant-loop-object : goal.invariant-loop-object
invariant-loop-object l = Walked l.heap.objects l.object l.births.entries

abbrev pub decreases-loop-object : goal.decreases-loop-object
decreases-loop-object l = left l.heap.objects l.object
