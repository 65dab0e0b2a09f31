use Rattle.std.proofs.Common.{ℕ, ◌<◌}
use Rattle.cs_heap.specs.Object.{slot_of}
use Rattle.cs_frame.specs.Frame.{IsValue}
use Rattle.cs_tests.proofs.marriage.no_links.Given as goal

abbrev pub invariant-loop-i : goal.invariant-loop-i
invariant-loop-i g l = record { values : (k : ℕ) → k < l.i → IsValue (slot_of l.heap.objects l.context.0 k) }
