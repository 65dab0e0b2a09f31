-- The bytes up to `at` were taken, and the count didn't fall.
use Rattle.std.proofs.Common.{◌-◌, ◌≤◌, take}
use Rattle.cs_shelf.specs.Outside.{Appends}
use Rattle.cs_core.specs.Pieces.{all_bytes_at}
use Rattle.cs_core.proofs.primitive.write_bytes.Given as goal

abbrev pub invariant-loop-at : goal.invariant-loop-at
invariant-loop-at g l =
    record {
      within : l.at ≤ l.end;
      taken : Appends (g.K.Sink.taken l.fn.out) (g.K.Sink.taken l.out) (take l.at (all_bytes_at l.heap.objects l.object.0));
      never_falls : g.K.Sink.fault_count l.fn.out ≤ g.K.Sink.fault_count l.out;
    }

abbrev pub decreases-loop-at : goal.decreases-loop-at
decreases-loop-at g l = l.end - l.at
