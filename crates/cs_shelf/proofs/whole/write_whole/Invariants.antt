-- The first bytes of the piece were taken, up to `at`, and the count didn't fall.
use Rattle.std.proofs.Common.{◌-◌, ◌≤◌, length, take}
use Rattle.cs_shelf.specs.Outside.{Appends}
use Rattle.cs_shelf.proofs.whole.write_whole.Given as goal

abbrev pub invariant-loop-at : goal.invariant-loop-at
invariant-loop-at g l =
    record {
      within : l.at ≤ length l.bytes;
      taken : Appends (g.K.Sink.taken l.fn.sink) (g.K.Sink.taken l.sink) (take l.at l.bytes);
      never_falls : g.K.Sink.fault_count l.fn.sink ≤ g.K.Sink.fault_count l.sink;
    }

abbrev pub decreases-loop-at : goal.decreases-loop-at
decreases-loop-at g l = length l.bytes - l.at
