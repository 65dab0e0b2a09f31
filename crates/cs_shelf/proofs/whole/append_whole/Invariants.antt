-- The first bytes of the piece were taken, up to `at`, and nothing else of the shelf changed but its count.
use Rattle.std.proofs.Common.{◌≡◌, ◌≢◌, ◌-◌, ◌≤◌, ℕ, List, Some, length, take}
use Rattle.cs_shelf.specs.Outside.{Appends}
use Rattle.cs_shelf.proofs.whole.append_whole.Given as goal

abbrev pub invariant-loop-at : goal.invariant-loop-at
invariant-loop-at g l =
    record {
      within : l.at ≤ length l.bytes;
      taken : Appends (g.S.Shelf.taken l.fn.shelf) (g.S.Shelf.taken l.shelf) (take l.at l.bytes);
      begun_stays : g.S.Shelf.begun l.shelf ≡ g.S.Shelf.begun l.fn.shelf;
      contents : (other : List ℕ) → g.S.Shelf.begun l.fn.shelf ≢ Some other → g.S.Shelf.content l.shelf other ≡ g.S.Shelf.content l.fn.shelf other;
      asked_stays : g.S.Shelf.asked l.shelf ≡ g.S.Shelf.asked l.fn.shelf;
      never_falls : g.S.Shelf.fault_count l.fn.shelf ≤ g.S.Shelf.fault_count l.shelf;
      last_stays : g.S.Shelf.last_fault l.shelf ≡ g.S.Shelf.last_fault l.fn.shelf;
    }

abbrev pub decreases-loop-at : goal.decreases-loop-at
decreases-loop-at g l = length l.bytes - l.at
