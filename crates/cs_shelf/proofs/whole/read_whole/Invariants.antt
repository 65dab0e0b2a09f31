-- What was read is the content as far as it goes, and nothing of the shelf changed but its count.
use Rattle.std.proofs.Common.{◌≡◌, ◌+◌, ◌-◌, ◌≤◌, ℕ, List, vec_len}
use Rattle.cs_shelf.specs.Outside.{AsksTo}
use Rattle.cs_shelf.proofs.Reading.{Begins}
use Rattle.cs_shelf.proofs.whole.read_whole.Given as goal

abbrev pub invariant-loop-piece : goal.invariant-loop-piece
invariant-loop-piece g l =
    let content = g.S.Shelf.content in
    record {
      read : Begins (content l.fn.shelf l.name) l.whole.items (vec_len l.whole);
      asked : AsksTo (g.S.Shelf.asked l.fn.shelf) (g.S.Shelf.asked l.shelf) (l.most + 1);
      begun_stays : g.S.Shelf.begun l.shelf ≡ g.S.Shelf.begun l.fn.shelf;
      taken_stays : g.S.Shelf.taken l.shelf ≡ g.S.Shelf.taken l.fn.shelf;
      contents : (other : List ℕ) → content l.shelf other ≡ content l.fn.shelf other;
      never_falls : g.S.Shelf.fault_count l.fn.shelf ≤ g.S.Shelf.fault_count l.shelf;
      last_stays : g.S.Shelf.last_fault l.shelf ≡ g.S.Shelf.last_fault l.fn.shelf;
    }

abbrev pub decreases-loop-piece : goal.decreases-loop-piece
decreases-loop-piece g l = l.most + 1 - vec_len l.whole
