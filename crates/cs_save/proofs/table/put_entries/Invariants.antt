use Rattle.std.proofs.Common.{◌≤◌, ◌*◌, ◌-◌, map}
use Rattle.cs_save.specs.Writing.{WroteWords, writing}
use Rattle.std.specs.List.{range_with_len}
use Rattle.cs_save.specs.Filed.{entry_word}
use Rattle.cs_save.proofs.table.put_entries.Given as goal

abbrev pub invariant-loop-index : goal.invariant-loop-index
invariant-loop-index g l = record {
  from : 1024 * l.page ≤ l.index;
  written : WroteWords (writing (g.S.Shelf.begun l.fn.shelf) (g.S.Shelf.content l.fn.shelf) (g.S.Shelf.asked l.fn.shelf) (g.S.Shelf.fault_count l.fn.shelf) (g.S.Shelf.last_fault l.fn.shelf) (g.S.Shelf.taken l.fn.shelf) l.fn.piece.items)
      (writing (g.S.Shelf.begun l.shelf) (g.S.Shelf.content l.shelf) (g.S.Shelf.asked l.shelf) (g.S.Shelf.fault_count l.shelf) (g.S.Shelf.last_fault l.shelf) (g.S.Shelf.taken l.shelf) l.piece.items)
      (map (entry_word l.classes) (range_with_len (1024 * l.page) (l.index - 1024 * l.page)));
}
