use Rattle.std.proofs.Common.{map}
use Rattle.cs_save.specs.Writing.{WroteWords, writing}
use Rattle.std.specs.List.{range_with_len}
use Rattle.cs_save.specs.Filed.{page_at}
use Rattle.cs_save.proofs.table.put_addresses.Given as goal

abbrev pub invariant-loop-page : goal.invariant-loop-page
invariant-loop-page g l = WroteWords (writing (g.S.Shelf.begun l.fn.shelf) (g.S.Shelf.content l.fn.shelf) (g.S.Shelf.asked l.fn.shelf) (g.S.Shelf.fault_count l.fn.shelf) (g.S.Shelf.last_fault l.fn.shelf) (g.S.Shelf.taken l.fn.shelf) l.fn.piece.items)
    (writing (g.S.Shelf.begun l.shelf) (g.S.Shelf.content l.shelf) (g.S.Shelf.asked l.shelf) (g.S.Shelf.fault_count l.shelf) (g.S.Shelf.last_fault l.shelf) (g.S.Shelf.taken l.shelf) l.piece.items)
    (map (page_at l.used) (range_with_len 0 l.page))
