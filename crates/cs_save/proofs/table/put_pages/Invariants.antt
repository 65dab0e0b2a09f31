use Rattle.cs_save.specs.Writing.{WroteWords, writing}
use Rattle.std.specs.Prelude.{flat_map}
use Rattle.std.specs.List.{range_with_len}
use Rattle.cs_save.specs.Filed.{saved_page}
use Rattle.cs_save.proofs.table.put_pages.Given as goal

abbrev pub invariant-loop-page : goal.invariant-loop-page
invariant-loop-page g l = WroteWords (writing (g.S.Shelf.begun l.fn.shelf) (g.S.Shelf.content l.fn.shelf) (g.S.Shelf.asked l.fn.shelf) (g.S.Shelf.fault_count l.fn.shelf) (g.S.Shelf.last_fault l.fn.shelf) (g.S.Shelf.taken l.fn.shelf) l.fn.piece.items)
    (writing (g.S.Shelf.begun l.shelf) (g.S.Shelf.content l.shelf) (g.S.Shelf.asked l.shelf) (g.S.Shelf.fault_count l.shelf) (g.S.Shelf.last_fault l.shelf) (g.S.Shelf.taken l.shelf) l.piece.items)
    (flat_map (saved_page l.classes) (range_with_len 0 l.page))
