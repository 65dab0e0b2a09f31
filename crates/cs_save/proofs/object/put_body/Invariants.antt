use Rattle.std.proofs.Common.{map}
use Rattle.cs_save.specs.Writing.{WroteWords, writing}
use Rattle.std.specs.List.{range_with_len}
use Rattle.cs_heap.specs.Object.{format_at, words_at}
use Rattle.cs_save.specs.Filed.{body_word}
use Rattle.cs_save.proofs.object.put_body.Given as goal

abbrev pub invariant-loop-i : goal.invariant-loop-i
invariant-loop-i g l = WroteWords (writing (g.S.Shelf.begun l.fn.shelf) (g.S.Shelf.content l.fn.shelf) (g.S.Shelf.asked l.fn.shelf) (g.S.Shelf.fault_count l.fn.shelf) (g.S.Shelf.last_fault l.fn.shelf) (g.S.Shelf.taken l.fn.shelf) l.fn.piece.items)
    (writing (g.S.Shelf.begun l.shelf) (g.S.Shelf.content l.shelf) (g.S.Shelf.asked l.shelf) (g.S.Shelf.fault_count l.shelf) (g.S.Shelf.last_fault l.shelf) (g.S.Shelf.taken l.shelf) l.piece.items)
    (map (body_word (format_at l.heap.objects l.o.0) (words_at l.heap.objects l.o.0)) (range_with_len 0 l.i))
