use Rattle.std.proofs.Common.{◌≡◌, option_map}
use Rattle.cs_save.specs.Writing.{WroteWords, writing}
use Rattle.cs_heap.specs.Object.{address_of}
use Rattle.cs_save.specs.Filed.{saved_births}
use Rattle.cs_save.proofs.births.put_each_birth.Given as goal

abbrev pub invariant-loop-number : goal.invariant-loop-number
invariant-loop-number g l = record {
  at : option_map (λ o. o.0) l.at ≡ address_of l.heap.objects l._number;
  written : WroteWords (writing (g.S.Shelf.begun l.fn.shelf) (g.S.Shelf.content l.fn.shelf) (g.S.Shelf.asked l.fn.shelf) (g.S.Shelf.fault_count l.fn.shelf) (g.S.Shelf.last_fault l.fn.shelf) (g.S.Shelf.taken l.fn.shelf) l.fn.piece.items)
      (writing (g.S.Shelf.begun l.shelf) (g.S.Shelf.content l.shelf) (g.S.Shelf.asked l.shelf) (g.S.Shelf.fault_count l.shelf) (g.S.Shelf.last_fault l.shelf) (g.S.Shelf.taken l.shelf) l.piece.items)
      (saved_births l.heap.objects l._number);
}
