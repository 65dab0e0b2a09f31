use Rattle.std.proofs.Common.{◌≡◌, [], ◌∷◌, ◌++◌}
use Rattle.std.specs.FinSet.{empty}
use Rattle.cs_image.specs.Heap.{seen}
use Rattle.cs_image.proofs.Storing.{begun}
use Rattle.cs_image.proofs.memory.load_object.Given as goal

abbrev pub invariant-loop-i : goal.invariant-loop-i
invariant-loop-i l = record {
  limit : l.heap.limit ≡ l.fn.heap.limit;
  watched : l.heap.watched ≡ empty;
  dirty : l.heap.dirty ≡ l.fn.heap.dirty;
  objects : l.heap.objects ≡ l.fn.heap.objects ++ begun l.file l.birth (seen l.o) l.i ∷ [];
}
