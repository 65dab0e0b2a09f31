use Rattle.std.proofs.Common.{◌≡◌, false}
use Rattle.std.specs.FinSet.{empty}
use Rattle.cs_image.proofs.Loadings.{IsLoadedTo}
use Rattle.cs_image.proofs.memory.load_objects.Given as goal

abbrev pub invariant-loop-number : goal.invariant-loop-number
invariant-loop-number l = record {
  limit : l.heap.limit ≡ l.limit_words;
  watched : l.heap.watched ≡ empty;
  dirty : l.heap.dirty ≡ false;
  objects : IsLoadedTo l.births l.file l.heap.objects l.count l.number;
}
