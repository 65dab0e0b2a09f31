use Rattle.std.proofs.Common.{◌≡◌, ◌-◌, ◌++◌, drop, map, take}
use Rattle.cs_heap.specs.Object.{words_at}
use Rattle.cs_model.specs.Print.{refs_text}
use Rattle.cs_classes.specs.Meaning.{ref_of}
use Rattle.cs_inspect.proofs.text.push_references.Given as goal

abbrev pub invariant-loop-i : goal.invariant-loop-i
invariant-loop-i l = l.text.items ≡ l.fn.text.items ++ refs_text (map (ref_of l.heap.objects) (take (l.i - l.from) (drop l.from (words_at l.heap.objects l.o.0))))
