use Rattle.std.proofs.Common.{◌≡◌, ◌++◌, flat_map, take}
use Rattle.std.specs.Prelude.{None}
use Rattle.cs_model.specs.Print.{head_line}
use Rattle.cs_classes.specs.Meaning.{kept_of}
use Rattle.cs_inspect.specs.Texts.{line_at}
use Rattle.cs_inspect.proofs.print.Given as goal

abbrev pub invariant-loop-o : goal.invariant-loop-o
invariant-loop-o l = l.text.items ≡ head_line (kept_of l.l.heap.objects l.l.classes l.l.roots None) ++ flat_map (line_at l.l.heap.objects) (take l.o-index l.o-items)
