use Rattle.std.proofs.Common.{◌≡◌, [], take}
use Rattle.std.specs.Prelude.{nat_eq}
use Rattle.indexmap.specs.IndexSet.{insert_all}
use Rattle.cs_inspect.specs.Numbering.{plain_among}
use Rattle.cs_inspect.proofs.numbering.plain.Given as goal

abbrev pub invariant-loop-o : goal.invariant-loop-o
invariant-loop-o l = l.addresses.keys ≡ insert_all nat_eq [] (plain_among l.heap.objects (take l.o-index l.order))
