use Rattle.std.proofs.Common.{ap, ◌∙◌}
use Rattle.std.specs.Prelude.{nat_eq}
use Rattle.std.proofs.lemmas.List.{take_all}
use Rattle.cs_word.specs.declared.Oop.{Oop}
use Rattle.std.proofs.Common.{List, []}
use Rattle.indexmap.specs.IndexSet.{insert_all}
use Rattle.cs_inspect.specs.Numbering.{plain_among}
use Rattle.cs_inspect.proofs.Orders.{plain_inserted}
use Rattle.cs_inspect.proofs.numbering.plain.Goals as goal

pub returns : goal.returns
returns c =
    plain_inserted c.args.heap.now.objects c.args.order.now c.loop-o.addresses.keys c.requires
    (c.loop-o.invariant ∙ ap (λ (os : List Oop). insert_all nat_eq [] (plain_among c.args.heap.now.objects os)) (take_all c.loop-o.o-index c.args.order.now c.loop-o-test.false))
