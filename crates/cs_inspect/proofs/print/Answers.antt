use Rattle.std.proofs.Common.{subst, sym}
use Rattle.cs_inspect.specs.Reading.{IsInOrder}
use Rattle.cs_inspect.proofs.Printing.{in_order_object, printed}
use Rattle.cs_inspect.proofs.print.Goals as goal

pub push_line-requires-clause-object : goal.push_line-requires-clause-object
push_line-requires-clause-object c =
    in_order_object c.args.l.now.heap.objects c.deref-o-items.result.now c.loop-o.o-index _
    (subst (IsInOrder c.args.l.now.heap.objects) (sym c.deref-o-items.ensures.value) c.in_ok-order.ensures) c.loop-o-test.true

pub returns : goal.returns
returns c =
    printed c.args.l.now.heap.objects c.args.l.now.classes c.args.l.now.roots c.in_ok-order.order.items c.deref-o-items.result.now c.loop-o.o-index c.loop-o.text.items
    c.in_ok-order.ensures c.deref-o-items.ensures.value c.loop-o-test.false c.loop-o.invariant
