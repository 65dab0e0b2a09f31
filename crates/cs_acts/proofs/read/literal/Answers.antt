use Rattle.std.proofs.Common.{arith, ◌+◌, ap, ◌∙◌}
use Rattle.cs_heap.specs.Object.{slot_of}
use Rattle.cs_acts.proofs.Methods.{active_method, count_read, slots_fit, slots_below, literal_names, no_literal_names, method_there}
use Rattle.cs_model.specs.Read.{method_of}
use Rattle.cs_acts.proofs.read.literal.Goals as goal

pub count_of_literals-requires : goal.count_of_literals-requires
count_of_literals-requires g c =
    let m = active_method (g.W.World.stored c.args.w.now) (g.W.World.view c.args.w.now) c.heap-heap.result.now c.method-method.result c.heap-heap.ensures c.requires c.method-method.ensures in
    omega (arith, slots_fit c.heap-heap.result.now.objects (method_of (g.W.World.view c.args.w.now)) c.method-method.result.0 m)

pub slot-requires : goal.slot-requires
slot-requires g c =
    let k = g.W.World.view c.args.w.now in
    let m = active_method (g.W.World.stored c.args.w.now) k c.heap-heap.result.now c.method-method.result c.heap-heap.ensures c.requires c.method-method.ensures in
    let n = count_read c.heap-heap.result.now.objects k c.method-method.result.0 c.count_of_literals.result m c.count_of_literals.ensures in
    slots_below c.heap-heap.result.now.objects k c.method-method.result.0 c.args.i m (omega (arith, n, c.if-i-count_of_literals.true))

pub returns-then-i-count_of_literals : goal.returns-then-i-count_of_literals
returns-then-i-count_of_literals g c =
    let s = g.W.World.stored c.args.w.now in
    let k = g.W.World.view c.args.w.now in
    let m = active_method s k c.heap-heap.result.now c.method-method.result c.heap-heap.ensures c.requires c.method-method.ensures in
    let n = count_read c.heap-heap.result.now.objects k c.method-method.result.0 c.count_of_literals.result m c.count_of_literals.ensures in
    literal_names s k c.method-method.result.0 c.args.i c.slot.result (method_there s k c.method-method.result c.requires c.method-method.ensures) (omega (arith, n, c.if-i-count_of_literals.true))
    (c.slot.ensures ∙ ap (λ h. slot_of h.objects c.method-method.result.0 (c.args.i + 1)) c.heap-heap.ensures)

pub returns-else-i-count_of_literals : goal.returns-else-i-count_of_literals
returns-else-i-count_of_literals g c =
    let s = g.W.World.stored c.args.w.now in
    let k = g.W.World.view c.args.w.now in
    let m = active_method s k c.heap-heap.result.now c.method-method.result c.heap-heap.ensures c.requires c.method-method.ensures in
    let n = count_read c.heap-heap.result.now.objects k c.method-method.result.0 c.count_of_literals.result m c.count_of_literals.ensures in
    no_literal_names s k c.args.i (omega (arith, n, c.if-i-count_of_literals.false))
