use Rattle.std.proofs.Common.{arith, ◌∙◌}
use Rattle.cs_acts.proofs.Methods.{active_method, slots_fit, is_there, format_is, lies_read}
use Rattle.cs_model.specs.Read.{method_of}
use Rattle.cs_acts.proofs.read.lies.Goals as goal

pub count_of_literals-requires : goal.count_of_literals-requires
count_of_literals-requires g c =
    let m = active_method (g.W.World.stored c.args.w.now) (g.W.World.view c.args.w.now) c.heap-heap.result.now c.method-method.result c.heap-heap.ensures c.requires c.method-method.ensures in
    omega (arith, slots_fit c.heap-heap.result.now.objects (method_of (g.W.World.view c.args.w.now)) c.method-method.result.0 m)

pub byte_count-end-requires-clause-object : goal.byte_count-end-requires-clause-object
byte_count-end-requires-clause-object g c =
    let m = active_method (g.W.World.stored c.args.w.now) (g.W.World.view c.args.w.now) c.heap-heap.result.now c.method-method.result c.heap-heap.ensures c.requires c.method-method.ensures in
    is_there c.heap-heap.result.now.objects (method_of (g.W.World.view c.args.w.now)) c.method-method.result.0 m

pub byte_count-end-requires-clause-slots : goal.byte_count-end-requires-clause-slots
byte_count-end-requires-clause-slots g c =
    let m = active_method (g.W.World.stored c.args.w.now) (g.W.World.view c.args.w.now) c.heap-heap.result.now c.method-method.result c.heap-heap.ensures c.requires c.method-method.ensures in
    omega (arith, slots_fit c.heap-heap.result.now.objects (method_of (g.W.World.view c.args.w.now)) c.method-method.result.0 m)

pub byte_count-end-requires-clause-format : goal.byte_count-end-requires-clause-format
byte_count-end-requires-clause-format g c =
    let m = active_method (g.W.World.stored c.args.w.now) (g.W.World.view c.args.w.now) c.heap-heap.result.now c.method-method.result c.heap-heap.ensures c.requires c.method-method.ensures in
    format_is c.heap-heap.result.now.objects (method_of (g.W.World.view c.args.w.now)) c.method-method.result.0 m

pub returns-clause-value : goal.returns-clause-value
returns-clause-value g c =
    let k = g.W.World.view c.args.w.now in
    let m = active_method (g.W.World.stored c.args.w.now) k c.heap-heap.result.now c.method-method.result c.heap-heap.ensures c.requires c.method-method.ensures in
    c.is_between.ensures.value ∙ lies_read c.heap-heap.result.now.objects (method_of k) c.method-method.result.0 c.count_of_literals.result c.byte_count-end.result c.args.pc m c.count_of_literals.ensures c.byte_count-end.ensures.value
