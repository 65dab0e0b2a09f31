use Rattle.std.proofs.Common.{arith}
use Rattle.cs_acts.proofs.Methods.{active_method, count_read, slots_fit}
use Rattle.cs_model.specs.Read.{method_of}
use Rattle.cs_acts.proofs.read.literal_count.Goals as goal

pub count_of_literals-requires : goal.count_of_literals-requires
count_of_literals-requires g c =
    let m = active_method (g.W.World.stored c.args.w.now) (g.W.World.view c.args.w.now) c.heap.result.now c.method.result c.heap.ensures c.requires c.method.ensures in
    omega (arith, slots_fit c.heap.result.now.objects (method_of (g.W.World.view c.args.w.now)) c.method.result.0 m)

pub returns : goal.returns
returns g c =
    let m = active_method (g.W.World.stored c.args.w.now) (g.W.World.view c.args.w.now) c.heap.result.now c.method.result c.heap.ensures c.requires c.method.ensures in
    count_read c.heap.result.now.objects (g.W.World.view c.args.w.now) c.method.result.0 c.count_of_literals.result m c.count_of_literals.ensures
