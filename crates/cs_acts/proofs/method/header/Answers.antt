use Rattle.std.proofs.Common.{arith}
use Rattle.cs_model.specs.State.{object_of}
use Rattle.cs_acts.specs.Names.{name_of}
use Rattle.cs_acts.proofs.Methods.{slots_fit}
use Rattle.cs_acts.proofs.Headers.{header_read, method_in}
use Rattle.cs_acts.proofs.method.header.Goals as goal

pub method_header-requires : goal.method_header-requires
method_header-requires g c =
    let s = g.W.World.stored c.args.w.now in
    let k = g.W.World.view c.args.w.now in
    let m = method_in s k c.heap.result.now c.args.method c.heap.ensures c.requires.sound.holds c.requires.method in
    omega (arith, slots_fit c.heap.result.now.objects (object_of k (name_of s c.args.method)) c.args.method.0 m)

pub returns : goal.returns
returns g c =
    let s = g.W.World.stored c.args.w.now in
    let k = g.W.World.view c.args.w.now in
    let m = method_in s k c.heap.result.now c.args.method c.heap.ensures c.requires.sound.holds c.requires.method in
    header_read c.heap.result.now.objects (object_of k (name_of s c.args.method)) c.args.method.0 m c.method_header.result.0 c.method_header.ensures
