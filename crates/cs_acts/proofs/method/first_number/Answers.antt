use Rattle.std.proofs.Common.{arith}
use Rattle.cs_model.specs.State.{object_of}
use Rattle.cs_acts.specs.Names.{name_of}
use Rattle.cs_acts.proofs.Methods.{format_is, is_there, slots_fit}
use Rattle.cs_acts.proofs.Headers.{method_in, number_read}
use Rattle.cs_acts.proofs.method.first_number.Goals as goal

pub byte_count-requires-clause-object : goal.byte_count-requires-clause-object
byte_count-requires-clause-object g c =
    let s = g.W.World.stored c.args.w.now in
    let k = g.W.World.view c.args.w.now in
    let m = method_in s k c.heap-heap.result.now c.args.method c.heap-heap.ensures c.requires.sound.holds c.requires.method in
    is_there c.heap-heap.result.now.objects (object_of k (name_of s c.args.method)) c.args.method.0 m

pub byte_count-requires-clause-slots : goal.byte_count-requires-clause-slots
byte_count-requires-clause-slots g c =
    let s = g.W.World.stored c.args.w.now in
    let k = g.W.World.view c.args.w.now in
    let m = method_in s k c.heap-heap.result.now c.args.method c.heap-heap.ensures c.requires.sound.holds c.requires.method in
    omega (arith, slots_fit c.heap-heap.result.now.objects (object_of k (name_of s c.args.method)) c.args.method.0 m)

pub byte_count-requires-clause-format : goal.byte_count-requires-clause-format
byte_count-requires-clause-format g c =
    let s = g.W.World.stored c.args.w.now in
    let k = g.W.World.view c.args.w.now in
    let m = method_in s k c.heap-heap.result.now c.args.method c.heap-heap.ensures c.requires.sound.holds c.requires.method in
    format_is c.heap-heap.result.now.objects (object_of k (name_of s c.args.method)) c.args.method.0 m

pub returns : goal.returns
returns g c =
    let s = g.W.World.stored c.args.w.now in
    let k = g.W.World.view c.args.w.now in
    let m = method_in s k c.heap-heap.result.now c.args.method c.heap-heap.ensures c.requires.sound.holds c.requires.method in
    number_read c.heap-heap.result.now.objects (object_of k (name_of s c.args.method)) c.args.method.0 c.args.first c.byte_count.result c.number_between.result m c.requires.first c.byte_count.ensures.value c.number_between.ensures
