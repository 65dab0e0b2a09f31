use Rattle.std.proofs.Common.{ap, arith, ◌∙◌}
use Rattle.cs_model.specs.Obj.{lies_in}
use Rattle.cs_model.specs.State.{object_of}
use Rattle.cs_acts.specs.Names.{name_of}
use Rattle.cs_acts.proofs.Methods.{format_is, is_there, lies_read, slots_fit}
use Rattle.cs_acts.proofs.Headers.{method_in}
use Rattle.cs_acts.proofs.method.lies.Goals as goal

pub count_of_literals-requires : goal.count_of_literals-requires
count_of_literals-requires g c =
    let s = g.W.World.stored c.args.w.now in
    let k = g.W.World.view c.args.w.now in
    let m = method_in s k c.heap-heap.result.now c.args.method c.heap-heap.ensures c.requires.sound.holds c.requires.method in
    omega (arith, slots_fit c.heap-heap.result.now.objects (object_of k (name_of s c.args.method)) c.args.method.0 m)

pub byte_count-end-requires-clause-object : goal.byte_count-end-requires-clause-object
byte_count-end-requires-clause-object g c =
    let s = g.W.World.stored c.args.w.now in
    let k = g.W.World.view c.args.w.now in
    let m = method_in s k c.heap-heap.result.now c.args.method c.heap-heap.ensures c.requires.sound.holds c.requires.method in
    is_there c.heap-heap.result.now.objects (object_of k (name_of s c.args.method)) c.args.method.0 m

pub byte_count-end-requires-clause-slots : goal.byte_count-end-requires-clause-slots
byte_count-end-requires-clause-slots g c =
    let s = g.W.World.stored c.args.w.now in
    let k = g.W.World.view c.args.w.now in
    let m = method_in s k c.heap-heap.result.now c.args.method c.heap-heap.ensures c.requires.sound.holds c.requires.method in
    omega (arith, slots_fit c.heap-heap.result.now.objects (object_of k (name_of s c.args.method)) c.args.method.0 m)

pub byte_count-end-requires-clause-format : goal.byte_count-end-requires-clause-format
byte_count-end-requires-clause-format g c =
    let s = g.W.World.stored c.args.w.now in
    let k = g.W.World.view c.args.w.now in
    let m = method_in s k c.heap-heap.result.now c.args.method c.heap-heap.ensures c.requires.sound.holds c.requires.method in
    format_is c.heap-heap.result.now.objects (object_of k (name_of s c.args.method)) c.args.method.0 m

pub returns : goal.returns
returns g c =
    let s = g.W.World.stored c.args.w.now in
    let k = g.W.World.view c.args.w.now in
    let m = method_in s k c.heap-heap.result.now c.args.method c.heap-heap.ensures c.requires.sound.holds c.requires.method in
    c.is_between.ensures.value ∙ lies_read c.heap-heap.result.now.objects (object_of k (name_of s c.args.method)) c.args.method.0 c.count_of_literals.result c.byte_count-end.result c.from.result m c.count_of_literals.ensures c.byte_count-end.ensures.value ∙ ap (lies_in (object_of k (name_of s c.args.method))) c.from.ensures
