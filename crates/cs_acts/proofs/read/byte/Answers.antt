use Rattle.std.proofs.Common.{arith, sym, ◌∙◌, ap, ◌-◌, Some}
use Rattle.std.specs.Prelude.{slice_get}
use Rattle.cs_model.specs.Obj.{first_pc}
use Rattle.cs_model.specs.Read.{bytecodes_of, literals_of, method_of}
use Rattle.cs_acts.proofs.Methods.{active_method, byte_there, byte_past, format_is, is_there, place_of, slots_fit}
use Rattle.cs_acts.proofs.read.byte.Goals as goal

pub byte_count-requires-clause-object : goal.byte_count-requires-clause-object
byte_count-requires-clause-object g c =
    let m = active_method (g.W.World.stored c.args.w.now) (g.W.World.view c.args.w.now) c.heap-heap.result.now c.method-method.result c.heap-heap.ensures c.requires c.method-method.ensures in
    is_there c.heap-heap.result.now.objects (method_of (g.W.World.view c.args.w.now)) c.method-method.result.0 m

pub byte_count-requires-clause-slots : goal.byte_count-requires-clause-slots
byte_count-requires-clause-slots g c =
    let m = active_method (g.W.World.stored c.args.w.now) (g.W.World.view c.args.w.now) c.heap-heap.result.now c.method-method.result c.heap-heap.ensures c.requires c.method-method.ensures in
    omega (arith, slots_fit c.heap-heap.result.now.objects (method_of (g.W.World.view c.args.w.now)) c.method-method.result.0 m)

pub byte_count-requires-clause-format : goal.byte_count-requires-clause-format
byte_count-requires-clause-format g c =
    let m = active_method (g.W.World.stored c.args.w.now) (g.W.World.view c.args.w.now) c.heap-heap.result.now c.method-method.result c.heap-heap.ensures c.requires c.method-method.ensures in
    format_is c.heap-heap.result.now.objects (method_of (g.W.World.view c.args.w.now)) c.method-method.result.0 m

pub returns-then-pc-byte_count : goal.returns-then-pc-byte_count
returns-then-pc-byte_count g c =
    let k = g.W.World.view c.args.w.now in
    let m = active_method (g.W.World.stored c.args.w.now) k c.heap-heap.result.now c.method-method.result c.heap-heap.ensures c.requires c.method-method.ensures in
    let p = place_of c.heap-heap.result.now.objects k c.method-method.result.0 m _ c.requires.running.method in
    let there = byte_there c.heap-heap.result.now.objects k c.method-method.result.0 m c.pc-pc.result (omega (arith, p.first, c.pc-pc.ensures)) (omega (arith, c.if-pc-byte_count.true, c.byte_count.ensures.value)) in
    ap Some c.byte.ensures ∙ sym there ∙ ap (λ pc. slice_get (bytecodes_of k) (pc - first_pc (literals_of k))) c.pc-pc.ensures

pub returns-else-pc-byte_count : goal.returns-else-pc-byte_count
returns-else-pc-byte_count g c =
    let k = g.W.World.view c.args.w.now in
    let m = active_method (g.W.World.stored c.args.w.now) k c.heap-heap.result.now c.method-method.result c.heap-heap.ensures c.requires c.method-method.ensures in
    let p = place_of c.heap-heap.result.now.objects k c.method-method.result.0 m _ c.requires.running.method in
    let past = byte_past c.heap-heap.result.now.objects k c.method-method.result.0 m c.pc-pc.result (omega (arith, p.first, c.pc-pc.ensures)) (omega (arith, c.if-pc-byte_count.false, c.byte_count.ensures.value)) in
    sym past ∙ ap (λ pc. slice_get (bytecodes_of k) (pc - first_pc (literals_of k))) c.pc-pc.ensures
