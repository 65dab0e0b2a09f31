use Rattle.std.proofs.Common.{arith, refl, subst, sym, ◌∙◌}
use Rattle.cs_model.specs.Read.{method_of}
use Rattle.cs_acts.proofs.Ahead.{instruction_read}
use Rattle.cs_acts.proofs.Methods.{IsPlaceOf, active_method, format_is, is_there, place_of, slots_fit}
use Rattle.cs_acts.proofs.read.instruction.Goals as goal

pub byte_count-end-requires-clause-object : goal.byte_count-end-requires-clause-object
byte_count-end-requires-clause-object g c =
    let m = active_method (g.W.World.stored c.args.w.now) (g.W.World.view c.args.w.now) c.heap-heap.result.now c.method-method.result c.heap-heap.ensures c.requires c.method-method.ensures in
    is_there c.heap-heap.result.now.objects (method_of (g.W.World.view c.args.w.now)) c.method-method.result.0 m

pub byte_count-end-requires-clause-slots : goal.byte_count-end-requires-clause-slots
byte_count-end-requires-clause-slots g c =
    let m = active_method (g.W.World.stored c.args.w.now) (g.W.World.view c.args.w.now) c.heap-heap.result.now c.method-method.result c.heap-heap.ensures c.requires c.method-method.ensures in
    omega (arith, slots_fit c.heap-heap.result.now.objects (method_of (g.W.World.view c.args.w.now)) c.method-method.result.0 m)

pub byte_count-end-requires-clause-format : goal.byte_count-end-requires-clause-format
byte_count-end-requires-clause-format g c =
    let m = active_method (g.W.World.stored c.args.w.now) (g.W.World.view c.args.w.now) c.heap-heap.result.now c.method-method.result c.heap-heap.ensures c.requires c.method-method.ensures in
    format_is c.heap-heap.result.now.objects (method_of (g.W.World.view c.args.w.now)) c.method-method.result.0 m

pub further_bytes-further-requires-clause-fits : goal.further_bytes-further-requires-clause-fits
further_bytes-further-requires-clause-fits g c =
    let k = g.W.World.view c.args.w.now in
    let m = active_method (g.W.World.stored c.args.w.now) k c.heap-heap.result.now c.method-method.result c.heap-heap.ensures c.requires c.method-method.ensures in
    let p = place_of c.heap-heap.result.now.objects k c.method-method.result.0 m _ c.requires.running.method in
    omega (arith, p.last, c.pc-at.ensures, c.byte_count-end.ensures.value, c.byte_count-end.ensures.most)

pub overflow_sub-end : goal.overflow_sub-end
overflow_sub-end g c =
    let k = g.W.World.view c.args.w.now in
    let m = active_method (g.W.World.stored c.args.w.now) k c.heap-heap.result.now c.method-method.result c.heap-heap.ensures c.requires c.method-method.ensures in
    let p = place_of c.heap-heap.result.now.objects k c.method-method.result.0 m _ c.requires.running.method in
    omega (arith, p.last, c.pc-at.ensures, c.byte_count-end.ensures.value)

pub returns-in-Ok-clause-value : goal.returns-in-Ok-clause-value
returns-in-Ok-clause-value g c =
    let k = g.W.World.view c.args.w.now in
    let os = c.heap-heap.result.now.objects in
    let m = active_method (g.W.World.stored c.args.w.now) k c.heap-heap.result.now c.method-method.result c.heap-heap.ensures c.requires c.method-method.ensures in
    let p = subst (IsPlaceOf os k c.method-method.result.0) (sym c.pc-at.ensures) (place_of os k c.method-method.result.0 m _ c.requires.running.method) in
    let read = instruction_read os k c.method-method.result.0 c.pc-at.result c.byte_count-end.result c.min-count.result _ _ _ _ m p c.pc-at.ensures c.byte_count-end.ensures.value c.min-count.ensures
    c.byte_before-code.ensures refl refl refl in
    sym c.in-Ok.ensures.instruction ∙ c.further_bytes-further.ensures c.min-count.result ∙ read

pub returns-in-Err-clause-value : goal.returns-in-Err-clause-value
returns-in-Err-clause-value g c =
    let k = g.W.World.view c.args.w.now in
    let os = c.heap-heap.result.now.objects in
    let m = active_method (g.W.World.stored c.args.w.now) k c.heap-heap.result.now c.method-method.result c.heap-heap.ensures c.requires c.method-method.ensures in
    let p = subst (IsPlaceOf os k c.method-method.result.0) (sym c.pc-at.ensures) (place_of os k c.method-method.result.0 m _ c.requires.running.method) in
    let read = instruction_read os k c.method-method.result.0 c.pc-at.result c.byte_count-end.result c.min-count.result _ _ _ _ m p c.pc-at.ensures c.byte_count-end.ensures.value c.min-count.ensures
    c.byte_before-code.ensures refl refl refl in
    sym c.in-Err.ensures.none ∙ c.further_bytes-further.ensures c.min-count.result ∙ read

pub returns-in-Ok-clause-most : goal.returns-in-Ok-clause-most
returns-in-Ok-clause-most g c =
    let k = g.W.World.view c.args.w.now in
    let m = active_method (g.W.World.stored c.args.w.now) k c.heap-heap.result.now c.method-method.result c.heap-heap.ensures c.requires c.method-method.ensures in
    let p = place_of c.heap-heap.result.now.objects k c.method-method.result.0 m _ c.requires.running.method in
    omega (arith, p.last, c.byte_count-end.ensures.value, c.byte_count-end.ensures.most)

pub returns-in-Err-clause-most : goal.returns-in-Err-clause-most
returns-in-Err-clause-most g c =
    let k = g.W.World.view c.args.w.now in
    let m = active_method (g.W.World.stored c.args.w.now) k c.heap-heap.result.now c.method-method.result c.heap-heap.ensures c.requires c.method-method.ensures in
    let p = place_of c.heap-heap.result.now.objects k c.method-method.result.0 m _ c.requires.running.method in
    omega (arith, p.last, c.byte_count-end.ensures.value, c.byte_count-end.ensures.most)
