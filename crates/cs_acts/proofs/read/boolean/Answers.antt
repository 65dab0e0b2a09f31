use Rattle.std.proofs.Common.{arith}
use Rattle.cs_acts.proofs.Firsts.{IsNumber, number_object, next_number, has_next, nil_number, three, false_names, true_names}
use Rattle.cs_acts.proofs.read.boolean.Goals as goal

pub behind-no-requires-clause-object : goal.behind-no-requires-clause-object
behind-no-requires-clause-object g c =
    number_object c.heap-heap.result.now.objects 65536 0 (nil_number (g.W.World.stored c.args.w.now) (g.W.World.view c.args.w.now) c.heap-heap.result.now c.heap-heap.ensures c.requires)

pub behind-no-requires-clause-more : goal.behind-no-requires-clause-more
behind-no-requires-clause-more g c =
    let s = g.W.World.stored c.args.w.now in
    let k = g.W.World.view c.args.w.now in
    has_next c.heap-heap.result.now.objects 65536 0 (nil_number s k c.heap-heap.result.now c.heap-heap.ensures c.requires) (omega (arith, three s k c.heap-heap.result.now c.heap-heap.ensures c.requires))

pub behind-requires-clause-object : goal.behind-requires-clause-object
behind-requires-clause-object g c =
    let n = nil_number (g.W.World.stored c.args.w.now) (g.W.World.view c.args.w.now) c.heap-heap.result.now c.heap-heap.ensures c.requires in
    number_object c.heap-heap.result.now.objects c.behind-no.result.0 1 (next_number c.heap-heap.result.now.objects 65536 c.behind-no.result.0 0 n c.behind-no.ensures)

pub behind-requires-clause-more : goal.behind-requires-clause-more
behind-requires-clause-more g c =
    let s = g.W.World.stored c.args.w.now in
    let k = g.W.World.view c.args.w.now in
    let n = nil_number s k c.heap-heap.result.now c.heap-heap.ensures c.requires in
    has_next c.heap-heap.result.now.objects c.behind-no.result.0 1 (next_number c.heap-heap.result.now.objects 65536 c.behind-no.result.0 0 n c.behind-no.ensures) (omega (arith, three s k c.heap-heap.result.now c.heap-heap.ensures c.requires))

pub returns-then-truth : goal.returns-then-truth
returns-then-truth g c =
    let s = g.W.World.stored c.args.w.now in
    let k = g.W.World.view c.args.w.now in
    let os = c.heap-heap.result.now.objects in
    let n = nil_number s k c.heap-heap.result.now c.heap-heap.ensures c.requires in
    let f = next_number os 65536 c.behind-no.result.0 0 n c.behind-no.ensures in
    let t : IsNumber os c.behind.result.0 2 = next_number os c.behind-no.result.0 c.behind.result.0 1 f c.behind.ensures in
    rw c.if-truth.true (true_names s k c.heap-heap.result.now c.behind.result c.heap-heap.ensures c.requires t)

pub returns-else-truth : goal.returns-else-truth
returns-else-truth g c =
    let s = g.W.World.stored c.args.w.now in
    let k = g.W.World.view c.args.w.now in
    let n = nil_number s k c.heap-heap.result.now c.heap-heap.ensures c.requires in
    let f : IsNumber c.heap-heap.result.now.objects c.behind-no.result.0 1 = next_number c.heap-heap.result.now.objects 65536 c.behind-no.result.0 0 n c.behind-no.ensures in
    rw c.if-truth.false (false_names s k c.heap-heap.result.now c.behind-no.result c.heap-heap.ensures c.requires f)
