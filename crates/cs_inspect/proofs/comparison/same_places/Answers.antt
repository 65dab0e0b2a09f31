use Rattle.cs_inspect.proofs.Comparisons.{both_parts, pcs_same}
use Rattle.cs_inspect.proofs.comparison.same_places.Goals as goal

pub returns-then-same_slot : goal.returns-then-same_slot
returns-then-same_slot c =
    both_parts c.same_slot.result _ c.same_pcs.result _ c.same_slot.ensures c.if-same_slot.true
    (pcs_same c.args.a.now.image.now.heap.objects c.args.o.0 c.args.b.now.image.now.heap.objects c.args.p.0 c.slot.result.0 c.slot-then-same_slot.result.0 c.natural.result c.natural-then-same_slot.result c.same_pcs.result c.same_pcs.ensures c.natural.ensures.value c.natural-then-same_slot.ensures.value c.slot.ensures c.slot-then-same_slot.ensures)
