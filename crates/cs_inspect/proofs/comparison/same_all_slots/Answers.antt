use Rattle.std.proofs.Common.{◌∙◌}
use Rattle.cs_inspect.proofs.Comparisons.{slots_other, slots_whole}
use Rattle.cs_inspect.proofs.comparison.same_all_slots.Goals as goal

pub returns-then-end-slot_count : goal.returns-then-end-slot_count
returns-then-end-slot_count c =
    slots_other c.args.a.now.addresses.now.keys c.args.a.now.image.now.heap.objects c.args.o.0 c.args.b.now.addresses.now.keys c.args.b.now.image.now.heap.objects c.args.p.0 c.slot_count-end.result c.slot_count.result c.slot_count-end.ensures.value c.slot_count.ensures.value c.if-end-slot_count.true

pub returns : goal.returns
returns c =
    c.same_slots.ensures ∙ slots_whole c.args.a.now.addresses.now.keys c.args.a.now.image.now.heap.objects c.args.o.0 c.args.b.now.addresses.now.keys c.args.b.now.image.now.heap.objects c.args.p.0 c.slot_count-end.result c.slot_count-end.ensures.value (c.if-end-slot_count.false ∙ c.slot_count.ensures.value)
