use Rattle.std.proofs.Common.{arith, sym, ◌∙◌}
use Rattle.cs_acts.proofs.Named.{slots_there, slot_names, no_slot_names}
use Rattle.cs_acts.proofs.read.slot.Goals as goal

pub returns-then-has_slots : goal.returns-then-has_slots
returns-then-has_slots g c =
    let h = slots_there c.heap-heap.result.now.objects c.args.least c.args.o.0 (sym c.has_slots.ensures ∙ c.if-has_slots.true) in
    slot_names (g.W.World.stored c.args.w.now) (g.W.World.view c.args.w.now) c.heap-heap.result.now c.args.least c.args.i c.args.o c.slot.result c.heap-heap.ensures c.requires.sound.holds c.requires.named
    (sym c.has_slots.ensures ∙ c.if-has_slots.true) (omega (arith, h.enough, h.count, c.requires.within)) c.slot.ensures

pub returns-else-has_slots : goal.returns-else-has_slots
returns-else-has_slots g c =
    no_slot_names (g.W.World.stored c.args.w.now) (g.W.World.view c.args.w.now) c.heap-heap.result.now c.args.least c.args.i c.args.o c.heap-heap.ensures c.requires.sound.holds c.requires.named
    (sym c.has_slots.ensures ∙ c.if-has_slots.false)
