use Rattle.std.proofs.Common.{arith, sym, ◌∙◌}
use Rattle.cs_acts.specs.Names.{name_of}
use Rattle.cs_acts.proofs.Named.{any_names, slot_names, no_slot_names, past_names}
use Rattle.cs_acts.proofs.read.slot_if_any.Goals as goal
use Rattle.cs_acts.proofs.read.slot_if_any.Goals.{else-has_slots-via-then-has_slots+else-i-slot_count, else-has_slots-via-else-has_slots}

pub returns-then-i-slot_count : goal.returns-then-i-slot_count
returns-then-i-slot_count g c =
    let s = g.W.World.stored c.args.w.now in
    let k = g.W.World.view c.args.w.now in
    any_names s k c.args.i (name_of s c.args.o) _
    (slot_names s k c.heap-heap.result.now 0 c.args.i c.args.o c.slot.result c.heap-heap.ensures c.requires.sound.holds c.requires.named
    (sym c.has_slots.ensures ∙ c.if-has_slots.true) (omega (arith, c.if-i-slot_count.true, c.slot_count.ensures.value)) c.slot.ensures)

pub returns-else-has_slots : goal.returns-else-has_slots
returns-else-has_slots g c =
    let s = g.W.World.stored c.args.w.now in
    let k = g.W.World.view c.args.w.now in
    any_names s k c.args.i (name_of s c.args.o) _
    (elim c.else-has_slots.branch [
      | else-has_slots-via-then-has_slots+else-i-slot_count w ↦ past_names s k c.heap-heap.result.now c.args.i c.args.o c.heap-heap.ensures c.requires.sound.holds c.requires.named
          (sym c.has_slots.ensures ∙ w.if-has_slots.true) (omega (arith, w.if-i-slot_count.false, w.slot_count.ensures.value))
      | else-has_slots-via-else-has_slots w ↦ no_slot_names s k c.heap-heap.result.now 0 c.args.i c.args.o c.heap-heap.ensures c.requires.sound.holds c.requires.named (sym c.has_slots.ensures ∙ w.if-has_slots.false)
    ])
