use Rattle.std.proofs.Common.{◌∙◌, ap, sym}
use Rattle.std.specs.Prelude.{◌==◌}
use Rattle.cs_acts.specs.Names.{name_of}
use Rattle.cs_unwind.proofs.Pointers.{array_read, has_some, no_array, pointer}
use Rattle.cs_unwind.proofs.blocks.is_array.Goals as goal

pub format-requires : goal.format-requires
format-requires g c =
    let s = g.W.World.stored c.args.w.now in
    let k = g.W.World.view c.args.w.now in
    (pointer s k c.heap.result.now c.args.o c.heap.ensures c.requires.sound.holds c.requires.named (has_some k 0 (name_of s c.args.o) (sym c.has_slots.ensures ∙ c.if-has_slots.true))).there

pub returns-then-has_slots : goal.returns-then-has_slots
returns-then-has_slots g c =
    let s = g.W.World.stored c.args.w.now in
    let k = g.W.World.view c.args.w.now in
    ap (λ f. f == 2) c.format.ensures.value
    ∙ array_read s k c.heap.result.now c.args.o (pointer s k c.heap.result.now c.args.o c.heap.ensures c.requires.sound.holds c.requires.named (has_some k 0 (name_of s c.args.o) (sym c.has_slots.ensures ∙ c.if-has_slots.true)))

pub returns-else-has_slots : goal.returns-else-has_slots
returns-else-has_slots g c = no_array (g.W.World.view c.args.w.now) (name_of (g.W.World.stored c.args.w.now) c.args.o) c.has_slots.result c.has_slots.ensures c.if-has_slots.false
