use Rattle.cs_unwind.proofs.Pointers.{count_read, pointer}
use Rattle.cs_unwind.proofs.blocks.slot_count.Goals as goal

pub slot_count-requires : goal.slot_count-requires
slot_count-requires g c = (pointer (g.W.World.stored c.args.w.now) (g.W.World.view c.args.w.now) c.heap.result.now c.args.o c.heap.ensures c.requires.sound.holds c.requires.named c.requires.pointers).there

pub returns : goal.returns
returns g c =
    let s = g.W.World.stored c.args.w.now in
    let k = g.W.World.view c.args.w.now in
    count_read s k c.heap.result.now c.args.o c.slot_count.result (pointer s k c.heap.result.now c.args.o c.heap.ensures c.requires.sound.holds c.requires.named c.requires.pointers) c.slot_count.ensures.value
