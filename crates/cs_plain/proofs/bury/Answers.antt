use Rattle.std.proofs.Common.{List, ap, ◌∙◌}
use Rattle.cs_heap.specs.Object.{Memory, Object, base, slot_set}
use Rattle.cs_heap.specs.Writes.{slot_stored, slots_stored}
use Rattle.cs_heap.proofs.Writes.{slots_stored-twice}
use Rattle.cs_plain.specs.Storing.{plain_buried}
use Rattle.cs_plain.proofs.bury.Goals as goal

pub returns : goal.returns
returns c =
    let m : Memory = c.args.heap.now in
    let a = c.args.context.0 in
    let one : List Object = slot_set m.objects a 0 base in
    let two : List Object = slot_set one a 1 base in
    let three : List Object = plain_buried m.objects a in
    c.set_slot-3.ensures
    ∙ ap (slot_stored c.set_slot-2.new.self a 2) c.from_natural.ensures
    ∙ ap (λ (h : Memory). slot_stored h a 2 1) (c.set_slot-2.ensures ∙ ap (λ (h : Memory). slot_stored h a 1 base) c.set_slot.ensures)
    ∙ slots_stored-twice (slots_stored m a one) a two three ∙ slots_stored-twice m a one three
