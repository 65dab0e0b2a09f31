use Rattle.std.proofs.Common.{sym, ◌∙◌}
use Rattle.cs_acts.specs.Names.{name_of}
use Rattle.cs_prim_obj.proofs.Outcomes.{as_row}
use Rattle.cs_prim_obj.proofs.Rows.{context_slot, other_slot}
use Rattle.cs_prim_obj.proofs.slots.answer_slot.Goals as goal

pub returns-then-is_context : goal.returns-then-is_context
returns-then-is_context g c =
    let s = g.W.World.stored c.args.w.now in
    let k = g.W.World.view c.args.w.now in
    as_row (context_slot k c.args.args c.args.i (name_of s c.receiver-receiver.result) c.receiver-receiver.ensures.is (sym c.is_context.ensures ∙ c.if-is_context.true)) c.answer_field.ensures

pub returns-else-is_context : goal.returns-else-is_context
returns-else-is_context g c =
    let s = g.W.World.stored c.args.w.now in
    let k = g.W.World.view c.args.w.now in
    as_row (other_slot k c.args.args c.args.i (name_of s c.receiver-receiver.result) c.receiver-receiver.ensures.is (sym c.is_context.ensures ∙ c.if-is_context.false)) (c.answer_if.ensures _ c.slot_if_any-slot.ensures)
