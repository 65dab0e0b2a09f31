use Rattle.std.proofs.Common.{sym, ◌∙◌}
use Rattle.cs_acts.specs.Names.{name_of}
use Rattle.cs_prim_ctx.proofs.Performing.{fails}
use Rattle.cs_prim_obj.proofs.Outcomes.{as_row}
use Rattle.cs_prim_obj.proofs.Rows.{slot-none, slot-some}
use Rattle.cs_prim_obj.proofs.slots.slot_at.Goals as goal

pub returns-in-Some : goal.returns-in-Some
returns-in-Some g c =
    let s = g.W.World.stored c.args.w.now in
    let k = g.W.World.view c.args.w.now in
    as_row (slot-some k (name_of s c.argument.result) c.in-Some.i c.argument.ensures.is (sym c.in-Some.is ∙ c.slot_index.ensures.value s c.argument.ensures.sound)) c.answer_slot.ensures

pub returns-in-None : goal.returns-in-None
returns-in-None g c =
    let s = g.W.World.stored c.args.w.now in
    let k = g.W.World.view c.args.w.now in
    fails s (g.W.World.layout c.args.w.now) k _ c.requires.ready (slot-none k (name_of s c.argument.result) c.argument.ensures.is (sym c.in-None.is ∙ c.slot_index.ensures.value s c.argument.ensures.sound))
