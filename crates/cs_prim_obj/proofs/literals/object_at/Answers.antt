use Rattle.std.proofs.Common.{sym, ◌∙◌}
use Rattle.cs_acts.specs.Names.{name_of}
use Rattle.cs_prim_ctx.proofs.Performing.{fails}
use Rattle.cs_prim_obj.proofs.Outcomes.{as_row}
use Rattle.cs_prim_obj.proofs.Rows.{object_at-some, object_at-none}
use Rattle.cs_prim_obj.proofs.literals.object_at.Goals as goal

pub returns-in-Some : goal.returns-in-Some
returns-in-Some g c =
    let s = g.W.World.stored c.args.w.now in
    let k = g.W.World.view c.args.w.now in
    as_row (object_at-some k (name_of s c.receiver.result) (name_of s c.argument.result) c.in-Some.i c.receiver.ensures.is c.argument.ensures.is (sym c.in-Some.is ∙ c.slot_index.ensures.value s c.argument.ensures.sound)) (c.answer_if.ensures _ c.method_slot-literal.ensures)

pub returns-in-None : goal.returns-in-None
returns-in-None g c =
    let s = g.W.World.stored c.args.w.now in
    let k = g.W.World.view c.args.w.now in
    fails s (g.W.World.layout c.args.w.now) k _ c.requires.ready (object_at-none k (name_of s c.argument.result) c.argument.ensures.is (sym c.in-None.is ∙ c.slot_index.ensures.value s c.argument.ensures.sound))
