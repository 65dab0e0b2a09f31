use Rattle.cs_acts.specs.Names.{name_of}
use Rattle.cs_prim_obj.proofs.Outcomes.{as_row}
use Rattle.cs_prim_obj.proofs.Rows.{at-row}
use Rattle.cs_prim_obj.proofs.elements.at.Goals as goal

pub returns : goal.returns
returns g c =
    let s = g.W.World.stored c.args.w.now in
    let k = g.W.World.view c.args.w.now in
    as_row (at-row k (name_of s c.receiver.result) (name_of s c.argument.result) c.receiver.ensures.is c.argument.ensures.is) (c.answer_if.ensures _ c.element-element.ensures)
