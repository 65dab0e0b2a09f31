use Rattle.cs_acts.specs.Names.{name_of}
use Rattle.cs_prim_obj.proofs.Outcomes.{as_row}
use Rattle.cs_prim_obj.proofs.Rows.{size-row}
use Rattle.cs_prim_obj.proofs.elements.size.Goals as goal

pub returns : goal.returns
returns g c =
    let s = g.W.World.stored c.args.w.now in
    let k = g.W.World.view c.args.w.now in
    as_row (size-row k (name_of s c.receiver.result) c.receiver.ensures.is) (c.answer_if.ensures _ c.size_of-size.ensures)
