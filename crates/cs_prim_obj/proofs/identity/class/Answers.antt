use Rattle.cs_acts.specs.Names.{name_of}
use Rattle.cs_prim_obj.proofs.Outcomes.{as_row}
use Rattle.cs_prim_obj.proofs.Rows.{class-row}
use Rattle.cs_prim_obj.proofs.identity.class.Goals as goal

pub returns : goal.returns
returns g c =
    let s = g.W.World.stored c.args.w.now in
    let k = g.W.World.view c.args.w.now in
    as_row (class-row k (name_of s c.receiver.result) (name_of s c.class_or_nil-class.result) c.receiver.ensures.is c.class_or_nil-class.ensures.is) c.answer.ensures
