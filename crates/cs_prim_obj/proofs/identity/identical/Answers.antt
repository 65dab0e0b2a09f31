use Rattle.cs_acts.specs.Names.{name_of}
use Rattle.cs_prim_obj.proofs.Outcomes.{as_row}
use Rattle.cs_prim_obj.proofs.Rows.{identical-row}
use Rattle.cs_prim_obj.proofs.identity.identical.Goals as goal

pub returns : goal.returns
returns g c =
    let s = g.W.World.stored c.args.w.now in
    let k = g.W.World.view c.args.w.now in
    as_row (identical-row k (name_of s c.receiver.result) (name_of s c.argument.result) (name_of s c.boolean-truth.result) c.same-is_same.result c.receiver.ensures.is c.argument.ensures.is c.same-is_same.ensures c.boolean-truth.ensures.is) c.answer.ensures
