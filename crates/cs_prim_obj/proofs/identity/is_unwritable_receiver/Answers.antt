use Rattle.cs_acts.specs.Names.{name_of}
use Rattle.cs_prim_obj.proofs.Outcomes.{as_row}
use Rattle.cs_prim_obj.proofs.Rows.{read_only-row}
use Rattle.cs_prim_obj.proofs.identity.is_unwritable_receiver.Goals as goal

pub returns : goal.returns
returns g c =
    let s = g.W.World.stored c.args.w.now in
    let k = g.W.World.view c.args.w.now in
    as_row (read_only-row k (name_of s c.receiver.result) (name_of s c.boolean-truth.result) c.is_unwritable-is_unwritable.result c.receiver.ensures.is c.is_unwritable-is_unwritable.ensures c.boolean-truth.ensures.is) c.answer.ensures
