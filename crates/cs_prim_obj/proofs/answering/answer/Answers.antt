use Rattle.cs_prim_obj.proofs.Outcomes.{answered}
use Rattle.cs_prim_obj.proofs.answering.answer.Goals as goal

pub returns : goal.returns
returns g c =
    let s = g.W.World.stored c.args.w.now in
    let k = g.W.World.view c.args.w.now in
    answered s (g.W.World.stored c.answer.new.w) (g.W.World.layout c.args.w.now) (g.W.World.layout c.answer.new.w) k k (g.W.World.view c.answer.new.w) c.args.args _ c.answer.ensures
