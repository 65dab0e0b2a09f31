use Rattle.std.proofs.Common.{subst}
use Rattle.cs_acts.specs.Names.{NamesOption}
use Rattle.cs_prim_obj.proofs.Outcomes.{answered_none, answered_some}
use Rattle.cs_prim_obj.proofs.answering.answer_if.Goals as goal

pub returns-in-Some : goal.returns-in-Some
returns-in-Some g c =
    let s = g.W.World.stored c.args.w.now in
    let k = g.W.World.view c.args.w.now in
    λ x names. answered_some s (g.W.World.stored c.answer.new.w) (g.W.World.layout c.args.w.now) (g.W.World.layout c.answer.new.w) k (g.W.World.view c.answer.new.w) c.args.args c.answer.result c.in-Some.value x (subst (λ o. NamesOption s o x) c.in-Some.is names) c.answer.ensures

pub returns-in-None : goal.returns-in-None
returns-in-None g c =
    let s = g.W.World.stored c.args.w.now in
    let k = g.W.World.view c.args.w.now in
    λ x names. answered_none s (g.W.World.layout c.args.w.now) k c.args.args x c.requires.ready (subst (λ o. NamesOption s o x) c.in-None.is names)
