use Rattle.std.proofs.Common.{refl, subst}
use Rattle.cs_prim_num.specs.Answered.{PerformsOnNumbers}
use Rattle.cs_prim_num.proofs.Performing.{fails}
use Rattle.cs_prim_num.proofs.Rows.{computing_row, failing_row}
use Rattle.cs_prim_num.proofs.primitive.Goals as goal

pub returns-in-Some : goal.returns-in-Some
returns-in-Some g c =
    let s = g.W.World.stored c.args.w.now in
    let k = g.W.World.view c.args.w.now in
    let l = g.W.World.layout c.args.w.now in
    let all = subst (PerformsOnNumbers s (g.W.World.stored c.compute.new.w) l (g.W.World.layout c.compute.new.w) k (g.W.World.view c.compute.new.w) c.compute.result)
    (computing_row k c.args.number c.args.args c.in-Some.operation c.in-Some.ensures) c.compute.ensures.performs in
    record { gives = all.gives; ends = all.ends; unchanged = c.compute.ensures.unchanged; exact = all.exact; layout = all.layout; limit = all.limit; contexts = all.contexts }

pub returns-in-None : goal.returns-in-None
returns-in-None g c =
    let s = g.W.World.stored c.args.w.now in
    let k = g.W.World.view c.args.w.now in
    let l = g.W.World.layout c.args.w.now in
    let all = fails s l k _ c.requires.ready (failing_row k c.args.number c.args.args c.in-None.ensures c.requires.number) in
    record { gives = all.gives; ends = all.ends; unchanged = λ e. refl; exact = all.exact; layout = all.layout; limit = all.limit; contexts = all.contexts }
