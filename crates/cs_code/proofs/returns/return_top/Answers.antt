use Rattle.std.proofs.Common.{subst}
use Rattle.cs_model.specs.Exec.{return_out, with_top}
use Rattle.cs_model.specs.Operation.{pop_of}
use Rattle.cs_code.specs.Gives.{Gives}
use Rattle.cs_code.proofs.returns.return_top.Goals as goal

pub returns-clause-gives : goal.returns-clause-gives
returns-clause-gives g c =
    let old = g.W.World.view c.args.w.now in
    subst (λ b. Gives (g.W.World.stored c.args.w.now) (g.W.World.stored c.pop_and_return.new.w) (g.W.World.layout c.args.w.now) (g.W.World.view c.pop_and_return.new.w) c.pop_and_return.result (with_top old (λ x. return_out (pop_of old) x b)))
    c.is_local-local.ensures c.pop_and_return.ensures.gives
