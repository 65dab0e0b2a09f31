use Rattle.cs_model.specs.Exec.{store_variable_out}
use Rattle.cs_model.proofs.Keeping.{unmoved}
use Rattle.cs_model.proofs.Executing.{store_variable_alike}
use Rattle.cs_code.proofs.Through.{popped}
use Rattle.cs_code.proofs.stores.pop_variable.Goals as goal

pub returns-in-Some-clause-gives : goal.returns-in-Some-clause-gives
returns-in-Some-clause-gives g c =
    let old = g.W.World.view c.args.w.now in
    popped (g.W.World.stored c.args.w.now) (g.W.World.stored c.pop.new.self) _ (g.W.World.layout c.args.w.now) (g.W.World.layout c.pop.new.self) old (g.W.World.view c.pop.new.self) _ c.in-Some.x _ (λ t bare x. store_variable_out t bare c.args.i x) (λ t u y k s. store_variable_alike k (unmoved k) c.args.i s)
    c.pop.ensures.ready (c.pop.ensures.state old c.requires.sound.closed) c.pop.ensures.exact c.pop.ensures.layout c.pop.ensures.names c.in-Some.ensures.value c.store_variable.ensures.gives
