use Rattle.cs_model.specs.Operation.{drop_of}
use Rattle.cs_acts.specs.Led.{Leads}
use Rattle.cs_code.proofs.closures.drop_values.Given as goal

abbrev pub invariant-loop : goal.invariant-loop
invariant-loop g l = Leads (g.W.World.stored l.fn.w) (g.W.World.stored l.w) (g.W.World.layout l.fn.w) (g.W.World.layout l.w) (g.W.World.view l.w) (drop_of (g.W.World.view l.fn.w) l.counter) 0
