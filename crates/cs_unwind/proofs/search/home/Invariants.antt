use Rattle.cs_unwind.specs.Walked.{SeeksHome}
use Rattle.cs_unwind.proofs.search.home.Given as goal

abbrev pub invariant-loop : goal.invariant-loop
invariant-loop g l = SeeksHome (g.W.World.act l.w) (g.W.World.view l.w) l.counter l.act
