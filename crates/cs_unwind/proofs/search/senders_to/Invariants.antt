use Rattle.cs_unwind.specs.Walked.{Walks}
use Rattle.cs_unwind.proofs.search.senders_to.Given as goal

abbrev pub invariant-loop : goal.invariant-loop
invariant-loop g l = Walks (g.W.World.act l.w) (g.W.World.view l.w) l.goal l.target l.counter l.next l.passed
