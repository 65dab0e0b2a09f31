use Rattle.cs_stack.specs.Cuts.{LeadsDownTo}
use Rattle.cs_stack.proofs.CutSteps.{Going}
use Rattle.cs_stack.proofs.parts.Parts.kill_to.Given as goal

abbrev pub invariant-loop : goal.invariant-loop
invariant-loop l = record {
  going : (g : LeadsDownTo l.fn.self l.birth) → Going l.fn.self l.self g.dying l.birth l.counter l.at;
}
