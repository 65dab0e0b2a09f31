-- The law births never fall.
use Rattle.cs_model.proofs.LeadStep.{step_reaches, run_reaches}
use Rattle.cs_model.proofs.laws.births_never_fall.Goals as goal

pub returns-clause-step : goal.returns-clause-step
returns-clause-step c = λ s v. (step_reaches s v).leads.next

pub returns-clause-run : goal.returns-clause-run
returns-clause-run c = λ n s v. (run_reaches n s v).leads.next
