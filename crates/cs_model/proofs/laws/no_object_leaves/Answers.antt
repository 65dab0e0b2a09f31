-- The law no object leaves.
use Rattle.cs_model.proofs.LeadStep.{step_reaches, run_reaches}
use Rattle.cs_model.proofs.laws.no_object_leaves.Goals as goal

pub returns-clause-step : goal.returns-clause-step
returns-clause-step c = λ s i v. ((step_reaches s v).leads.stays.at i).held

pub returns-clause-run : goal.returns-clause-run
returns-clause-run c = λ n s i v. ((run_reaches n s v).leads.stays.at i).held
