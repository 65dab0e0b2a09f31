-- The law no birth is given again.
use Rattle.cs_model.proofs.LeadStep.{step_reaches, run_reaches, made_above}
use Rattle.cs_model.proofs.laws.no_birth_is_given_again.Goals as goal

pub returns-clause-step : goal.returns-clause-step
returns-clause-step c = λ s i v. (step_reaches s v).leads.fresh i

pub returns-clause-run : goal.returns-clause-run
returns-clause-run c = λ n s i v. (run_reaches n s v).leads.fresh i

pub returns-clause-step_made : goal.returns-clause-step_made
returns-clause-step_made c = λ s i v. made_above (step_reaches s v).leads i

pub returns-clause-run_made : goal.returns-clause-run_made
returns-clause-run_made c = λ n s i v. made_above (run_reaches n s v).leads i
