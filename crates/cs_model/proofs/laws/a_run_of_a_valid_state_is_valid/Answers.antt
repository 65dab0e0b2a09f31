-- The law a run of a valid state is valid.
use Rattle.cs_model.proofs.LeadStep.{run_reaches, built_run_reaches}
use Rattle.cs_model.proofs.laws.a_run_of_a_valid_state_is_valid.Goals as goal

pub returns-clause-whole : goal.returns-clause-whole
returns-clause-whole c = λ n s v. (run_reaches n s v).valid

pub returns-clause-built : goal.returns-clause-built
returns-clause-built c = λ n s v. (built_run_reaches n s v).valid
