-- The law a step of a valid state is valid.
use Rattle.cs_model.proofs.LeadStep.{step_reaches}
use Rattle.cs_model.proofs.laws.a_step_of_a_valid_state_is_valid.Goals as goal

pub returns : goal.returns
returns c = λ s v. (step_reaches s v).valid
