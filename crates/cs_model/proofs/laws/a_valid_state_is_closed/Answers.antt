-- The law a valid state is closed.
use Rattle.cs_model.proofs.Whole.{valid-keeps}
use Rattle.cs_model.proofs.laws.a_valid_state_is_closed.Goals as goal

pub returns : goal.returns
returns c = valid-keeps
