-- The law keeping survives opening.
use Rattle.cs_model.proofs.Whole.{opened-keeps}
use Rattle.cs_model.proofs.laws.keeping_survives_opening.Goals as goal

pub returns : goal.returns
returns c = opened-keeps
