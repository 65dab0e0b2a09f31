-- The law states that keep each other have one form.
use Rattle.cs_model.proofs.Canons.{canon-keeps}
use Rattle.cs_model.proofs.laws.states_that_keep_each_other_have_one_form.Goals as goal

pub returns : goal.returns
returns c = record { canon = canon-keeps }
