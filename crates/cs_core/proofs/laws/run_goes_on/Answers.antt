use Rattle.cs_core.proofs.Rolling.{reaches_on}
use Rattle.cs_core.proofs.laws.run_goes_on.Goals as goal

pub returns : goal.returns
returns c k i j n old now new a b e g h = reaches_on k i j n old now new a b e g h
