-- The law keeping survives a bytecode.
use Rattle.cs_model.proofs.Whole.{bytecode-alike}
use Rattle.cs_model.proofs.laws.keeping_survives_a_bytecode.Goals as goal

pub returns : goal.returns
returns c = bytecode-alike
