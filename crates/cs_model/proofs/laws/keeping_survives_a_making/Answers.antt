-- The law keeping survives a making.
use Rattle.cs_model.proofs.Surviving.{instantiate-alike, behavior_hash-alike}
use Rattle.cs_model.proofs.laws.keeping_survives_a_making.Goals as goal

pub returns-clause-instance : goal.returns-clause-instance
returns-clause-instance c = instantiate-alike

pub returns-clause-index : goal.returns-clause-index
returns-clause-index c = behavior_hash-alike
