use Rattle.cs_acts.proofs.Instancing.{behavior_read}
use Rattle.cs_acts.proofs.laws.the_index_of_a_class_is_that_of_the_table.Goals as goal

pub returns : goal.returns
returns c = behavior_read
