use Rattle.cs_acts.proofs.Instancing.{instance_read}
use Rattle.cs_acts.proofs.laws.an_instance_is_what_is_planned.Goals as goal

pub returns : goal.returns
returns c = instance_read
