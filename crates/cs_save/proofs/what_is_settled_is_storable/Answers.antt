-- The law what is settled is storable.
use Rattle.cs_save.proofs.Settled.{settled_storable}
use Rattle.cs_save.proofs.what_is_settled_is_storable.Goals as goal

pub returns : goal.returns
returns c = settled_storable
