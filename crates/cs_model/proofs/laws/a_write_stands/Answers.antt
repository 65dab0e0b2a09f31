-- The law a write stands.
use Rattle.cs_model.proofs.Objects.{object_at-put_same, object_at-put_other, rest-put}
use Rattle.cs_model.proofs.laws.a_write_stands.Goals as goal

pub returns-clause-same : goal.returns-clause-same
returns-clause-same c = object_at-put_same

pub returns-clause-other : goal.returns-clause-other
returns-clause-other c = object_at-put_other

pub returns-clause-rest : goal.returns-clause-rest
returns-clause-rest c = rest-put
