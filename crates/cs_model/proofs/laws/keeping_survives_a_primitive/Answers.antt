-- The law keeping survives a primitive.
use Rattle.cs_model.proofs.Surviving.{kept_prim-alike, answer-alike}
use Rattle.cs_model.proofs.Whole.{prim-alike, try_primitive-alike}
use Rattle.cs_model.proofs.laws.keeping_survives_a_primitive.Goals as goal

pub returns-clause-kept : goal.returns-clause-kept
returns-clause-kept c = kept_prim-alike

pub returns-clause-answered : goal.returns-clause-answered
returns-clause-answered c = answer-alike

pub returns-clause-any : goal.returns-clause-any
returns-clause-any c = prim-alike

pub returns-clause-tried : goal.returns-clause-tried
returns-clause-tried c = try_primitive-alike
