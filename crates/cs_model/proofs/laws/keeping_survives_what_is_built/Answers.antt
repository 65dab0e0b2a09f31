-- The law keeping survives what is built.
use Rattle.cs_model.proofs.Whole.{built_step-alike, built_run-alike}
use Rattle.cs_model.proofs.laws.keeping_survives_what_is_built.Goals as goal

pub returns-clause-step : goal.returns-clause-step
returns-clause-step c = built_step-alike

pub returns-clause-run : goal.returns-clause-run
returns-clause-run c = built_run-alike
