-- The law keeping survives an event.
use Rattle.cs_model.proofs.Surviving.{signal_external-alike}
use Rattle.cs_model.proofs.Whole.{due-alike}
use Rattle.cs_model.proofs.laws.keeping_survives_an_event.Goals as goal

pub returns-clause-external : goal.returns-clause-external
returns-clause-external c = signal_external-alike

pub returns-clause-due : goal.returns-clause-due
returns-clause-due c = due-alike
