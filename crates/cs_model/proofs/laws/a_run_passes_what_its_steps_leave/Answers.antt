-- The law a run passes what its steps leave.
use Rattle.cs_model.proofs.Passing.{event_is, count_is, last_is, none_come, states_end}
use Rattle.cs_model.proofs.laws.a_run_passes_what_its_steps_leave.Goals as goal

pub returns-clause-event : goal.returns-clause-event
returns-clause-event c = event_is

pub returns-clause-count : goal.returns-clause-count
returns-clause-count c = count_is

pub returns-clause-last : goal.returns-clause-last
returns-clause-last c = last_is

pub returns-clause-none : goal.returns-clause-none
returns-clause-none c = none_come

pub returns-clause-step : goal.returns-clause-step
returns-clause-step c = states_end
