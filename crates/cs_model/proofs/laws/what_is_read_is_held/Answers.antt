-- The law what is read is held.
use Rattle.cs_model.proofs.Agreeing.{special_at-held, class_of-held, slots_of-held, active_context-held, literals_of-held, scheduler_of-held, active_process-held, lookup-held}
use Rattle.cs_model.proofs.laws.what_is_read_is_held.Goals as goal

pub returns-clause-special : goal.returns-clause-special
returns-clause-special c = special_at-held

pub returns-clause-class : goal.returns-clause-class
returns-clause-class c = class_of-held

pub returns-clause-slots : goal.returns-clause-slots
returns-clause-slots c = slots_of-held

pub returns-clause-context : goal.returns-clause-context
returns-clause-context c = active_context-held

pub returns-clause-literals : goal.returns-clause-literals
returns-clause-literals c = literals_of-held

pub returns-clause-scheduler : goal.returns-clause-scheduler
returns-clause-scheduler c = scheduler_of-held

pub returns-clause-process : goal.returns-clause-process
returns-clause-process c = active_process-held

pub returns-clause-method : goal.returns-clause-method
returns-clause-method c = lookup-held
