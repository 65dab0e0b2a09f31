-- The law keeping agrees in reads.
use Rattle.cs_model.proofs.Agreeing.{IsRunning-kept, object_at-kept, object_of-kept, is_read_only-kept, slots_of-kept, special_at-kept, class_of-kept, active_context-kept, method_of-kept, literals_of-kept, bytecodes_of-kept, scheduler_of-kept, shaped_scheduler-kept, active_process-kept, context_get-kept, accepts-kept, can_evaluate-kept, hash_of-kept, lookup-kept, senders_to-kept, home-kept, is_idle-kept, instruction_at-kept}
use Rattle.cs_model.proofs.laws.keeping_agrees_in_reads.Goals as goal

pub returns-clause-object_at : goal.returns-clause-object_at
returns-clause-object_at c = object_at-kept

pub returns-clause-object_of : goal.returns-clause-object_of
returns-clause-object_of c = object_of-kept

pub returns-clause-is_read_only : goal.returns-clause-is_read_only
returns-clause-is_read_only c = is_read_only-kept

pub returns-clause-slots_of : goal.returns-clause-slots_of
returns-clause-slots_of c = slots_of-kept

pub returns-clause-special_at : goal.returns-clause-special_at
returns-clause-special_at c = special_at-kept

pub returns-clause-class_of : goal.returns-clause-class_of
returns-clause-class_of c = class_of-kept

pub returns-clause-active_context : goal.returns-clause-active_context
returns-clause-active_context c = active_context-kept

pub returns-clause-method_of : goal.returns-clause-method_of
returns-clause-method_of c = method_of-kept

pub returns-clause-literals_of : goal.returns-clause-literals_of
returns-clause-literals_of c = literals_of-kept

pub returns-clause-bytecodes_of : goal.returns-clause-bytecodes_of
returns-clause-bytecodes_of c = bytecodes_of-kept

pub returns-clause-scheduler_of : goal.returns-clause-scheduler_of
returns-clause-scheduler_of c = scheduler_of-kept

pub returns-clause-shaped_scheduler : goal.returns-clause-shaped_scheduler
returns-clause-shaped_scheduler c = shaped_scheduler-kept

pub returns-clause-active_process : goal.returns-clause-active_process
returns-clause-active_process c = active_process-kept

pub returns-clause-context_get : goal.returns-clause-context_get
returns-clause-context_get c = context_get-kept

pub returns-clause-accepts : goal.returns-clause-accepts
returns-clause-accepts c = accepts-kept

pub returns-clause-can_evaluate : goal.returns-clause-can_evaluate
returns-clause-can_evaluate c = can_evaluate-kept

pub returns-clause-hash_of : goal.returns-clause-hash_of
returns-clause-hash_of c = hash_of-kept

pub returns-clause-lookup : goal.returns-clause-lookup
returns-clause-lookup c = lookup-kept

pub returns-clause-senders_to : goal.returns-clause-senders_to
returns-clause-senders_to c = senders_to-kept

pub returns-clause-home : goal.returns-clause-home
returns-clause-home c = home-kept

pub returns-clause-is_idle : goal.returns-clause-is_idle
returns-clause-is_idle c = is_idle-kept

pub returns-clause-instruction_at : goal.returns-clause-instruction_at
returns-clause-instruction_at c = instruction_at-kept

pub returns-clause-running : goal.returns-clause-running
returns-clause-running c = IsRunning-kept
