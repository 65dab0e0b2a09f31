-- The law keeping survives a send.
use Rattle.cs_model.proofs.Surviving.{send-alike, invoke-alike, enter_out-alike, enter_block_out-alike, not_understood-alike, perform-alike, perform_with_arguments-alike, execute_method-alike}
use Rattle.cs_model.proofs.Whole.{do_send-alike}
use Rattle.cs_model.proofs.laws.keeping_survives_a_send.Goals as goal

pub returns-clause-any : goal.returns-clause-any
returns-clause-any c = send-alike

pub returns-clause-invoked : goal.returns-clause-invoked
returns-clause-invoked c = invoke-alike

pub returns-clause-entered : goal.returns-clause-entered
returns-clause-entered c = enter_out-alike

pub returns-clause-block : goal.returns-clause-block
returns-clause-block c = enter_block_out-alike

pub returns-clause-not_understood : goal.returns-clause-not_understood
returns-clause-not_understood c = not_understood-alike

pub returns-clause-performed : goal.returns-clause-performed
returns-clause-performed c = perform-alike

pub returns-clause-with_arguments : goal.returns-clause-with_arguments
returns-clause-with_arguments c = perform_with_arguments-alike

pub returns-clause-executed : goal.returns-clause-executed
returns-clause-executed c = execute_method-alike

pub returns-clause-whole : goal.returns-clause-whole
returns-clause-whole c = do_send-alike
