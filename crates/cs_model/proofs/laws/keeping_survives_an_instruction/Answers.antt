-- The law keeping survives an instruction.
use Rattle.cs_model.proofs.Surviving.{exec-alike, push_out-alike, push_all-alike, refuse_store-alike, jump_out-alike, special_send_out-alike, send_selector_out-alike}
use Rattle.cs_model.proofs.laws.keeping_survives_an_instruction.Goals as goal

pub returns-clause-any : goal.returns-clause-any
returns-clause-any c = exec-alike

pub returns-clause-push : goal.returns-clause-push
returns-clause-push c = push_out-alike

pub returns-clause-push_all : goal.returns-clause-push_all
returns-clause-push_all c = push_all-alike

pub returns-clause-refuse_store : goal.returns-clause-refuse_store
returns-clause-refuse_store c = refuse_store-alike

pub returns-clause-jump : goal.returns-clause-jump
returns-clause-jump c = jump_out-alike

pub returns-clause-special_send : goal.returns-clause-special_send
returns-clause-special_send c = special_send_out-alike

pub returns-clause-selector_send : goal.returns-clause-selector_send
returns-clause-selector_send c = send_selector_out-alike
