-- The law what was held still is.
use Rattle.cs_model.proofs.Surviving.{grows-put, grows-set_pc, grows-push, grows-drop, grows-set_stack, grows-store, grows-store_byte, grows-set_fixed, grows-add, grows-fill, grows-enter, grows-enter_block, grows-kill, grows-resume_at, grows-suspend_all, grows-leave, grows-cut_to, grows-context_put, grows-end_between, grows-take_index, grows-hash_given, grows-settle, grows-open}
use Rattle.cs_model.proofs.laws.what_was_held_still_is.Goals as goal

pub returns-clause-put : goal.returns-clause-put
returns-clause-put c = grows-put

pub returns-clause-set_pc : goal.returns-clause-set_pc
returns-clause-set_pc c = grows-set_pc

pub returns-clause-push : goal.returns-clause-push
returns-clause-push c = grows-push

pub returns-clause-drop : goal.returns-clause-drop
returns-clause-drop c = grows-drop

pub returns-clause-set_stack : goal.returns-clause-set_stack
returns-clause-set_stack c = grows-set_stack

pub returns-clause-store : goal.returns-clause-store
returns-clause-store c = grows-store

pub returns-clause-store_byte : goal.returns-clause-store_byte
returns-clause-store_byte c = grows-store_byte

pub returns-clause-set_fixed : goal.returns-clause-set_fixed
returns-clause-set_fixed c = grows-set_fixed

pub returns-clause-add : goal.returns-clause-add
returns-clause-add c = grows-add

pub returns-clause-fill : goal.returns-clause-fill
returns-clause-fill c = grows-fill

pub returns-clause-enter : goal.returns-clause-enter
returns-clause-enter c = grows-enter

pub returns-clause-enter_block : goal.returns-clause-enter_block
returns-clause-enter_block c = grows-enter_block

pub returns-clause-kill : goal.returns-clause-kill
returns-clause-kill c = grows-kill

pub returns-clause-resume : goal.returns-clause-resume
returns-clause-resume c = grows-resume_at

pub returns-clause-suspend : goal.returns-clause-suspend
returns-clause-suspend c = grows-suspend_all

pub returns-clause-leave : goal.returns-clause-leave
returns-clause-leave c = grows-leave

pub returns-clause-cut_to : goal.returns-clause-cut_to
returns-clause-cut_to c = grows-cut_to

pub returns-clause-context_put : goal.returns-clause-context_put
returns-clause-context_put c = grows-context_put

pub returns-clause-end_between : goal.returns-clause-end_between
returns-clause-end_between c = grows-end_between

pub returns-clause-take_index : goal.returns-clause-take_index
returns-clause-take_index c = grows-take_index

pub returns-clause-hash_given : goal.returns-clause-hash_given
returns-clause-hash_given c = grows-hash_given

pub returns-clause-settle : goal.returns-clause-settle
returns-clause-settle c = grows-settle

pub returns-clause-open : goal.returns-clause-open
returns-clause-open c = grows-open
