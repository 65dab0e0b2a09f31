-- The law keeping survives an operation.
use Rattle.cs_model.proofs.Surviving.{Keeps-put, Keeps-set_pc, Keeps-push, Keeps-drop, Keeps-set_stack, Keeps-store, Keeps-store_byte, Keeps-set_fixed, Keeps-add, Keeps-fill, Keeps-enter, Keeps-enter_block, Keeps-kill, Keeps-resume_at, Keeps-suspend_all, Keeps-leave, Keeps-cut_to, Keeps-context_put, Keeps-end_between, Keeps-take_index, Keeps-hash_given, Keeps-settle, Keeps-open}
use Rattle.cs_model.proofs.laws.keeping_survives_an_operation.Goals as goal

pub returns-clause-put : goal.returns-clause-put
returns-clause-put c = Keeps-put

pub returns-clause-set_pc : goal.returns-clause-set_pc
returns-clause-set_pc c = Keeps-set_pc

pub returns-clause-push : goal.returns-clause-push
returns-clause-push c = Keeps-push

pub returns-clause-drop : goal.returns-clause-drop
returns-clause-drop c = Keeps-drop

pub returns-clause-set_stack : goal.returns-clause-set_stack
returns-clause-set_stack c = Keeps-set_stack

pub returns-clause-store : goal.returns-clause-store
returns-clause-store c = Keeps-store

pub returns-clause-store_byte : goal.returns-clause-store_byte
returns-clause-store_byte c = Keeps-store_byte

pub returns-clause-set_fixed : goal.returns-clause-set_fixed
returns-clause-set_fixed c = Keeps-set_fixed

pub returns-clause-add : goal.returns-clause-add
returns-clause-add c = Keeps-add

pub returns-clause-fill : goal.returns-clause-fill
returns-clause-fill c = Keeps-fill

pub returns-clause-enter : goal.returns-clause-enter
returns-clause-enter c = Keeps-enter

pub returns-clause-enter_block : goal.returns-clause-enter_block
returns-clause-enter_block c = Keeps-enter_block

pub returns-clause-kill : goal.returns-clause-kill
returns-clause-kill c = Keeps-kill

pub returns-clause-resume : goal.returns-clause-resume
returns-clause-resume c = Keeps-resume_at

pub returns-clause-suspend : goal.returns-clause-suspend
returns-clause-suspend c = Keeps-suspend_all

pub returns-clause-leave : goal.returns-clause-leave
returns-clause-leave c = Keeps-leave

pub returns-clause-cut_to : goal.returns-clause-cut_to
returns-clause-cut_to c = Keeps-cut_to

pub returns-clause-context_put : goal.returns-clause-context_put
returns-clause-context_put c = Keeps-context_put

pub returns-clause-end_between : goal.returns-clause-end_between
returns-clause-end_between c = Keeps-end_between

pub returns-clause-take_index : goal.returns-clause-take_index
returns-clause-take_index c = Keeps-take_index

pub returns-clause-hash_given : goal.returns-clause-hash_given
returns-clause-hash_given c = Keeps-hash_given

pub returns-clause-settle : goal.returns-clause-settle
returns-clause-settle c = Keeps-settle

pub returns-clause-open : goal.returns-clause-open
returns-clause-open c = Keeps-open
