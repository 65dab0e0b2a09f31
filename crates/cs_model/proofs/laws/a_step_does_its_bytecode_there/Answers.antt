-- The law a step does its bytecode there.
use Rattle.cs_model.proofs.Doing.{bytecode_done, bytecode_undone}
use Rattle.cs_model.proofs.laws.a_step_does_its_bytecode_there.Goals as goal

pub returns-clause-done : goal.returns-clause-done
returns-clause-done c = bytecode_done

pub returns-clause-undone : goal.returns-clause-undone
returns-clause-undone c = bytecode_undone
