-- The law opening undoes settling.
use Rattle.cs_model.proofs.Settling.{opened-settled, run-opened}
use Rattle.cs_model.proofs.laws.opening_undoes_settling.Goals as goal

pub returns-clause-kept : goal.returns-clause-kept
returns-clause-kept c = opened-settled

pub returns-clause-run : goal.returns-clause-run
returns-clause-run c = run-opened
