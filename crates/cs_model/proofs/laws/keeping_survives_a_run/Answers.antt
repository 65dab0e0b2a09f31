-- The law keeping survives a run.
use Rattle.std.proofs.Common.{ap}
use Rattle.cs_model.proofs.Whole.{run-alike}
use Rattle.cs_model.proofs.laws.keeping_survives_a_run.Goals as goal

pub returns-clause-ending : goal.returns-clause-ending
returns-clause-ending c = λ n s t k. (run-alike n s t k).ending

pub returns-clause-count : goal.returns-clause-count
returns-clause-count c = λ n s t k. (run-alike n s t k).count

pub returns-clause-run : goal.returns-clause-run
returns-clause-run c = λ n s t k. (run-alike n s t k).state.run

pub returns-clause-next : goal.returns-clause-next
returns-clause-next c = λ n s t k. ap (λ r. r.next) (run-alike n s t k).state.kept.rest

pub returns-clause-keeps : goal.returns-clause-keeps
returns-clause-keeps c = λ n s t k. (run-alike n s t k).state

pub returns-clause-held : goal.returns-clause-held
returns-clause-held c = λ n s t k. (run-alike n s t k).grows

pub returns-clause-snapshots : goal.returns-clause-snapshots
returns-clause-snapshots c = λ n s t k. (run-alike n s t k).snapshots
