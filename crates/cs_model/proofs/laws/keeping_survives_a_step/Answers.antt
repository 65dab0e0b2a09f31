-- The law keeping survives a step.
use Rattle.std.proofs.Common.{ap}
use Rattle.cs_model.proofs.Whole.{step-alike}
use Rattle.cs_model.proofs.laws.keeping_survives_a_step.Goals as goal

pub returns-clause-ending : goal.returns-clause-ending
returns-clause-ending c = λ s t k. (step-alike s t k).ending

pub returns-clause-count : goal.returns-clause-count
returns-clause-count c = λ s t k. (step-alike s t k).count

pub returns-clause-run : goal.returns-clause-run
returns-clause-run c = λ s t k. (step-alike s t k).state.run

pub returns-clause-next : goal.returns-clause-next
returns-clause-next c = λ s t k. ap (λ r. r.next) (step-alike s t k).state.kept.rest

pub returns-clause-keeps : goal.returns-clause-keeps
returns-clause-keeps c = λ s t k. (step-alike s t k).state

pub returns-clause-held : goal.returns-clause-held
returns-clause-held c = λ s t k. (step-alike s t k).grows

pub returns-clause-snapshot : goal.returns-clause-snapshot
returns-clause-snapshot c = λ s t k. (step-alike s t k).snapshot
