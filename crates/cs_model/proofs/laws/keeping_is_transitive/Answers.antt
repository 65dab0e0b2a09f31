-- The law keeping is transitive.
use Rattle.cs_model.proofs.Keeping.{Keeps-itself, Keeps-trans, Keeps-left, Keeps-right}
use Rattle.cs_model.proofs.laws.keeping_is_transitive.Goals as goal

pub returns-clause-itself : goal.returns-clause-itself
returns-clause-itself c = λ v m k. Keeps-itself k

pub returns-clause-transitive : goal.returns-clause-transitive
returns-clause-transitive c = λ u v m j k. Keeps-trans j k

pub returns-clause-left : goal.returns-clause-left
returns-clause-left c = λ u v m e k. Keeps-left e k

pub returns-clause-right : goal.returns-clause-right
returns-clause-right c = λ v m n k e. Keeps-right k e
