-- The law the contexts changed are those of the primitives.
use Rattle.cs_model.proofs.Changing.{end_is, slot_is}
use Rattle.cs_model.proofs.laws.the_contexts_changed_are_those_of_the_primitives.Goals as goal

pub returns-clause-ended : goal.returns-clause-ended
returns-clause-ended c = end_is

pub returns-clause-slot : goal.returns-clause-slot
returns-clause-slot c = slot_is
