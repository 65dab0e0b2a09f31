use Rattle.cs_stack.proofs.Closed.{good_sound}
use Rattle.cs_stack.proofs.Fields.{on_ok}
use Rattle.cs_stack.proofs.StackWorldWorld.context_get.Goals as goal

pub returns-clause-sound : goal.returns-clause-sound
returns-clause-sound c = on_ok c.context_get.result (good_sound c.context_get.new.self c.context_get.ensures.good)
