use Rattle.cs_stack.proofs.Closed.{good_sound}
use Rattle.cs_stack.proofs.Fields.{on_ok}
use Rattle.cs_stack.proofs.StackWorldWorld.act_context.Goals as goal

pub returns-clause-sound : goal.returns-clause-sound
returns-clause-sound c = on_ok c.act_context.result (good_sound c.act_context.new.self c.act_context.ensures.good)
