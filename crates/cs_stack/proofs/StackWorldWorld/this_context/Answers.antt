use Rattle.cs_stack.proofs.Closed.{good_sound}
use Rattle.cs_stack.proofs.Fields.{on_ok}
use Rattle.cs_stack.proofs.StackWorldWorld.this_context.Goals as goal

pub returns-clause-sound : goal.returns-clause-sound
returns-clause-sound c = on_ok c.this_context.result (good_sound c.this_context.new.self c.this_context.ensures.good)
