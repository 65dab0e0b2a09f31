use Rattle.std.proofs.Common.{subst}
use Rattle.cs_acts.specs.Ready.{IsSound}
use Rattle.cs_stack.specs.declared.parts.Parts.{Parts}
use Rattle.cs_stack.specs.View.{stored_of, view_of}
use Rattle.cs_stack.proofs.Closed.{good_sound}
use Rattle.cs_stack.proofs.StackWorld.take_context.Goals as goal

pub slot-requires-clause-sound : goal.slot-requires-clause-sound
slot-requires-clause-sound c = subst (λ (w : Parts). IsSound (stored_of w) (view_of w)) c.self.view_is (good_sound c.self.inside.parts c.self.invariant)

pub returns-in-Some-clause-sound : goal.returns-in-Some-clause-sound
returns-in-Some-clause-sound c = good_sound c.take.new.self c.take.ensures.good
