use Rattle.std.proofs.Common.{subst}
use Rattle.cs_model.specs.State.{Kept}
use Rattle.cs_model.specs.Keeps.{Keeps}
use Rattle.cs_model.specs.Operation.{leave_of}
use Rattle.cs_acts.specs.Names.{name_of}
use Rattle.cs_stack.specs.declared.parts.Parts.{Parts}
use Rattle.cs_stack.specs.View.{stored_of, view_of}
use Rattle.cs_stack.proofs.StackWorldWorld.leave.Goals as goal

pub returns-clause-state : goal.returns-clause-state
returns-clause-state c =
    subst (λ (w : Parts). (m : Kept) → Keeps (view_of w) m → Keeps (view_of c.leave.new.self) (leave_of m (name_of (stored_of w) c.args.v))) c.self.view_is c.leave.ensures.state
