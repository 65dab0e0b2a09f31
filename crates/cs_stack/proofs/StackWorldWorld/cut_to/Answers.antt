use Rattle.std.proofs.Common.{subst, IfSome}
use Rattle.cs_model.specs.State.{Kept}
use Rattle.cs_model.specs.Keeps.{Keeps}
use Rattle.cs_model.specs.Operation.{cut_to_of}
use Rattle.cs_model.specs.Return.{sender_birth}
use Rattle.cs_acts.specs.Layout.{LaidBy, cut}
use Rattle.cs_acts.specs.Names.{name_of}
use Rattle.cs_acts.specs.Targets.{dying_to}
use Rattle.cs_stack.specs.declared.parts.Parts.{Parts}
use Rattle.cs_stack.specs.View.{act_of, layout_of, stored_of, view_of}
use Rattle.cs_stack.proofs.StackWorldWorld.cut_to.Goals as goal

pub returns-clause-state : goal.returns-clause-state
returns-clause-state c =
    subst (λ (w : Parts). IfSome (act_of w c.args.home) (λ birth. IfSome (sender_birth (view_of w) birth) (λ target. (m : Kept) → Keeps (view_of w) m → Keeps (view_of c.cut_to.new.self) (cut_to_of m (dying_to (view_of w) birth) target (name_of (stored_of w) c.args.v)))))
    c.self.view_is c.cut_to.ensures.state

pub returns-clause-layout : goal.returns-clause-layout
returns-clause-layout c =
    subst (λ (w : Parts). IfSome (act_of w c.args.home) (λ birth. IfSome (sender_birth (view_of w) birth) (λ target. LaidBy (cut (dying_to (view_of w) birth) target) (layout_of w) (layout_of c.cut_to.new.self))))
    c.self.view_is c.cut_to.ensures.layout
