use Rattle.std.proofs.Common.{subst}
use Rattle.cs_acts.specs.Layout.{IsLaidOut}
use Rattle.cs_stack.specs.View.{layout_of, stored_of, view_of}
use Rattle.cs_stack.proofs.Laid.{good_laid}
use Rattle.cs_stack.proofs.StackWorldWorld.active.Goals as goal

pub returns-clause-laid : goal.returns-clause-laid
returns-clause-laid c = subst (λ w. IsLaidOut (stored_of w) (view_of w) (layout_of w)) c.self.view_is (good_laid _ c.self.invariant)
