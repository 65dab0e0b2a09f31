use Rattle.std.proofs.Common.{ap, subst, sym, ◌∙◌}
use Rattle.cs_model.specs.Ref.{same_ref}
use Rattle.cs_model.specs.State.{active_process}
use Rattle.cs_acts.specs.Names.{NamesOption, name_of}
use Rattle.cs_stack.specs.declared.parts.Parts.{Parts}
use Rattle.cs_stack.specs.View.{stored_of, view_of}
use Rattle.cs_stack.proofs.Opening.{runs_taken}
use Rattle.cs_stack.proofs.StackWorld.open.Goals as goal

pub take_context-requires-clause-running : goal.take_context-requires-clause-running
take_context-requires-clause-running c =
    let w : Parts = c.args.self.now in
    let found = (subst (λ o. NamesOption (stored_of w) o (active_process (view_of w))) c.in-Some.is c.active_process.ensures).is in
    let name = name_of (stored_of w) c.in-Some.process in
    runs_taken (view_of w) name (sym found) (ap (same_ref name) (sym c.nil-nil.ensures.is) ∙ sym c.same.ensures ∙ c.if-not-same.true) c.requires.running
