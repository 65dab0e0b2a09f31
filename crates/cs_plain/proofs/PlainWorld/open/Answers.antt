use Rattle.std.proofs.Common.{ap, subst, sym, ◌∙◌}
use Rattle.cs_model.specs.Ref.{same_ref}
use Rattle.cs_acts.specs.Names.{NamesOption, name_of}
use Rattle.cs_model.specs.State.{active_process}
use Rattle.cs_plain.specs.View.{plain_stored, plain_view}
use Rattle.cs_plain.proofs.Opening.{runs_taken}
use Rattle.cs_plain.proofs.PlainWorld.open.Goals as goal

pub take_context-requires-clause-running : goal.take_context-requires-clause-running
take_context-requires-clause-running c =
    let w = c.args.self.now in
    let found = (subst (λ o. NamesOption (plain_stored w) o (active_process (plain_view w))) c.in-Some.is c.active_process.ensures).is in
    let name = name_of (plain_stored w) c.in-Some.process in
    runs_taken (plain_view w) name (sym found) (ap (same_ref name) (sym c.nil-nil.ensures.is) ∙ sym c.same.ensures ∙ c.if-not-same.true) c.requires.running
