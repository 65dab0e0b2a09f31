use Rattle.std.proofs.Common.{◌+◌, ◌∙◌, sym, ap, subst}
use Rattle.cs_model.specs.Exec.{send_selector_out}
use Rattle.cs_code.specs.Gives.{Gives}
use Rattle.cs_code.specs.Selectors.{HasIndex}
use Rattle.cs_code.proofs.Selecting.{common-sent}
use Rattle.cs_code.proofs.arithmetic.common.Goals as goal

pub returns-in_default-clause-gives : goal.returns-in_default-clause-gives
returns-in_default-clause-gives g c =
    let k = g.W.World.view c.args.w.now in
    let s = g.W.World.stored c.args.w.now in
    let q = c.from_index.result in
    let index = ap (λ n. 16 + n) c.from-i.ensures in
    subst (λ o. Gives s s (g.W.World.layout c.args.w.now) k c.send_selector.result o)
    (ap (send_selector_out k) index ∙ sym (common-sent k c.args.i q (subst (HasIndex q) index c.from_index.ensures) c.in_default.not-Compares c.in_default.not-TellsClass)) c.send_selector.ensures
