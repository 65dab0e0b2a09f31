use Rattle.std.proofs.Common.{◌≡◌, ◌∙◌, None, Some, refl, sym, ap, subst}
use Rattle.cs_model.specs.Exec.{send_selector_out}
use Rattle.cs_model.specs.Number.{selector_primitive}
use Rattle.cs_acts.specs.Arithmetic.{primitive_of}
use Rattle.cs_acts.specs.Names.{name_of}
use Rattle.cs_code.specs.Gives.{Gives}
use Rattle.cs_code.proofs.Closing.{made-none}
use Rattle.cs_code.proofs.Selecting.{sent_alone, special-computes, special-sent}
use Rattle.cs_code.proofs.arithmetic.special.Goals as goal

pub returns-in_default : goal.returns-in_default
returns-in_default g c =
    let k = g.W.World.view c.args.w.now in
    let s = g.W.World.stored c.args.w.now in
    let l = g.W.World.layout c.args.w.now in
    let none : selector_primitive c.args.i ≡ 0 = ap selector_primitive (sym c.from-i.ensures) ∙ sent_alone c.from_index.result c.from-i.result c.from_index.ensures c.in_default.not-Computes in
    record {
      gives = subst (λ o. Gives s s l k c.send_selector.result o) (ap (send_selector_out k) c.from-i.ensures ∙ sym (special-sent k c.args.i none)) c.send_selector.ensures;
      layout = refl;
      limit = refl;
      contexts = made-none l 0 s;
    }

pub returns-in-Some-clause-gives : goal.returns-in-Some-clause-gives
returns-in-Some-clause-gives g c =
    let k = g.W.World.view c.args.w.now in
    let s = g.W.World.stored c.args.w.now in
    let number : selector_primitive c.args.i ≡ primitive_of c.in-Computes.operation = ap selector_primitive (sym c.from-i.ensures) ∙ c.in-Computes.ensures in
    subst (λ o. Gives s (g.W.World.stored c.replace_two.new.w) (g.W.World.layout c.args.w.now) (g.W.World.view c.replace_two.new.w) c.replace_two.result o)
    (sym (special-computes k c.args.i (primitive_of c.in-Computes.operation) (Some (name_of s c.in-Some.x)) number c.in-Some.ensures.value.is)) c.replace_two.ensures.gives

pub returns-in-None-clause-gives : goal.returns-in-None-clause-gives
returns-in-None-clause-gives g c =
    let k = g.W.World.view c.args.w.now in
    let s = g.W.World.stored c.args.w.now in
    let number : selector_primitive c.args.i ≡ primitive_of c.in-Computes.operation = ap selector_primitive (sym c.from-i.ensures) ∙ c.in-Computes.ensures in
    subst (λ o. Gives s s (g.W.World.layout c.args.w.now) k c.send_selector-in-None.result o)
    (ap (send_selector_out k) c.from-i.ensures ∙ sym (special-computes k c.args.i (primitive_of c.in-Computes.operation) None number c.in-None.ensures.value.is)) c.send_selector-in-None.ensures
