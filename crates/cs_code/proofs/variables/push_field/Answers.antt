use Rattle.std.proofs.Common.{sym, subst, ap, ◌∙◌}
use Rattle.cs_model.specs.Context.{is_context_ref}
use Rattle.cs_acts.specs.Names.{name_of}
use Rattle.cs_code.specs.Gives.{Gives, Refuses}
use Rattle.cs_code.proofs.Looking.{receiver-field}
use Rattle.cs_code.proofs.Fields.{receiver-pushed-there}
use Rattle.cs_code.proofs.variables.push_field.Goals as goal

pub returns-in-Some-clause-gives : goal.returns-in-Some-clause-gives
returns-in-Some-clause-gives g c = λ _.
    let k = g.W.World.view c.args.w.now in
    let s = g.W.World.stored c.args.w.now in
    subst (λ o. Gives s (g.W.World.stored c.push.new.w) (g.W.World.layout c.args.w.now) (g.W.World.view c.push.new.w) c.push.result o)
    (sym (receiver-pushed-there k c.args.i c.from-2.result (name_of s c.receiver-receiver.result) (name_of s c.in-Some.x)
    (ap (is_context_ref k) (sym c.receiver-receiver.ensures.is) ∙ sym c.is_context.ensures ∙ c.if-is_context.false) c.receiver-receiver.ensures.is c.from-2.ensures c.in-Some.ensures.is)) c.push.ensures.gives

pub returns-then-is_context-clause-full : goal.returns-then-is_context-clause-full
returns-then-is_context-clause-full g c why is =
    let k = g.W.World.view c.args.w.now in
    subst (λ o. Refuses (g.W.World.stored c.push_context_field.new.w) (g.W.World.layout c.args.w.now) k o why)
    (receiver-field k c.args.i c.from.result (name_of (g.W.World.stored c.args.w.now) c.receiver-receiver.result) c.receiver-receiver.ensures.is c.from.ensures) (c.push_context_field.ensures.full why is)
