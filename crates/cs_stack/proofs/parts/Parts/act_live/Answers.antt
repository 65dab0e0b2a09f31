use Rattle.std.proofs.Common.{is_some, ap, refl, subst, ◌∙◌, IsSome, arith}
use Rattle.cs_stack.specs.View.{act_of}
use Rattle.cs_stack.proofs.Acts.{answers, context_act, context_live, frame_act, frame_live, if_some, slot_within}
use Rattle.cs_stack.proofs.parts.Parts.act_live.Goals as goal

pub slot-requires : goal.slot-requires
slot-requires c = slot_within (context_act c.args.self.now c.in-Context.context c.requires.good (subst (λ a. IsSome (act_of c.args.self.now a)) c.in-Context.is c.requires.stands)) 1 (omega arith)

pub returns-in-Frame : goal.returns-in-Frame
returns-in-Frame c =
    let f = frame_act c.args.self.now c.in-Frame.page c.in-Frame.at c.requires.good (subst (λ a. IsSome (act_of c.args.self.now a)) c.in-Frame.is c.requires.stands) in
    if_some _ _ _ (ap (act_of c.args.self.now) c.in-Frame.is ∙ f.answers) (frame_live c.requires.good f)

pub returns-in-Context : goal.returns-in-Context
returns-in-Context c =
    let x = context_act c.args.self.now c.in-Context.context c.requires.good (subst (λ a. IsSome (act_of c.args.self.now a)) c.in-Context.is c.requires.stands) in
    if_some _ _ _ (ap (act_of c.args.self.now) c.in-Context.is ∙ answers x c.in-Context.context refl) ((c.is_some.ensures ∙ ap is_some (c.natural.ensures.value)) ∙ context_live x c.slot.result.0 c.slot.ensures)
