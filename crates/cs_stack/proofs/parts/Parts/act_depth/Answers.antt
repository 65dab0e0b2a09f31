use Rattle.std.proofs.Common.{ap, arith, refl, subst, unwrap_or, ◌∙◌, IsSome}
use Rattle.cs_stack.specs.View.{act_of}
use Rattle.cs_stack.proofs.Acts.{answers, context_act, frame_act, if_some, slot_within}
use Rattle.cs_stack.proofs.Depths.{context_depth, frame_depth}
use Rattle.cs_stack.proofs.parts.Parts.act_depth.Goals as goal

pub depth-requires : goal.depth-requires
depth-requires c = record { frame = (frame_act c.args.self.now c.in-Frame.page c.in-Frame.at c.requires.good (subst (λ a. IsSome (act_of c.args.self.now a)) c.in-Frame.is c.requires.stands)).there }

pub slot-requires : goal.slot-requires
slot-requires c = slot_within (context_act c.args.self.now c.in-Context.context c.requires.good (subst (λ a. IsSome (act_of c.args.self.now a)) c.in-Context.is c.requires.stands)) 2 (omega arith)

pub returns-in-Frame : goal.returns-in-Frame
returns-in-Frame c =
    let f = frame_act c.args.self.now c.in-Frame.page c.in-Frame.at c.requires.good (subst (λ a. IsSome (act_of c.args.self.now a)) c.in-Frame.is c.requires.stands) in
    if_some _ _ _ (ap (act_of c.args.self.now) c.in-Frame.is ∙ f.answers) (c.depth.ensures.depth ∙ frame_depth c.requires.good f)

pub returns-in-Context : goal.returns-in-Context
returns-in-Context c =
    let x = context_act c.args.self.now c.in-Context.context c.requires.good (subst (λ a. IsSome (act_of c.args.self.now a)) c.in-Context.is c.requires.stands) in
    if_some _ _ _ (ap (act_of c.args.self.now) c.in-Context.is ∙ answers x c.in-Context.context refl)
    (c.unwrap_or.ensures ∙ ap (λ o. unwrap_or o 0) c.natural.ensures.value ∙ context_depth c.requires.good x c.slot.result.0 c.slot.ensures)
