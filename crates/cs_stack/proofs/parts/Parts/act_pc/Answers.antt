use Rattle.std.proofs.Common.{ap, arith, refl, subst, ◌∙◌, IsSome}
use Rattle.cs_stack.specs.View.{act_of}
use Rattle.cs_stack.proofs.Acts.{answers, context_act, frame_act, if_some, slot_within}
use Rattle.cs_stack.proofs.Depths.{context_pc, frame_pc}
use Rattle.cs_stack.proofs.parts.Parts.act_pc.Goals as goal

pub saved_pc-requires : goal.saved_pc-requires
saved_pc-requires c = record { frame = (frame_act c.args.self.now c.in-Frame.page c.in-Frame.at c.requires.good (subst (λ a. IsSome (act_of c.args.self.now a)) c.in-Frame.is c.requires.stands)).there }

pub slot-requires : goal.slot-requires
slot-requires c = slot_within (context_act c.args.self.now c.in-Context.context c.requires.good (subst (λ a. IsSome (act_of c.args.self.now a)) c.in-Context.is c.requires.stands)) 1 (omega arith)

pub returns-in-Frame : goal.returns-in-Frame
returns-in-Frame c =
    let f = frame_act c.args.self.now c.in-Frame.page c.in-Frame.at c.requires.good (subst (λ a. IsSome (act_of c.args.self.now a)) c.in-Frame.is c.requires.stands) in
    if_some _ _ _ (ap (act_of c.args.self.now) c.in-Frame.is ∙ f.answers) (c.natural.ensures.value ∙ frame_pc c.requires.good f c.saved_pc.result.0 c.saved_pc.ensures.saved_pc)

pub returns-in-Context : goal.returns-in-Context
returns-in-Context c =
    let x = context_act c.args.self.now c.in-Context.context c.requires.good (subst (λ a. IsSome (act_of c.args.self.now a)) c.in-Context.is c.requires.stands) in
    if_some _ _ _ (ap (act_of c.args.self.now) c.in-Context.is ∙ answers x c.in-Context.context refl) (c.natural-in-Context.ensures.value ∙ context_pc c.requires.good x c.slot.result.0 c.slot.ensures)
