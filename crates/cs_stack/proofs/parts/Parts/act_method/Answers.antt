use Rattle.std.proofs.Common.{ap, refl, subst, ◌∙◌, IsSome, arith}
use Rattle.cs_stack.specs.View.{act_of}
use Rattle.cs_stack.proofs.Acts.{answers, context_act, context_method, frame_act, frame_method, if_some, slot_within}
use Rattle.cs_stack.proofs.parts.Parts.act_method.Goals as goal

pub method-requires : goal.method-requires
method-requires c = record { frame = (frame_act c.args.self.now c.in-Frame.page c.in-Frame.at c.requires.good (subst (λ a. IsSome (act_of c.args.self.now a)) c.in-Frame.is c.requires.stands)).there }

pub slot-requires : goal.slot-requires
slot-requires c = slot_within (context_act c.args.self.now c.in-Context.context c.requires.good (subst (λ a. IsSome (act_of c.args.self.now a)) c.in-Context.is c.requires.stands)) 3 (omega arith)

pub returns-in-Frame : goal.returns-in-Frame
returns-in-Frame c =
    let f = frame_act c.args.self.now c.in-Frame.page c.in-Frame.at c.requires.good (subst (λ a. IsSome (act_of c.args.self.now a)) c.in-Frame.is c.requires.stands) in
    if_some _ _ _ (ap (act_of c.args.self.now) c.in-Frame.is ∙ f.answers) (frame_method c.requires.good f c.method.result (c.method.ensures.method ∙ ap (λ g. g.method) f.is))

pub returns-in-Context : goal.returns-in-Context
returns-in-Context c =
    let x = context_act c.args.self.now c.in-Context.context c.requires.good (subst (λ a. IsSome (act_of c.args.self.now a)) c.in-Context.is c.requires.stands) in
    if_some _ _ _ (ap (act_of c.args.self.now) c.in-Context.is ∙ answers x c.in-Context.context refl) (context_method x c.slot.result c.slot.ensures)
