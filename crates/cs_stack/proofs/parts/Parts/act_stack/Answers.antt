use Rattle.std.proofs.Common.{ap, arith, refl, subst, length, ◌∙◌, ◌<◌, IsSome}
use Rattle.cs_frame.specs.Page.{frame}
use Rattle.cs_stack.specs.View.{act_of}
use Rattle.cs_stack.proofs.Acts.{answers, context_act, frame_act, if_some}
use Rattle.cs_stack.proofs.Fields.{some_if}
use Rattle.cs_stack.proofs.Depths.{context_few, context_value, context_within, frame_depth, frame_value}
use Rattle.cs_stack.proofs.parts.Parts.act_stack.Goals as goal

pub slot-requires-clause-frame : goal.slot-requires-clause-frame
slot-requires-clause-frame c = (frame_act c.args.self.now c.in-Frame.page c.in-Frame.at c.requires.good (subst (λ a. IsSome (act_of c.args.self.now a)) c.in-Frame.is c.requires.stands)).there

pub slot-requires-clause-index : goal.slot-requires-clause-index
slot-requires-clause-index c =
    let f = frame_act c.args.self.now c.in-Frame.page c.in-Frame.at c.requires.good (subst (λ a. IsSome (act_of c.args.self.now a)) c.in-Frame.is c.requires.stands) in
    omega (arith, some_if _ _ _ (ap (act_of c.args.self.now) c.in-Frame.is ∙ f.answers) c.requires.there, frame_depth c.requires.good f)

pub slot-requires-in-Context : goal.slot-requires-in-Context
slot-requires-in-Context c =
    let x = context_act c.args.self.now c.in-Context.context c.requires.good (subst (λ a. IsSome (act_of c.args.self.now a)) c.in-Context.is c.requires.stands) in
    context_within c.requires.good x c.args.i (some_if _ _ _ (ap (act_of c.args.self.now) c.in-Context.is ∙ answers x c.in-Context.context refl) c.requires.there)

pub returns-in-Frame : goal.returns-in-Frame
returns-in-Frame c =
    let f = frame_act c.args.self.now c.in-Frame.page c.in-Frame.at c.requires.good (subst (λ a. IsSome (act_of c.args.self.now a)) c.in-Frame.is c.requires.stands) in
    let stands = ap (act_of c.args.self.now) c.in-Frame.is ∙ f.answers in
    if_some _ _ _ stands (frame_value c.requires.good f c.slot.result c.args.i (omega (arith, some_if _ _ _ stands c.requires.there, frame_depth c.requires.good f)) c.slot.ensures.value)

pub returns-in-Context : goal.returns-in-Context
returns-in-Context c =
    let x = context_act c.args.self.now c.in-Context.context c.requires.good (subst (λ a. IsSome (act_of c.args.self.now a)) c.in-Context.is c.requires.stands) in
    let stands = ap (act_of c.args.self.now) c.in-Context.is ∙ answers x c.in-Context.context refl in
    if_some _ _ _ stands (context_value c.requires.good x c.slot-in-Context.result c.args.i (some_if _ _ _ stands c.requires.there) c.slot-in-Context.ensures)

pub overflow_add-i : goal.overflow_add-i
overflow_add-i c =
    let x = context_act c.args.self.now c.in-Context.context c.requires.good (subst (λ a. IsSome (act_of c.args.self.now a)) c.in-Context.is c.requires.stands) in
    omega (arith, context_few c.requires.good x c.args.i (some_if _ _ _ (ap (act_of c.args.self.now) c.in-Context.is ∙ answers x c.in-Context.context refl) c.requires.there))
