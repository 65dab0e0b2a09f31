use Rattle.std.proofs.Common.{ap, refl, subst, sym, ◌∙◌, Some, IsSome}
use Rattle.cs_stack.specs.View.{act_of}
use Rattle.cs_stack.proofs.Acts.{answers, birth_is, context_act, frame_act, object}
use Rattle.cs_stack.proofs.parts.Parts.act_birth.Goals as goal

pub birth-requires : goal.birth-requires
birth-requires c = record { frame = (frame_act c.args.self.now c.in-Frame.page c.in-Frame.at c.requires.good (subst (λ a. IsSome (act_of c.args.self.now a)) c.in-Frame.is c.requires.stands)).there }

pub birth-requires-in-Context : goal.birth-requires-in-Context
birth-requires-in-Context c = object (context_act c.args.self.now c.in-Context.context c.requires.good (subst (λ a. IsSome (act_of c.args.self.now a)) c.in-Context.is c.requires.stands))

pub returns-in-Frame : goal.returns-in-Frame
returns-in-Frame c =
    let f = frame_act c.args.self.now c.in-Frame.page c.in-Frame.at c.requires.good (subst (λ a. IsSome (act_of c.args.self.now a)) c.in-Frame.is c.requires.stands) in
    ap (act_of c.args.self.now) c.in-Frame.is ∙ f.answers ∙ ap Some (sym (c.birth.ensures.birth ∙ ap (λ g. g.birth) f.is))

pub returns-in-Context : goal.returns-in-Context
returns-in-Context c =
    let x = context_act c.args.self.now c.in-Context.context c.requires.good (subst (λ a. IsSome (act_of c.args.self.now a)) c.in-Context.is c.requires.stands) in
    ap (act_of c.args.self.now) c.in-Context.is ∙ answers x c.in-Context.context refl ∙ ap Some (sym (c.birth-in-Context.ensures ∙ birth_is x))
