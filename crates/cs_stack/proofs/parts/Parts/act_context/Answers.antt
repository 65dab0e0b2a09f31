use Rattle.std.proofs.Common.{IsSome, ap, refl, subst, ◌∙◌}
use Rattle.cs_classes.proofs.Refs.{is_reference-object, ref_of-object}
use Rattle.cs_model.specs.Ref as ref
use Rattle.cs_stack.specs.View.{act_of}
use Rattle.cs_stack.proofs.Acts.{answers, birth_is, context_act, frame_act, if_some, object}
use Rattle.cs_stack.proofs.parts.Parts.act_context.Goals as goal

pub context_of-requires-clause-frame : goal.context_of-requires-clause-frame
context_of-requires-clause-frame c = (frame_act c.args.self.now c.in-Frame.page c.in-Frame.at c.requires.good (subst (λ a. IsSome (act_of c.args.self.now a)) c.in-Frame.is c.requires.stands)).there

pub returns-in-Context-clause-value : goal.returns-in-Context-clause-value
returns-in-Context-clause-value c =
    let w = c.args.self.now in
    let x = context_act w c.in-Context.context c.requires.good (subst (λ a. IsSome (act_of w a)) c.in-Context.is c.requires.stands) in
    if_some _ _ _ (ap (act_of w) c.in-Context.is ∙ answers x c.in-Context.context refl) (record {
      sound = is_reference-object w.heap.objects c.in-Context.context.0 (object x);
      is = ref_of-object w.heap.objects c.in-Context.context.0 (object x) ∙ ap ref.Obj (birth_is x);
    })
