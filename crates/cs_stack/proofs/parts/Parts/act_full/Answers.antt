use Rattle.std.proofs.Common.{unwrap_or, ap, ap₂, arith, refl, subst, sym, ◌∙◌, ◌-◌, IsSome}
use Rattle.std.specs.Prelude.{nat_lt}
use Rattle.cs_stack.specs.View.{act_of}
use Rattle.cs_stack.proofs.Acts.{answers, context_act, context_room, frame_act, frame_room, if_some, object, slot_within, slots_are}
use Rattle.cs_stack.proofs.Spouses.{not_less}
use Rattle.cs_stack.proofs.parts.Parts.act_full.Goals as goal

pub is_full-requires-clause-frame : goal.is_full-requires-clause-frame
is_full-requires-clause-frame c = (frame_act c.args.self.now c.in-Frame.page c.in-Frame.at c.requires.good (subst (λ a. IsSome (act_of c.args.self.now a)) c.in-Frame.is c.requires.stands)).there

pub slot-requires : goal.slot-requires
slot-requires c = slot_within (context_act c.args.self.now c.in-Context.context c.requires.good (subst (λ a. IsSome (act_of c.args.self.now a)) c.in-Context.is c.requires.stands)) 2 (omega arith)

pub slot_count-requires : goal.slot_count-requires
slot_count-requires c = object (context_act c.args.self.now c.in-Context.context c.requires.good (subst (λ a. IsSome (act_of c.args.self.now a)) c.in-Context.is c.requires.stands))

pub overflow_sub-result : goal.overflow_sub-result
overflow_sub-result c = let x = context_act c.args.self.now c.in-Context.context c.requires.good (subst (λ a. IsSome (act_of c.args.self.now a)) c.in-Context.is c.requires.stands) in omega (arith, c.slot_count.ensures.value, slots_are x, x.whole.fields)

pub returns-in-Frame : goal.returns-in-Frame
returns-in-Frame c =
    let f = frame_act c.args.self.now c.in-Frame.page c.in-Frame.at c.requires.good (subst (λ a. IsSome (act_of c.args.self.now a)) c.in-Frame.is c.requires.stands) in
    if_some _ _ _ (ap (act_of c.args.self.now) c.in-Frame.is ∙ f.answers) (c.is_full.ensures ∙ sym (frame_room c.requires.good f))

pub returns-in-Context : goal.returns-in-Context
returns-in-Context c =
    let x = context_act c.args.self.now c.in-Context.context c.requires.good (subst (λ a. IsSome (act_of c.args.self.now a)) c.in-Context.is c.requires.stands) in
    if_some _ _ _ (ap (act_of c.args.self.now) c.in-Context.is ∙ answers x c.in-Context.context refl)
    (not_less c.unwrap_or-depth.result (c.slot_count.result - 6) ∙ ap₂ (λ n m. nat_lt n (m - 6)) (c.unwrap_or-depth.ensures ∙ ap (λ o. unwrap_or o 0) (c.natural.ensures.value)) c.slot_count.ensures.value ∙ sym (context_room x c.slot.result.0 c.slot.ensures))
