use Rattle.std.proofs.Common.{ap, arith, refl, subst, ◌∙◌, IsSome}
use Rattle.cs_stack.specs.View.{act_of}
use Rattle.cs_stack.proofs.Acts.{answers, context_act, field_named, if_some, slot_within}
use Rattle.cs_stack.proofs.Spouses.{context_sender}
use Rattle.cs_stack.proofs.parts.Parts.sender_act.Goals as goal

pub slot-requires : goal.slot-requires
slot-requires c = slot_within (context_act c.args.self.now c.in-Context.context c.requires.good (subst (λ a. IsSome (act_of c.args.self.now a)) c.in-Context.is c.requires.stands)) 0 (omega arith)

pub act_at-requires-clause-named : goal.act_at-requires-clause-named
act_at-requires-clause-named c = field_named (context_act c.args.self.now c.in-Context.context c.requires.good (subst (λ a. IsSome (act_of c.args.self.now a)) c.in-Context.is c.requires.stands)) 0 c.slot.result.0 (omega arith) c.slot.ensures

pub returns-in-Context : goal.returns-in-Context
returns-in-Context c =
    let x = context_act c.args.self.now c.in-Context.context c.requires.good (subst (λ a. IsSome (act_of c.args.self.now a)) c.in-Context.is c.requires.stands) in
    record {
      value = if_some _ _ _ (ap (act_of c.args.self.now) c.in-Context.is ∙ answers x c.in-Context.context refl) (c.act_at.ensures.value ∙ context_sender c.requires.good x c.slot.result c.slot.ensures);
      gone = c.act_at.ensures.gone;
    }
