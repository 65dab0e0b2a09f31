use Rattle.std.proofs.Common.{◌≡◌, ℕ, ap, subst, sym, ◌∙◌}
use Rattle.cs_acts.specs.declared.act.Act.TheVariants as act
use Rattle.cs_model.specs.Return.{sender_birth}
use Rattle.cs_stack.specs.Cuts.{Fades}
use Rattle.cs_stack.specs.View.{act_of, view_of}
use Rattle.cs_stack.proofs.CutSteps.{step_birth, step_ready, step_sender, stepped, told_at}
use Rattle.cs_stack.proofs.parts.Parts.kill.Goals as goal

pub drop_active-requires-clause-ready : goal.drop_active-requires-clause-ready
drop_active-requires-clause-ready c = step_ready c.requires.good c.in-Frame.is c.requires.steps

pub drop_active-requires-clause-sender : goal.drop_active-requires-clause-sender
drop_active-requires-clause-sender c = step_sender c.requires.good c.in-Frame.is c.requires.steps

pub returns-in-Frame : goal.returns-in-Frame
returns-in-Frame c = record {
  stepped = λ s.
      let w = c.args.self.now in
      let next = c.sender_act-sender.result in
      stepped w c.drop_active.new.self c.args.at s next (told_at (λ (i : ℕ). act_of w next ≡ sender_birth (view_of w) i) (act_of w c.args.at) s.i s.stands c.sender_act-sender.ensures.value)
      (subst (Fades w c.drop_active.new.self) (step_birth c.requires.good c.in-Frame.is s) c.drop_active.ensures.fades);
}

pub returns-in-Context : goal.returns-in-Context
returns-in-Context c = record {
  stepped = λ s.
      let w = c.args.self.now in
      let next = c.sender_act-sender.result in
      stepped w c.bury.new.self c.args.at s next (told_at (λ (i : ℕ). act_of w next ≡ sender_birth (view_of w) i) (act_of w c.args.at) s.i s.stands c.sender_act-sender.ensures.value)
      (told_at (Fades w c.bury.new.self) (act_of w (act.Context c.in-Context.context)) s.i (ap (act_of w) (sym c.in-Context.is) ∙ s.stands) c.bury.ensures.fades);
}
