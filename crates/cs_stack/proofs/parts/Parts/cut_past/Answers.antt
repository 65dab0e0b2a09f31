use Rattle.std.proofs.Common.{arith}
use Rattle.cs_acts.specs.Targets.{dying_to}
use Rattle.cs_stack.specs.Cuts.{CutPast}
use Rattle.cs_stack.specs.View.{view_of}
use Rattle.cs_stack.proofs.CutPast.{arrives_there, goal_at, leads, past_can, past_context, past_frame, past_free, past_limit, past_made, same_target, tell_past}
use Rattle.cs_stack.proofs.parts.Parts.cut_past.Goals as goal

pub kill_to-requires-clause-way : goal.kill_to-requires-clause-way
kill_to-requires-clause-way c =
    let g = goal_at c.args.self.now c.args.home c.requires.target in
    leads c.requires.ready g c.act_birth-birth.result (same_target c.requires.ready g c.act_birth-birth.result c.sender_act-target.result c.sender_act-target.ensures.value c.act_birth-birth.ensures)

pub rebase-requires-clause-good : goal.rebase-requires-clause-good
rebase-requires-clause-good c =
    let g = goal_at c.args.self.now c.args.home c.requires.target in
    let same = same_target c.requires.ready g c.act_birth-birth.result c.sender_act-target.result c.sender_act-target.ensures.value c.act_birth-birth.ensures in
    (c.kill_to.ensures.arrives (leads c.requires.ready g c.act_birth-birth.result same)).good

pub rebase-requires-clause-context : goal.rebase-requires-clause-context
rebase-requires-clause-context c =
    let g = goal_at c.args.self.now c.args.home c.requires.target in
    let same = same_target c.requires.ready g c.act_birth-birth.result c.sender_act-target.result c.sender_act-target.ensures.value c.act_birth-birth.ensures in
    let ended = arrives_there c.requires.ready g c.kill_to.new.self c.act_birth-birth.result c.kill_to.result same (c.kill_to.ensures.arrives (leads c.requires.ready g c.act_birth-birth.result same)) in
    past_can c.requires.ready g ended c.requires.good c.in-Context.context c.in-Context.is

pub rebase-requires-clause-free : goal.rebase-requires-clause-free
rebase-requires-clause-free c =
    let g = goal_at c.args.self.now c.args.home c.requires.target in
    let same = same_target c.requires.ready g c.act_birth-birth.result c.sender_act-target.result c.sender_act-target.ensures.value c.act_birth-birth.ensures in
    let ended = arrives_there c.requires.ready g c.kill_to.new.self c.act_birth-birth.result c.kill_to.result same (c.kill_to.ensures.arrives (leads c.requires.ready g c.act_birth-birth.result same)) in
    past_free c.requires.ready g ended c.requires.good c.in-Context.context c.in-Context.is

pub returns-in-Context : goal.returns-in-Context
returns-in-Context c =
    let w = c.args.self.now in
    let g = goal_at w c.args.home c.requires.target in
    let same = same_target c.requires.ready g c.act_birth-birth.result c.sender_act-target.result c.sender_act-target.ensures.value c.act_birth-birth.ensures in
    let ended = arrives_there c.requires.ready g c.kill_to.new.self c.act_birth-birth.result c.kill_to.result same (c.kill_to.ensures.arrives (leads c.requires.ready g c.act_birth-birth.result same)) in
    record {
      limit = past_limit c.requires.ready g ended c.requires.good c.in-Context.context c.in-Context.is c.rebase.new.self c.rebase.ensures.made;
      contexts = past_made c.requires.ready g ended c.requires.good c.in-Context.context c.in-Context.is c.rebase.new.self c.rebase.ensures.made;
      past = tell_past c.requires.ready g (λ h. CutPast w c.rebase.new.self (dying_to (view_of w) h))
          (past_context c.requires.ready g ended c.requires.good c.in-Context.context c.in-Context.is c.rebase.new.self c.rebase.ensures.made);
    }

pub returns-in_default : goal.returns-in_default
returns-in_default c =
    let w = c.args.self.now in
    let g = goal_at w c.args.home c.requires.target in
    let same = same_target c.requires.ready g c.act_birth-birth.result c.sender_act-target.result c.sender_act-target.ensures.value c.act_birth-birth.ensures in
    let ended = arrives_there c.requires.ready g c.kill_to.new.self c.act_birth-birth.result c.kill_to.result same (c.kill_to.ensures.arrives (leads c.requires.ready g c.act_birth-birth.result same)) in
    record {
      limit = ended.stays.limit;
      contexts = omega (arith, ended.stays.contexts);
      past = tell_past c.requires.ready g (λ h. CutPast w c.kill_to.new.self (dying_to (view_of w) h)) (past_frame c.requires.ready g ended (λ o e. c.in_default.not-Context o e));
    }
