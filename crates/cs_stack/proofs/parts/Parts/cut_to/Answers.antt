use Rattle.std.proofs.Common.{sym, subst, ◌∙◌}
use Rattle.cs_model.specs.Keeps.{Keeps}
use Rattle.cs_model.specs.Operation.{cut_to_of}
use Rattle.cs_model.specs.State.{Kept}
use Rattle.cs_acts.specs.Layout.{LaidBy, cut}
use Rattle.cs_acts.specs.Names.{KeepsNames, name_of}
use Rattle.cs_acts.specs.Targets.{dying_to}
use Rattle.cs_stack.specs.Cuts.{CutPast}
use Rattle.cs_stack.specs.View.{layout_of, stored_of, view_of}
use Rattle.cs_stack.proofs.CutPast.{cut_fits, cut_ready, cut_ready_again, cut_state, goal_at, tell_past, told_past}
use Rattle.cs_stack.proofs.parts.Parts.cut_to.Goals as goal

pub push-requires-clause-good : goal.push-requires-clause-good
push-requires-clause-good c =
    let w = c.args.self.now in
    let g = goal_at w c.args.home c.requires.target in
    (told_past c.requires.ready g (λ h. CutPast w c.cut_past.new.self (dying_to (view_of w) h)) c.cut_past.ensures.past).good

pub push-requires-clause-ready : goal.push-requires-clause-ready
push-requires-clause-ready c =
    let w = c.args.self.now in
    let g = goal_at w c.args.home c.requires.target in
    cut_ready c.requires.ready g (told_past c.requires.ready g (λ h. CutPast w c.cut_past.new.self (dying_to (view_of w) h)) c.cut_past.ensures.past)

pub push-requires-clause-fits : goal.push-requires-clause-fits
push-requires-clause-fits c =
    let w = c.args.self.now in
    let g = goal_at w c.args.home c.requires.target in
    cut_fits c.requires.ready g (told_past c.requires.ready g (λ h. CutPast w c.cut_past.new.self (dying_to (view_of w) h)) c.cut_past.ensures.past)

pub push-requires-clause-named : goal.push-requires-clause-named
push-requires-clause-named c =
    let w = c.args.self.now in
    let g = goal_at w c.args.home c.requires.target in
    ((told_past c.requires.ready g (λ h. CutPast w c.cut_past.new.self (dying_to (view_of w) h)) c.cut_past.ensures.past).names c.args.v c.requires.named).sound

pub returns-clause-state : goal.returns-clause-state
returns-clause-state c =
    let w = c.args.self.now in
    let g = goal_at w c.args.home c.requires.target in
    let p = told_past c.requires.ready g (λ h. CutPast w c.cut_past.new.self (dying_to (view_of w) h)) c.cut_past.ensures.past in
    tell_past c.requires.ready g (λ h t. (m : Kept) → Keeps (view_of w) m → Keeps (view_of c.push.new.self) (cut_to_of m (dying_to (view_of w) h) t (name_of (stored_of w) c.args.v)))
    (cut_state c.requires.ready g p c.args.v (view_of c.push.new.self) c.requires.named c.push.ensures.view)

pub returns-clause-ready : goal.returns-clause-ready
returns-clause-ready c =
    let w = c.args.self.now in
    let g = goal_at w c.args.home c.requires.target in
    let p = told_past c.requires.ready g (λ h. CutPast w c.cut_past.new.self (dying_to (view_of w) h)) c.cut_past.ensures.past in
    cut_ready_again c.requires.ready g p c.push.new.self (name_of (stored_of c.cut_past.new.self) c.args.v) c.push.ensures.good c.push.ensures.view

pub returns-clause-names : goal.returns-clause-names
returns-clause-names c =
    let w = c.args.self.now in
    let g = goal_at w c.args.home c.requires.target in
    let p = told_past c.requires.ready g (λ h. CutPast w c.cut_past.new.self (dying_to (view_of w) h)) c.cut_past.ensures.past in
    subst (KeepsNames (stored_of w)) (sym c.push.ensures.stored) p.names

pub returns-clause-layout : goal.returns-clause-layout
returns-clause-layout c =
    let w = c.args.self.now in
    let g = goal_at w c.args.home c.requires.target in
    let p = told_past c.requires.ready g (λ h. CutPast w c.cut_past.new.self (dying_to (view_of w) h)) c.cut_past.ensures.past in
    tell_past c.requires.ready g (λ h t. LaidBy (cut (dying_to (view_of w) h) t) (layout_of w) (layout_of c.push.new.self)) (c.push.ensures.layout ∙ p.layout)
