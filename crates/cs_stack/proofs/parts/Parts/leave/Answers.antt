use Rattle.std.proofs.Common.{subst, sym}
use Rattle.cs_acts.specs.Names.{KeepsNames, name_of}
use Rattle.cs_stack.specs.Moved.{Unwound}
use Rattle.cs_stack.specs.View.{stored_of, view_of}
use Rattle.cs_stack.proofs.Leaving.{left_ready, left_state, target, told, unwound_fits, unwound_ready}
use Rattle.cs_stack.proofs.parts.Parts.leave.Goals as goal

pub push-requires-clause-good : goal.push-requires-clause-good
push-requires-clause-good c =
    let g = target c.args.self.now c.requires.ready c.requires.target in
    (told g (Unwound c.args.self.now c.unwind.new.self) c.unwind.ensures.unwound).good

pub push-requires-clause-ready : goal.push-requires-clause-ready
push-requires-clause-ready c =
    let g = target c.args.self.now c.requires.ready c.requires.target in
    unwound_ready c.requires.ready g (told g (Unwound c.args.self.now c.unwind.new.self) c.unwind.ensures.unwound)

pub push-requires-clause-fits : goal.push-requires-clause-fits
push-requires-clause-fits c =
    let g = target c.args.self.now c.requires.ready c.requires.target in
    unwound_fits c.requires.ready g (told g (Unwound c.args.self.now c.unwind.new.self) c.unwind.ensures.unwound)

pub returns-clause-state : goal.returns-clause-state
returns-clause-state c m keeps =
    let g = target c.args.self.now c.requires.ready c.requires.target in
    left_state c.requires.ready g (told g (Unwound c.args.self.now c.unwind.new.self) c.unwind.ensures.unwound) c.args.v (view_of c.push.new.self) c.requires.named c.push.ensures.view m keeps

pub returns-clause-ready : goal.returns-clause-ready
returns-clause-ready c =
    let g = target c.args.self.now c.requires.ready c.requires.target in
    left_ready c.requires.ready g (told g (Unwound c.args.self.now c.unwind.new.self) c.unwind.ensures.unwound) c.push.new.self (name_of (stored_of c.unwind.new.self) c.args.v) c.push.ensures.good c.push.ensures.view

pub returns-clause-names : goal.returns-clause-names
returns-clause-names c =
    let g = target c.args.self.now c.requires.ready c.requires.target in
    subst (KeepsNames (stored_of c.args.self.now)) (sym c.push.ensures.stored) (told g (Unwound c.args.self.now c.unwind.new.self) c.unwind.ensures.unwound).names
