use Rattle.cs_stack.proofs.Writing.{call-fixed}
use Rattle.cs_stack.proofs.StackWorldWorld.set_fixed.Goals as goal

pub returns-clause-state : goal.returns-clause-state
returns-clause-state c m k = (call-fixed _ _ _ c.args.o c.args.on c.self.view_is c.set_fixed.ensures.good c.requires.sound c.requires.named c.set_fixed.ensures.view).state m k

pub returns-clause-sound : goal.returns-clause-sound
returns-clause-sound c = (call-fixed _ _ _ c.args.o c.args.on c.self.view_is c.set_fixed.ensures.good c.requires.sound c.requires.named c.set_fixed.ensures.view).sound

pub returns-clause-ready : goal.returns-clause-ready
returns-clause-ready c ready = (call-fixed _ _ _ c.args.o c.args.on c.self.view_is c.set_fixed.ensures.good c.requires.sound c.requires.named c.set_fixed.ensures.view).ready ready
