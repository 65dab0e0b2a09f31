use Rattle.cs_stack.proofs.Writing.{call-store}
use Rattle.cs_stack.proofs.StackWorldWorld.store.Goals as goal

pub returns-clause-state : goal.returns-clause-state
returns-clause-state c m k = (call-store _ _ _ c.args.o c.args.v c.args.i c.self.view_is c.store.ensures.good c.requires.sound c.requires.object c.requires.named c.store.ensures.view).state m k

pub returns-clause-sound : goal.returns-clause-sound
returns-clause-sound c = (call-store _ _ _ c.args.o c.args.v c.args.i c.self.view_is c.store.ensures.good c.requires.sound c.requires.object c.requires.named c.store.ensures.view).sound

pub returns-clause-ready : goal.returns-clause-ready
returns-clause-ready c ready = (call-store _ _ _ c.args.o c.args.v c.args.i c.self.view_is c.store.ensures.good c.requires.sound c.requires.object c.requires.named c.store.ensures.view).ready ready
