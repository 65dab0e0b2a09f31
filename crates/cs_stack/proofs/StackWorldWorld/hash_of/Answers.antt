use Rattle.cs_stack.proofs.Writing.{call-hash}
use Rattle.cs_stack.proofs.StackWorldWorld.hash_of.Goals as goal

pub returns-clause-state : goal.returns-clause-state
returns-clause-state c m k = (call-hash _ _ _ c.args.o c.self.view_is c.hash_of.ensures.good c.requires.sound c.requires.named c.hash_of.ensures.view).state m k

pub returns-clause-sound : goal.returns-clause-sound
returns-clause-sound c = (call-hash _ _ _ c.args.o c.self.view_is c.hash_of.ensures.good c.requires.sound c.requires.named c.hash_of.ensures.view).sound

pub returns-clause-ready : goal.returns-clause-ready
returns-clause-ready c ready = (call-hash _ _ _ c.args.o c.self.view_is c.hash_of.ensures.good c.requires.sound c.requires.named c.hash_of.ensures.view).ready ready
