use Rattle.cs_stack.proofs.Writing.{call-byte}
use Rattle.cs_stack.proofs.StackWorldWorld.store_byte.Goals as goal

pub returns-clause-state : goal.returns-clause-state
returns-clause-state c m k = (call-byte _ _ _ c.args.o c.args.i c.args.b c.self.view_is c.store_byte.ensures.good c.requires.sound c.requires.object c.store_byte.ensures.view).state m k

pub returns-clause-sound : goal.returns-clause-sound
returns-clause-sound c = (call-byte _ _ _ c.args.o c.args.i c.args.b c.self.view_is c.store_byte.ensures.good c.requires.sound c.requires.object c.store_byte.ensures.view).sound

pub returns-clause-ready : goal.returns-clause-ready
returns-clause-ready c ready = (call-byte _ _ _ c.args.o c.args.i c.args.b c.self.view_is c.store_byte.ensures.good c.requires.sound c.requires.object c.store_byte.ensures.view).ready ready
