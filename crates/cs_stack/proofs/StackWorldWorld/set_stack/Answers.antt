use Rattle.cs_stack.proofs.Writing.{call-set_stack}
use Rattle.cs_stack.proofs.StackWorldWorld.set_stack.Goals as goal

pub returns-clause-state : goal.returns-clause-state
returns-clause-state c m k = (call-set_stack _ _ _ c.args.i c.args.v c.self.view_is c.set_stack.ensures.good c.requires.ready c.requires.named c.set_stack.ensures.view).state m k

pub returns-clause-ready : goal.returns-clause-ready
returns-clause-ready c = (call-set_stack _ _ _ c.args.i c.args.v c.self.view_is c.set_stack.ensures.good c.requires.ready c.requires.named c.set_stack.ensures.view).ready
