use Rattle.cs_stack.proofs.Writing.{call-pop}
use Rattle.cs_stack.proofs.StackWorldWorld.pop.Goals as goal

pub returns-clause-state : goal.returns-clause-state
returns-clause-state c m k = (call-pop _ _ _ c.self.view_is c.pop.ensures.good c.requires.ready c.pop.ensures.view).state m k

pub returns-clause-ready : goal.returns-clause-ready
returns-clause-ready c = (call-pop _ _ _ c.self.view_is c.pop.ensures.good c.requires.ready c.pop.ensures.view).ready
