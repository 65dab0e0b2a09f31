use Rattle.cs_stack.proofs.Writing.{call-push}
use Rattle.cs_stack.proofs.StackWorldWorld.push.Goals as goal

pub returns-clause-state : goal.returns-clause-state
returns-clause-state c m k = (call-push _ _ _ c.args.v c.self.view_is c.push.ensures.good c.requires.ready c.requires.named c.push.ensures.view).state m k

pub returns-clause-ready : goal.returns-clause-ready
returns-clause-ready c = (call-push _ _ _ c.args.v c.self.view_is c.push.ensures.good c.requires.ready c.requires.named c.push.ensures.view).ready
