use Rattle.cs_stack.proofs.Writing.{call-set_pc}
use Rattle.cs_stack.proofs.StackWorldWorld.set_pc.Goals as goal

pub returns-clause-state : goal.returns-clause-state
returns-clause-state c m k = (call-set_pc _ _ _ c.args.pc c.self.view_is c.set_pc.ensures.good c.requires.ready c.set_pc.ensures.view).state m k

pub returns-clause-ready : goal.returns-clause-ready
returns-clause-ready c = (call-set_pc _ _ _ c.args.pc c.self.view_is c.set_pc.ensures.good c.requires.ready c.set_pc.ensures.view).ready
