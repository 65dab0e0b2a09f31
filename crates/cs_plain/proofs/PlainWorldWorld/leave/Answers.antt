use Rattle.cs_plain.proofs.Leaving.{can_land, left_exact, left_state}
use Rattle.cs_plain.proofs.Writing.{same_kept}
use Rattle.cs_plain.proofs.PlainWorldWorld.leave.Goals as goal

pub land-requires-clause-target : goal.land-requires-clause-target
land-requires-clause-target c = can_land c.args.self.now c.args.self.now c.active_context-context.result c.args.v c.requires.ready c.active_context-context.ensures c.requires.target

pub returns-clause-state : goal.returns-clause-state
returns-clause-state c m k = left_state c.args.self.now c.land.new.self c.args.v c.requires.ready c.requires.named (left_exact c.args.self.now c.land.new.self c.active_context-context.result c.args.v c.requires.ready c.active_context-context.ensures c.requires.target c.land.ensures.view) m k

pub returns-clause-exact : goal.returns-clause-exact
returns-clause-exact c none = same_kept _ _ (left_exact c.args.self.now c.land.new.self c.active_context-context.result c.args.v c.requires.ready c.active_context-context.ensures c.requires.target c.land.ensures.view)
