use Rattle.cs_core.proofs.Rolling.{starts, starts_stack}
use Rattle.cs_core.proofs.vm.Vm.new.Goals as goal

pub returns-clause-stands : goal.returns-clause-stands
returns-clause-stands g c k keeps = starts (g.W.World.view c.args.world) k (g.W.World.stored c.args.world) (g.W.World.layout c.args.world) c.place_of-place.result keeps

pub returns-clause-stack : goal.returns-clause-stack
returns-clause-stack g c k keeps fresh =
    starts_stack (g.W.World.view c.args.world) k (g.W.World.stored c.args.world) (g.W.World.layout c.args.world) c.place_of-place.result c.requires.running keeps fresh
