use Rattle.std.proofs.Common.{refl}
use Rattle.cs_acts.proofs.Firsts.{nil_names}
use Rattle.cs_acts.proofs.read.nil.Goals as goal

pub returns : goal.returns
returns g c = nil_names (g.W.World.stored c.args.w.now) (g.W.World.view c.args.w.now) _ c.requires refl
