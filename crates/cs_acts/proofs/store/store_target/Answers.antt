use Rattle.std.proofs.Common.{◌∙◌}
use Rattle.cs_acts.proofs.Storing.{target_read}
use Rattle.cs_acts.proofs.store.store_target.Goals as goal

pub returns : goal.returns
returns g c = c.store_target.ensures ∙ target_read (g.W.World.stored c.args.w.now) (g.W.World.view c.args.w.now) c.args.i c.args.o c.requires.sound.holds c.requires.named c.heap.result.now c.heap.ensures
