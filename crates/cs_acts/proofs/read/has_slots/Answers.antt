use Rattle.std.proofs.Common.{◌∙◌}
use Rattle.cs_acts.proofs.Named.{has_slots_read}
use Rattle.cs_acts.proofs.read.has_slots.Goals as goal

pub returns : goal.returns
returns g c = c.has_slots.ensures ∙ has_slots_read (g.W.World.stored c.args.w.now) (g.W.World.view c.args.w.now) c.heap.result.now c.args.least c.args.o c.heap.ensures c.requires.sound.holds c.requires.named
