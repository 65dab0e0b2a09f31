use Rattle.std.proofs.Common.{◌∙◌}
use Rattle.cs_acts.proofs.Named.{read_only_read}
use Rattle.cs_acts.proofs.read.is_read_only.Goals as goal

pub returns : goal.returns
returns g c = c.is_read_only.ensures ∙ read_only_read (g.W.World.stored c.args.w.now) (g.W.World.view c.args.w.now) c.heap.result.now c.args.o c.heap.ensures c.requires.sound.holds c.requires.named
