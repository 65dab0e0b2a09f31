use Rattle.cs_plain.proofs.Acts.{context_named}
use Rattle.cs_plain.proofs.PlainWorldWorld.act_of.Goals as goal

pub returns : goal.returns
returns c = context_named c.args.self.now c.args.ctx c.requires.sound c.requires.named
