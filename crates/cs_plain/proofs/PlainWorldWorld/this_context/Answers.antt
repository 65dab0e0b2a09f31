use Rattle.cs_plain.proofs.Asking.{names_active}
use Rattle.cs_plain.proofs.PlainWorldWorld.this_context.Goals as goal

pub returns-clause-value : goal.returns-clause-value
returns-clause-value c = names_active c.args.self.now c.in-Some.context c.requires.sound c.in-Some.is c.requires.active
