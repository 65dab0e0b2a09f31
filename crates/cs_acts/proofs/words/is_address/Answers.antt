use Rattle.cs_acts.proofs.Named.{address_told}
use Rattle.cs_acts.proofs.words.is_address.Goals as goal

pub returns : goal.returns
returns c = address_told c.args.heap.now.objects c.args.o.0 c.requires
