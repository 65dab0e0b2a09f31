use Rattle.cs_shelf.proofs.Entries.{written}
use Rattle.cs_shelf.proofs.mem_shelf.put_content.Goals as goal

pub returns : goal.returns
returns c = written c.args.entries.now.items c.args.k c.args.bytes.now _ _ c.requires.index c.index_mut.ensures.value c.put.ensures
