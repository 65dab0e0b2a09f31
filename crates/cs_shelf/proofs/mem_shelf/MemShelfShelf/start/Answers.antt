use Rattle.std.proofs.Common.{sym}
use Rattle.cs_shelf.proofs.Entries.{named_place}
use Rattle.cs_shelf.proofs.mem_shelf.MemShelfShelf.start.Goals as goal

pub returns-in-Some-clause-begins : goal.returns-in-Some-clause-begins
returns-in-Some-clause-begins c =
    named_place c.self.inside.entries.items c.args.name.now c.in-Some.k (rw (← c.deref.ensures.value) (sym c.in-Some.ensures))
