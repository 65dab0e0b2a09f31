use Rattle.std.proofs.Common.{ap}
use Rattle.cs_shelf.specs.Memory.{ShelfView}
use Rattle.cs_shelf.proofs.Entries.{kept_after, holds_after, others_after}
use Rattle.cs_shelf.proofs.mem_shelf.MemShelf.put.Goals as goal

pub invariant_of-self : goal.invariant_of-self
invariant_of-self c = kept_after _ _ _ c.args.k c.args.bytes.now c.put_content.ensures c.self.invariant

pub returns-clause-holds : goal.returns-clause-holds
returns-clause-holds c =
    let seen = ap (λ (v : ShelfView). v.entries) c.self.view_is in
    rw (← seen) (holds_after c.self.inside.entries.items _ c.args.k c.args.bytes.now c.put_content.ensures c.self.invariant.differ)

pub returns-clause-others : goal.returns-clause-others
returns-clause-others c =
    let seen = ap (λ (v : ShelfView). v.entries) c.self.view_is in
    rw (← seen) (others_after c.self.inside.entries.items _ c.args.k c.args.bytes.now c.put_content.ensures)
