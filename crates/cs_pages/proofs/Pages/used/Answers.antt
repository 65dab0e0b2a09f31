use Rattle.std.proofs.Common.{length, sym, ◌∙◌, ap, arith}
use Rattle.cs_pages.specs.Order.{Order}
use Rattle.cs_pages.proofs.Links.{length-chain}
use Rattle.cs_pages.proofs.Lists.{length-le_total}
use Rattle.cs_pages.proofs.Pages.used.Goals as goal

pub returns-clause-count : goal.returns-clause-count
returns-clause-count c =
    let s = c.self.inside in
    sym (length-chain s.older.items s.total s.used) ∙ ap (λ (o : Order). length o.recent) c.self.view_is

pub returns-clause-within : goal.returns-clause-within
returns-clause-within c =
    let s = c.self.inside in
    let sound = c.self.invariant.sound in
    let within = length-le_total s.total _ sound.distinct sound.in_range in
    rw (← c.self.view_is) (omega (arith, within, length-chain s.older.items s.total s.used))
