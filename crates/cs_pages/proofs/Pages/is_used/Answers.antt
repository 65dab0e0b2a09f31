use Rattle.std.proofs.Common.{◌<◌, sym, subst}
use Rattle.cs_pages.specs.Order.{Order}
use Rattle.cs_pages.proofs.Calls.{link_tells}
use Rattle.cs_pages.proofs.Pages.is_used.Goals as goal

pub returns : goal.returns
returns c =
    let below = subst (λ (o : Order). c.args.page < o.total) (sym c.self.view_is) c.requires.in_range in
    rw (← c.self.view_is) (record { used = link_tells c.self.inside c.args.page c.index.result.now c.self.invariant below c.index.ensures })
