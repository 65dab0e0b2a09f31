use Rattle.std.proofs.Common.{◌≡◌, ◌<◌, get_or}
use Rattle.cs_pages.specs.Ring.{page_chain}
use Rattle.cs_pages.proofs.Pages.order.Given as goal

abbrev pub invariant-loop : goal.invariant-loop
invariant-loop l = l.counter < l.self-inside.used → l.page ≡ get_or (page_chain l.self-inside.older.items l.self-inside.total l.self-inside.used) l.counter 0
