use Rattle.std.proofs.Common.{arith}
use Rattle.cs_pages.proofs.Rings.{ring_of_none}
use Rattle.cs_pages.proofs.Pages.new.Goals as goal

pub invariant_of-result : goal.invariant_of-result
invariant_of-result c =
    ring_of_none c.in_ok-older.older.items c.in_ok-newer.newer.items c.args.pages
    (omega (arith, c.in_ok-older.ensures.len, c.in_ok-older.older.ok.0))
    (omega (arith, c.in_ok-newer.ensures.len, c.in_ok-newer.newer.ok.0))
    c.in_ok-older.ensures.same c.in_ok-newer.ensures.same

pub returns-clause-sound : goal.returns-clause-sound
returns-clause-sound c = (invariant_of-result c).sound
