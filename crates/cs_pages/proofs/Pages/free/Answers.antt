use Rattle.std.proofs.Common.{arith}
use Rattle.cs_pages.proofs.Calls.{freed}
use Rattle.cs_pages.proofs.Pages.free.Goals as goal

pub index_mut-requires : goal.index_mut-requires
index_mut-requires c =
    let done = freed c.self.inside _ c.args.page _ _ c.self.view_is c.self.invariant c.requires.used c.index-older.ensures c.index-newer.ensures in
    omega (arith, done.behind_in)

pub index_mut-requires-2 : goal.index_mut-requires-2
index_mut-requires-2 c =
    let done = freed c.self.inside _ c.args.page _ _ c.self.view_is c.self.invariant c.requires.used c.index-older.ensures c.index-newer.ensures in
    omega (arith, done.ahead_in)

pub invariant_of-self : goal.invariant_of-self
invariant_of-self c =
    (freed c.self.inside _ c.args.page _ _ c.self.view_is c.self.invariant c.requires.used c.index-older.ensures c.index-newer.ensures).ring

pub returns : goal.returns
returns c =
    let done = freed c.self.inside _ c.args.page _ _ c.self.view_is c.self.invariant c.requires.used c.index-older.ensures c.index-newer.ensures in
    record { freed = done.order; is_free = done.free; others = done.others; count = done.count; sound = done.ring.sound }
