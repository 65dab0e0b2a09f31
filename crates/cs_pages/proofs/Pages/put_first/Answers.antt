use Rattle.std.proofs.Common.{arith}
use Rattle.cs_pages.proofs.Calls.{put_first}
use Rattle.cs_pages.proofs.Pages.put_first.Goals as goal

pub index_mut-requires-2 : goal.index_mut-requires-2
index_mut-requires-2 c =
    let done = put_first c.self.inside _ c.args.page _ c.self.view_is c.self.invariant c.requires.free c.index-second.ensures in
    omega (arith, done.second_in)

pub overflow_add-self : goal.overflow_add-self
overflow_add-self c =
    let done = put_first c.self.inside _ c.args.page _ c.self.view_is c.self.invariant c.requires.free c.index-second.ensures in
    record { fits = omega (arith, done.room, c.type_inv.end.fits) }

pub invariant_of-self : goal.invariant_of-self
invariant_of-self c =
    (put_first c.self.inside _ c.args.page _ c.self.view_is c.self.invariant c.requires.free c.index-second.ensures).ring

pub returns : goal.returns
returns c =
    let done = put_first c.self.inside _ c.args.page _ c.self.view_is c.self.invariant c.requires.free c.index-second.ensures in
    record { first = done.order; sound = done.ring.sound }
