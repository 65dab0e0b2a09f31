use Rattle.std.proofs.Common.{arith}
use Rattle.cs_frame.proofs.PageLaws.{page_in}
use Rattle.cs_frame.proofs.Pages.{page_count}
use Rattle.cs_frame.proofs.Calls.{drop_bounds, drop_done}
use Rattle.cs_frame.proofs.Frames.drop_top.Goals as goal

pub index-head-requires : goal.index-head-requires
index-head-requires c =
    let lt = page_count c.self.invariant c.self.view_is c.args.page (page_in c.args.self.now c.args.page c.requires.frame) in
    search (lt, arith)

pub get-link-requires : goal.get-link-requires
get-link-requires c =
    let q = drop_bounds c.self.invariant c.self.view_is c.args.page c.requires.frame c.index-head.ensures in
    omega (arith, q.1.end, q.0.high, q.0.fits)

pub set-requires : goal.set-requires
set-requires c =
    let q = drop_bounds c.self.invariant c.self.view_is c.args.page c.requires.frame c.index-head.ensures in
    omega (arith, q.1.end, q.0.high, q.0.fits)

pub overflow_sub-head : goal.overflow_sub-head
overflow_sub-head c =
    let q = drop_bounds c.self.invariant c.self.view_is c.args.page c.requires.frame c.index-head.ensures in
    omega (arith, q.1.some)

pub index_mut-requires : goal.index_mut-requires
index_mut-requires c =
    let lt = page_count c.self.invariant c.self.view_is c.args.page (page_in c.args.self.now c.args.page c.requires.frame) in
    search (lt, arith)

pub invariant_of-self : goal.invariant_of-self
invariant_of-self c =
    (drop_done c.self.invariant c.self.view_is c.args.page c.requires.frame c.index-head.ensures c.get-link.ensures.word c.set.ensures.words).0

pub returns : goal.returns
returns c =
    record { rest = (drop_done c.self.invariant c.self.view_is c.args.page c.requires.frame c.index-head.ensures c.get-link.ensures.word c.set.ensures.words).1 }
