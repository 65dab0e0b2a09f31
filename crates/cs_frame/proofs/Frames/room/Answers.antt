use Rattle.std.proofs.Common.{arith}
use Rattle.cs_frame.proofs.Pages.{opened, page_count}
use Rattle.cs_frame.proofs.Calls.{used_words, stacked_page}
use Rattle.cs_frame.proofs.Frames.room.Goals as goal

pub index-head-requires : goal.index-head-requires
index-head-requires c =
    let lt = page_count c.self.invariant c.self.view_is c.args.page c.requires.page in
    search (lt, arith)

pub overflow_mul-result : goal.overflow_mul-result
overflow_mul-result c =
    let o = opened c.self.invariant c.self.view_is c.args.page (c.requires.page) c.index-head.ensures in
    record { fits = omega (arith, o.few) }

pub overflow_add-result : goal.overflow_add-result
overflow_add-result c =
    let o = opened c.self.invariant c.self.view_is c.args.page (c.requires.page) c.index-head.ensures in
    record { fits = omega (arith, o.few) }

pub overflow_sub-result : goal.overflow_sub-result
overflow_sub-result c =
    let o = opened c.self.invariant c.self.view_is c.args.page (c.requires.page) c.index-head.ensures in
    omega (arith, o.high)

pub returns-clause-room : goal.returns-clause-room
returns-clause-room c =
    let o = opened c.self.invariant c.self.view_is c.args.page (c.requires.page) c.index-head.ensures in
    omega (arith, o.high, used_words o)

pub returns-clause-stacked : goal.returns-clause-stacked
returns-clause-stacked c =
    let o = opened c.self.invariant c.self.view_is c.args.page (c.requires.page) c.index-head.ensures in
    stacked_page o
