use Rattle.std.proofs.Common.{arith}
use Rattle.cs_frame.proofs.PageLaws.{page_in}
use Rattle.cs_frame.proofs.Pages.{opened, page_count}
use Rattle.cs_frame.proofs.Calls.{used_words, push_done}
use Rattle.cs_frame.proofs.Frames.push.Goals as goal

pub index-head-requires : goal.index-head-requires
index-head-requires c =
    let lt = page_count c.self.invariant c.self.view_is c.args.f.page (page_in c.args.self.now c.args.f.page c.requires.top.0) in
    search (lt, arith)

pub set-requires : goal.set-requires
set-requires c =
    let o = opened c.self.invariant c.self.view_is c.args.f.page (page_in c.args.self.now c.args.f.page c.requires.top.0) c.index-head.ensures in
    omega (arith, o.fits, c.requires.room, used_words o)

pub overflow_add-head : goal.overflow_add-head
overflow_add-head c =
    let o = opened c.self.invariant c.self.view_is c.args.f.page (page_in c.args.self.now c.args.f.page c.requires.top.0) c.index-head.ensures in
    record { fits = omega (arith, o.high, o.few) }

pub index_mut-requires : goal.index_mut-requires
index_mut-requires c =
    let lt = page_count c.self.invariant c.self.view_is c.args.f.page (page_in c.args.self.now c.args.f.page c.requires.top.0) in
    search (lt, arith)

pub invariant_of-self : goal.invariant_of-self
invariant_of-self c =
    (push_done c.self.invariant c.self.view_is c.args.f.page c.args.v.0 c.requires.top.0 c.index-head.ensures c.requires.room c.requires.value c.set.ensures.words).0

pub returns : goal.returns
returns c =
    record { pushed = (push_done c.self.invariant c.self.view_is c.args.f.page c.args.v.0 c.requires.top.0 c.index-head.ensures c.requires.room c.requires.value c.set.ensures.words).1 }
