use Rattle.std.proofs.Common.{arith}
use Rattle.cs_frame.proofs.PageLaws.{page_in}
use Rattle.cs_frame.proofs.Pages.{page_count}
use Rattle.cs_frame.proofs.Calls.{pop_bounds, pop_done, pop_value}
use Rattle.cs_frame.proofs.Frames.pop.Goals as goal

pub index-head-requires : goal.index-head-requires
index-head-requires c =
    let lt = page_count c.self.invariant c.self.view_is c.args.f.page (page_in c.args.self.now c.args.f.page c.requires.top.0) in
    search (lt, arith)

pub overflow_sub-head : goal.overflow_sub-head
overflow_sub-head c =
    let q = pop_bounds c.self.invariant c.self.view_is c.args.f.page c.requires.top.0 c.index-head.ensures c.requires.value in
    omega (arith, q.1.deep)

pub get-v-requires : goal.get-v-requires
get-v-requires c =
    let q = pop_bounds c.self.invariant c.self.view_is c.args.f.page c.requires.top.0 c.index-head.ensures c.requires.value in
    omega (arith, q.1.deep, q.0.high, q.0.fits)

pub overflow_sub-head-2 : goal.overflow_sub-head-2
overflow_sub-head-2 c =
    let q = pop_bounds c.self.invariant c.self.view_is c.args.f.page c.requires.top.0 c.index-head.ensures c.requires.value in
    omega (arith, q.1.deep)

pub index_mut-requires : goal.index_mut-requires
index_mut-requires c =
    let lt = page_count c.self.invariant c.self.view_is c.args.f.page (page_in c.args.self.now c.args.f.page c.requires.top.0) in
    search (lt, arith)

pub invariant_of-self : goal.invariant_of-self
invariant_of-self c =
    (pop_done c.self.invariant c.self.view_is c.args.f.page c.requires.top.0 c.index-head.ensures c.requires.value).0

pub returns-clause-value : goal.returns-clause-value
returns-clause-value c =
    pop_value c.self.invariant c.self.view_is c.args.f.page c.requires.top.0 c.index-head.ensures c.requires.value c.get-v.ensures.word

pub returns-clause-popped : goal.returns-clause-popped
returns-clause-popped c =
    (pop_done c.self.invariant c.self.view_is c.args.f.page c.requires.top.0 c.index-head.ensures c.requires.value).1
