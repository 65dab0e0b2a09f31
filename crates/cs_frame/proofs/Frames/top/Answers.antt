use Rattle.std.proofs.Common.{ℕ, length, sym, refl, ◌∙◌, ap, arith}
use Rattle.cs_frame.proofs.Pages.{opened, page_count}
use Rattle.cs_frame.proofs.Calls.{some_frame, stacked_page, top_empty, top_place}
use Rattle.cs_frame.proofs.Frames.top.Goals as goal

pub index-head-requires : goal.index-head-requires
index-head-requires c =
    let lt = page_count c.self.invariant c.self.view_is c.args.page c.requires.page in
    search (lt, arith)

pub overflow_mul-result : goal.overflow_mul-result
overflow_mul-result c =
    let o = opened c.self.invariant c.self.view_is c.args.page (c.requires.page) c.index-head.ensures in
    record { fits = omega (arith, o.few) }

pub overflow_sub-result : goal.overflow_sub-result
overflow_sub-result c =
    let o = opened c.self.invariant c.self.view_is c.args.page (c.requires.page) c.index-head.ensures in
    omega (arith, (top_place o c.if-head-eq0.false).1)

pub returns-then-head-eq0-clause-none : goal.returns-then-head-eq0-clause-none
returns-then-head-eq0-clause-none c =
    let o = opened c.self.invariant c.self.view_is c.args.page (c.requires.page) c.index-head.ensures in
    let e = top_empty o c.if-head-eq0.true in
    ((λ z. e), (λ z. refl))

pub returns-then-head-eq0-clause-stacked : goal.returns-then-head-eq0-clause-stacked
returns-then-head-eq0-clause-stacked c =
    let o = opened c.self.invariant c.self.view_is c.args.page (c.requires.page) c.index-head.ensures in
    stacked_page o

pub returns-else-head-eq0-clause-none : goal.returns-else-head-eq0-clause-none
returns-else-head-eq0-clause-none c =
    let o = opened c.self.invariant c.self.view_is c.args.page (c.requires.page) c.index-head.ensures in
    ((λ z. cc), (λ z. absurd (c.if-head-eq0.false (sym (some_frame o) ∙ ap length z))))

pub returns-else-head-eq0-clause-frame : goal.returns-else-head-eq0-clause-frame
returns-else-head-eq0-clause-frame c =
    let o = opened c.self.invariant c.self.view_is c.args.page (c.requires.page) c.index-head.ensures in
    ap (λ (a : ℕ). record { page = c.args.page; at = a }) (top_place o c.if-head-eq0.false).0

pub returns-else-head-eq0-clause-last : goal.returns-else-head-eq0-clause-last
returns-else-head-eq0-clause-last c =
    let o = opened c.self.invariant c.self.view_is c.args.page (c.requires.page) c.index-head.ensures in
    let n = some_frame o in
    let ne = c.if-head-eq0.false in
    (omega arith, (top_place o ne).0)

pub returns-else-head-eq0-clause-stacked : goal.returns-else-head-eq0-clause-stacked
returns-else-head-eq0-clause-stacked c =
    let o = opened c.self.invariant c.self.view_is c.args.page (c.requires.page) c.index-head.ensures in
    stacked_page o
