use Rattle.std.proofs.Common.{ap, sym, ◌∙◌}
use Rattle.std.proofs.lemmas.Result.{err_from_is_err_and}
use Rattle.cs_stack.specs.declared.parts.Parts.{Parts}
use Rattle.cs_stack.specs.Moved.{begun_context, begun_state}
use Rattle.cs_stack.specs.View.{layout_of, stored_of, view_of}
use Rattle.cs_stack.proofs.Tops.{opened, ready_again}
use Rattle.cs_stack.proofs.Called.{top_is_frame}
use Rattle.cs_stack.proofs.Overflowing.{Marries, can_begin_still, married_context, married_place, overflowed_good, overflowed_layout, overflowed_view, refused_heap, refused_stack, words_more}
use Rattle.cs_stack.proofs.parts.Parts.overflow.Goals as goal

pub returns-then-used-len-clause-full : goal.returns-then-used-len-clause-full
returns-then-used-len-clause-full c =
    let w : Parts = c.args.self.now in
    refused_stack w c.requires.good (opened w c.requires.good c.requires.ready) (stored_of w)
    (begun_state (stored_of w) (view_of w) c.args.new c.args.pc c.args.copies)
    (sym c.used.ensures.count ∙ c.if-used-len.true ∙ c.len.ensures.total) c.requires.full

pub context_of-requires-clause-frame : goal.context_of-requires-clause-frame
context_of-requires-clause-frame c = top_is_frame (opened c.args.self.now c.requires.good c.requires.ready) c.top-caller.result c.top-caller.ensures.is

pub returns-in_err-sender-clause-full : goal.returns-in_err-sender-clause-full
returns-in_err-sender-clause-full c =
    let w : Parts = c.args.self.now in
    let p = err_from_is_err_and c.from_residual.result c.from_residual.ensures.1 in
    let t = begun_state (stored_of w) (view_of w) c.args.new c.args.pc c.args.copies in
    let cause = refused_heap (stored_of c.context_of.new.self) (layout_of w) (view_of w) t c.in_err-sender.field-0.0
    (words_more (view_of w) c.args.new.args (λ _. begun_context (stored_of w) (view_of w) c.args.new c.args.pc c.args.copies) c.requires.ready.running) c.in_err-sender.ensures.full in
    rw (p.1, p.2) cause

pub call_on_page-requires-clause-ready : goal.call_on_page-requires-clause-ready
call_on_page-requires-clause-ready c =
    ready_again c.args.self.now c.context_of.new.self c.in_ok-sender.ensures.good c.requires.ready (ap (λ k. k.rest.active) c.in_ok-sender.ensures.view)

pub call_on_page-requires-clause-caller : goal.call_on_page-requires-clause-caller
call_on_page-requires-clause-caller c =
    let k = c.in_ok-sender.ensures in
    let m : Marries c.args.self.now c.context_of.new.self c.top-caller.result c.in_ok-sender.sender.0 =
    record { good = k.good; view = k.view; context = k.context; acts = k.acts; rest = k.rest; layout = k.layout; names = k.names } in
    married_place c.requires.good c.requires.ready m c.top-caller.ensures.is

pub call_on_page-requires-clause-sender : goal.call_on_page-requires-clause-sender
call_on_page-requires-clause-sender c =
    let k = c.in_ok-sender.ensures in
    let m : Marries c.args.self.now c.context_of.new.self c.top-caller.result c.in_ok-sender.sender.0 =
    record { good = k.good; view = k.view; context = k.context; acts = k.acts; rest = k.rest; layout = k.layout; names = k.names } in
    married_context c.requires.good c.requires.ready m c.top-caller.ensures.is

pub call_on_page-requires-clause-can : goal.call_on_page-requires-clause-can
call_on_page-requires-clause-can c = can_begin_still c.in_ok-sender.ensures.names c.in_ok-sender.ensures.view c.requires.can

pub returns-clause-good : goal.returns-clause-good
returns-clause-good c =
    let k = c.in_ok-sender.ensures in
    let m : Marries c.args.self.now c.context_of.new.self c.top-caller.result c.in_ok-sender.sender.0 =
    record { good = k.good; view = k.view; context = k.context; acts = k.acts; rest = k.rest; layout = k.layout; names = k.names } in
    overflowed_good c.requires.good c.requires.ready m c.top-caller.ensures.is c.requires.can c.call_on_page.ensures.made

pub returns-clause-view : goal.returns-clause-view
returns-clause-view c =
    let k = c.in_ok-sender.ensures in
    let m : Marries c.args.self.now c.context_of.new.self c.top-caller.result c.in_ok-sender.sender.0 =
    record { good = k.good; view = k.view; context = k.context; acts = k.acts; rest = k.rest; layout = k.layout; names = k.names } in
    overflowed_view c.requires.good c.requires.ready m c.top-caller.ensures.is c.requires.can c.call_on_page.ensures.made

pub returns-clause-layout : goal.returns-clause-layout
returns-clause-layout c =
    let k = c.in_ok-sender.ensures in
    let m : Marries c.args.self.now c.context_of.new.self c.top-caller.result c.in_ok-sender.sender.0 =
    record { good = k.good; view = k.view; context = k.context; acts = k.acts; rest = k.rest; layout = k.layout; names = k.names } in
    overflowed_layout c.requires.good c.requires.ready m c.top-caller.ensures.is c.requires.can c.call_on_page.ensures.made c.requires.full
