use Rattle.std.proofs.Common.{sym, ◌∙◌}
use Rattle.cs_stack.proofs.Tops.{opened}
use Rattle.cs_stack.proofs.Leaving.{target}
use Rattle.cs_stack.proofs.Freeing.{page_can, page_context, page_contexts, page_good, page_next}
use Rattle.cs_stack.proofs.parts.Parts.leave_page.Goals as goal

pub rebase-requires-clause-good : goal.rebase-requires-clause-good
rebase-requires-clause-good c =
    let o = opened c.args.self.now c.requires.good c.requires.ready in
    let g = target c.args.self.now c.requires.ready c.requires.target in
    page_good o c.args.frame c.requires.top c.requires.good c.requires.ready g c.requires.base c.drop_top.new.self c.free.new.self c.drop_top.ensures.rest (record { freed = c.free.ensures.freed; free = c.free.ensures.is_free; others = c.free.ensures.others; sound = c.free.ensures.sound })

pub rebase-requires-clause-context : goal.rebase-requires-clause-context
rebase-requires-clause-context c =
    let o = opened c.args.self.now c.requires.good c.requires.ready in
    let g = target c.args.self.now c.requires.ready c.requires.target in
    page_can o c.args.frame c.requires.top c.requires.good c.requires.ready g c.requires.base c.drop_top.new.self c.free.new.self c.drop_top.ensures.rest (record { freed = c.free.ensures.freed; free = c.free.ensures.is_free; others = c.free.ensures.others; sound = c.free.ensures.sound })
    (sym c.used.ensures.count ∙ c.if-used-eq0.true) c.sender-sender.result.0 c.sender-sender.ensures.sender

pub returns-then-used-eq0-clause-contexts : goal.returns-then-used-eq0-clause-contexts
returns-then-used-eq0-clause-contexts c =
    let o = opened c.args.self.now c.requires.good c.requires.ready in
    let g = target c.args.self.now c.requires.ready c.requires.target in
    page_contexts o c.args.frame c.requires.top c.requires.good c.requires.ready g c.requires.base c.drop_top.new.self c.free.new.self c.drop_top.ensures.rest (record { freed = c.free.ensures.freed; free = c.free.ensures.is_free; others = c.free.ensures.others; sound = c.free.ensures.sound })
    (sym c.used.ensures.count ∙ c.if-used-eq0.true) c.sender-sender.result.0 c.sender-sender.ensures.sender c.rebase.new.self c.rebase.ensures.made

pub returns-then-used-eq0-clause-unwound : goal.returns-then-used-eq0-clause-unwound
returns-then-used-eq0-clause-unwound c =
    let o = opened c.args.self.now c.requires.good c.requires.ready in
    let g = target c.args.self.now c.requires.ready c.requires.target in
    page_context o c.args.frame c.requires.top c.requires.good c.requires.ready g c.requires.base c.drop_top.new.self c.free.new.self c.drop_top.ensures.rest (record { freed = c.free.ensures.freed; free = c.free.ensures.is_free; others = c.free.ensures.others; sound = c.free.ensures.sound })
    (sym c.used.ensures.count ∙ c.if-used-eq0.true) c.sender-sender.result.0 c.sender-sender.ensures.sender c.rebase.new.self c.rebase.ensures.made

pub returns-else-used-eq0-clause-unwound : goal.returns-else-used-eq0-clause-unwound
returns-else-used-eq0-clause-unwound c =
    let o = opened c.args.self.now c.requires.good c.requires.ready in
    let g = target c.args.self.now c.requires.ready c.requires.target in
    page_next o c.args.frame c.requires.top c.requires.good c.requires.ready g c.requires.base c.drop_top.new.self c.free.new.self c.drop_top.ensures.rest (record { freed = c.free.ensures.freed; free = c.free.ensures.is_free; others = c.free.ensures.others; sound = c.free.ensures.sound })
    (λ e. c.if-used-eq0.false (c.used.ensures.count ∙ e))
