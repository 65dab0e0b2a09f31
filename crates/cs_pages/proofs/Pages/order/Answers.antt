use Rattle.std.proofs.Common.{◌≡◌, ◌<◌, length, get_or, sym, ◌∙◌, ap, subst, arith}
use Rattle.std.proofs.lemmas.List.{get_or_read, get_or_default}
use Rattle.cs_pages.specs.Order.{Order}
use Rattle.cs_pages.proofs.Calls.{kept}
use Rattle.cs_pages.proofs.Links.{length-chain, chain-next}
use Rattle.cs_pages.proofs.Pages.order.Goals as goal

pub index-page-requires-in-loop : goal.index-page-requires-in-loop
index-page-requires-in-loop c =
    let s = c.self.inside in let xs = (kept s).recent in
    let len : length xs ≡ s.used = length-chain s.older.items s.total s.used in
    let k_used : c.args.k < length xs = subst (λ (o : Order). c.args.k < length o.recent) (sym c.self.view_is) c.requires.within in
    let page : c.loop.page ≡ get_or xs c.loop.counter 0 = c.loop.invariant (omega arith) in
    let below : get_or xs c.loop.counter 0 < s.total = c.self.invariant.sound.in_range c.loop.counter 0 (omega arith) in
    omega (arith, c.self.invariant.older_len)

pub loop-preserved : goal.loop-preserved
loop-preserved c = λ more.
    let s = c.self.inside in let xs = (kept s).recent in
    let len : length xs ≡ s.used = length-chain s.older.items s.total s.used in
    let page : c.loop.page ≡ get_or xs c.loop.counter 0 = c.loop.invariant (omega arith) in
    let below : get_or xs c.loop.counter 0 < s.total = c.self.invariant.sound.in_range c.loop.counter 0 (omega arith) in
    get_or_read s.older.items c.loop.page c.index-page-in-loop.result.now (omega (arith, c.self.invariant.older_len)) c.index-page-in-loop.ensures 0
    ∙ (ap (λ p. get_or s.older.items p 0) page ∙ chain-next s.older.items s.total s.used c.loop.counter more)

pub returns-clause-page : goal.returns-clause-page
returns-clause-page c =
    let s = c.self.inside in
    let k_used : c.args.k < length (kept s).recent = subst (λ (o : Order). c.args.k < length o.recent) (sym c.self.view_is) c.requires.within in
    let at : c.loop.counter ≡ c.args.k = omega arith in
    rw (← c.self.view_is)
    (c.loop.invariant (omega (arith, length-chain s.older.items s.total s.used)) ∙ ap (λ k. get_or (kept s).recent k 0) at)

pub returns-clause-used : goal.returns-clause-used
returns-clause-used c =
    (c.args.k, c.requires.within, get_or_default c.args.self.now.recent c.args.k c.loop.page 0 c.requires.within ∙ sym (returns-clause-page c))
