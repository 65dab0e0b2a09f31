use Rattle.std.proofs.Common.{◌≡◌, length, refl, sym, ap, subst, arith, below_more}
use Rattle.std.proofs.lemmas.Bool.{both_ways}
use Rattle.cs_pages.specs.Order.{Order, IsSoundOrder, IsFree}
use Rattle.cs_pages.proofs.Lists.{free_room, none_free}
use Rattle.cs_pages.proofs.Pages.first_free.Goals as goal

pub returns-then-not-is_used-clause-lowest : goal.returns-then-not-is_used-clause-lowest
returns-then-not-is_used-clause-lowest c = c.loop-page.invariant

pub returns-then-not-is_used-clause-full : goal.returns-then-not-is_used-clause-full
returns-then-not-is_used-clause-full c =
    let now = c.args.self.now in
    let sound : IsSoundOrder now = subst IsSoundOrder c.self.view_is c.self.invariant.sound in
    let total : now.total ≡ c.self.inside.total = ap (λ (o : Order). o.total) (sym c.self.view_is) in
    let free : IsFree now c.loop-page.page = (omega arith, λ used. both_ways c.is_used.result c.if-not-is_used.true (c.is_used.ensures.used.1 used)) in
    let room = free_room now c.loop-page.page sound free in
    (λ some. cc, λ full. absurd (omega (arith, room)))

pub loop-page-preserved : goal.loop-page-preserved
loop-page-preserved c = below_more _ _ c.loop-page.invariant (c.is_used.ensures.used.0 c.if-not-is_used.false)

pub returns-clause-full : goal.returns-clause-full
returns-clause-full c =
    let now = c.args.self.now in
    let sound : IsSoundOrder now = subst IsSoundOrder c.self.view_is c.self.invariant.sound in
    let total : now.total ≡ c.self.inside.total = ap (λ (o : Order). o.total) (sym c.self.view_is) in
    let used : length now.recent ≡ now.total = none_free now sound (λ q below. c.loop-page.invariant q (omega arith)) in
    (λ _. used, λ _. refl)
