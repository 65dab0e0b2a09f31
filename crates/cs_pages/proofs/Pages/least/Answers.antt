use Rattle.std.proofs.Common.{◌-◌, ◌<◌, length, refl, sym, ◌∙◌, arith}
use Rattle.std.proofs.lemmas.List.{get_or_default}
use Rattle.cs_pages.proofs.Calls.{kept, least_link}
use Rattle.cs_pages.proofs.Rings.{total_lacks, least_none, least_some}
use Rattle.cs_pages.proofs.Pages.least.Goals as goal

pub returns-then-page-self-clause-none : goal.returns-then-page-self-clause-none
returns-then-page-self-clause-none c =
    let s = c.self.inside in let xs = (kept s).recent in
    let link = least_link s c.index-page.result.now c.self.invariant c.index-page.ensures in
    rw (← c.self.view_is)
    (λ _. least_none s.total xs (total_lacks s.total xs c.self.invariant.sound.in_range) (sym link ∙ c.if-page-self.true), λ _. refl)

pub returns-else-page-self-clause-last : goal.returns-else-page-self-clause-last
returns-else-page-self-clause-last c =
    let s = c.self.inside in
    let link = least_link s c.index-page.result.now c.self.invariant c.index-page.ensures in
    rw (← c.self.view_is) (link ∙ (least_some s.total (kept s).recent (λ same. c.if-page-self.false (link ∙ same))).1)

pub returns-else-page-self-clause-used : goal.returns-else-page-self-clause-used
returns-else-page-self-clause-used c =
    let s = c.self.inside in let xs = (kept s).recent in
    let link = least_link s c.index-page.result.now c.self.invariant c.index-page.ensures in
    let some = least_some s.total xs (λ same. c.if-page-self.false (link ∙ same)) in
    let within : length xs - 1 < length xs = omega (arith, some.0) in
    rw (← c.self.view_is)
    (length xs - 1, within, get_or_default xs (length xs - 1) c.index-page.result.now 0 within ∙ sym (link ∙ some.1))
