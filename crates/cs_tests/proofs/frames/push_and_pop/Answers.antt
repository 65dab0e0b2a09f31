use Rattle.std.proofs.Common.{◌≡◌, List, ◌∙◌, ap}
use Rattle.cs_frame.specs.Frame.{Frame, top_popped}
use Rattle.cs_frame.specs.Page.{on_page, on_top}
use Rattle.cs_frame.proofs.PageLaws.{popped-pushed_page, page_in}
use Rattle.cs_tests.proofs.frames.push_and_pop.Goals as goal

pub returns-clause-same : goal.returns-clause-same
returns-clause-same c =
    let ps = c.args.frames.now in
    let p = c.args.f.page in
    c.pop.ensures.popped ∙ (ap (λ (qs : List (List Frame)). on_page qs p (on_top top_popped)) c.push.ensures.pushed
    ∙ popped-pushed_page ps p c.args.v.0 (page_in ps p c.requires.top.0))
