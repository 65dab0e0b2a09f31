use Rattle.std.proofs.Common.{◌<◌, length, ap, sym, subst, arith, ◌∙◌}
use Rattle.cs_frame.specs.Frame.{value_pushed}
use Rattle.cs_frame.specs.Page.{frames_of, on_page, on_top, top}
use Rattle.cs_marriage.specs.Agree.{Agree}
use Rattle.cs_marriage.proofs.Laws.{agree_pushed, size_fits, top_fits}
use Rattle.cs_tests.proofs.marriage.push.Goals as goal

pub returns-clause-agree : goal.returns-clause-agree
returns-clause-agree g c =
    let os = c.args.heap.now.objects in
    let ps = c.args.frames.now in
    let some : 0 < length (frames_of ps 0) = subst (λ p. 0 < length (frames_of ps p)) c.last-f.ensures.page c.last-f.ensures.top.0 in
    let fits = top_fits os ps 0 c.requires.agree some in
    subst (Agree os) (sym (c.push.ensures.pushed ∙ ap (λ p. on_page ps p (on_top (value_pushed c.args.v.0))) c.last-f.ensures.page))
    (agree_pushed os ps 0 c.args.v.0 c.requires.agree c.requires.page c.has_room.ensures.stacked (omega (arith, c.last-f.ensures.small, size_fits os _ (top (frames_of ps 0)) fits)))
