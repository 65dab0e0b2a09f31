use Rattle.std.proofs.Common.{Some, IsNone, ap, ◌∙◌, arith}
use Rattle.cs_frame.specs.Page.{frames_of, frame_ref, top}
use Rattle.cs_stack.specs.View.{act_of}
use Rattle.cs_stack.proofs.Acts.{first_birth}
use Rattle.cs_stack.proofs.parts.Parts.active.Goals as goal

pub returns-in-Some-clause-value : goal.returns-in-Some-clause-value
returns-in-Some-clause-value c =
    let w = c.args.self.now in
    ap (act_of w) c.act.ensures
    ∙ first_birth w.frames w.pages.recent c.in-Some.f (omega (arith, c.used.ensures.count, c.if-used-eq0.false))
    (c.in-Some.ensures.frame ∙ ap (λ n. frame_ref n (top (frames_of w.frames n))) c.order.ensures.page)
    (λ e. let never : IsNone (Some c.in-Some.f) = c.in-Some.ensures.none.1 (ap (frames_of w.frames) c.order.ensures.page ∙ e) in cc)
