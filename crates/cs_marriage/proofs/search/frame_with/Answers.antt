use Rattle.std.proofs.Common.{◌≢◌, ◌<◌, sym, subst, ◌∙◌, Option}
use Rattle.cs_frame.specs.declared.FrameRef.{FrameRef}
use Rattle.cs_frame.specs.Page.{frame}
use Rattle.cs_marriage.proofs.Places.{apart}
use Rattle.cs_marriage.proofs.Searching.{IsAt, Walked, left, walk_goes}
use Rattle.cs_marriage.proofs.search.frame_with.Goals as goal

pub loop-next-smaller : goal.loop-next-smaller
loop-next-smaller c =
    let ps = c.args.frames.now in
    let p = c.args.page in
    let a = c.args.ctx.0 in
    let r = c.in-Some.f in
    let at : IsAt ps p a r = subst (Walked ps p a) c.in-Some.is c.loop-next.invariant.walked in
    let other : (frame ps r).context ≢ a = λ e. apart c.context.result.0 a c.if-eq.ensures (c.context.ensures.context ∙ e) in
    let goes = walk_goes ps p a r c.loop-next.invariant.stacked at other c.caller-next.result c.caller-next.ensures.none c.caller-next.ensures.caller in
    subst (λ (o : Option FrameRef). left ps c.caller-next.result < left ps o) (sym c.in-Some.is) goes.1

pub loop-next-preserved : goal.loop-next-preserved
loop-next-preserved c =
    let ps = c.args.frames.now in
    let p = c.args.page in
    let a = c.args.ctx.0 in
    let r = c.in-Some.f in
    let at : IsAt ps p a r = subst (Walked ps p a) c.in-Some.is c.loop-next.invariant.walked in
    let other : (frame ps r).context ≢ a = λ e. apart c.context.result.0 a c.if-eq.ensures (c.context.ensures.context ∙ e) in
    let goes = walk_goes ps p a r c.loop-next.invariant.stacked at other c.caller-next.result c.caller-next.ensures.none c.caller-next.ensures.caller in
    record { stacked = c.loop-next.invariant.stacked; walked = goes.0 }
