use Rattle.std.proofs.Common.{ap, arith, length, List, ◌∙◌}
use Rattle.cs_frame.specs.Frame.{Frame, top_popped}
use Rattle.cs_frame.specs.Page.{frames_of, on_page, on_top, top}
use Rattle.cs_frame.proofs.PageLaws.{page_in}
use Rattle.cs_stack.proofs.Stacking.{shorter_depth, shorter_more}
use Rattle.cs_stack.proofs.arguments.drop_values.Goals as goal

pub pop-requires-clause-value : goal.pop-requires-clause-value
pop-requires-clause-value c =
    let ps = c.args.frames.now in
    let p = c.args.f.page in
    let deep = shorter_depth ps p c.loop.counter (page_in ps p c.requires.top.0) c.requires.top.0 in
    omega (arith, deep, ap (λ (qs : List (List Frame)). length (top (frames_of qs p)).stack) c.loop.invariant.frames, c.loop-test.true, c.requires.there)

pub loop-preserved : goal.loop-preserved
loop-preserved c =
    let ps = c.args.frames.now in
    let p = c.args.f.page in
    record {
      frames =
          c.pop.ensures.popped
          ∙ ap (λ (qs : List (List Frame)). on_page qs p (on_top top_popped)) c.loop.invariant.frames
          ∙ shorter_more ps p c.loop.counter (page_in ps p c.requires.top.0);
    }
