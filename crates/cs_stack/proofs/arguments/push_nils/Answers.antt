use Rattle.std.proofs.Common.{ap, arith, List, replicate, ◌∙◌}
use Rattle.std.proofs.lemmas.List.{length-replicate, replicate_more}
use Rattle.cs_frame.specs.Frame.{Frame, nil, value_pushed}
use Rattle.cs_frame.specs.Page.{frames_of, on_page, on_top, frames_used}
use Rattle.cs_frame.proofs.PageLaws.{page_in}
use Rattle.cs_stack.proofs.Stacking.{longer, longer_more, longer_room}
use Rattle.cs_stack.proofs.arguments.push_nils.Goals as goal

pub push-requires-clause-room : goal.push-requires-clause-room
push-requires-clause-room c =
    let ps = c.args.frames.now in
    let p = c.args.f.page in
    let words = longer_room ps p (replicate c.loop.counter nil) (page_in ps p c.requires.top.0) in
    omega (arith, words, ap (λ (qs : List (List Frame)). frames_used (frames_of qs p)) c.loop.invariant.frames, length-replicate c.loop.counter nil, c.loop-test.true, c.requires.room)

pub loop-preserved : goal.loop-preserved
loop-preserved c =
    let ps = c.args.frames.now in
    let p = c.args.f.page in
    record {
      frames =
          c.push.ensures.pushed
          ∙ ap (λ (qs : List (List Frame)). on_page qs p (on_top (value_pushed nil))) c.loop.invariant.frames
          ∙ longer_more ps p (replicate c.loop.counter nil) nil (page_in ps p c.requires.top.0)
          ∙ ap (longer ps p) (replicate_more c.loop.counter nil);
    }
