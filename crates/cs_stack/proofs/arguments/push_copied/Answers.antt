use Rattle.std.proofs.Common.{ap, arith, List, [], ◌∷◌, ◌++◌, length-take, drop, sym, ◌∙◌}
use Rattle.cs_heap.specs.Object.{words_at}
use Rattle.cs_frame.specs.Frame.{value_pushed}
use Rattle.cs_frame.specs.Page.{frames_of, on_page, on_top, frames_used}
use Rattle.cs_frame.specs.Frame.{Frame}
use Rattle.cs_frame.proofs.PageLaws.{page_in}
use Rattle.cs_stack.specs.Moved.{copied_at}
use Rattle.cs_stack.proofs.Stacking.{longer, longer_more, longer_room}
use Rattle.cs_stack.proofs.Copies.{copied_more}
use Rattle.cs_stack.proofs.arguments.push_copied.Goals as goal

pub push-requires-clause-room : goal.push-requires-clause-room
push-requires-clause-room c =
    let ps = c.args.frames.now in
    let p = c.args.f.page in
    let i = c.loop-i.i in
    let words = words_at c.args.heap.now.objects c.args.closure.0 in
    let room = longer_room ps p (copied_at c.args.heap.now.objects c.args.closure.0 i) (page_in ps p c.requires.top.0) in
    omega (arith, room, ap (λ (qs : List (List Frame)). frames_used (frames_of qs p)) c.loop-i.invariant.frames, length-take i (drop 3 words), c.loop-i-test.true, c.requires.room)

pub loop-i-preserved : goal.loop-i-preserved
loop-i-preserved c =
    let ps = c.args.frames.now in
    let p = c.args.f.page in
    let os = c.args.heap.now.objects in
    let a = c.args.closure.0 in
    let i = c.loop-i.i in
    let v = c.slot.result.0 in
    record {
      frames =
          c.push.ensures.pushed
          ∙ ap (λ (qs : List (List Frame)). on_page qs p (on_top (value_pushed v))) c.loop-i.invariant.frames
          ∙ longer_more ps p (copied_at os a i) v (page_in ps p c.requires.top.0)
          ∙ ap (λ n. longer ps p (copied_at os a i ++ n ∷ [])) c.slot.ensures
          ∙ ap (longer ps p) (sym (copied_more os a i (omega (arith, c.loop-i-test.true, c.requires.there))));
    }
