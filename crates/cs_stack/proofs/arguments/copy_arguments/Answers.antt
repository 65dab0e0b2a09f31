use Rattle.std.proofs.Common.{◌-◌, ◌+◌, ap, sym, arith, take, drop, length, length-take, List, [], ◌∷◌, ◌++◌, ◌∙◌}
use Rattle.std.specs.Prelude.{slice_index}
use Rattle.cs_frame.specs.Frame.{Frame, value_pushed}
use Rattle.cs_frame.specs.Page.{frame, frames_of, on_page, on_top, frames_used, nth, frame_index}
use Rattle.cs_frame.proofs.PageLaws.{page_in}
use Rattle.cs_stack.proofs.Stacking.{last_more, longer, longer_more, longer_other, longer_room}
use Rattle.cs_stack.proofs.arguments.copy_arguments.Goals as goal

pub push-requires-clause-room : goal.push-requires-clause-room
push-requires-clause-room c =
    let ps = c.args.frames.now in
    let p = c.args.callee.page in
    let xs = (frame ps c.args.caller).stack in
    let ys = take c.loop-i.i (drop (length xs - c.args.args) xs) in
    let words = longer_room ps p ys (page_in ps p c.requires.callee.0) in
    omega (arith, words, ap (λ (qs : List (List Frame)). frames_used (frames_of qs p)) c.loop-i.invariant.frames, length-take c.loop-i.i (drop (length xs - c.args.args) xs), c.loop-i-test.true, c.requires.room)

pub loop-i-preserved : goal.loop-i-preserved
loop-i-preserved c =
    let ps = c.args.frames.now in
    let p = c.args.callee.page in
    let r = c.args.caller in
    let xs = (frame ps r).stack in
    let i = c.loop-i.i in
    let ys = take i (drop (length xs - c.args.args) xs) in
    let v = c.slot.result.0 in
    let same = ap (λ (qs : List (List Frame)). frames_of qs r.page) c.loop-i.invariant.frames ∙ longer_other ps p r.page ys c.requires.apart in
    let read = c.slot.ensures.value ∙ ap (λ (fs : List Frame). slice_index (nth fs (frame_index fs r.at)).stack (c.depth.result - c.args.args + i)) same
    ∙ ap (λ n. slice_index xs (n - c.args.args + i)) c.depth.ensures.depth in
    record {
      frames =
          c.push.ensures.pushed
          ∙ ap (λ (qs : List (List Frame)). on_page qs p (on_top (value_pushed v))) c.loop-i.invariant.frames
          ∙ longer_more ps p ys v (page_in ps p c.requires.callee.0)
          ∙ ap (λ n. longer ps p (ys ++ n ∷ [])) read
          ∙ ap (longer ps p) (sym (last_more xs c.args.args i c.requires.there c.loop-i-test.true));
    }
