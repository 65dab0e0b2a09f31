use Rattle.std.proofs.Common.{◌≡◌, ℕ, List, [], ap, set, sym, subst, IsSome, ◌∙◌}
use Rattle.cs_word.specs.Word.{natural_of_word}
use Rattle.cs_frame.specs.declared.FrameRef.{FrameRef}
use Rattle.cs_frame.specs.declared.NewFrame.{NewFrame}
use Rattle.cs_frame.specs.Frame.{Frame, with_caller, with_context, with_saved_pc, with_values}
use Rattle.cs_frame.specs.Page.{called, frames_of, fresh, on_frame, on_page, on_top, frame_ref, top}
use Rattle.cs_marriage.specs.Marriage.{stack_words}
use Rattle.cs_marriage.proofs.Based.{alone, alone_frames, alone_on_frame, alone_on_top, base_is, context_value, number_pc}
use Rattle.cs_marriage.proofs.basing.build_base.Goals as goal

pub set_saved_pc-requires-clause-pc : goal.set_saved_pc-requires-clause-pc
set_saved_pc-requires-clause-pc c = number_pc c.slot-5.result.0 (subst (λ n. IsSome (natural_of_word n)) (sym c.slot-5.ensures) c.requires.context.live)

pub set_context-requires-clause-value : goal.set_context-requires-clause-value
set_context-requires-clause-value c = context_value c.args.heap.now.objects c.args.ctx.0 c.requires.context.context

pub returns-clause-frames : goal.returns-clause-frames
returns-clause-frames c =
    let os = c.args.heap.now.objects in
    let ps = c.args.frames.now in
    let a = c.args.ctx.0 in
    let p = c.args.page in
    let lt = c.requires.page in
    let r : FrameRef = c.build-f.result in
    let new : NewFrame = record { method = c.slot.result; closure = c.slot-2.result; receiver = c.slot-3.result; birth = c.birth.result; args = 0; fill = 0 } in
    let sender = c.slot-4.result.0 in
    let pc = c.slot-5.result.0 in
    let xs = stack_words os a in
    let bare : Frame = fresh new 0 c.slot-3.result.0 [] in
    let sent : Frame = with_caller sender bare in
    let live : Frame = with_saved_pc pc sent in
    let married : Frame = with_context a live in
    let built : c.build-f.new.self ≡ alone ps p bare = c.build-f.ensures.made ∙ ap (λ (fs : List Frame). set ps p (called new fs)) c.requires.empty in
    let at : r ≡ frame_ref p bare =
    c.build-f.ensures.frame ∙ (ap (λ (qs : List (List Frame)). frame_ref p (top (frames_of qs p))) built ∙ ap (λ (fs : List Frame). frame_ref p (top fs)) (alone_frames ps p lt bare)) in
    let changed : (g : Frame) (h : Frame → Frame) → g.at ≡ 0 → on_frame (alone ps p g) r h ≡ alone ps p (h g) =
    λ g h z. ap (λ (q : FrameRef). on_frame (alone ps p g) q h) (at ∙ ap (λ (n : ℕ). record { page = p; at = n }) (sym z)) ∙ alone_on_frame ps p lt g h in
    let one : c.set_sender.new.self ≡ alone ps p sent =
    c.set_sender.ensures.sender ∙ (ap (λ (qs : List (List Frame)). on_frame qs r (with_caller sender)) built ∙ changed bare (with_caller sender) (λ _. 0)) in
    let two : c.set_saved_pc.new.self ≡ alone ps p live =
    c.set_saved_pc.ensures.saved_pc ∙ (ap (λ (qs : List (List Frame)). on_frame qs r (with_saved_pc pc)) one ∙ changed sent (with_saved_pc pc) (λ _. 0)) in
    let three : c.set_context.new.self ≡ alone ps p married =
    c.set_context.ensures.context ∙ (ap (λ (qs : List (List Frame)). on_frame qs r (with_context a)) two ∙ changed live (with_context a) (λ _. 0)) in
    c.copy_stack.ensures.copied
    ∙ ap (λ (q : FrameRef). on_page c.set_context.new.self q.page (on_top (with_values xs))) at
    ∙ ap (λ (qs : List (List Frame)). on_page qs p (on_top (with_values xs))) three
    ∙ alone_on_top ps p lt married (with_values xs)
    ∙ ap (alone ps p) (base_is os a sender pc c.slot.result.0 c.slot-2.result.0 c.birth.result c.slot-3.result.0 c.slot-4.ensures c.slot-5.ensures c.slot.ensures c.slot-2.ensures c.birth.ensures c.slot-3.ensures)
