use Rattle.std.proofs.Common.{◌<◌, ◌-◌, ℕ, length, length-drop, subst, sym, ap, ap₂, arith, drop, refl, replicate, List}
use Rattle.std.specs.Prelude.{slice_index}
use Rattle.std.proofs.lemmas.List.{length-append, length-replicate}
use Rattle.cs_frame.specs.Frame.{Frame, IsValue, nil}
use Rattle.cs_frame.specs.Page.{HasArguments, top, frames_used}
use Rattle.cs_stack.specs.declared.parts.Parts.{Parts}
use Rattle.cs_stack.specs.Moved.{copied_at, given_birth}
use Rattle.cs_model.specs.Obj.{context_class}
use Rattle.cs_stack.proofs.Addresses.{nil_or_named}
use Rattle.cs_stack.proofs.Tops.{opened}
use Rattle.cs_stack.proofs.Entering.{copied, copied_values_hold, few, new_pc, new_values, reference_value, there, value_named}
use Rattle.cs_stack.proofs.Begun.{begun_arguments, begun_empty, begun_made, caller_frames, caller_same, caller_stands, caller_top, free_empty, free_other, sender_named, stage_base, stage_built, stage_longer, stage_top, stage_used}
use Rattle.cs_stack.proofs.parts.Parts.call_on_page.Goals as goal

pub build-frame-requires-clause-room : goal.build-frame-requires-clause-room
build-frame-requires-clause-room c =
    let w : Parts = c.args.self.now in
    let o = opened w c.requires.good c.requires.ready in
    let p : ℕ = c.in-Some.page in
    let free = c.in-Some.ensures.was_free in
    omega (arith, ap frames_used (free_empty w c.requires.good p free))

pub build-frame-requires-clause-caller : goal.build-frame-requires-clause-caller
build-frame-requires-clause-caller c = subst (HasArguments 0) (sym (free_empty c.args.self.now c.requires.good c.in-Some.page c.in-Some.ensures.was_free)) refl

pub build-frame-requires-clause-values : goal.build-frame-requires-clause-values
build-frame-requires-clause-values c =
    let w : Parts = c.args.self.now in
    let o = opened w c.requires.good c.requires.ready in
    let p : ℕ = c.in-Some.page in
    let free = c.in-Some.ensures.was_free in
    let all = new_values c.requires.good c.requires.ready o c.requires.can in
    record { method = all.method; closure = all.closure; receiver = all.receiver }

pub set_sender-requires-clause-base : goal.set_sender-requires-clause-base
set_sender-requires-clause-base c =
    let w : Parts = c.args.self.now in
    let o = opened w c.requires.good c.requires.ready in
    let p : ℕ = c.in-Some.page in
    let free = c.in-Some.ensures.was_free in
    stage_base (stage_built w.frames p c.build-frame.new.self c.build-frame.result (record c.args.new { args = 0; fill = 0 }) (omega (arith, free.0, c.requires.good.total)) (free_empty w c.requires.good p free) c.build-frame.ensures.made c.build-frame.ensures.frame)

pub set_sender-requires-clause-value : goal.set_sender-requires-clause-value
set_sender-requires-clause-value c =
    let w : Parts = c.args.self.now in
    let o = opened w c.requires.good c.requires.ready in
    let p : ℕ = c.in-Some.page in
    let free = c.in-Some.ensures.was_free in
    reference_value w.heap.objects c.args.sender.0 (nil_or_named context_class w.heap.objects c.args.sender.0 (sender_named c.requires.good c.requires.ready o c.requires.can p free c.args.sender.0 c.requires.sender c.requires.married))

pub set_saved_pc-requires-clause-pc : goal.set_saved_pc-requires-clause-pc
set_saved_pc-requires-clause-pc c =
    let w : Parts = c.args.self.now in
    let o = opened w c.requires.good c.requires.ready in
    let p : ℕ = c.in-Some.page in
    let free = c.in-Some.ensures.was_free in
    new_pc c.requires.good c.requires.ready o c.requires.can

pub copy_arguments-requires-clause-caller : goal.copy_arguments-requires-clause-caller
copy_arguments-requires-clause-caller c =
    let w : Parts = c.args.self.now in
    let o = opened w c.requires.good c.requires.ready in
    let p : ℕ = c.in-Some.page in
    let free = c.in-Some.ensures.was_free in
    let s3 = begun_empty c.requires.good c.requires.ready o c.requires.can p free c.args.sender.0 c.build-frame.new.self c.set_sender.new.self c.set_saved_pc.new.self c.build-frame.result
    c.build-frame.ensures.made c.build-frame.ensures.frame c.set_sender.ensures.sender c.set_saved_pc.ensures.saved_pc in
    caller_stands o p (free_other o p free) s3 c.args.caller c.requires.caller

pub copy_arguments-requires-clause-there : goal.copy_arguments-requires-clause-there
copy_arguments-requires-clause-there c =
    let w : Parts = c.args.self.now in
    let o = opened w c.requires.good c.requires.ready in
    let p : ℕ = c.in-Some.page in
    let free = c.in-Some.ensures.was_free in
    let s3 = begun_empty c.requires.good c.requires.ready o c.requires.can p free c.args.sender.0 c.build-frame.new.self c.set_sender.new.self c.set_saved_pc.new.self c.build-frame.result
    c.build-frame.ensures.made c.build-frame.ensures.frame c.set_sender.ensures.sender c.set_saved_pc.ensures.saved_pc in
    omega (arith, there c.requires.good c.requires.ready o c.requires.can, ap (λ (f : Frame). length f.stack) (caller_same o p (free_other o p free) s3 c.args.caller c.requires.caller))

pub copy_arguments-requires-clause-room : goal.copy_arguments-requires-clause-room
copy_arguments-requires-clause-room c =
    let w : Parts = c.args.self.now in
    let o = opened w c.requires.good c.requires.ready in
    let p : ℕ = c.in-Some.page in
    let free = c.in-Some.ensures.was_free in
    let s3 = begun_empty c.requires.good c.requires.ready o c.requires.can p free c.args.sender.0 c.build-frame.new.self c.set_sender.new.self c.set_saved_pc.new.self c.build-frame.result
    c.build-frame.ensures.made c.build-frame.ensures.frame c.set_sender.ensures.sender c.set_saved_pc.ensures.saved_pc in
    omega (arith, stage_used s3, few c.requires.good c.requires.ready o c.requires.can)

pub copy_arguments-requires-clause-values : goal.copy_arguments-requires-clause-values
copy_arguments-requires-clause-values c =
    let w : Parts = c.args.self.now in
    let o = opened w c.requires.good c.requires.ready in
    let p : ℕ = c.in-Some.page in
    let free = c.in-Some.ensures.was_free in
    let s3 = begun_empty c.requires.good c.requires.ready o c.requires.can p free c.args.sender.0 c.build-frame.new.self c.set_sender.new.self c.set_saved_pc.new.self c.build-frame.result
    c.build-frame.ensures.made c.build-frame.ensures.frame c.set_sender.ensures.sender c.set_saved_pc.ensures.saved_pc in
    subst (λ (f : Frame). (i : ℕ) → i < length f.stack → IsValue (slice_index f.stack i)) (sym (caller_same o p (free_other o p free) s3 c.args.caller c.requires.caller))
    (λ i h. reference_value w.heap.objects (slice_index o.f.stack i) (value_named o i h))

pub push_nils-requires-clause-top : goal.push_nils-requires-clause-top
push_nils-requires-clause-top c =
    let w : Parts = c.args.self.now in
    let o = opened w c.requires.good c.requires.ready in
    let p : ℕ = c.in-Some.page in
    let free = c.in-Some.ensures.was_free in
    let s3 = begun_empty c.requires.good c.requires.ready o c.requires.can p free c.args.sender.0 c.build-frame.new.self c.set_sender.new.self c.set_saved_pc.new.self c.build-frame.result
    c.build-frame.ensures.made c.build-frame.ensures.frame c.set_sender.ensures.sender c.set_saved_pc.ensures.saved_pc in
    let s4 = begun_arguments c.requires.good c.requires.ready o c.requires.can p free c.args.sender.0 c.args.caller c.requires.caller s3 c.copy_arguments.new.frames c.copy_arguments.ensures.copied in
    stage_top s4

pub push_nils-requires-clause-room : goal.push_nils-requires-clause-room
push_nils-requires-clause-room c =
    let w : Parts = c.args.self.now in
    let o = opened w c.requires.good c.requires.ready in
    let p : ℕ = c.in-Some.page in
    let free = c.in-Some.ensures.was_free in
    let s3 = begun_empty c.requires.good c.requires.ready o c.requires.can p free c.args.sender.0 c.build-frame.new.self c.set_sender.new.self c.set_saved_pc.new.self c.build-frame.result
    c.build-frame.ensures.made c.build-frame.ensures.frame c.set_sender.ensures.sender c.set_saved_pc.ensures.saved_pc in
    let s4 = begun_arguments c.requires.good c.requires.ready o c.requires.can p free c.args.sender.0 c.args.caller c.requires.caller s3 c.copy_arguments.new.frames c.copy_arguments.ensures.copied in
    omega (arith, stage_used s4, length-drop (length o.f.stack - c.args.new.args) o.f.stack, there c.requires.good c.requires.ready o c.requires.can, few c.requires.good c.requires.ready o c.requires.can)

pub push_copied-requires-clause-top : goal.push_copied-requires-clause-top
push_copied-requires-clause-top c =
    let w : Parts = c.args.self.now in
    let o = opened w c.requires.good c.requires.ready in
    let p : ℕ = c.in-Some.page in
    let free = c.in-Some.ensures.was_free in
    let s3 = begun_empty c.requires.good c.requires.ready o c.requires.can p free c.args.sender.0 c.build-frame.new.self c.set_sender.new.self c.set_saved_pc.new.self c.build-frame.result
    c.build-frame.ensures.made c.build-frame.ensures.frame c.set_sender.ensures.sender c.set_saved_pc.ensures.saved_pc in
    let s4 = begun_arguments c.requires.good c.requires.ready o c.requires.can p free c.args.sender.0 c.args.caller c.requires.caller s3 c.copy_arguments.new.frames c.copy_arguments.ensures.copied in
    let s5 = stage_longer s4 c.push_nils.new.frames (replicate c.args.new.fill nil) c.push_nils.ensures.pushed in
    stage_top s5

pub push_copied-requires-clause-there : goal.push_copied-requires-clause-there
push_copied-requires-clause-there c =
    let w : Parts = c.args.self.now in
    let o = opened w c.requires.good c.requires.ready in
    let p : ℕ = c.in-Some.page in
    let free = c.in-Some.ensures.was_free in
    (copied c.requires.good c.requires.ready o c.requires.can).within

pub push_copied-requires-clause-room : goal.push_copied-requires-clause-room
push_copied-requires-clause-room c =
    let w : Parts = c.args.self.now in
    let o = opened w c.requires.good c.requires.ready in
    let p : ℕ = c.in-Some.page in
    let free = c.in-Some.ensures.was_free in
    let s3 = begun_empty c.requires.good c.requires.ready o c.requires.can p free c.args.sender.0 c.build-frame.new.self c.set_sender.new.self c.set_saved_pc.new.self c.build-frame.result
    c.build-frame.ensures.made c.build-frame.ensures.frame c.set_sender.ensures.sender c.set_saved_pc.ensures.saved_pc in
    let s4 = begun_arguments c.requires.good c.requires.ready o c.requires.can p free c.args.sender.0 c.args.caller c.requires.caller s3 c.copy_arguments.new.frames c.copy_arguments.ensures.copied in
    let s5 = stage_longer s4 c.push_nils.new.frames (replicate c.args.new.fill nil) c.push_nils.ensures.pushed in
    let arguments : List ℕ = drop (length o.f.stack - c.args.new.args) o.f.stack in
    omega (
      arith,
      stage_used s5,
      length-append arguments (replicate c.args.new.fill nil),
      length-replicate c.args.new.fill nil,
      length-drop (length o.f.stack - c.args.new.args) o.f.stack,
      there c.requires.good c.requires.ready o c.requires.can,
      few c.requires.good c.requires.ready o c.requires.can,
    )

pub push_copied-requires-clause-values : goal.push_copied-requires-clause-values
push_copied-requires-clause-values c =
    let w : Parts = c.args.self.now in
    let o = opened w c.requires.good c.requires.ready in
    let p : ℕ = c.in-Some.page in
    let free = c.in-Some.ensures.was_free in
    copied_values_hold c.requires.good c.requires.ready o c.requires.can

pub drop_values-requires-clause-top : goal.drop_values-requires-clause-top
drop_values-requires-clause-top c =
    let w : Parts = c.args.self.now in
    let o = opened w c.requires.good c.requires.ready in
    let p : ℕ = c.in-Some.page in
    let free = c.in-Some.ensures.was_free in
    let s3 = begun_empty c.requires.good c.requires.ready o c.requires.can p free c.args.sender.0 c.build-frame.new.self c.set_sender.new.self c.set_saved_pc.new.self c.build-frame.result
    c.build-frame.ensures.made c.build-frame.ensures.frame c.set_sender.ensures.sender c.set_saved_pc.ensures.saved_pc in
    let s4 = begun_arguments c.requires.good c.requires.ready o c.requires.can p free c.args.sender.0 c.args.caller c.requires.caller s3 c.copy_arguments.new.frames c.copy_arguments.ensures.copied in
    let s5 = stage_longer s4 c.push_nils.new.frames (replicate c.args.new.fill nil) c.push_nils.ensures.pushed in
    let s6 = stage_longer s5 c.push_copied.new.frames (copied_at w.heap.objects c.args.new.closure.0 c.args.copies) c.push_copied.ensures.pushed in
    caller_top o p (free_other o p free) s6 c.args.caller c.requires.caller

pub drop_values-requires-clause-there : goal.drop_values-requires-clause-there
drop_values-requires-clause-there c =
    let w : Parts = c.args.self.now in
    let o = opened w c.requires.good c.requires.ready in
    let p : ℕ = c.in-Some.page in
    let free = c.in-Some.ensures.was_free in
    let s3 = begun_empty c.requires.good c.requires.ready o c.requires.can p free c.args.sender.0 c.build-frame.new.self c.set_sender.new.self c.set_saved_pc.new.self c.build-frame.result
    c.build-frame.ensures.made c.build-frame.ensures.frame c.set_sender.ensures.sender c.set_saved_pc.ensures.saved_pc in
    let s4 = begun_arguments c.requires.good c.requires.ready o c.requires.can p free c.args.sender.0 c.args.caller c.requires.caller s3 c.copy_arguments.new.frames c.copy_arguments.ensures.copied in
    let s5 = stage_longer s4 c.push_nils.new.frames (replicate c.args.new.fill nil) c.push_nils.ensures.pushed in
    let s6 = stage_longer s5 c.push_copied.new.frames (copied_at w.heap.objects c.args.new.closure.0 c.args.copies) c.push_copied.ensures.pushed in
    omega (arith, there c.requires.good c.requires.ready o c.requires.can, ap (λ (fs : List Frame). length (top fs).stack) (caller_frames o p (free_other o p free) s6 c.args.caller c.requires.caller))

pub returns : goal.returns
returns c =
    let w : Parts = c.args.self.now in
    let o = opened w c.requires.good c.requires.ready in
    let p : ℕ = c.in-Some.page in
    let free = c.in-Some.ensures.was_free in
    let s3 = begun_empty c.requires.good c.requires.ready o c.requires.can p free c.args.sender.0 c.build-frame.new.self c.set_sender.new.self c.set_saved_pc.new.self c.build-frame.result
    c.build-frame.ensures.made c.build-frame.ensures.frame c.set_sender.ensures.sender c.set_saved_pc.ensures.saved_pc in
    let s4 = begun_arguments c.requires.good c.requires.ready o c.requires.can p free c.args.sender.0 c.args.caller c.requires.caller s3 c.copy_arguments.new.frames c.copy_arguments.ensures.copied in
    let s5 = stage_longer s4 c.push_nils.new.frames (replicate c.args.new.fill nil) c.push_nils.ensures.pushed in
    let s6 = stage_longer s5 c.push_copied.new.frames (copied_at w.heap.objects c.args.new.closure.0 c.args.copies) c.push_copied.ensures.pushed in
    let made = begun_made c.requires.good c.requires.ready o c.requires.can p free c.args.sender.0 c.args.caller c.requires.caller s6 c.drop_values.new.frames c.drop_values.ensures.dropped in
    record { made = record { page = p; free = free; is = ap₂ (λ order ss. record (given_birth w) { pages = order; frames = ss }) c.in-Some.ensures.taken made } }
