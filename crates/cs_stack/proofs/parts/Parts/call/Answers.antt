use Rattle.std.proofs.Common.{List, subst, sym, ap, arith}
use Rattle.cs_frame.specs.Frame.{Frame}
use Rattle.cs_frame.specs.Page.{HasArguments, frames_of}
use Rattle.cs_frame.specs.declared.FrameRef.{FrameRef}
use Rattle.cs_stack.specs.declared.parts.Parts.{Parts}
use Rattle.cs_stack.specs.Moved.{given_birth}
use Rattle.cs_stack.proofs.Tops.{opened}
use Rattle.cs_stack.proofs.Entering.{copied, copied_values_hold, few, new_pc, new_values}
use Rattle.cs_stack.proofs.Called.{built_room, built_top, can_call, frame_built, frame_made, top_ref}
use Rattle.cs_stack.proofs.parts.Parts.call.Goals as goal

pub build-frame-requires-clause-size : goal.build-frame-requires-clause-size
build-frame-requires-clause-size c = omega (arith, few c.requires.good c.requires.ready (opened c.args.self.now c.requires.good c.requires.ready) c.requires.can)

pub build-frame-requires-clause-caller : goal.build-frame-requires-clause-caller
build-frame-requires-clause-caller c =
    let o = opened c.args.self.now c.requires.good c.requires.ready in
    subst (λ (r : FrameRef). HasArguments c.args.new.args (frames_of c.args.self.now.frames r.page)) (sym (top_ref o c.top-top.result c.top-top.ensures.is))
    (can_call c.requires.good c.requires.ready o c.requires.can)

pub build-frame-requires-clause-values : goal.build-frame-requires-clause-values
build-frame-requires-clause-values c = new_values c.requires.good c.requires.ready (opened c.args.self.now c.requires.good c.requires.ready) c.requires.can

pub set_saved_pc-requires-clause-pc : goal.set_saved_pc-requires-clause-pc
set_saved_pc-requires-clause-pc c = new_pc c.requires.good c.requires.ready (opened c.args.self.now c.requires.good c.requires.ready) c.requires.can

pub push_copied-requires-clause-top : goal.push_copied-requires-clause-top
push_copied-requires-clause-top c =
    let o = opened c.args.self.now c.requires.good c.requires.ready in
    built_top c.requires.good c.requires.ready o c.requires.can
    (frame_built c.requires.good c.requires.ready o c.requires.can c.top-top.result c.build-frame.result c.build-frame.new.self c.set_saved_pc.new.self
    c.top-top.ensures.is c.build-frame.ensures.made c.build-frame.ensures.frame c.set_saved_pc.ensures.saved_pc)

pub push_copied-requires-clause-there : goal.push_copied-requires-clause-there
push_copied-requires-clause-there c = (copied c.requires.good c.requires.ready (opened c.args.self.now c.requires.good c.requires.ready) c.requires.can).within

pub push_copied-requires-clause-room : goal.push_copied-requires-clause-room
push_copied-requires-clause-room c =
    let o = opened c.args.self.now c.requires.good c.requires.ready in
    built_room c.requires.good c.requires.ready o c.requires.can
    (frame_built c.requires.good c.requires.ready o c.requires.can c.top-top.result c.build-frame.result c.build-frame.new.self c.set_saved_pc.new.self
    c.top-top.ensures.is c.build-frame.ensures.made c.build-frame.ensures.frame c.set_saved_pc.ensures.saved_pc)
    c.requires.room

pub push_copied-requires-clause-values : goal.push_copied-requires-clause-values
push_copied-requires-clause-values c = copied_values_hold c.requires.good c.requires.ready (opened c.args.self.now c.requires.good c.requires.ready) c.requires.can

pub returns : goal.returns
returns c =
    let w : Parts = c.args.self.now in
    let o = opened w c.requires.good c.requires.ready in
    let made = frame_made c.requires.good c.requires.ready o c.requires.can
    (frame_built c.requires.good c.requires.ready o c.requires.can c.top-top.result c.build-frame.result c.build-frame.new.self c.set_saved_pc.new.self
    c.top-top.ensures.is c.build-frame.ensures.made c.build-frame.ensures.frame c.set_saved_pc.ensures.saved_pc)
    c.push_copied.new.frames c.push_copied.ensures.pushed in
    record { made = ap (λ (ps : List (List Frame)). record (given_birth w) { frames = ps }) made }
