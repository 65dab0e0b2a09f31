use Rattle.std.proofs.Common.{ap, sym, subst, ◌∙◌, arith}
use Rattle.std.specs.Prelude.{OnOk}
use Rattle.cs_frame.specs.Page.{frames_of, frames_used}
use Rattle.cs_acts.specs.Made.{MakesAtMost}
use Rattle.cs_stack.specs.declared.parts.Parts.{Parts}
use Rattle.cs_stack.specs.Good.{IsGood}
use Rattle.cs_stack.specs.View.{layout_of, stored_of, view_of}
use Rattle.cs_stack.proofs.Tops.{opened}
use Rattle.cs_stack.proofs.Called.{active_used, called_good, called_layout, called_view}
use Rattle.cs_stack.proofs.Overflowing.{made_one}
use Rattle.cs_stack.proofs.parts.Parts.begin.Goals as goal

pub returns-then-room-lt-FRAME_ROOM-clause-contexts : goal.returns-then-room-lt-FRAME_ROOM-clause-contexts
returns-then-room-lt-FRAME_ROOM-clause-contexts c =
    let w : Parts = c.args.self.now in
    let o = opened w c.requires.good c.requires.ready in
    let words = ap (λ n. frames_used (frames_of w.frames n)) c.order.ensures.page ∙ active_used o in
    subst (λ n. OnOk c.overflow.result (MakesAtMost n (layout_of w) (stored_of w) (stored_of c.overflow.new.self))) (sym (made_one w c.requires.good o (omega (arith, words, c.room-room.ensures.room, c.if-room-lt-FRAME_ROOM.true))))
    c.overflow.ensures.contexts

pub returns-clause-good : goal.returns-clause-good
returns-clause-good c =
    let w : Parts = c.args.self.now in
    let o = opened w c.requires.good c.requires.ready in
    let words = ap (λ n. frames_used (frames_of w.frames n)) c.order.ensures.page ∙ active_used o in
    subst IsGood (sym c.call.ensures.made)
    (called_good c.requires.good c.requires.ready o c.requires.can (omega (arith, words, c.room-room.ensures.room, c.if-room-lt-FRAME_ROOM.false)))

pub returns-clause-view : goal.returns-clause-view
returns-clause-view c =
    let w : Parts = c.args.self.now in
    let o = opened w c.requires.good c.requires.ready in
    let words = ap (λ n. frames_used (frames_of w.frames n)) c.order.ensures.page ∙ active_used o in
    ap view_of c.call.ensures.made
    ∙ called_view c.requires.good c.requires.ready o c.requires.can (omega (arith, words, c.room-room.ensures.room, c.if-room-lt-FRAME_ROOM.false))

pub returns-clause-layout : goal.returns-clause-layout
returns-clause-layout c =
    let w : Parts = c.args.self.now in
    let o = opened w c.requires.good c.requires.ready in
    let words = ap (λ n. frames_used (frames_of w.frames n)) c.order.ensures.page ∙ active_used o in
    ap layout_of c.call.ensures.made
    ∙ called_layout c.requires.good c.requires.ready o c.requires.can (omega (arith, words, c.room-room.ensures.room, c.if-room-lt-FRAME_ROOM.false))
