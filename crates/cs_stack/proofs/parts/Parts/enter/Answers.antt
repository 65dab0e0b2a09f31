use Rattle.std.proofs.Common.{◌≡◌, ◌≤◌, ◌-◌, ◌+◌, length, ap, sym, subst, ◌∙◌, arith, pos}
use Rattle.std.specs.Prelude.{OnOk, IfErr, slice_index}
use Rattle.cs_word.specs.Word.{small_word}
use Rattle.cs_frame.specs.Frame.{Frame}
use Rattle.cs_model.specs.Obj.{temporary_count}
use Rattle.cs_model.specs.State.{Kept}
use Rattle.cs_acts.specs.Full.{CausesFull}
use Rattle.cs_stack.specs.Moved.{entry_of}
use Rattle.cs_stack.specs.View.{layout_of, stored_of, view_of}
use Rattle.cs_stack.proofs.Tops.{opened}
use Rattle.cs_stack.proofs.Called.{top_frame, top_is_frame}
use Rattle.cs_stack.proofs.Methods.{enough, method_begins, method_header, method_temporaries}
use Rattle.cs_stack.proofs.parts.Parts.enter.Goals as goal

pub method_header-header-requires : goal.method_header-header-requires
method_header-header-requires c =
    method_header c.requires.ready (opened c.args.self.now c.requires.good c.requires.ready) c.args.method c.args.args c.args.skip c.requires.named c.requires.fits

pub depth-requires : goal.depth-requires
depth-requires c =
    let o = opened c.args.self.now c.requires.good c.requires.ready in
    record { frame = top_is_frame o c.top-top.result c.top-top.ensures.is }

pub overflow_sub-depth : goal.overflow_sub-depth
overflow_sub-depth c =
    let o = opened c.args.self.now c.requires.good c.requires.ready in
    let deep = c.depth.ensures.depth ∙ ap (λ (f : Frame). length f.stack) (top_frame o c.top-top.result c.top-top.ensures.is) in
    omega (arith, deep, enough c.requires.ready o c.args.method c.args.args c.args.skip c.requires.named c.requires.fits)

pub overflow_sub-depth-2 : goal.overflow_sub-depth-2
overflow_sub-depth-2 c =
    let o = opened c.args.self.now c.requires.good c.requires.ready in
    let deep = c.depth.ensures.depth ∙ ap (λ (f : Frame). length f.stack) (top_frame o c.top-top.result c.top-top.ensures.is) in
    omega (arith, deep, enough c.requires.ready o c.args.method c.args.args c.args.skip c.requires.named c.requires.fits)

pub slot-receiver-requires-clause-index : goal.slot-receiver-requires-clause-index
slot-receiver-requires-clause-index c =
    let o = opened c.args.self.now c.requires.good c.requires.ready in
    let deep = c.depth.ensures.depth in
    let same = ap (λ (f : Frame). length f.stack) (top_frame o c.top-top.result c.top-top.ensures.is) in
    omega (arith, deep, same, enough c.requires.ready o c.args.method c.args.args c.args.skip c.requires.named c.requires.fits)

pub overflow_sub-new : goal.overflow_sub-new
overflow_sub-new c =
    let o = opened c.args.self.now c.requires.good c.requires.ready in
    subst (λ n. c.args.args ≤ n) (sym (c.temporaries.ensures.value ∙ ap temporary_count c.method_header-header.ensures)) (method_temporaries c.requires.ready o c.args.method c.args.args c.args.skip c.requires.named c.requires.fits)

pub begin-requires-clause-can : goal.begin-requires-clause-can
begin-requires-clause-can c =
    let o = opened c.args.self.now c.requires.good c.requires.ready in
    let deep = c.depth.ensures.depth ∙ ap (λ (f : Frame). length f.stack) (top_frame o c.top-top.result c.top-top.ensures.is) in
    let at : c.depth.result - c.args.args - 1 ≡ length o.f.stack - (c.args.args + 1) = omega (arith, deep) in
    let received = c.slot-receiver.ensures.value ∙ ap (λ (f : Frame). slice_index f.stack (c.depth.result - c.args.args - 1)) (top_frame o c.top-top.result c.top-top.ensures.is)
    ∙ ap (slice_index o.f.stack) at in
    let filled = ap (λ n. n - c.args.args) (c.temporaries.ensures.value ∙ ap temporary_count c.method_header-header.ensures) in
    let pc = c.from_natural.ensures ∙ ap (λ n. small_word (pos n)) (c.entry_pc.ensures ∙ ap (λ h. entry_of h c.args.skip) c.method_header-header.ensures) in
    let b = method_begins c.requires.ready o c.args.method c.args.args c.args.skip c.requires.named c.requires.fits c.slot-receiver.result (c.temporaries.result - c.args.args) c.from_natural.result received filled pc in
    b.can

pub returns-clause-view : goal.returns-clause-view
returns-clause-view c =
    let o = opened c.args.self.now c.requires.good c.requires.ready in
    let deep = c.depth.ensures.depth ∙ ap (λ (f : Frame). length f.stack) (top_frame o c.top-top.result c.top-top.ensures.is) in
    let at : c.depth.result - c.args.args - 1 ≡ length o.f.stack - (c.args.args + 1) = omega (arith, deep) in
    let received = c.slot-receiver.ensures.value ∙ ap (λ (f : Frame). slice_index f.stack (c.depth.result - c.args.args - 1)) (top_frame o c.top-top.result c.top-top.ensures.is)
    ∙ ap (slice_index o.f.stack) at in
    let filled = ap (λ n. n - c.args.args) (c.temporaries.ensures.value ∙ ap temporary_count c.method_header-header.ensures) in
    let pc = c.from_natural.ensures ∙ ap (λ n. small_word (pos n)) (c.entry_pc.ensures ∙ ap (λ h. entry_of h c.args.skip) c.method_header-header.ensures) in
    let b = method_begins c.requires.ready o c.args.method c.args.args c.args.skip c.requires.named c.requires.fits c.slot-receiver.result (c.temporaries.result - c.args.args) c.from_natural.result received filled pc in
    subst (λ (t : Kept). OnOk c.begin.result (view_of c.begin.new.self ≡ t)) b.state c.begin.ensures.view

pub returns-clause-full : goal.returns-clause-full
returns-clause-full c =
    let o = opened c.args.self.now c.requires.good c.requires.ready in
    let deep = c.depth.ensures.depth ∙ ap (λ (f : Frame). length f.stack) (top_frame o c.top-top.result c.top-top.ensures.is) in
    let at : c.depth.result - c.args.args - 1 ≡ length o.f.stack - (c.args.args + 1) = omega (arith, deep) in
    let received = c.slot-receiver.ensures.value ∙ ap (λ (f : Frame). slice_index f.stack (c.depth.result - c.args.args - 1)) (top_frame o c.top-top.result c.top-top.ensures.is)
    ∙ ap (slice_index o.f.stack) at in
    let filled = ap (λ n. n - c.args.args) (c.temporaries.ensures.value ∙ ap temporary_count c.method_header-header.ensures) in
    let pc = c.from_natural.ensures ∙ ap (λ n. small_word (pos n)) (c.entry_pc.ensures ∙ ap (λ h. entry_of h c.args.skip) c.method_header-header.ensures) in
    let b = method_begins c.requires.ready o c.args.method c.args.args c.args.skip c.requires.named c.requires.fits c.slot-receiver.result (c.temporaries.result - c.args.args) c.from_natural.result received filled pc in
    subst (λ (t : Kept). IfErr c.begin.result (CausesFull (stored_of c.begin.new.self) (layout_of c.args.self.now) (view_of c.args.self.now) 0 t)) b.state c.begin.ensures.full
