use Rattle.std.proofs.Common.{◌≡◌, ◌-◌, ap, subst, arith}
use Rattle.std.specs.Prelude.{OnOk, IfErr}
use Rattle.cs_model.specs.State.{Kept}
use Rattle.cs_acts.specs.Full.{CausesFull}
use Rattle.cs_stack.specs.View.{layout_of, stored_of, view_of}
use Rattle.cs_stack.proofs.Blocks.{block_begins, closure_fields, closure_object, outer_there}
use Rattle.cs_stack.proofs.parts.Parts.enter_block.Goals as goal

pub slot-outer-requires : goal.slot-outer-requires
slot-outer-requires c =
    omega (arith, closure_fields c.requires.good c.requires.ready c.args.closure c.args.args c.requires.named c.requires.fits)

pub slot-requires : goal.slot-requires
slot-requires c =
    omega (arith, (outer_there c.requires.good c.requires.ready c.args.closure c.args.args c.requires.named c.requires.fits c.slot-outer.result c.slot-outer.ensures).fields)

pub slot-requires-2 : goal.slot-requires-2
slot-requires-2 c =
    omega (arith, (outer_there c.requires.good c.requires.ready c.args.closure c.args.args c.requires.named c.requires.fits c.slot-outer.result c.slot-outer.ensures).fields)

pub slot-pc-requires : goal.slot-pc-requires
slot-pc-requires c =
    omega (arith, closure_fields c.requires.good c.requires.ready c.args.closure c.args.args c.requires.named c.requires.fits)

pub slot_count-copies-requires : goal.slot_count-copies-requires
slot_count-copies-requires c =
    closure_object c.requires.good c.requires.ready c.args.closure c.args.args c.requires.named c.requires.fits

pub overflow_sub-copies : goal.overflow_sub-copies
overflow_sub-copies c =
    omega (arith, closure_fields c.requires.good c.requires.ready c.args.closure c.args.args c.requires.named c.requires.fits, c.slot_count-copies.ensures.value)

pub begin-requires-clause-can : goal.begin-requires-clause-can
begin-requires-clause-can c =
    let counted = ap (λ n. n - 3) c.slot_count-copies.ensures.value in
    let b = block_begins c.requires.good c.requires.ready c.args.closure c.args.args c.requires.named c.requires.fits c.slot-outer.result c.slot-outer.ensures c.slot.result c.slot-2.result c.slot-pc.result (c.slot_count-copies.result - 3)
    c.slot.ensures c.slot-2.ensures c.slot-pc.ensures counted in
    b.can

pub returns-clause-view : goal.returns-clause-view
returns-clause-view c =
    let counted = ap (λ n. n - 3) c.slot_count-copies.ensures.value in
    let b = block_begins c.requires.good c.requires.ready c.args.closure c.args.args c.requires.named c.requires.fits c.slot-outer.result c.slot-outer.ensures c.slot.result c.slot-2.result c.slot-pc.result (c.slot_count-copies.result - 3)
    c.slot.ensures c.slot-2.ensures c.slot-pc.ensures counted in
    subst (λ (t : Kept). OnOk c.begin.result (view_of c.begin.new.self ≡ t)) b.state c.begin.ensures.view

pub returns-clause-full : goal.returns-clause-full
returns-clause-full c =
    let counted = ap (λ n. n - 3) c.slot_count-copies.ensures.value in
    let b = block_begins c.requires.good c.requires.ready c.args.closure c.args.args c.requires.named c.requires.fits c.slot-outer.result c.slot-outer.ensures c.slot.result c.slot-2.result c.slot-pc.result (c.slot_count-copies.result - 3)
    c.slot.ensures c.slot-2.ensures c.slot-pc.ensures counted in
    subst (λ (t : Kept). IfErr c.begin.result (CausesFull (stored_of c.begin.new.self) (layout_of c.args.self.now) (view_of c.args.self.now) 0 t)) b.state c.begin.ensures.full
