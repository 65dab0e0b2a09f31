use Rattle.cs_stack.proofs.Tops.{opened}
use Rattle.cs_stack.proofs.Edits.{depth_read, stack_edited, top_frame, top_is_frame}
use Rattle.cs_stack.proofs.Changes.{reference_value}
use Rattle.std.specs.Prelude.{◌<◌}
use Rattle.std.proofs.Common.{arith, length, subst, sym}
use Rattle.cs_model.specs.Operation.{set_stack_of}
use Rattle.cs_stack.proofs.parts.Parts.set_stack.Goals as goal

pub set_slot-requires-clause-frame : goal.set_slot-requires-clause-frame
set_slot-requires-clause-frame c = top_is_frame c.requires.good (opened _ c.requires.good c.requires.ready) _ c.top-top.ensures.is

pub set_slot-requires-clause-index : goal.set_slot-requires-clause-index
set_slot-requires-clause-index c =
    let o = opened _ c.requires.good c.requires.ready in
    subst (λ f. c.args.i < length f.stack) (sym (top_frame c.requires.good o _ c.top-top.ensures.is)) (omega (arith, depth_read c.requires.good o, c.requires.there))

pub set_slot-requires-clause-value : goal.set_slot-requires-clause-value
set_slot-requires-clause-value c = reference_value c.args.self.now.heap.objects c.args.v.0 c.requires.named

pub returns-clause-good : goal.returns-clause-good
returns-clause-good c = (stack_edited c.requires.good (opened _ c.requires.good c.requires.ready) c.args.i c.args.v _ _ c.requires.named c.top-top.ensures.is c.set_slot.ensures.slot).good

pub returns-clause-view : goal.returns-clause-view
unfolding set_stack_of
returns-clause-view c = (stack_edited c.requires.good (opened _ c.requires.good c.requires.ready) c.args.i c.args.v _ _ c.requires.named c.top-top.ensures.is c.set_slot.ensures.slot).view

pub returns-clause-layout : goal.returns-clause-layout
returns-clause-layout c = (stack_edited c.requires.good (opened _ c.requires.good c.requires.ready) c.args.i c.args.v _ _ c.requires.named c.top-top.ensures.is c.set_slot.ensures.slot).layout
