use Rattle.std.proofs.Common.{Some, arith, subst, sym}
use Rattle.cs_acts.specs.Names.{NamesOption}
use Rattle.cs_acts.specs.declared.act.Act.TheVariants as act
use Rattle.cs_stack.specs.Moved.{field_at}
use Rattle.cs_stack.specs.View.{act_of, stored_of, view_of}
use Rattle.cs_stack.proofs.Acts.{frame_at}
use Rattle.cs_stack.proofs.Fields.{frame_get_closure, frame_get_depth, frame_get_method, frame_get_pc, frame_get_receiver, frame_get_value, frame_value_within, depth_small, ok_map}
use Rattle.cs_stack.proofs.parts.Parts.frame_get.Goals as goal

pub slot-requires-clause-index : goal.slot-requires-clause-index
slot-requires-clause-index c =
    frame_value_within c.requires.good (frame_at c.args.self.now c.args.f c.requires.good c.requires.frame) c.args.i (omega arith) c.requires.there

pub returns-in-0-clause-value : goal.returns-in-0-clause-value
returns-in-0-clause-value c =
    let w = c.args.self.now in
    ok_map _ _ c.sender_of.result (λ o n. subst (λ i. NamesOption (stored_of c.sender_of.new.self) (Some o) (field_at (view_of w) (act_of w (act.Frame c.args.f.page c.args.f.at)) i)) (sym c.in-0.is) n) c.sender_of.ensures.value

pub returns-in-1-clause-value : goal.returns-in-1-clause-value
returns-in-1-clause-value c =
    let w = c.args.self.now in
    subst (λ i. NamesOption (stored_of w) (Some c.saved_pc.result) (field_at (view_of w) (act_of w (act.Frame c.args.f.page c.args.f.at)) i)) (sym c.in-1.is)
    (frame_get_pc c.requires.good (frame_at w c.args.f c.requires.good c.requires.frame) c.saved_pc.result c.saved_pc.ensures.saved_pc)

pub returns-in-2-clause-value : goal.returns-in-2-clause-value
returns-in-2-clause-value c =
    let w = c.args.self.now in
    let a = frame_at w c.args.f c.requires.good c.requires.frame in
    subst (λ i. NamesOption (stored_of w) (Some c.from_natural.result) (field_at (view_of w) (act_of w (act.Frame c.args.f.page c.args.f.at)) i)) (sym c.in-2.is)
    (frame_get_depth c.requires.good a c.from_natural.result c.depth.result c.depth.ensures.depth c.from_natural.ensures (depth_small c.requires.good a c.depth.result c.depth.ensures.depth))

pub returns-in-3-clause-value : goal.returns-in-3-clause-value
returns-in-3-clause-value c =
    let w = c.args.self.now in
    subst (λ i. NamesOption (stored_of w) (Some c.method.result) (field_at (view_of w) (act_of w (act.Frame c.args.f.page c.args.f.at)) i)) (sym c.in-3.is)
    (frame_get_method c.requires.good (frame_at w c.args.f c.requires.good c.requires.frame) c.method.result c.method.ensures.method)

pub returns-in-4-clause-value : goal.returns-in-4-clause-value
returns-in-4-clause-value c =
    let w = c.args.self.now in
    subst (λ i. NamesOption (stored_of w) (Some c.closure.result) (field_at (view_of w) (act_of w (act.Frame c.args.f.page c.args.f.at)) i)) (sym c.in-4.is)
    (frame_get_closure c.requires.good (frame_at w c.args.f c.requires.good c.requires.frame) c.closure.result c.closure.ensures.closure)

pub returns-in-5-clause-value : goal.returns-in-5-clause-value
returns-in-5-clause-value c =
    let w = c.args.self.now in
    subst (λ i. NamesOption (stored_of w) (Some c.receiver.result) (field_at (view_of w) (act_of w (act.Frame c.args.f.page c.args.f.at)) i)) (sym c.in-5.is)
    (frame_get_receiver c.requires.good (frame_at w c.args.f c.requires.good c.requires.frame) c.receiver.result c.receiver.ensures.receiver)

pub returns-in_default-clause-value : goal.returns-in_default-clause-value
returns-in_default-clause-value c =
    let w = c.args.self.now in
    let a = frame_at w c.args.f c.requires.good c.requires.frame in
    frame_get_value c.requires.good a c.slot.result c.args.i (omega arith) (frame_value_within c.requires.good a c.args.i (omega arith) c.requires.there) c.slot.ensures.value
