use Rattle.std.proofs.Common.{arith}
use Rattle.cs_plain.proofs.Active.{active_is}
use Rattle.cs_plain.proofs.Slots.{depth_within, few_slots, names_slot, slots_are, stack_is_read}
use Rattle.cs_plain.proofs.PlainWorldWorld.stack_at.Goals as goal

pub overflow_add-i : goal.overflow_add-i
overflow_add-i c =
    let a = active_is _ _ c.requires.ready c.active_context.ensures in
    omega (arith, c.requires.there, depth_within c.requires.ready a.1, few_slots c.requires.ready a.1)

pub slot-requires : goal.slot-requires
slot-requires c =
    let a = active_is _ _ c.requires.ready c.active_context.ensures in
    omega (arith, c.requires.there, depth_within c.requires.ready a.1, slots_are c.requires.ready a.1)

pub returns : goal.returns
returns c =
    let a = active_is _ _ c.requires.ready c.active_context.ensures in
    names_slot c.requires.ready a.1 c.slot.result _ _ (omega (arith, c.requires.there, depth_within c.requires.ready a.1)) c.slot.ensures
    (stack_is_read c.requires.ready a.1 c.args.i _ c.requires.there)
