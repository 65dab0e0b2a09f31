use Rattle.std.proofs.Common.{arith}
use Rattle.cs_plain.proofs.Active.{active_is}
use Rattle.cs_plain.proofs.Slots.{fields_within, names_slot, receiver_is_read, slots_are}
use Rattle.cs_plain.proofs.PlainWorldWorld.receiver.Goals as goal

pub slot-requires : goal.slot-requires
slot-requires c = let a = active_is _ _ c.requires c.active_context.ensures in omega (arith, slots_are c.requires a.1, fields_within c.requires a.1)

pub returns : goal.returns
returns c =
    let a = active_is _ _ c.requires c.active_context.ensures in
    names_slot c.requires a.1 c.slot.result 5 _ (omega (arith, fields_within c.requires a.1)) c.slot.ensures (receiver_is_read c.requires a.1)
