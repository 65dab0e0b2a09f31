use Rattle.std.proofs.Common.{ap, unwrap_or, ◌∙◌, arith}
use Rattle.cs_word.specs.Word.{natural_of_word}
use Rattle.cs_plain.proofs.Active.{active_is}
use Rattle.cs_plain.proofs.Slots.{pc_is_read, fields_within, slot_is, slots_are}
use Rattle.cs_plain.proofs.PlainWorldWorld.pc.Goals as goal

pub slot-requires : goal.slot-requires
slot-requires c = let a = active_is _ _ c.requires c.active_context.ensures in omega (arith, slots_are c.requires a.1, fields_within c.requires a.1)

pub returns : goal.returns
returns c =
    let a = active_is _ _ c.requires c.active_context.ensures in
    (c.unwrap_or.ensures ∙ ap (λ o. unwrap_or o 0) (c.natural.ensures.value)) ∙ ap (λ n. unwrap_or (natural_of_word n) 0) (c.slot.ensures ∙ slot_is c.requires a.1 1) ∙ pc_is_read c.requires a.1
