use Rattle.std.proofs.Common.{◌-◌, ap, ◌∙◌, arith}
use Rattle.cs_plain.proofs.Active.{active_is}
use Rattle.cs_plain.proofs.Slots.{fields_within, size_is_read, slots_are}
use Rattle.cs_plain.proofs.PlainWorldWorld.size.Goals as goal

pub overflow_sub-result : goal.overflow_sub-result
overflow_sub-result c = let a = active_is _ _ c.requires c.active_context.ensures in omega (arith, c.slot_count.ensures.value, slots_are c.requires a.1, fields_within c.requires a.1)

pub returns : goal.returns
returns c =
    let a = active_is _ _ c.requires c.active_context.ensures in
    ap (λ n. n - 6) (c.slot_count.ensures.value ∙ slots_are c.requires a.1) ∙ size_is_read c.requires a.1
