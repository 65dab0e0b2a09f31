use Rattle.std.proofs.Common.{map, refl, ap, ◌∙◌}
use Rattle.cs_model.specs.Builder.{obj_or_nil}
use Rattle.cs_build.specs.Laid.{reference_by}
use Rattle.cs_build.proofs.Firsting.{set_more}
use Rattle.cs_build.proofs.first.set_known.Goals as goal

pub returns : goal.returns
returns c =
    set_more (map reference_by c.set_slot-6.new.slots) (map reference_by c.set_slot-5.new.slots) _ 18 _ _ c.set_slot-6.ensures (c.object_or_nil-4.ensures ∙ ap obj_or_nil c.named-4.ensures)
    (set_more (map reference_by c.set_slot-5.new.slots) (map reference_by c.set_slot-4.new.slots) _ 15 _ _ c.set_slot-5.ensures (c.object_or_nil-3.ensures ∙ ap obj_or_nil c.named-3.ensures)
    (set_more (map reference_by c.set_slot-4.new.slots) (map reference_by c.set_slot-3.new.slots) _ 12 _ _ c.set_slot-4.ensures (c.object_or_nil-2.ensures ∙ ap obj_or_nil c.named-2.ensures)
    (set_more (map reference_by c.set_slot-3.new.slots) (map reference_by c.set_slot-2.new.slots) _ 7 _ _ c.set_slot-3.ensures (c.object_or_nil.ensures ∙ ap obj_or_nil c.named.ensures)
    (set_more (map reference_by c.set_slot-2.new.slots) (map reference_by c.set_slot.new.slots) _ 23 _ _ c.set_slot-2.ensures refl c.set_slot.ensures))))
