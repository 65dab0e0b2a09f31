use Rattle.std.proofs.Common.{◌≡◌, map, take}
use Rattle.cs_build.specs.Laid.{put_words, reference_by, ref_word}
use Rattle.cs_build.proofs.image.put_slots.Given as goal

abbrev pub invariant-loop-slot : goal.invariant-loop-slot
invariant-loop-slot l = l.out.items ≡ put_words l.fn.out.items (map (ref_word l.addresses) (map reference_by (take l.slot-index l.slots)))
