use Rattle.std.proofs.lemmas.List.{map-set}
use Rattle.cs_build.specs.Laid.{reference_by}
use Rattle.cs_build.proofs.first.set_slot.Goals as goal

pub returns-then-place-slots : goal.returns-then-place-slots
returns-then-place-slots c = map-set reference_by c.args.slots.now c.args.place c.args.value
