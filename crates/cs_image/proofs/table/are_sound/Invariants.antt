use Rattle.std.proofs.Common.{◌≡◌, true}
use Rattle.cs_model.specs.ImageFault.{all_below, is_sound_entry}
use Rattle.cs_image.proofs.table.are_sound.Given as goal

abbrev pub invariant-loop-index : goal.invariant-loop-index
invariant-loop-index l = all_below l.index (is_sound_entry l.file) ≡ true
