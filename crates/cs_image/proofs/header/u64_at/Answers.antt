use Rattle.std.proofs.Common.{ap, ◌∙◌}
use Rattle.byteorder.specs.Endian.{little_number}
use Rattle.cs_model.specs.ImageFile.{u64_at}
use Rattle.cs_image.proofs.Bytes.{slice_to_end, little_number-drop}
use Rattle.cs_image.proofs.header.u64_at.Goals as goal

pub returns : goal.returns
unfolding u64_at
returns c = c.read_u64.ensures ∙ ap (little_number 8) (slice_to_end c.args.bytes.now c.args.place) ∙ little_number-drop 8 c.args.bytes.now c.args.place
