use Rattle.std.proofs.Common.{ap, ◌∙◌}
use Rattle.byteorder.specs.Endian.{little_number}
use Rattle.cs_model.specs.ImageFile.{u32_at}
use Rattle.cs_image.proofs.Bytes.{slice_to_end, little_number-drop}
use Rattle.cs_image.proofs.header.u32_at.Goals as goal

pub returns : goal.returns
unfolding u32_at
returns c = c.read_u32.ensures ∙ ap (little_number 4) (slice_to_end c.args.bytes.now c.args.place) ∙ little_number-drop 4 c.args.bytes.now c.args.place
