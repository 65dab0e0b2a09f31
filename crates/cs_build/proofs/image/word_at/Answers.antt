use Rattle.std.proofs.Common.{◌∙◌}
use Rattle.cs_build.proofs.Putting.{word_read}
use Rattle.cs_build.proofs.image.word_at.Goals as goal

pub returns : goal.returns
returns c = c.from_le_bytes.ensures
    ∙ word_read c.args.bytes.now c.args.at c.byte_at.result c.byte_at-2.result c.byte_at-3.result c.byte_at-4.result
    c.byte_at.ensures c.byte_at-2.ensures c.byte_at-3.ensures c.byte_at-4.ensures
