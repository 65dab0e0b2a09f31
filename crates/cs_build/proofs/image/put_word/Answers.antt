use Rattle.cs_build.proofs.Putting.{put_word_on}
use Rattle.cs_build.proofs.image.put_word.Goals as goal

pub returns : goal.returns
returns c = put_word_on c.extend_from_slice.result c.extend_from_slice.new.self.items c.args.out.now.items c.to_le_bytes.result c.args.word
    c.extend_from_slice.ensures.items c.to_le_bytes.ensures
