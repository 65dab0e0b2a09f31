use Rattle.std.proofs.Common.{ap, ◌∙◌}
use Rattle.cs_word.specs.Word.{character_word}
use Rattle.cs_prim_obj.proofs.Naming.{character_names}
use Rattle.cs_prim_obj.proofs.words.character_word.Goals as goal

pub returns : goal.returns
returns c = λ s. character_names s c.args.code c.in-Some.word (c.in-Some.ensures.word ∙ ap character_word c.from.ensures)
