use Rattle.std.proofs.Common.{◌≡◌, map, ◌++◌, drop}
use Rattle.std.specs.Prelude.{option_map}
use Rattle.cs_model.specs.BuilderText.{all_of, mention_in}
use Rattle.cs_build.specs.Meaning.{mention_by}
use Rattle.cs_build.specs.Narrow.{narrow_mention, word_texts}
use Rattle.cs_build.proofs.outer.read_slots.Given as goal

abbrev pub invariant-loop-word : goal.invariant-loop-word
invariant-loop-word l = option_map (map narrow_mention) (all_of mention_in (word_texts l.words))
    ≡ option_map (λ rest. map mention_by l.slots.items ++ map narrow_mention rest) (all_of mention_in (word_texts (drop l.word-index l.words)))
