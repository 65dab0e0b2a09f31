use Rattle.std.proofs.Common.{◌≡◌, map}
use Rattle.std.specs.List.{range_with_len}
use Rattle.cs_build.specs.Laid.{put_words, root_word_of}
use Rattle.cs_build.proofs.image.put_root.Given as goal

abbrev pub invariant-loop-page : goal.invariant-loop-page
invariant-loop-page l = l.out.items ≡ put_words l.initial.out.items (map (root_word_of l.words l.pages) (range_with_len 0 l.page))
