use Rattle.std.proofs.Common.{◌≡◌, map, take, slice_index}
use Rattle.cs_build.specs.Laid.{put_words}
use Rattle.cs_build.proofs.image.put_page.Given as goal

abbrev pub invariant-loop-number : goal.invariant-loop-number
invariant-loop-number l = l.out.items ≡ put_words l.initial.out.items (map (slice_index l.addresses) (take l.number-index l.entries))
