use Rattle.std.proofs.Common.{◌≡◌, ◌*◌, map}
use Rattle.std.specs.List.{range_with_len}
use Rattle.cs_model.specs.ImageFile.{u32_at}
use Rattle.cs_build.specs.Laid.{put_words}
use Rattle.cs_build.proofs.image.put_bytes.Given as goal

abbrev pub invariant-loop-i : goal.invariant-loop-i
invariant-loop-i l = l.out.items ≡ put_words l.fn.out.items (map (λ i. u32_at l.bytes (4 * i)) (range_with_len 0 l.i))
