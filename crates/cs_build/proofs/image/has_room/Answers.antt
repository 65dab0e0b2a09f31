use Rattle.std.proofs.Common.{◌≡◌, ℕ, ◌<◌, false, map, arith}
use Rattle.std.specs.Prelude.{nat_le}
use Rattle.std.proofs.lemmas.Bool.Decides.{nat_tests}
use Rattle.cs_build.specs.Laid.{laid_by}
use Rattle.cs_build.specs.Wholes.{file_size}
use Rattle.cs_build.proofs.Putting.{size_within}
use Rattle.cs_build.proofs.image.has_room.Goals as goal

above : (n m : ℕ) → m < n → false ≡ nat_le n m
above n m h = grind (arith, nat_tests, h)

pub returns-then-words-gt-MOST_WORDS : goal.returns-then-words-gt-MOST_WORDS
returns-then-words-gt-MOST_WORDS c = above (file_size (map laid_by c.args.objects.now) c.args.pages) 536870912 (omega (
  arith,
  c.loop-object.invariant,
  c.if-words-gt-MOST_WORDS.true,
  size_within laid_by c.args.objects.now c.loop-object.object-index c.object-item.result c.object-item.is c.loop-object-test.true,
))
