use Rattle.std.proofs.Common.{◌≡◌, map, take}
use Rattle.std.specs.Prelude.{flat_map}
use Rattle.cs_model.specs.SavedFile.{saved_words}
use Rattle.cs_build.specs.Laid.{put_words, laid_by, saved_by}
use Rattle.cs_build.proofs.image.put_objects.Given as goal

abbrev pub invariant-loop-object : goal.invariant-loop-object
invariant-loop-object l = l.out.items ≡ put_words l.fn.out.items (flat_map saved_words (map (saved_by l.addresses) (map laid_by (take l.object-index l.objects))))
