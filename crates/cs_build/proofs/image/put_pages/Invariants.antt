use Rattle.std.proofs.Common.{◌≡◌, map}
use Rattle.std.specs.Prelude.{flat_map}
use Rattle.std.specs.List.{range_with_len}
use Rattle.cs_model.specs.SavedFile.{saved_words, table_page}
use Rattle.cs_build.specs.Laid.{put_words, page_of}
use Rattle.cs_build.proofs.image.put_pages.Given as goal

abbrev pub invariant-loop-page : goal.invariant-loop-page
invariant-loop-page l = l.out.items ≡ put_words l.fn.out.items (flat_map saved_words (map table_page (map (page_of l.addresses l.table) (range_with_len 0 l.page))))
