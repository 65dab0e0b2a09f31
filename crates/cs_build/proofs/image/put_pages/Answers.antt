use Rattle.std.proofs.Common.{◌≡◌, ℕ, ◌+◌, ◌-◌, ◌*◌, List, [], ◌∷◌, map, take, drop, ap, ◌∙◌, arith, slice_index}
use Rattle.std.proofs.lemmas.List.{map-append}
use Rattle.std.specs.Prelude.{flat_map}
use Rattle.std.specs.List.{range_with_len}
use Rattle.cs_model.specs.SavedFile.{saved_words, table_page}
use Rattle.cs_build.specs.Laid.{put_words, page_of}
use Rattle.cs_build.proofs.Putting.{put_nothing, put_next, map_range_more, flat_map_last}
use Rattle.cs_build.proofs.image.put_pages.Goals as goal

pub loop-page-init : goal.loop-page-init
loop-page-init c = put_nothing c.args.out.now.items

pub loop-page-preserved : goal.loop-page-preserved
loop-page-preserved c =
    let i : ℕ = c.loop-page.page in
    let f : ℕ → List ℕ = page_of c.args.addresses.now c.args.table.now in
    let size : 1024 * c.loop-page.page + 1024 - 1024 * c.loop-page.page ≡ 1024 = omega arith in
    put_next c.args.out.now.items c.loop-page.out.items c.put_page.new.out.items (flat_map saved_words (map table_page (map f (range_with_len 0 i)))) (saved_words (table_page (f i)))
    (flat_map saved_words (map table_page (map f (range_with_len 0 (c.loop-page.page + 1)))))
    c.loop-page.invariant
    (c.in_ok-put_page.ensures ∙ ap (λ (k : ℕ). put_words c.loop-page.out.items (saved_words (table_page (map (slice_index c.args.addresses.now) (take k (drop (1024 * c.loop-page.page) c.args.table.now)))))) size)
    (ap (λ (xs : List (List ℕ)). flat_map saved_words (map table_page xs)) (map_range_more f i)
    ∙ ap (flat_map saved_words) (map-append table_page (map f (range_with_len 0 i)) (f i ∷ []))
    ∙ flat_map_last saved_words (map table_page (map f (range_with_len 0 i))) (table_page (f i)))
