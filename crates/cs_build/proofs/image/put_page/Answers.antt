use Rattle.std.proofs.Common.{◌≡◌, ℕ, ◌+◌, ◌<◌, List, length, map, take, refl, ap, ◌∙◌, slice_index}
use Rattle.std.proofs.lemmas.List.{take_all}
use Rattle.cs_model.specs.SavedFile.{saved_words, table_page}
use Rattle.cs_build.specs.Laid.{put_words, head_words}
use Rattle.cs_build.proofs.Putting.{put_nothing, put_next, map_more, all_at, length-map, page_as}
use Rattle.cs_build.proofs.image.put_page.Goals as goal

pub loop-number-init : goal.loop-number-init
loop-number-init c = put_nothing c.put_head.new.out.items

pub bounds-addresses-number : goal.bounds-addresses-number
bounds-addresses-number c = all_at (λ (n : ℕ). n < length c.args.addresses.now) c.args.entries.now c.loop-number.number-index 0 c.requires.held c.loop-number-test.true

pub loop-number-preserved : goal.loop-number-preserved
loop-number-preserved c =
    put_next c.put_head.new.out.items c.loop-number.out.items c.put_word.new.out.items (map (slice_index c.args.addresses.now) (take c.loop-number.number-index c.args.entries.now)) _
    (map (slice_index c.args.addresses.now) (take (c.loop-number.number-index + 1) c.args.entries.now))
    c.loop-number.invariant c.in_ok-put_word.ensures (map_more (slice_index c.args.addresses.now) c.args.entries.now c.loop-number.number-index 0 c.loop-number-test.true)

pub returns : goal.returns
returns c =
    let f : ℕ → ℕ = slice_index c.args.addresses.now in
    let all : take c.loop-number.number-index c.args.entries.now ≡ c.args.entries.now = take_all c.loop-number.number-index c.args.entries.now c.loop-number-test.false in
    put_next c.args.out.now.items c.put_head.new.out.items c.loop-number.out.items (head_words 16 2 0 1024) (map f c.args.entries.now)
    (saved_words (table_page (map f c.args.entries.now))) c.in_ok-put_head.ensures
    (c.loop-number.invariant ∙ ap (λ (xs : List ℕ). put_words c.put_head.new.out.items (map f xs)) all)
    (page_as 2 1024 (map f c.args.entries.now) (length-map f c.args.entries.now ∙ c.requires.long) refl)
