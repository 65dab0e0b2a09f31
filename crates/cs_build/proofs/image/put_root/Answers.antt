use Rattle.std.proofs.Common.{◌≡◌, ℕ, ◌+◌, [], ◌∷◌, ◌++◌, map, refl, ap, sym, ◌∙◌, arith}
use Rattle.std.specs.List.{range_with_len}
use Rattle.cs_model.specs.SavedFile.{saved_words, hidden_object}
use Rattle.cs_build.specs.Laid.{put_words, root_word_of, root_words, head_words}
use Rattle.cs_build.proofs.Putting.{put_nothing, put_next, map_range_more, page_as}
use Rattle.cs_build.proofs.image.put_root.Goals as goal

pub loop-page-init : goal.loop-page-init
loop-page-init c = put_nothing c.put_head.new.out.items

pub loop-page-preserved : goal.loop-page-preserved
loop-page-preserved c = let f : ℕ → ℕ = root_word_of c.args.words c.args.pages in
    put_next c.put_head.new.out.items c.loop-page.out.items c.put_word.new.out.items (map f (range_with_len 0 c.loop-page.page)) (c.root_word.result ∷ []) (map f (range_with_len 0 (c.loop-page.page + 1)))
    c.loop-page.invariant c.in_ok-put_word.ensures (map_range_more f c.loop-page.page ∙ ap (λ (w : ℕ). map f (range_with_len 0 c.loop-page.page) ++ w ∷ []) (sym c.root_word.ensures))

pub returns : goal.returns
returns c = let all : c.loop-page.page ≡ 16 = omega arith in
    put_next c.args.out.now.items c.put_head.new.out.items c.loop-page.out.items (head_words 16 2 0 16) (root_words c.args.words c.args.pages) (saved_words (hidden_object 2 (root_words c.args.words c.args.pages)))
    c.in_ok-put_head.ensures
    (c.loop-page.invariant ∙ ap (λ (n : ℕ). put_words c.put_head.new.out.items (map (root_word_of c.args.words c.args.pages) (range_with_len 0 n))) all)
    (page_as 2 16 (root_words c.args.words c.args.pages) refl refl)
