use Rattle.std.proofs.Common.{◌≡◌, [], ◌∷◌, replicate, refl}
use Rattle.cs_model.specs.SavedFile.{saved_words, free_lists}
use Rattle.cs_build.specs.Laid.{put_words, head_words}
use Rattle.cs_build.proofs.Putting.{put_next, on_ok, page_as}
use Rattle.cs_build.proofs.image.put_free_lists.Goals as goal

pub returns : goal.returns
returns c = on_ok c.put_zeros.result (c.put_zeros.new.out.items ≡ put_words c.put_head.new.out.items (replicate 2 0))
    (c.put_zeros.new.out.items ≡ put_words c.args.out.now.items (saved_words free_lists))
    (λ h. put_next c.args.out.now.items c.put_head.new.out.items c.put_zeros.new.out.items (head_words 16 10 0 2) (0 ∷ 0 ∷ []) (saved_words free_lists)
    c.in_ok-put_head.ensures h (page_as 10 2 (0 ∷ 0 ∷ []) refl refl)) c.put_zeros.ensures
