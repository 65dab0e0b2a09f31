use Rattle.std.proofs.Common.{ℕ, ◌+◌, ◌*◌, [], ◌∷◌, ◌++◌, map, ap, sym, ◌∙◌}
use Rattle.std.specs.List.{range_with_len}
use Rattle.cs_model.specs.ImageFile.{u32_at}
use Rattle.cs_build.proofs.Putting.{put_nothing, put_next, map_range_more}
use Rattle.cs_build.proofs.image.put_bytes.Goals as goal

pub loop-i-init : goal.loop-i-init
loop-i-init c = put_nothing c.args.out.now.items

pub loop-i-preserved : goal.loop-i-preserved
loop-i-preserved c = let f : ℕ → ℕ = λ i. u32_at c.args.bytes.now (4 * i) in
    put_next c.args.out.now.items c.loop-i.out.items c.put_word.new.out.items (map f (range_with_len 0 c.loop-i.i)) (c.word_at.result ∷ []) (map f (range_with_len 0 (c.loop-i.i + 1)))
    c.loop-i.invariant c.in_ok-put_word.ensures (map_range_more f c.loop-i.i ∙ ap (λ (w : ℕ). map f (range_with_len 0 c.loop-i.i) ++ w ∷ []) (sym c.word_at.ensures))
