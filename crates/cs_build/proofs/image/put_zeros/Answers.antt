use Rattle.std.proofs.Common.{◌+◌, [], ◌∷◌, replicate}
use Rattle.cs_build.proofs.Putting.{put_nothing, put_next, replicate_more}
use Rattle.cs_build.proofs.image.put_zeros.Goals as goal

pub loop-init : goal.loop-init
loop-init c = put_nothing c.args.out.now.items

pub loop-preserved : goal.loop-preserved
loop-preserved c = put_next c.args.out.now.items c.loop.out.items c.put_word.new.out.items (replicate c.loop.counter 0) (0 ∷ []) (replicate (c.loop.counter + 1) 0)
    c.loop.invariant c.in_ok-put_word.ensures (replicate_more c.loop.counter)
