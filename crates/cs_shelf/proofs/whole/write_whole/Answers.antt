use Rattle.std.proofs.Common.{arith, length-drop}
use Rattle.cs_shelf.proofs.Appending.{appends_more}
use Rattle.cs_shelf.proofs.whole.write_whole.Goals as goal

pub loop-at-preserved : goal.loop-at-preserved
loop-at-preserved g c =
    record {
      within = omega (arith, c.in_ok-n.ensures.part, length-drop c.loop-at.at c.args.bytes.now);
      taken = appends_more _ _ _ c.args.bytes.now c.loop-at.at c.in_ok-n.n c.loop-at.invariant.taken c.in_ok-n.ensures.ok;
      never_falls = omega (arith, c.loop-at.invariant.never_falls, c.write.ensures.never_falls);
    }
