use Rattle.std.proofs.Common.{arith, ◌∙◌}
use Rattle.cs_core.proofs.Portions.{more_bytes}
use Rattle.cs_core.proofs.primitive.bytes_from.Goals as goal

pub loop-i-preserved : goal.loop-i-preserved
loop-i-preserved c =
    record {
      begun = omega (arith, c.loop-i.invariant.begun);
      count = omega (arith, c.loop-i.invariant.count, c.push.ensures.len);
      bytes = c.push.ensures.items ∙ more_bytes c.args.heap.now.objects c.args.object.0 c.args.at c.loop-i.i c.byte.result _ c.loop-i.invariant.begun
          (omega (arith, c.loop-i-test.true, c.min-i-end.ensures, c.requires.within)) c.byte.ensures c.loop-i.invariant.bytes;
    }
