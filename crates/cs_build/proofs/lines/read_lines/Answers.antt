use Rattle.std.proofs.Common.{◌≡◌, ◌<◌, ◌+◌, length, sym, ◌∙◌, arith}
use Rattle.cs_build.proofs.LineReading.{AreRead-next}
use Rattle.cs_build.proofs.lines.read_lines.Goals as goal

pub loop-line-preserved : goal.loop-line-preserved
loop-line-preserved c =
    let some : c.loop-line.line-index < length c.args.lines.now = omega arith in
    let count : c.loop-line.number + 1 ≡ c.loop-line.line-index + 1 = omega (arith, c.loop-line.invariant.number) in
    record {
      number = count;
      few = omega (arith, c.in_ok-push.ensures.len, c.loop-line.invariant.few);
      read = rw c.in_ok-push.ensures.items (AreRead-next c.args.lines.now c.loop-line.line-index c.loop-line.inside _ c.loop-line.read.items _ _ some
          (sym c.is_skipped.ensures ∙ c.if-is_skipped.false) (rw c.in-Some.is at c.in_ok-form.ensures) c.is_inside-inside.ensures count c.loop-line.invariant.read);
    }
