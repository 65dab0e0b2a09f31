use Rattle.std.proofs.Common.{◌≡◌}
use Rattle.cs_stack.specs.Moved.{copied_at}
use Rattle.cs_stack.proofs.Stacking.{longer}
use Rattle.cs_stack.proofs.arguments.push_copied.Given as goal

abbrev pub invariant-loop-i : goal.invariant-loop-i
invariant-loop-i l = record {
  frames : l.frames ≡ longer l.fn.frames l.f.page (copied_at l.heap.objects l.closure.0 l.i);
}
