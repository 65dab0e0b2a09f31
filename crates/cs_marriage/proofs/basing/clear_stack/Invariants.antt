use Rattle.std.proofs.Common.{◌≡◌, ◌-◌}
use Rattle.cs_heap.specs.Object.{with_object}
use Rattle.cs_marriage.proofs.Clearing.{filled_from}
use Rattle.cs_marriage.proofs.basing.clear_stack.Given as goal

abbrev pub invariant-loop-i : goal.invariant-loop-i
invariant-loop-i l = record {
  heap : l.heap ≡ record l.fn.heap { objects = with_object l.fn.heap.objects l.ctx.0 (filled_from 6 (l.i - 6)) };
}
