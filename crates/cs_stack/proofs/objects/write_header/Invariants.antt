use Rattle.std.proofs.Common.{◌≡◌}
use Rattle.cs_heap.specs.Object.{with_object}
use Rattle.cs_marriage.proofs.Clearing.{filled_from}
use Rattle.cs_stack.proofs.objects.write_header.Given as goal

abbrev pub invariant-loop-i : goal.invariant-loop-i
invariant-loop-i l = record {
  heap : l.heap ≡ record l.fn.heap { objects = with_object l.fn.heap.objects l.method.0 (filled_from 1 l.i) };
}
