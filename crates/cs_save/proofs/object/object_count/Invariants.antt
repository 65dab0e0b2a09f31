use Rattle.std.proofs.Common.{◌≡◌, ◌≤◌, length, option_map}
use Rattle.cs_heap.specs.Object.{address_of}
use Rattle.cs_save.proofs.object.object_count.Given as goal

abbrev pub invariant-loop-count : goal.invariant-loop-count
invariant-loop-count l = record {
  at : option_map (λ o. o.0) l.at ≡ address_of l.heap.objects l.count;
  count : l.count ≤ length l.heap.objects;
}
