use Rattle.std.proofs.Common.{◌≡◌, ◌-◌, drop, take}
use Rattle.cs_heap.specs.Object.{words_at}
use Rattle.cs_inspect.specs.Numbering.{all_reached}
use Rattle.cs_inspect.proofs.numbering.reach_slots.Given as goal

abbrev pub invariant-loop-i : goal.invariant-loop-i
invariant-loop-i l = l.addresses.keys ≡ all_reached l.heap.objects l.fn.addresses.keys (take (l.i - l.from) (drop l.from (words_at l.heap.objects l.o.0)))
