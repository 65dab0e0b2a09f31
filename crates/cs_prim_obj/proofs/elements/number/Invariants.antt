use Rattle.std.proofs.Common.{◌≡◌, ◌<◌, ◌+◌, ◌-◌, ◌^◌}
use Rattle.cs_prim_obj.specs.Elements.{element_number}
use Rattle.cs_prim_obj.proofs.elements.number.Given as goal

abbrev pub invariant-loop-i : goal.invariant-loop-i
invariant-loop-i l = (l.number ≡ element_number l.fn.heap.objects l.fn.o.0 (l.fn.at + (l.fn.size - l.i)) l.i) × (l.number < 256 ^ l.i)
