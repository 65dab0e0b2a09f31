use Rattle.std.proofs.Common.{◌≡◌, ◌-◌}
use Rattle.cs_inspect.specs.Numbering.{turns}
use Rattle.cs_inspect.proofs.Reaching.{Lined}
use Rattle.cs_inspect.proofs.numbering.number_objects.Given as goal

abbrev pub invariant-loop-place : goal.invariant-loop-place
invariant-loop-place l = record {
  lined : Lined l.image.heap.objects l.addresses.keys;
  left : turns (l.count - l.place) l.image.heap.objects l.place l.addresses.keys ≡ turns l.count l.image.heap.objects 0 l.initial.addresses.keys;
}
