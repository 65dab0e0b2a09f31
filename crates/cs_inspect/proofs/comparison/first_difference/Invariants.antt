use Rattle.std.proofs.Common.{◌≡◌, ◌+◌, drop}
use Rattle.cs_model.specs.Canon.{first_difference}
use Rattle.cs_inspect.specs.Comparing.{numbered_objects}
use Rattle.cs_inspect.proofs.comparison.first_difference.Given as goal

abbrev pub invariant-loop-place : goal.invariant-loop-place
invariant-loop-place l =
    first_difference (l.place + 1) (drop l.place (numbered_objects l.a.addresses.now.keys l.a.image.now.heap.objects)) (drop l.place (numbered_objects l.b.addresses.now.keys l.b.image.now.heap.objects))
    ≡ first_difference 1 (numbered_objects l.a.addresses.now.keys l.a.image.now.heap.objects) (numbered_objects l.b.addresses.now.keys l.b.image.now.heap.objects)
