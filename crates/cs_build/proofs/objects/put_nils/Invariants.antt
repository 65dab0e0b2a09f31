use Rattle.std.proofs.Common.{◌≡◌, ◌++◌, map, replicate}
use Rattle.cs_model.specs.Builder.{nil_ref}
use Rattle.cs_build.specs.Laid.{reference_by}
use Rattle.cs_build.proofs.objects.put_nils.Given as goal

abbrev pub invariant-loop : goal.invariant-loop
invariant-loop l = map reference_by l.slots.items ≡ map reference_by l.fn.slots.items ++ replicate l.counter nil_ref
