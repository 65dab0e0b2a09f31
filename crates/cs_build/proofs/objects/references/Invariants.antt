use Rattle.std.proofs.Common.{◌≡◌, ◌++◌, map, drop}
use Rattle.cs_model.specs.Builder.{mention_ref}
use Rattle.cs_build.specs.Laid.{reference_by}
use Rattle.cs_build.specs.Meaning.{mention_by}
use Rattle.cs_build.specs.Standing.{forms_in}
use Rattle.cs_build.proofs.objects.references.Given as goal

abbrev pub invariant-loop-value : goal.invariant-loop-value
invariant-loop-value l = map reference_by l.slots.items ++ map (mention_ref (forms_in l.numbering)) (map mention_by (drop l.value-index l.values))
    ≡ map reference_by l.initial.slots.items ++ map (mention_ref (forms_in l.numbering)) (map mention_by l.values)
