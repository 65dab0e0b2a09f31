use Rattle.std.proofs.Common.{◌≡◌, ◌++◌, map, drop}
use Rattle.cs_build.specs.Laid.{reference_by}
use Rattle.cs_build.specs.Making.{method_literals}
use Rattle.cs_build.specs.Meaning.{form_by}
use Rattle.cs_build.specs.Standing.{forms_in}
use Rattle.cs_build.proofs.objects.put_literals.Given as goal

abbrev pub invariant-loop-form : goal.invariant-loop-form
invariant-loop-form l = map reference_by l.slots.items ++ method_literals (forms_in l.numbering) (map form_by (drop l.form-index l.body))
    ≡ map reference_by l.fn.slots.items ++ method_literals (forms_in l.numbering) (map form_by l.body)
