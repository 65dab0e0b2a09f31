use Rattle.std.proofs.Common.{◌≡◌, map, drop}
use Rattle.std.specs.Prelude.{flat_map, fold}
use Rattle.cs_model.specs.Builder.{special_given, with_special}
use Rattle.cs_build.specs.Laid.{reference_by}
use Rattle.cs_build.specs.Meaning.{form_by}
use Rattle.cs_build.specs.Standing.{forms_in}
use Rattle.cs_build.proofs.first.set_all_given.Given as goal

abbrev pub invariant-loop-form : goal.invariant-loop-form
invariant-loop-form l = fold with_special (map reference_by l.slots) (flat_map (special_given (forms_in l.numbering)) (map form_by (drop l.form-index l.numbering.forms.now)))
    ≡ fold with_special (map reference_by l.fn.slots) (flat_map (special_given (forms_in l.numbering)) (map form_by l.numbering.forms.now))
