use Rattle.std.proofs.Common.{◌≡◌, map, drop}
use Rattle.std.specs.Prelude.{filter_map}
use Rattle.cs_model.specs.Text.{first_that}
use Rattle.cs_model.specs.Builder.{active_name}
use Rattle.cs_build.specs.Meaning.{form_by}
use Rattle.cs_build.proofs.first.active_name.Given as goal

abbrev pub invariant-loop-form : goal.invariant-loop-form
invariant-loop-form l = first_that (filter_map active_name (map form_by (drop l.form-index l.forms))) ≡ first_that (filter_map active_name (map form_by l.forms))
