use Rattle.std.proofs.Common.{◌≡◌, [], map, drop}
use Rattle.cs_model.specs.Builder.{ready_in}
use Rattle.cs_build.specs.Meaning.{form_by}
use Rattle.cs_build.specs.Numbered.{plain_names, mentioned}
use Rattle.cs_build.proofs.ready.ready_names.Given as goal

abbrev pub invariant-loop-form : goal.invariant-loop-form
invariant-loop-form l = mentioned (plain_names l.names.keys) (ready_in (map form_by (drop l.form-index l.forms))) ≡ mentioned [] (ready_in (map form_by l.forms))
