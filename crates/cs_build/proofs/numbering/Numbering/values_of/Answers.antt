use Rattle.std.proofs.Common.{◌+◌, Some, ap, ◌∙◌}
use Rattle.std.specs.Prelude.{option_map}
use Rattle.cs_model.specs.Builder.{values_birth}
use Rattle.cs_build.specs.Standing.{forms_in}
use Rattle.cs_build.proofs.numbering.Numbering.values_of.Goals as goal

pub returns-in-Some : goal.returns-in-Some
returns-in-Some c = ap Some (ap (λ n. n + 1) c.dictionary.ensures) ∙ ap (option_map (values_birth (forms_in c.args.self.now))) c.in-Some.ensures.value
