use Rattle.std.proofs.Common.{Some, ap, ◌∙◌}
use Rattle.std.specs.Prelude.{option_map}
use Rattle.cs_model.specs.Builder.{dictionary_birth}
use Rattle.cs_build.specs.Standing.{forms_in}
use Rattle.cs_build.proofs.numbering.Numbering.dictionary_of.Goals as goal

pub returns-in-Some : goal.returns-in-Some
returns-in-Some c = ap Some (c.dictionary.ensures) ∙ ap (option_map (dictionary_birth (forms_in c.args.self.now))) c.in-Some.ensures.value
