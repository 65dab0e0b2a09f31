use Rattle.std.proofs.Common.{ℕ, Option, ap, ◌∙◌}
use Rattle.std.specs.Option.{option_or}
use Rattle.cs_model.specs.BuilderFault.{is_named}
use Rattle.cs_model.specs.Builder.{birth_where}
use Rattle.cs_build.specs.Standing.{forms_in}
use Rattle.cs_build.proofs.numbering.Numbering.named.Goals as goal

pub returns-in-Some : goal.returns-in-Some
returns-in-Some c = ap (λ (o : Option ℕ). option_or o (birth_where (forms_in c.args.self.now) (is_named c.args.name.now))) c.in-Some.ensures

pub returns-in-None : goal.returns-in-None
returns-in-None c = c.copied.ensures ∙ c.get.ensures.value ∙ c.requires.things c.args.name.now
    ∙ ap (λ (o : Option ℕ). option_or o (birth_where (forms_in c.args.self.now) (is_named c.args.name.now))) c.in-None.ensures
