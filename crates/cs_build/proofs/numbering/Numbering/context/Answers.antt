use Rattle.std.proofs.Common.{ℕ, ◌^◌, ◌<◌, Option, sym, subst, ◌∙◌}
use Rattle.std.specs.Prelude.{IfSome}
use Rattle.cs_model.specs.Builder.{is_process_named}
use Rattle.cs_build.specs.Standing.{forms_in}
use Rattle.cs_build.proofs.Standing.{birth_small}
use Rattle.cs_build.proofs.numbering.Numbering.context.Goals as goal

pub returns-clause-value : goal.returns-clause-value
returns-clause-value c = c.copied.ensures ∙ c.get.ensures.value ∙ c.requires.contexts c.args.name.now

pub returns-clause-few : goal.returns-clause-few
returns-clause-few c = subst (λ (o : Option ℕ). IfSome o (λ k. k < 2 ^ 28)) (sym (c.copied.ensures ∙ c.get.ensures.value ∙ c.requires.contexts c.args.name.now))
    (birth_small (forms_in c.args.self.now) (is_process_named c.args.name.now) c.args.self.now.births.next (2 ^ 28) c.requires.next c.requires.few)
