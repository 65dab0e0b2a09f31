use Rattle.std.proofs.Common.{ap, sym, ◌∙◌}
use Rattle.cs_model.specs.Builder.{obj_or_nil, mention_ref}
use Rattle.cs_build.specs.Meaning.{mention_by}
use Rattle.cs_build.specs.Standing.{forms_in}
use Rattle.cs_build.proofs.numbering.Numbering.reference.Goals as goal

pub returns-in-MethodOf : goal.returns-in-MethodOf
returns-in-MethodOf c = c.object_or_nil-in-MethodOf.ensures ∙ ap obj_or_nil c.method_number.ensures
    ∙ ap (λ m. mention_ref (forms_in c.args.self.now) (mention_by m)) (sym c.in-MethodOf.is)
