use Rattle.std.proofs.Common.{[], ◌∷◌, ap, ap₂, ◌∙◌}
use Rattle.cs_model.specs.Ref.{Ref}
use Rattle.cs_model.specs.Obj.{Ptr, new_head}
use Rattle.cs_model.specs.Builder.{process_ref}
use Rattle.cs_build.specs.Laid.{laid}
use Rattle.cs_build.specs.Standing.{forms_in}
use Rattle.cs_build.proofs.first.list.Goals as goal

pub returns : goal.returns
returns c = λ p queue.
    c.in_ok-object.ensures ∙ ap₂ (λ (a b : Ref). laid (Ptr (new_head 47 1) (a ∷ b ∷ [])))
    (c.process_or_nil.ensures ∙ ap (process_ref (forms_in c.args.numbering.now)) queue.first)
    (c.process_or_nil-2.ensures ∙ ap (process_ref (forms_in c.args.numbering.now)) queue.last)
