use Rattle.std.proofs.Common.{◌∷◌, ◌++◌, List, map, ap, ◌∙◌}
use Rattle.cs_model.specs.Ref.{Ref}
use Rattle.cs_build.specs.declared.object.Reference.{Reference}
use Rattle.cs_build.specs.Laid.{reference_by}
use Rattle.cs_build.specs.Making.{method_literals}
use Rattle.cs_build.specs.Meaning.{form_by}
use Rattle.cs_build.specs.Standing.{forms_in}
use Rattle.cs_build.proofs.objects.method_slots.Goals as goal

pub returns : goal.returns
returns c =
    let refs : List Ref = method_literals (forms_in c.args.numbering.now) (map form_by c.args.method.now.body.now) in
    c.in_ok-put_literals.ensures ∙ ap (λ (s : List Reference). map reference_by s ++ refs) c.in_ok-slots.ensures.items
    ∙ ap (λ (a : Ref). a ∷ refs) c.header_slot-header.ensures
