use Rattle.std.proofs.Common.{◌++◌, List, map, ap, ◌∙◌}
use Rattle.cs_model.specs.Ref.{Ref}
use Rattle.cs_model.specs.Obj.{Ptr, new_head}
use Rattle.cs_model.specs.BuilderText as text
use Rattle.cs_model.specs.Builder.{method_birth, obj_or_nil}
use Rattle.cs_build.specs.declared.object.Reference.{Reference}
use Rattle.cs_build.specs.Laid.{laid, reference_by}
use Rattle.cs_build.specs.Meaning.{method_line_by}
use Rattle.cs_build.specs.Standing.{forms_in}
use Rattle.cs_build.proofs.objects.values_object.Goals as goal

pub returns : goal.returns
returns c =
    let refs : List Ref = map (λ (m : text.MethodLine). obj_or_nil (method_birth (forms_in c.args.numbering.now) m.class m.selector)) (map method_line_by c.args.methods.now) in
    c.in_ok-object.ensures ∙ ap (λ (s : List Reference). laid (Ptr (new_head 39 2) (map reference_by s))) c.deref.ensures.value
    ∙ ap (λ (r : List Ref). laid (Ptr (new_head 39 2) r)) (c.in_ok-put_methods.ensures ∙ ap (λ (s : List Reference). map reference_by s ++ refs) c.new-slots.ensures.items)
