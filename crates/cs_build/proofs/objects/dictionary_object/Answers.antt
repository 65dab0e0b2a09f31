use Rattle.std.proofs.Common.{ℕ, ◌+◌, ◌∷◌, ◌++◌, List, map, ap, ap₂, sym, ◌∙◌}
use Rattle.std.specs.Prelude.{pos}
use Rattle.std.proofs.lemmas.List.{length-map}
use Rattle.cs_model.specs.Ref.{Ref}
use Rattle.cs_model.specs.Ref as ref
use Rattle.cs_model.specs.Obj.{Ptr, new_head}
use Rattle.cs_model.specs.BuilderText as text
use Rattle.cs_model.specs.Builder.{symbol_ref}
use Rattle.cs_build.specs.declared.object.Reference.{Reference}
use Rattle.cs_build.specs.Laid.{laid, reference_by}
use Rattle.cs_build.specs.Meaning.{method_line_by}
use Rattle.cs_build.specs.Standing.{forms_in}
use Rattle.cs_build.proofs.objects.dictionary_object.Goals as goal

pub returns : goal.returns
returns c =
    let refs : List Ref = map (λ (m : text.MethodLine). symbol_ref (forms_in c.args.numbering.now) m.selector) (map method_line_by c.args.methods.now) in
    c.in_ok-object.ensures ∙ ap (λ (s : List Reference). laid (Ptr (new_head 50 3) (map reference_by s))) c.deref.ensures.value
    ∙ ap (λ (r : List Ref). laid (Ptr (new_head 50 3) r)) (c.in_ok-put_selectors.ensures ∙ ap (λ (s : List Reference). map reference_by s ++ refs) c.in_ok-slots.ensures.items
    ∙ ap₂ (λ (a : Ref) (b : ℕ). a ∷ ref.Obj (b + 1) ∷ refs) (c.small.ensures ∙ ap (λ (n : ℕ). ref.Small (pos n)) (sym (length-map c.args.methods.now method_line_by))) c.dictionary.ensures)
