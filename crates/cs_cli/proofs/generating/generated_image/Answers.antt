use Rattle.std.proofs.Common.{◌≡◌, ◌∙◌, ℕ, List, ap, length, subst}
use Rattle.cs_model.specs.Builder.{text_objects}
use Rattle.cs_model.specs.BuilderFault.{forms_of}
use Rattle.cs_cli.specs.Answer.{IsBuilt}
use Rattle.cs_cli.proofs.generating.generated_image.Goals as goal

pub returns-clause-built : goal.returns-clause-built
returns-clause-built c =
    let P : List ℕ → Type 0 = λ text. IsBuilt text c.in_ok-image.image.bytes.items in
    subst P (c.as_slice.ensures.value ∙ c.in_ok-text.ensures) (record { file = c.in_ok-image.ensures.bytes; image = c.in_ok-image.ensures.image })

pub returns-clause-count : goal.returns-clause-count
returns-clause-count c = c.in_ok-image.ensures.objects ∙ ap (λ (text : List ℕ). length (text_objects (forms_of text))) (c.as_slice.ensures.value ∙ c.in_ok-text.ensures)
