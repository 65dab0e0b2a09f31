-- A generated image that isn't run.
use Rattle.std.proofs.Common.{◌≡◌, ℕ, List, Option, None, Some, IfSome, Err, refl, ap, subst, ◌∙◌, sym}
use Rattle.std.specs.Option.{option_map_or}
use Rattle.cs_model.specs.BuilderFault.{BuildFault, text_fault}
use Rattle.cs_model.specs.CommandLine.{Options}
use Rattle.cs_model.specs.Generator.{generated}
use Rattle.cs_model.specs.Image.{image_fault, image_of}
use Rattle.cs_model.specs.ImageFault.{ImageFault}
use Rattle.cs_image.specs.Answer.{Tells}
use Rattle.cs_image.specs.declared.error.ImageError.{ImageError}
use Rattle.cs_build.specs.declared.error.BuildError.{BuildError}
use Rattle.cs_cli.specs.Answer as answer
use Rattle.cs_cli.specs.Answer.{GenAnswered, HasFault, IsBuilt, Printed, Writing, no_memory, refused_image, refused_text}
use Rattle.cs_cli.specs.Building.{text_answer, text_fault_by}
use Rattle.cs_cli.specs.Loading.{fault_by, image_answer}
use Rattle.cs_cli.proofs.Images.{faulty}

text_told : (k : ℕ) (o : Options) (out : Writing) (status : ℕ) (f : Option BuildFault) → IfSome f (λ fault. text_fault (generated k) ≡ Some fault)
    → Printed (option_map_or refused_text f no_memory) out status → GenAnswered k o out status
text_told k o out status None h printed = answer.gen_memory printed
text_told k o out status (Some fault) h printed = answer.gen_text_refused fault h printed

pub text_refuses : (k : ℕ) (o : Options) (out : Writing) (status : ℕ) (e : BuildError) → IfSome (text_fault_by e) (λ fault. text_fault (generated k) ≡ Some fault)
    → Printed (text_answer e) out status → GenAnswered k o out status
text_refuses k o out status e h printed = text_told k o out status (text_fault_by e) h printed

image_told : (k : ℕ) (o : Options) (out : Writing) (status : ℕ) (bytes : List ℕ) → IsBuilt (generated k) bytes → (f : Option ImageFault) → IfSome f (HasFault (Some bytes) o.heap)
    → Printed (option_map_or refused_image f no_memory) out status → GenAnswered k o out status
image_told k o out status bytes built None h printed = answer.gen_memory printed
image_told k o out status bytes built (Some fault) h printed = answer.gen_refused bytes fault built (subst (λ (b : List ℕ). image_of b o.heap ≡ Err fault) h.told h.is) printed

pub image_refuses : {X : Type 0} (P : X → Type 0) (k : ℕ) (o : Options) (out : Writing) (status : ℕ) (bytes : List ℕ) → IsBuilt (generated k) bytes → (e : ImageError)
    → Tells (image_fault bytes o.heap) P (Err e) → Printed (image_answer e) out status → GenAnswered k o out status
image_refuses P k o out status bytes built e h printed = image_told k o out status bytes built (fault_by e) (faulty P (Some bytes) o.heap bytes e refl h) printed
