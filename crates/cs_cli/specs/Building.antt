-- What comes of reading a text and building an image from it.
use Rattle.std.specs.Prelude.{◌≡◌, ℕ, List, Option, Some, None, IfSome, Result, Ok, Err, length}
use Rattle.std.specs.Option.{option_map_or}
use Rattle.cs_build.specs.declared.building.BuiltImage.{BuiltImage}
use Rattle.cs_build.specs.declared.error.BuildError.{BuildError}
use Rattle.cs_build.specs.declared.error.BuildError.TheVariants as error
use Rattle.cs_model.specs.Builder.{text_objects}
use Rattle.cs_model.specs.BuilderFault as fault
use Rattle.cs_model.specs.BuilderFault.{BuildFault, forms_of}
use Rattle.cs_cli.specs.declared.text_refusal.TextRefusal.{TextRefusal}
use Rattle.cs_cli.specs.declared.text_refusal.TextRefusal.TheVariants as refusal
use Rattle.cs_cli.specs.Answer.{Answer, HasTextFault, IsBuilt, IsText, ReadFailed, Reading, failed_read, no_memory, refused_text}

-- the fault of the text that an error tells; want of memory is none
abbrev pub text_fault_by : BuildError → Option BuildFault
text_fault_by error.TooMany = Some fault.TooMany
text_fault_by (error.BadLine line) = Some (fault.BadLine line)
text_fault_by (error.Twice line) = Some (fault.Twice line)
text_fault_by (error.BadRange line) = Some (fault.BadRange line)
text_fault_by (error.BadName line) = Some (fault.BadName line)
text_fault_by error.NoMemory = None

abbrev pub text_answer : BuildError → Answer
text_answer e = option_map_or refused_text (text_fault_by e) no_memory

abbrev pub text_refusal_answer : List ℕ → TextRefusal → Answer
text_refusal_answer name refusal.Read = failed_read name
text_refusal_answer name (refusal.Text e) = text_answer e

-- an image is that of the text of a file
pub record IsImageOfFile (content : Option (List ℕ)) (image : BuiltImage) : Type 0 where
  pub text : List ℕ
  pub read : IsText content text
  pub built : IsBuilt text image.bytes.items
  pub count : image.objects ≡ length (text_objects (forms_of text))

-- the image of the text of a name, or why there is none
abbrev pub Builds : List ℕ → Reading → Result BuiltImage TextRefusal → Type 0
Builds name shelf (Ok image) = IsImageOfFile (shelf.content name) image
Builds name shelf (Err refusal.Read) = ReadFailed shelf name
Builds name shelf (Err (refusal.Text e)) = IfSome (text_fault_by e) (HasTextFault (shelf.content name))
