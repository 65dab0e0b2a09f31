-- What comes of reading and loading an image.
use Rattle.std.specs.Prelude.{◌≡◌, ℕ, ◌≤◌, ◌^◌, List, false, Option, Some, None, IfSome, Result, Ok, Err}
use Rattle.std.specs.Option.{option_map_or}
use Rattle.cs_classes.specs.Meaning.{loaded_kept}
use Rattle.cs_model.specs.ImageFault.{ImageFault}
use Rattle.cs_model.specs.ImageFault as fault
use Rattle.cs_model.specs.Obj.{Context, Ctx, is_context_at}
use Rattle.cs_model.specs.State.{PcLies, object_at}
use Rattle.cs_model.specs.Settle.{open_kept}
use Rattle.cs_model.specs.Due.{is_idle}
use Rattle.cs_model.specs.Read.{IsRunning}
use Rattle.cs_classes.specs.Senders.{SendersStand}
use Rattle.cs_classes.specs.Sound.{IsWhole}
use Rattle.cs_classes.specs.declared.Loaded.{Loaded}
use Rattle.cs_image.specs.declared.error.ImageError.{ImageError}
use Rattle.cs_image.specs.declared.error.ImageError.TheVariants as error
use Rattle.cs_cli.specs.declared.refusal.Refusal.{Refusal}
use Rattle.cs_cli.specs.declared.refusal.Refusal.TheVariants as refusal
use Rattle.cs_cli.specs.Answer.{Answer, HasFault, IsImage, ReadFailed, Reading, failed_read, no_memory, refused_image}

-- ---- why there is no image

-- the fault of the file that an error tells; want of memory is none
abbrev pub fault_by : ImageError → Option ImageFault
fault_by error.TooLong = Some fault.TooLong
fault_by error.Short = Some fault.Short
fault_by error.BadFormat = Some fault.BadFormat
fault_by error.BadHeaderSize = Some fault.BadHeaderSize
fault_by error.BadProfile = Some fault.BadProfile
fault_by error.BadLength = Some fault.BadLength
fault_by (error.BadObject at) = Some (fault.BadObject at)
fault_by error.OverLimit = Some fault.OverLimit
fault_by error.BadTable = Some fault.BadTable
fault_by (error.BadRef at) = Some (fault.BadRef at)
fault_by (error.BadClass at) = Some (fault.BadClass at)
fault_by (error.BadContext at) = Some (fault.BadContext at)
fault_by error.BadRoots = Some fault.BadRoots
fault_by error.BadBirths = Some fault.BadBirths
fault_by error.NoMemory = None

abbrev pub image_answer : ImageError → Answer
image_answer e = option_map_or refused_image (fault_by e) no_memory

abbrev pub refusal_answer : List ℕ → Refusal → Answer
refusal_answer name refusal.Read = failed_read name
refusal_answer name (refusal.Image e) = image_answer e

-- ---- an image in memory

-- a machine can be opened on it
pub record IsOpenable (l : Loaded) : Type 0 where
  pub whole : IsWhole l.heap.objects l.classes l.roots
  pub births : l.roots.next_birth ≤ 2 ^ 62
  pub pcs : (i : ℕ) (c : Context) → object_at (loaded_kept l) i ≡ Some (Ctx c) → PcLies (loaded_kept l) c
  pub senders : SendersStand (loaded_kept l)
  pub nil : is_context_at (object_at (loaded_kept l) (loaded_kept l).rest.nil) ≡ false
  pub running : is_idle (loaded_kept l) ≡ false → IsRunning (open_kept (loaded_kept l))

-- it is that of a file, in a heap of so many words
pub record IsLoaded (content : Option (List ℕ)) (limit : ℕ) (l : Loaded) : Type 0 where
  pub image : IsImage content limit (loaded_kept l)
  pub openable : IsOpenable l
  pub words : l.heap.limit ≡ limit

-- the image of a name, or why there is none
abbrev pub Loads : List ℕ → ℕ → Reading → Result Loaded Refusal → Type 0
Loads name limit shelf (Ok l) = IsLoaded (shelf.content name) limit l
Loads name limit shelf (Err refusal.Read) = ReadFailed shelf name
Loads name limit shelf (Err (refusal.Image e)) = IfSome (fault_by e) (HasFault (shelf.content name) limit)
