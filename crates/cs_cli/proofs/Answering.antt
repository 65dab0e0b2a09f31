-- A file that gives no image is told.
use Rattle.std.proofs.Common.{ℕ, List, Option, None, Some, IfSome, Err}
use Rattle.std.specs.Option.{option_map_or}
use Rattle.cs_model.specs.ImageFault.{ImageFault}
use Rattle.cs_cli.specs.Answer as answer
use Rattle.cs_cli.specs.Answer.{HasFault, Printed, Reading, Refused, Writing, no_memory, refused_image}
use Rattle.cs_cli.specs.Loading.{Loads, fault_by, refusal_answer}
use Rattle.cs_cli.specs.declared.refusal.Refusal.{Refusal}
use Rattle.cs_cli.specs.declared.refusal.Refusal.TheVariants as refusal

fault_told : (name : List ℕ) (limit : ℕ) (shelf : Reading) (out : Writing) (status : ℕ) (o : Option ImageFault) → IfSome o (HasFault (shelf.content name) limit)
    → Printed (option_map_or refused_image o no_memory) out status → Refused name limit shelf out status
fault_told name limit shelf out status None h printed = answer.memory printed
fault_told name limit shelf out status (Some fault) h printed = answer.image fault h printed

pub refused_by : (name : List ℕ) (limit : ℕ) (shelf : Reading) (out : Writing) (status : ℕ) (why : Refusal) → Loads name limit shelf (Err why)
    → Printed (refusal_answer name why) out status → Refused name limit shelf out status
refused_by name limit shelf out status refusal.Read h printed = answer.read h printed
refused_by name limit shelf out status (refusal.Image e) h printed = fault_told name limit shelf out status (fault_by e) h printed
