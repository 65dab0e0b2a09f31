-- What the shape of a state says between two steps.
use Rattle.std.specs.Prelude.{Bool, true, false, Option, Some, None, IfSome, option_map}
use Rattle.cs_word.specs.declared.Oop.{Oop}
use Rattle.cs_model.specs.declared.stop.Stop.{Stop}
use Rattle.cs_model.specs.State.{Kept, active_process, scheduler_of, special_at}
use Rattle.cs_acts.specs.Names.{NamesOption, Store}
use Rattle.cs_acts.specs.declared.shape.Scheduling.{Scheduling}
use Rattle.cs_acts.specs.declared.shape.Shape.{Shape}
use Rattle.cs_acts.specs.declared.shape.Shape.TheVariants.{Fault, Idle, Active}

abbrev pub fault_in : Shape → Option Stop
fault_in (Fault reason) = Some reason
fault_in Idle = None
fault_in (Active process) = None

abbrev pub is_idle_in : Shape → Bool
is_idle_in (Fault reason) = false
is_idle_in Idle = true
is_idle_in (Active process) = false

abbrev pub process_in : Shape → Option Oop
process_in (Fault reason) = None
process_in Idle = None
process_in (Active process) = Some process

-- what was read on the way to the active process; nothing, where the state has none
pub record IsScheduled (s : Store) (k : Kept) (o : Option Scheduling) : Type 0 where
  pub process : NamesOption s (option_map (λ f. f.process) o) (active_process k)
  pub scheduler : IfSome o (λ f. NamesOption s (Some f.scheduler) (scheduler_of k))
  pub association : IfSome o (λ f. NamesOption s (Some f.association) (special_at k 3))
