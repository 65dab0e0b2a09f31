-- What the code reads and answers, in the model's words.
use Rattle.std.specs.Prelude.{◌≡◌, ℕ, List, map, filter_map, Result, Ok, Err, Option, Some, None, ⊤}
use Rattle.std.specs.Borrow.{Bor}
use Rattle.cs_model.specs.declared.event.Event.{Event}
use Rattle.cs_model.specs.Script as script
use Rattle.cs_model.specs.Script.{ScriptFault, event_in, first_fault, script_unless}
use Rattle.cs_model.specs.Text.{parts_of}
use Rattle.cs_script.specs.declared.error.ScriptError.{ScriptError}
use Rattle.cs_script.specs.declared.error.ScriptError.TheVariants as error

-- the texts themselves, without where they lie
abbrev pub texts : List (Bor (List ℕ)) → List (List ℕ)
texts parts = map (λ part. part.now) parts

-- each line's event, where it has one
abbrev pub line_readings : List (List ℕ) → List (Option Event)
line_readings lines = map (λ line. event_in (parts_of line)) lines

-- the events of lines, or the first fault of one
abbrev pub script_in : List (List ℕ) → Result (List Event) ScriptFault
script_in lines = script_unless (first_fault 1 0 (line_readings lines)) (filter_map (λ r. r) (line_readings lines))

-- The answer is Ok exactly where the script has no fault, and then has its events; or it tells the first fault. Want of
-- memory is free.
abbrev pub TellsScript : Result (List Event) ScriptFault → Result (List Event) ScriptError → Type 0
TellsScript told (Ok events) = told ≡ Ok events
TellsScript told (Err error.TooMany) = told ≡ Err script.TooMany
TellsScript told (Err (error.BadLine number)) = told ≡ Err (script.BadLine number)
TellsScript told (Err (error.NotRising number)) = told ≡ Err (script.NotRising number)
TellsScript told (Err error.NoMemory) = ⊤

-- The same of one line, which has this fault or none, and this reading. It takes no memory.
abbrev pub Judged : Option ScriptFault → Option Event → Result Event ScriptError → Type 0
Judged fault reading (Ok event) = (fault ≡ None) × (reading ≡ Some event)
Judged fault reading (Err error.TooMany) = fault ≡ Some script.TooMany
Judged fault reading (Err (error.BadLine number)) = fault ≡ Some (script.BadLine number)
Judged fault reading (Err (error.NotRising number)) = fault ≡ Some (script.NotRising number)
Judged fault reading (Err error.NoMemory) = ⊥
