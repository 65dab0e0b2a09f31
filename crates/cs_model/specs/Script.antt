-- Scripts of events: a line an event, `S signal K`, `S clock M` or `S byte B`, with single spaces.
use Rattle.std.specs.Prelude.{ℕ, pos, ◌+◌, nat_lt, if◌then◌else◌, List, [], ◌∷◌, ◌++◌, map, filter_map, codes, decimal, Option, Some, None, option_map, option_and_then, Result, Ok, Err}
use Rattle.std.specs.Option.{option_or, option_map_or}
use Rattle.std.specs.Str.{bytes_eq}
use Rattle.cs_model.specs.declared.event.Event.{Event}
use Rattle.cs_model.specs.declared.event.EventKind.{EventKind}
use Rattle.cs_model.specs.declared.event.EventKind.TheVariants as kind
use Rattle.cs_model.specs.Line.{most_steps}
use Rattle.cs_model.specs.Text.{lines_of, is_too_long, parts_of, number_between}

-- lines are counted from 1
pub data ScriptFault : Type 0 where
  TooMany : ScriptFault
  BadLine : (number : ℕ) → ScriptFault
  NotRising : (number : ℕ) → ScriptFault

-- the printed name of a fault, with its line
abbrev pub script_fault_name : ScriptFault → List ℕ
script_fault_name TooMany = codes "TooMany"
script_fault_name (BadLine number) = codes "BadLine " ++ decimal number
script_fault_name (NotRising number) = codes "NotRising " ++ decimal number

-- ---- lines

-- what happens: a semaphore is signalled, the clock is set, a byte comes in
abbrev pub kind_said : List ℕ → List ℕ → Option EventKind
kind_said word value =
    if bytes_eq word (codes "signal") then option_map (λ n. kind.Signal n) (number_between 1 65535 value) else
    if bytes_eq word (codes "clock") then option_map (λ n. kind.Clock (pos n)) (number_between 0 1073741823 value) else
    if bytes_eq word (codes "byte") then option_map (λ n. kind.Byte n) (number_between 0 255 value) else
    None

abbrev pub event : ℕ → EventKind → Event
event before what = record { before = before; kind = what }

-- the number of a bytecode, and what happens before it
abbrev pub event_in : List (List ℕ) → Option Event
event_in [] = None
event_in (a ∷ []) = None
event_in (a ∷ b ∷ []) = None
event_in (a ∷ b ∷ c ∷ []) =
    option_and_then (λ before. option_map (event before) (kind_said b c)) (number_between 1 most_steps a)
event_in (a ∷ b ∷ c ∷ d ∷ words) = None

-- each line's event, where it has one
abbrev pub readings : List ℕ → List (Option Event)
readings text = map (λ line. event_in (parts_of line)) (lines_of text)

-- ---- faults

-- what is wrong with a line: it is no event, or its event comes before the one of the line above
abbrev pub event_line_fault : ℕ → ℕ → Option Event → Option ScriptFault
event_line_fault number above None = Some (BadLine number)
event_line_fault number above (Some e) = if nat_lt e.before above then Some (NotRising number) else None

-- the first fault of the lines from a number on
abbrev pub first_fault : ℕ → ℕ → List (Option Event) → Option ScriptFault
first_fault number above [] = None
first_fault number above (r ∷ rs) =
    option_or (event_line_fault number above r) (first_fault (number + 1) (option_map_or (λ e. e.before) r above) rs)

abbrev pub script_fault : List ℕ → Option ScriptFault
script_fault text = if is_too_long text then Some TooMany else first_fault 1 0 (readings text)

-- the events of a script, or its first fault
abbrev pub script_unless : Option ScriptFault → List Event → Result (List Event) ScriptFault
script_unless None events = Ok events
script_unless (Some fault) events = Err fault

unfoldable pub script_of : List ℕ → Result (List Event) ScriptFault
script_of text = script_unless (script_fault text) (filter_map (λ r. r) (readings text))
