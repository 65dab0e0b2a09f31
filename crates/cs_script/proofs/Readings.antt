-- Lines read one after another.
use Rattle.std.proofs.Common.{◌≡◌, ◌∙◌, ℕ, ◌+◌, ◌<◌, ◌≤◌, List, [], ◌∷◌, ◌++◌, Option, Some, None, Ok, Err, length, get_or, drop, drop-cons, add-one, refl, filter_map, append_assoc}
use Rattle.std.proofs.lemmas.List.{append-nil, drop_all}
use Rattle.std.specs.Borrow.{Bor}
use Rattle.cs_model.specs.declared.event.Event.{Event}
use Rattle.cs_model.specs.Script.{ScriptFault, event_in, first_fault, event_line_fault}
use Rattle.cs_model.specs.Text.{parts_of}
use Rattle.cs_script.specs.Reading.{line_readings, script_in, texts}

-- the first fault of lines from one of this number on
abbrev pub fault_in : ℕ → ℕ → List (Bor (List ℕ)) → Option ScriptFault
fault_in number above lines = first_fault number above (line_readings (texts lines))

abbrev pub events_in : List (Bor (List ℕ)) → List Event
events_in lines = filter_map (λ r. r) (line_readings (texts lines))

-- Of lines so many are read, without a fault: these are their events, and the last one comes before bytecode `above`.
pub record AreRead (lines : List (Bor (List ℕ))) (count above : ℕ) (read : List Event) : Type 0 where
  pub fault : fault_in 1 0 lines ≡ fault_in (count + 1) above (drop count lines)
  pub events : events_in lines ≡ read ++ events_in (drop count lines)

pub AreRead-none : (lines : List (Bor (List ℕ))) → AreRead lines 0 0 []
AreRead-none lines = record { fault = refl; events = refl }

fault_in-cons : (number above : ℕ) (line : Bor (List ℕ)) (lines : List (Bor (List ℕ))) (e : Event)
    → event_in (parts_of line.now) ≡ Some e → event_line_fault number above (Some e) ≡ None
    → fault_in number above (line ∷ lines) ≡ fault_in (number + 1) e.before lines
fault_in-cons number above line lines e read none = rw (read, none) refl

events_in-cons : (line : Bor (List ℕ)) (lines : List (Bor (List ℕ))) (e : Event)
    → event_in (parts_of line.now) ≡ Some e → events_in (line ∷ lines) ≡ e ∷ events_in lines
events_in-cons line lines e read = rw read refl

fault_in-fault : (number above : ℕ) (line : Bor (List ℕ)) (lines : List (Bor (List ℕ))) (f : ScriptFault)
    → event_line_fault number above (event_in (parts_of line.now)) ≡ Some f → fault_in number above (line ∷ lines) ≡ Some f
fault_in-fault number above line lines f is = rw is refl

-- one line more
pub AreRead-next : (lines : List (Bor (List ℕ))) (i above : ℕ) (events : List Event) (d : Bor (List ℕ)) (e : Event)
    → i < length lines → event_in (parts_of (get_or lines i d).now) ≡ Some e → event_line_fault (i + 1) above (Some e) ≡ None
    → AreRead lines i above events → AreRead lines (i + 1) e.before (events ++ e ∷ [])
AreRead-next lines i above events d e h read none so_far =
    let first : drop i lines ≡ get_or lines i d ∷ drop (i + 1) lines = rw (add-one, drop-cons lines i d) refl in
    record {
      fault = so_far.fault ∙ (rw first (fault_in-cons (i + 1) above (get_or lines i d) (drop (i + 1) lines) e read none));
      events = so_far.events ∙ (rw (first, events_in-cons (get_or lines i d) (drop (i + 1) lines) e read, append_assoc) refl);
    }

-- a line with a fault
pub AreRead-fault : (lines : List (Bor (List ℕ))) (i above : ℕ) (events : List Event) (d : Bor (List ℕ)) (f : ScriptFault)
    → i < length lines → event_line_fault (i + 1) above (event_in (parts_of (get_or lines i d).now)) ≡ Some f
    → AreRead lines i above events → script_in (texts lines) ≡ Err f
AreRead-fault lines i above events d f h is so_far =
    let first : drop i lines ≡ get_or lines i d ∷ drop (i + 1) lines = rw (add-one, drop-cons lines i d) refl in
    let fault : fault_in 1 0 lines ≡ Some f = so_far.fault ∙ (rw first (fault_in-fault (i + 1) above (get_or lines i d) (drop (i + 1) lines) f is)) in
    rw fault refl

-- all of them
pub AreRead-all : (lines : List (Bor (List ℕ))) (i above : ℕ) (events : List Event)
    → length lines ≤ i → AreRead lines i above events → script_in (texts lines) ≡ Ok events
AreRead-all lines i above events h so_far =
    let none : drop i lines ≡ [] = drop_all i lines h in
    let fault : fault_in 1 0 lines ≡ None = so_far.fault ∙ (rw none refl) in
    let all : events_in lines ≡ events = so_far.events ∙ (rw (none, append-nil events) refl) in
    rw (fault, all) refl
