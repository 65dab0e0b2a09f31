-- Opening an image and settling a state: the active context stands in the suspendedContext of the active process as long as
-- no machine runs.
use Rattle.std.specs.Prelude.{ℕ, pos, Bool, if◌then◌else◌, List, [], Option, Some, None, option_and_then, slice_get}
use Rattle.cs_model.specs.declared.event.Event.{Event}
use Rattle.cs_model.specs.Ref.{Ref, named_object}
use Rattle.cs_model.specs.Ref as ref
use Rattle.cs_model.specs.State.{Kept, Run, State, slots_of, is_nil, active_process}
use Rattle.cs_model.specs.Read.{active_birth}
use Rattle.cs_model.specs.Operation.{store_of, resume_of, suspend_of, nil_of}

-- a run that begins: nothing written, no input, clock 0, the timer off, no bytecode completed
abbrev pub new_run : List Event → Bool → Run
new_run events snapping = record { output = []; input = []; clock = pos 0; timer = None; events = events; steps = 0; snapping = snapping }

-- what a process without an active context keeps
abbrev pub context_kept : Kept → Ref → Option Ref
context_kept k p = option_and_then (λ slots. slice_get slots 1) (slots_of k 4 p)

abbrev pub open_at : Kept → Ref → Option ℕ → Kept
open_at k p None = k
open_at k p (Some i) = resume_of (store_of k p 1 (nil_of k)) i

abbrev pub open_process : Kept → Ref → Kept
open_process k p = if is_nil k p then k else open_at k p (option_and_then (λ x. named_object x) (context_kept k p))

abbrev pub open_if : Kept → Option Ref → Kept
open_if k None = k
open_if k (Some p) = open_process k p

-- the active process gives its suspendedContext to the machine; with no active process nothing changes
unfoldable pub open_kept : Kept → Kept
open_kept k = open_if k (active_process k)

-- the state in which a run of these events begins
unfoldable pub opened : Kept → List Event → Bool → State
opened k events snapping = record { kept = open_kept k; run = new_run events snapping }

abbrev pub settle_if : Kept → Option Ref → Kept
settle_if k None = k
settle_if k (Some p) = if is_nil k p then k else suspend_of (store_of k p 1 (ref.Obj (active_birth k)))

-- the active process keeps the active context, and none is active
unfoldable pub settle_kept : Kept → Kept
settle_kept k = settle_if k (active_process k)

abbrev pub settled : State → Kept
settled s = settle_kept s.kept
