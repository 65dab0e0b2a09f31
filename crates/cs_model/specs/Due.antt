-- The events that are due before a bytecode.
use Rattle.std.specs.Prelude.{ℕ, ℤ, ◌+◌, ◌-◌, ◌&&◌, ◌||◌, Bool, false, int_lt, nat_lt, nat_le, if◌then◌else◌, List, [], ◌∷◌, ◌++◌, Option, Some, None, is_some, option_and_then, slice_get}
use Rattle.cs_model.specs.declared.event.Event.{Event}
use Rattle.cs_model.specs.declared.event.EventKind.{EventKind}
use Rattle.cs_model.specs.declared.event.EventKind.TheVariants as kind
use Rattle.cs_model.specs.Ref.{Ref}
use Rattle.cs_model.specs.Obj.{slots_in}
use Rattle.cs_model.specs.State.{Kept, Run, State, Timer, object_of, special_at, is_nil, active_process}
use Rattle.cs_model.specs.Operation.{suspend_of}
use Rattle.cs_model.specs.Process.{signal}
use Rattle.cs_model.specs.PrimProcess.{is_semaphore}
use Rattle.cs_model.specs.PrimRun.{with_timer}
use Rattle.cs_model.specs.End.{End, Out, Count, out, done, given, is_done, no_count, plus}
use Rattle.cs_model.specs.End as ends

-- ---- one event

-- element n, counted from 1, of the array of external semaphores, special 38
abbrev pub external_semaphores : ℕ
external_semaphores = 38

abbrev pub external_at : Kept → ℕ → Option Ref
external_at k n = if nat_lt 0 n then option_and_then (λ x. option_and_then (λ slots. slice_get slots (n - 1)) (slots_in (object_of k x))) (special_at k external_semaphores) else None

-- it is signalled where it is there and is a semaphore; otherwise nothing is done
unfoldable pub signal_external : Kept → ℕ → Out
signal_external k n = given (external_at k n) (done k) (λ x. if is_semaphore k x then signal k x else done k)

abbrev pub due_timer : Run → Option Timer
due_timer r = option_and_then (λ t. if int_lt r.clock t.moment then None else Some t) r.timer

-- an event leaves an end, the state and the count: done, or the stop of its signal
pub record Happened : Type 0 where
  pub end : End
  pub state : State
  pub count : Count

abbrev pub happened : State → Happened
happened s = record { end = ends.Done; state = s; count = no_count }

abbrev pub with_out : Run → Out → Happened
with_out r o = record { end = o.end; state = record { kept = o.state; run = r }; count = o.count }

-- a timer whose moment isn't above the clock signals its semaphore and is off
abbrev pub fire : Kept → Run → Option Timer → Happened
fire k r None = happened (record { kept = k; run = r })
fire k r (Some t) = with_out (with_timer None r) (signal k t.semaphore)

abbrev pub with_clock : ℤ → Run → Run
with_clock moment r = record r { clock = moment }

abbrev pub add_input : ℕ → Run → Run
add_input b r = record r { input = r.input ++ b ∷ [] }

abbrev pub happen : EventKind → Kept → Run → Happened
happen (kind.Signal n) k r = with_out r (signal_external k n)
happen (kind.Clock moment) k r = fire k (with_clock moment r) (due_timer (with_clock moment r))
happen (kind.Byte b) k r = happened (record { kept = k; run = add_input b r })

abbrev pub with_events : List Event → Run → Run
with_events events r = record r { events = events }

-- ---- all that are due

-- whether a process is active is asked each time, since an event may make one
abbrev pub is_idle_at : Kept → Option Ref → Bool
is_idle_at k None = false
is_idle_at k (Some p) = is_nil k p

unfoldable pub is_idle : Kept → Bool
is_idle k = is_idle_at k (active_process k)

-- an event is due whose number isn't above that of the next bytecode; while no process is active, the next one is
abbrev pub is_due : State → Event → Bool
is_due s e = nat_le e.before (s.run.steps + 1) || is_idle s.kept

-- With no active process no context is active; that one stopped counts as a look, if nothing else has counted it.
abbrev pub is_left : Kept → Bool
is_left k = is_idle k && is_some k.rest.active

abbrev pub without_context : Kept → Kept
without_context k = if is_left k then suspend_of k else k

abbrev pub left_count : Kept → Count
left_count k = if is_left k then record { objects = 0; contexts = 0; looks = 1 } else no_count

-- behind an event, which may leave no process active by a store into a link
abbrev pub event_passed : Happened → State
event_passed h = record { kept = without_context h.state.kept; run = h.state.run }

abbrev pub event_counting : Count → Happened → Happened
event_counting n h = record h { count = plus n h.count }

abbrev pub and_then_due : Happened → (State → Happened) → Happened
and_then_due h next = if is_done h.end then event_counting (plus h.count (left_count h.state.kept)) (next (event_passed h)) else h

-- the events are given as a list, so that the recursion follows it; `with_events` leaves those that aren't due
unfoldable pub due_of : List Event → State → Happened
due_of [] s = happened (record s { run = with_events [] s.run })
due_of (e ∷ es) s =
    if is_due s e then and_then_due (happen e.kind s.kept (with_events es s.run)) (λ t. due_of es t)
    else happened (record s { run = with_events (e ∷ es) s.run })

unfoldable pub due : State → Happened
due s = due_of s.run.events s
