-- What memory a run asks for: the words of all that it makes, and how often something looks at a context. A machine that keeps
-- activations on stack pages makes a context only for a look, so by these numbers it can be told from one that makes a context
-- for each activation (this machine's own).
use Rattle.std.specs.Prelude.{◌≡◌, ℕ, zero, suc, ◌+◌, ◌==◌, ◌&&◌, Bool, true, false, nat_lt, if◌then◌else◌, List, [], ◌∷◌, ◌++◌, length, take, Option, Some, None, option_and_then}
use Rattle.std.specs.List.{range_with_len, filter, list_any}
use Rattle.cs_model.specs.declared.event.Event.{Event}
use Rattle.cs_model.specs.Obj.{Obj, words_of}
use Rattle.cs_model.specs.State.{Kept, State, object_at}
use Rattle.cs_model.specs.Return.{is_live}
use Rattle.cs_model.specs.Due.{Happened, happen, with_events, event_passed, is_due}
use Rattle.cs_model.specs.Step.{Ending, Steps, Quit, Idle, Stopped, Step, birth_limit, step, run}
use Rattle.cs_model.specs.End.{given, is_done}

-- ---- the states that a run passes

abbrev pub goes_on : Ending → Bool
goes_on Steps = true
goes_on Quit = false
goes_on Idle = false
goes_on (Stopped reason) = false

-- step n + 1 of a run, if the run goes on so far
unfoldable pub step_after : ℕ → State → Option Step
step_after n s = if goes_on (run n s).ending then Some (step (run n s).state) else None

abbrev pub behind_event : Happened → (State → List Kept) → List Kept
behind_event h next = if is_done h.end then next (event_passed h) else []

-- the states behind each of the events that are due; the list is followed as in `due_of`
unfoldable pub behind_events : List Event → State → List Kept
behind_events [] s = []
behind_events (e ∷ es) s =
    if is_due s e then behind_event (happen e.kind s.kept (with_events es s.run)) (λ t. t.kept ∷ behind_events es t) else []

-- the states between this one and the next bytecode; where births are used up no event comes
unfoldable pub before_bytecode : State → List Kept
before_bytecode s = if nat_lt birth_limit s.kept.rest.next then [] else behind_events s.run.events s

-- the last of these states, where there is one
unfoldable pub last_state : Kept → List Kept → Kept
last_state k [] = k
last_state k (t ∷ ts) = last_state t ts

-- the same state with the first n of its events alone
abbrev pub first_events : ℕ → State → State
first_events n s = record s { run = with_events (take n s.run.events) s.run }

-- the states that a run of n steps passes, in order: the one in which it begins, and those behind each event and each step
unfoldable pub states_of : ℕ → State → List Kept
states_of zero s = s.kept ∷ []
states_of (suc n) s = states_of n s ++ given (step_after n s) [] (λ t. before_bytecode (run n s).state ++ t.state.kept ∷ [])

-- ---- contexts that have begun

abbrev pub is_birth : ℕ → Option ℕ → Bool
is_birth i None = false
is_birth i (Some j) = i == j

abbrev pub was_active : ℕ → List Kept → Bool
was_active i states = list_any (λ k. is_birth i k.rest.active) states

-- a context has begun where it was active in the run
abbrev pub HasBegun : ℕ → State → ℕ → Type 0
HasBegun n s i = was_active i (states_of n s) ≡ true

-- ---- words

abbrev pub words_taken : Option Obj → ℕ
words_taken None = 0
words_taken (Some o) = words_of o

-- the words of the objects and contexts that have births below n
unfoldable pub words_below : ℕ → Kept → ℕ
words_below zero k = 0
words_below (suc n) k = words_below n k + words_taken (object_at k n)

-- the words of all objects and contexts
abbrev pub words_held : Kept → ℕ
words_held k = words_below k.rest.next k

-- The words of all objects and contexts behind n steps. Nothing leaves the map, so these are the words at the beginning and of
-- all that was made since; what a step made before it stopped counts too, and behind an end nothing is made.
unfoldable pub heavy : ℕ → State → ℕ
heavy n s = words_held s.kept + (run n s).count.objects + (run n s).count.contexts

-- the same without the contexts that entering methods and blocks made in the run
unfoldable pub own : ℕ → State → ℕ
own n s = words_held s.kept + (run n s).count.objects

-- ---- looks

-- all births that were given
abbrev pub births : Kept → List ℕ
births k = range_with_len 0 k.rest.next

-- a state that is saved, or settled for it, counts a look for each live context that has begun
unfoldable pub saving_looks : List Kept → Kept → ℕ
saving_looks states k = length (filter (λ i. is_live k i && was_active i states) (births k))

-- the looks of the snapshots in the first n steps
unfoldable pub snapshot_looks : ℕ → State → ℕ
snapshot_looks zero s = 0
snapshot_looks (suc n) s =
    snapshot_looks n s + given (option_and_then (λ t. t.snapshot) (step_after n s)) 0 (λ k. saving_looks (states_of (suc n) s) k)

-- all looks in the first n steps; what a step looked at before it stopped counts too
unfoldable pub looks : ℕ → State → ℕ
looks n s = (run n s).count.looks + snapshot_looks n s

-- the looks of settling behind n steps
unfoldable pub settling_looks : ℕ → State → ℕ
settling_looks n s = saving_looks (states_of n s) (run n s).state.kept
