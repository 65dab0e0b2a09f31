-- What a run gives, beside the run of the model.
use Rattle.std.specs.Prelude.{◌≡◌, ℕ, ◌+◌, ◌*◌, ◌<◌, ◌==◌, nat_lt, true, false, if◌then◌else◌, List, ◌++◌, length, take, Option, Some, None, IfSome, IsSomeAnd}
use Rattle.cs_shelf.specs.Outside.{Appends, AppendsPart, Rose}
use Rattle.cs_model.specs.declared.stop.Stop.TheVariants as why
use Rattle.cs_model.specs.State.{Kept}
use Rattle.cs_model.specs.Keeps.{Keeps}
use Rattle.cs_model.specs.Due.{is_idle, without_context}
use Rattle.cs_model.specs.End as ends
use Rattle.cs_model.specs.End.{Out}
use Rattle.cs_model.specs.Read.{IsRunning}
use Rattle.cs_model.specs.Built.{is_built_bytecode}
use Rattle.cs_model.specs.Report.{Place as ModelPlace, place_of}
use Rattle.cs_model.specs.Step as model
use Rattle.cs_model.specs.Step.{birth_limit, bytecode}
use Rattle.cs_acts.specs.declared.act.Full.{Full as Why}
use Rattle.cs_acts.specs.declared.act.Full.TheVariants.{Heap, Stack}
use Rattle.cs_acts.specs.declared.run.Phase.{Phase}
use Rattle.cs_acts.specs.declared.run.Phase.TheVariants as phase
use Rattle.cs_acts.specs.declared.run.Place.{Place}
use Rattle.cs_acts.specs.declared.run.RunEnd.{RunEnd}
use Rattle.cs_acts.specs.declared.run.RunEnd.TheVariants.{Steps, Quit, Idle, Snapshot, Stopped, Full, WriteFault}
use Rattle.cs_acts.specs.Layout.{IsLaidOut, Layout}
use Rattle.cs_acts.specs.Names.{Store}
use Rattle.cs_acts.specs.Ready.{IsSound}
use Rattle.cs_heap.specs.Object.{used}
use Rattle.cs_model.specs.Demand.{words_held}
use Rattle.cs_core.specs.Deep.{AllBegun, IsDeep, run_of, state_of}
use Rattle.cs_core.specs.Stacked.{IsStacked}
use Rattle.cs_core.specs.Stepped.{IsNext, Needs, can_begin, next_turn, run_at}
use Rattle.cs_core.specs.VmParts.{Seen}

-- ---- ends, places and phases

-- The end of the model, if it has this one. A run that saves the image goes on in the model; without room, or where the sink fails,
-- the model has no end.
abbrev pub ending_of : RunEnd → Option model.Ending
ending_of Steps = Some model.Steps
ending_of Quit = Some model.Quit
ending_of Idle = Some model.Idle
ending_of Snapshot = None
ending_of (Stopped reason) = Some (model.Stopped reason)
ending_of (Full why) = None
ending_of WriteFault = None

abbrev pub place_by : Place → ModelPlace
place_by p = record { process = p.process; context = p.context; pc = p.pc }

-- what may follow behind an end
abbrev pub phase_behind : RunEnd → Phase
phase_behind Steps = phase.Ready
phase_behind Quit = phase.Quit
phase_behind Idle = phase.Idle
phase_behind Snapshot = phase.Snapped
phase_behind (Stopped reason) = phase.Over
phase_behind (Full why) = phase.Over
phase_behind WriteFault = phase.Over

-- where another run may be asked for
abbrev pub CanRun : Phase → Type 0
CanRun phase.Ready = Unit {0}
CanRun phase.Quit = Unit {0}
CanRun phase.Idle = Unit {0}
CanRun phase.Snapped = ⊥
CanRun phase.Over = ⊥

-- what it answers at once, where the machine is at rest
abbrev pub end_again : Phase → Option RunEnd
end_again phase.Ready = None
end_again phase.Quit = Some Quit
end_again phase.Idle = Some Idle
end_again phase.Snapped = None
end_again phase.Over = None

-- What holds of the world in a phase. No primitive is built that quits or saves, so those phases don't come.
abbrev pub InPhase : Phase → Store → Kept → Type 0
InPhase phase.Ready s v = IsSound s v × (is_idle v ≡ false → IsRunning v)
InPhase phase.Quit s v = ⊥
InPhase phase.Idle s v = IsSound s v
InPhase phase.Snapped s v = ⊥
InPhase phase.Over s v = Unit {0}

-- behind a run that was broken off nothing is known of the world
abbrev pub UnlessBroken : RunEnd → Type 0 → Type 0
UnlessBroken Steps P = P
UnlessBroken Quit P = P
UnlessBroken Idle P = P
UnlessBroken Snapshot P = P
UnlessBroken (Stopped reason) P = P
UnlessBroken (Full why) P = Unit {0}
UnlessBroken WriteFault P = Unit {0}

-- how a run of n steps ends where no process is active behind the first ones of them and this birth is the next one
abbrev pub ending_at_rest : ℕ → ℕ → ℕ → model.Ending
ending_at_rest next steps n = if steps == n then model.Steps else (if nat_lt birth_limit next then model.Stopped why.BirthLimit else model.Idle)

-- ---- where a machine stands

-- The view keeps the state; or no process is active in the state, and the view without its active context keeps it.
pub data StandsFor (v m : Kept) : Type 0 where
  as_kept : Keeps v m → StandsFor v m
  at_rest : is_idle m ≡ true → Keeps (without_context v) m → StandsFor v m

-- what is written in n steps from the state k
abbrev pub output_of : Kept → ℕ → List ℕ
output_of k n = (run_of k n).state.run.output

-- A machine stands for the state k at n: the run of n steps from k comes to a state that its world stands for, and whose run parts are
-- those of the machine, but for the output, which it doesn't keep. In the phase Ready these steps are all done, and it has counted them.
pub record StandsAt (k : Kept) (n : ℕ) (m : Seen) : Type 0 where
  pub world : StandsFor m.view (state_of k n)
  pub run : (run_of k n).state.run ≡ run_at (output_of k n) m.steps
  pub ending : m.phase ≡ phase.Ready → (run_of k n).ending ≡ model.Steps
  pub counted : m.phase ≡ phase.Ready → m.steps ≡ n

-- While a process is active: each context that has a frame has begun in those steps, and the pages are one stack.
pub record HoldsStack (k : Kept) (n : ℕ) (m : Seen) : Type 0 where
  pub begun : AllBegun k n m.layout
  pub stacked : IsLaidOut m.stored m.view m.layout → IsStacked m.view m.layout

abbrev pub IsStackOf : Kept → ℕ → Seen → Type 0
IsStackOf k n m = is_idle m.view ≡ false → HoldsStack k n m

-- ---- no room

-- The words of the state to which the next bytecode leads exceed the limit of the heap; or those of a state on its way there, where it
-- stops behind an object that it made, or where its return doesn't arrive and is to be told. In a world with pages the heap has besides
-- no room for the objects that are made and for a context of each frame that the pages may hold: 409 to a page and two more, of 64 words
-- each.
pub record IsHeavy (k : Kept) (s : Store) (l : Option Layout) (done : ℕ) : Type 0 where
  pub next : IsNext (state_of k done)
  pub out : Out
  pub needs : Needs (next_turn (run_of k done).state) Heap out
  pub words : s.memory.limit < words_held out.state
  pub room : IfSome l (λ laid. s.memory.limit < used s.memory.objects + out.count.objects + 26304 * laid.most)

-- the next bytecode is built and enters a method or block, and the contexts that await a return are many for the pages that there may be
pub record IsTooDeep (k : Kept) (l : Option Layout) (done : ℕ) : Type 0 where
  pub next : IsNext (state_of k done)
  pub built : is_built_bytecode (state_of k done) ≡ true
  pub entered : (bytecode (run_of k done).state).out.end ≡ ends.Entered
  pub deep : IsSomeAnd l (λ laid. IsDeep laid.most k done)

-- why a run finds no room behind so many steps, in a world that began with this layout; the depth, where the pages were the stack of it
abbrev pub HasNoRoom : Kept → Store → Option Layout → Type 0 → ℕ → Why → Type 0
HasNoRoom k s l stack done Heap = IsHeavy k s l done
HasNoRoom k s l stack done Stack = stack → IsTooDeep k l done

-- ---- a run

-- all that a run writes behind a first part of it
pub record WritesSince (first all : List ℕ) (old new : Option (List ℕ)) : Type 0 where
  pub bytes : List ℕ
  pub more : all ≡ first ++ bytes
  pub written : Appends old new bytes

-- or some of it
pub record WritesPart (first all : List ℕ) (old new : Option (List ℕ)) : Type 0 where
  pub bytes : List ℕ
  pub more : all ≡ first ++ bytes
  pub written : AppendsPart old new bytes

-- A run on from step j to n has come to the end that the run of n steps from the state k has. So have the count and the place, and all that
-- it wrote in those steps is written.
pub record RunReaches (k : Kept) (j n : ℕ) (old new : Option (List ℕ)) (b : Seen) (ending : model.Ending) : Type 0 where
  pub ended : (run_of k n).ending ≡ ending
  pub steps : (run_of k n).state.run.steps ≡ b.steps
  pub place : place_of (state_of k n) ≡ place_by b.place
  pub written : WritesSince (output_of k j) (output_of k n) old new

-- A run on from step j to n breaks off behind fewer steps: they are done, and counted, and it stands behind them.
pub record IsCutShort (k : Kept) (n : ℕ) (b : Seen) : Type 0 where
  pub fewer : b.steps < n
  pub ending : (run_of k b.steps).ending ≡ model.Steps
  pub steps : (run_of k b.steps).state.run.steps ≡ b.steps
  pub place : place_of (state_of k b.steps) ≡ place_by b.place

-- there is no room, and all that they write is written
pub record RunFills (k : Kept) (j n : ℕ) (old new : Option (List ℕ)) (a b : Seen) (why : Why) : Type 0 where
  pub short : IsCutShort k n b
  pub written : WritesSince (output_of k j) (output_of k b.steps) old new
  pub room : HasNoRoom k b.stored a.layout (IsStackOf k j a) b.steps why

-- The sink fails in the step that follows: all that they write is written, and a first part of what that one writes.
pub record RunBreaks (k : Kept) (j n : ℕ) (old new : Option (List ℕ)) (b : Seen) : Type 0 where
  pub short : IsCutShort k n b
  pub since : List ℕ
  pub before : output_of k b.steps ≡ output_of k j ++ since
  pub bytes : List ℕ
  pub next : output_of k (b.steps + 1) ≡ output_of k b.steps ++ bytes
  pub part : ℕ
  pub less : part < length bytes
  pub written : Appends old new (since ++ take part bytes)

-- A run to n, of a machine that stood for the state k at j before, with what the sink tells before and behind it: it ends as the run of
-- the model from k, and behind Steps and Idle the machine stands for k at n. A step that stops where it had begun leaves the world
-- within it, and for no state between two steps.
abbrev pub RunGives : Kept → ℕ → ℕ → Option (List ℕ) → Option (List ℕ) → Seen → Seen → RunEnd → Type 0
RunGives k j n old new a b Steps = RunReaches k j n old new b model.Steps × StandsAt k n b × (IsStackOf k j a → IsStackOf k n b)
RunGives k j n old new a b Quit = ⊥
RunGives k j n old new a b Idle = RunReaches k j n old new b model.Idle × StandsAt k n b
RunGives k j n old new a b Snapshot = ⊥
RunGives k j n old new a b (Stopped reason) = RunReaches k j n old new b (model.Stopped reason) × (can_begin (state_of k n) ≡ false → StandsFor b.view (state_of k n))
RunGives k j n old new a b (Full why) = RunFills k j n old new a b why
RunGives k j n old new a b WriteFault = RunBreaks k j n old new b × WritesPart (output_of k j) (output_of k n) old new

-- a fault of the sink has been counted where that is why
abbrev pub RunCausedByFault : ℕ → ℕ → RunEnd → Type 0
RunCausedByFault old new Steps = Unit {0}
RunCausedByFault old new Quit = Unit {0}
RunCausedByFault old new Idle = Unit {0}
RunCausedByFault old new Snapshot = Unit {0}
RunCausedByFault old new (Stopped reason) = Unit {0}
RunCausedByFault old new (Full why) = Unit {0}
RunCausedByFault old new WriteFault = Rose old new
