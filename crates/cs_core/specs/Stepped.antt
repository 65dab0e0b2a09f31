-- What a step gives, beside the step of the model.
use Rattle.std.specs.Prelude.{◌≡◌, ◌⊎◌, ℕ, ◌+◌, ◌<◌, nat_lt, ◌&&◌, not, Bool, true, false, List, ◌++◌, [], length, Option, Some, None, is_some, option_map}
use Rattle.cs_shelf.specs.Outside.{Appends, AppendsPart, Rose}
use Rattle.cs_model.specs.declared.stop.Stop.{Stop as Reason}
use Rattle.cs_model.specs.declared.stop.Stop.TheVariants as why
use Rattle.cs_model.specs.Ref.{Ref}
use Rattle.cs_model.specs.State.{Kept, Run, State, active_process}
use Rattle.cs_model.specs.Keeps.{Keeps}
use Rattle.cs_model.specs.Read.{pc_of}
use Rattle.cs_model.specs.Operation.{set_pc_of}
use Rattle.cs_model.specs.Exec.{exec}
use Rattle.cs_model.specs.Return.{back}
use Rattle.cs_model.specs.Settle.{new_run}
use Rattle.cs_model.specs.Due.{is_idle, without_context}
use Rattle.cs_model.specs.End.{End, Out, given}
use Rattle.cs_model.specs.End as ends
use Rattle.cs_model.specs.PrimRun.{Result}
use Rattle.cs_model.specs.PrimTable.{prim}
use Rattle.cs_model.specs.Step.{arguments_of, Message, Step, Steps, Stopped, birth_limit, bytecode, do_call, do_return, do_send, instruction_at, return_in, shape_fault, try_primitive, with_kept}
use Rattle.cs_model.specs.Built.{built_step, is_built_bytecode, is_built_call, is_built_number, is_built_return, is_built_send}
use Rattle.cs_acts.specs.declared.act.Full.{Full as Why}
use Rattle.cs_acts.specs.declared.act.Full.TheVariants.{Heap, Stack}
use Rattle.cs_acts.specs.Full.{IsFullHeap}
use Rattle.cs_acts.specs.Layout.{IsApart, IsLaidOut, Layout, first_page, is_frame, page_words}
use Rattle.cs_acts.specs.Names.{NamesOption, Store}
use Rattle.cs_acts.specs.Ready.{IsReady, IsSound}
use Rattle.cs_unwind.specs.Back.{Asks}
use Rattle.cs_core.specs.Stacked.{IsStacked}
use Rattle.cs_core.specs.declared.step.StepEnd.{StepEnd}
use Rattle.cs_core.specs.declared.step.StepEnd.TheVariants.{Active, Idle, Stopped as Stop, Full, WriteFault}

-- a run without events that has written so much and completed so many bytecodes
abbrev pub progressed : List ℕ → ℕ → Run → Run
progressed output steps r = record r { output = output; steps = steps }

abbrev pub run_at : List ℕ → ℕ → Run
run_at output steps = progressed output steps (new_run [] false)

abbrev pub state_at : Kept → List ℕ → ℕ → State
state_at k output steps = with_kept k (run_at output steps)

-- the step of the model from there
abbrev pub step_at : Kept → List ℕ → ℕ → Step
step_at k output steps = built_step (state_at k output steps)

-- it is completed, and writes these bytes
abbrev pub Completes : Kept → List ℕ → Type 0
Completes k bytes = (output : List ℕ) (steps : ℕ) → ((step_at k output steps).ending ≡ Steps) × ((step_at k output steps).state.run ≡ run_at (output ++ bytes) (steps + 1))

-- the state behind it is one that v keeps; or no process is active in it, its next birth is that of v, and v without its active
-- context keeps it
abbrev pub LeadsTo : Kept → Kept → Type 0
LeadsTo k v = (output : List ℕ) (steps : ℕ) → Keeps v (step_at k output steps).state.kept

abbrev pub LeadsToNone : Kept → Kept → Type 0
LeadsToNone k v = (output : List ℕ) (steps : ℕ) →
    (is_idle (step_at k output steps).state.kept ≡ true)
    × ((step_at k output steps).state.kept.rest.next ≡ v.rest.next)
    × Keeps (without_context v) (step_at k output steps).state.kept

-- ---- where activations stand

-- there may be as many pages as before, and each frame was one before, or is the active context
abbrev pub FramesFrom : Option Layout → Option Layout → Kept → Type 0
FramesFrom None new v = new ≡ None
FramesFrom (Some l) None v = ⊥
FramesFrom (Some l) (Some n) v = (n.most ≡ l.most) × ((i : ℕ) → is_frame i n.pages ≡ true → (is_frame i l.pages ≡ true) ⊎ (v.rest.active ≡ Some i))

-- besides, where the pages were one stack they are one again, as far as the world keeps to the rules of its layout
pub record Lays (k : Kept) (l : Option Layout) (s : Store) (v : Kept) (n : Option Layout) : Type 0 where
  pub frames : FramesFrom l n v
  pub stacked : IsStacked k l → IsLaidOut s v n → IsStacked v n

-- ---- parts of a step

-- What a part of a step comes to: whether it is built, and what it gives, after so much output and so many steps; the return that it
-- makes, if any, up to the message that tells of it; and how many words the first page exceeds where a context that it enters finds no room
-- there. A context needs 66 words, and up to 56 values may be pushed for its block before.
pub record Turn : Type 0 where
  pub built : Bool
  pub result : Result
  pub told : Option Out
  pub least : ℕ

abbrev pub Turns : Type 0
Turns = List ℕ → ℕ → Turn

abbrev pub least_of_send : ℕ
least_of_send = 3974

-- a message that tells of a return has up to three values more
abbrev pub least_of_return : ℕ
least_of_return = 3971

-- the return that an instruction leads to
abbrev pub told_by : Out → Option Out
told_by o = option_map (λ p. back o.state p.0 p.1) (return_in o.end)

-- the bytecode that is next
abbrev pub next_turn : State → Turn
next_turn s = record {
  built = is_built_bytecode s.kept;
  result = bytecode s;
  told = given (instruction_at s.kept) None (λ i. told_by (exec i.op (set_pc_of s.kept (pc_of s.kept + i.len))));
  least = least_of_return;
}

-- ---- no room

-- an instruction or a return is done, a primitive answered, or a method or block is entered
abbrev pub IsOver : End → Type 0
IsOver ends.Done = Unit {0}
IsOver (ends.Send selector args above) = ⊥
IsOver (ends.Return value local) = ⊥
IsOver ends.Entered = Unit {0}
IsOver (ends.Primitive method number) = ⊥
IsOver (ends.Call special args) = ⊥
IsOver ends.Answer = Unit {0}
IsOver ends.Fail = ⊥
IsOver ends.Quit = ⊥
IsOver ends.Snapshot = ⊥
IsOver (ends.Stopped reason) = ⊥

-- how a bytecode ends in the model for which there is no room: the stack is full for a context that is entered alone
abbrev pub OverWithout : Why → End → Type 0
OverWithout Heap end = IsOver end
OverWithout Stack end = end ≡ ends.Entered

-- it stops where the stack has no room for the object that it made
abbrev pub IsUnheld : Out → Type 0
IsUnheld o = (o.end ≡ ends.Stopped why.StackOver) × (0 < o.count.objects)

-- What a bytecode, or a part of one, needs room for: all that it comes to, where it is built; what it makes before it stops; or a return
-- that doesn't arrive, up to the message that tells of it.
pub data Needs (t : Turn) (full : Why) : Out → Type 0 where
  whole : t.built ≡ true → OverWithout full t.result.out.end → Needs t full t.result.out
  unheld : t.built ≡ true → full ≡ Heap → IsUnheld t.result.out → Needs t full t.result.out
  untold : (o : Out) → t.told ≡ Some o → Asks o.end → full ≡ Heap → Needs t full o

-- every page is used, and the active one, as far as no context stands there twice, has more words than these
abbrev pub IsFilled : Kept → Option Layout → ℕ → Type 0
IsFilled k None least = ⊥
IsFilled k (Some l) least = (length l.pages ≡ l.most) × (IsApart (first_page l.pages) → least < page_words k (first_page l.pages))

abbrev pub CausesNoRoom : Store → Option Layout → Kept → ℕ → Out → Why → Type 0
CausesNoRoom s l k least o Heap = IsFullHeap s l o.count.objects o.state
CausesNoRoom s l k least o Stack = IsFilled k l least

-- there is no room for what a bytecode, or a part of one, comes to in the model from the state k
pub record Overfills (s : Store) (l : Option Layout) (k : Kept) (t : Turn) (full : Why) : Type 0 where
  pub out : Out
  pub needs : Needs t full out
  pub cause : CausesNoRoom s l k t.least out full

-- births are left and a process is active, so that a bytecode is next
pub record IsNext (k : Kept) : Type 0 where
  pub births : nat_lt birth_limit k.rest.next ≡ false
  pub active : is_idle k ≡ false

-- ---- a step

-- A step from the state k in a world of this layout, with what the sink tells before and behind it and with the world behind it. What
-- is written is what the model writes; where the sink fails, it is a first part of that. A step that stops or finds no room writes
-- nothing.
abbrev pub StepGives : Kept → Option Layout → Option (List ℕ) → Option (List ℕ) → Store → Kept → Option Layout → StepEnd → Type 0
StepGives k l old new s v n (Active process) = (bytes : List ℕ) × Appends old new bytes × Completes k bytes × LeadsTo k v × IsReady s v × (is_idle v ≡ false) × Lays k l s v n
StepGives k l old new s v n Idle = (bytes : List ℕ) × Appends old new bytes × Completes k bytes × LeadsToNone k v × IsSound s v
StepGives k l old new s v n (Stop reason) = (new ≡ old) × ((output : List ℕ) (steps : ℕ) → (step_at k output steps).ending ≡ Stopped reason)
StepGives k l old new s v n (Full why) = (new ≡ old) × IsNext k × ((output : List ℕ) (steps : ℕ) → Overfills s l k (next_turn (state_at k output steps)) why)
StepGives k l old new s v n WriteFault = (bytes : List ℕ) × AppendsPart old new bytes × Completes k bytes

-- where a step stops, this holds
abbrev pub WhereStopped : StepEnd → Type 0 → Type 0
WhereStopped (Active process) P = Unit {0}
WhereStopped Idle P = Unit {0}
WhereStopped (Stop reason) P = P
WhereStopped (Full why) P = Unit {0}
WhereStopped WriteFault P = Unit {0}

-- the process of a step that completes is the one that is active behind it
abbrev pub NamesActive : Store → Kept → StepEnd → Type 0
NamesActive s v (Active process) = NamesOption s (Some process) (active_process v)
NamesActive s v Idle = Unit {0}
NamesActive s v (Stop reason) = Unit {0}
NamesActive s v (Full why) = Unit {0}
NamesActive s v WriteFault = Unit {0}

-- births are left, and an instruction stands at the pc; else a step stops before it changes anything
abbrev pub can_begin : Kept → Bool
can_begin k = not (nat_lt birth_limit k.rest.next) && is_some (instruction_at k)

-- a fault of the sink has been counted
abbrev pub CausedByFault : ℕ → ℕ → StepEnd → Type 0
CausedByFault old new (Active process) = Unit {0}
CausedByFault old new Idle = Unit {0}
CausedByFault old new (Stop reason) = Unit {0}
CausedByFault old new (Full why) = Unit {0}
CausedByFault old new WriteFault = Rose old new

-- ---- what the parts of a step come to

-- a message is sent
abbrev pub sending : Kept → Message → Turns
sending k m output steps = record { built = is_built_send k m; result = do_send (run_at output steps) k m.selector m.args m.above; told = None; least = least_of_send }

-- a special selector is sent, with so many arguments that are on the stack
abbrev pub calling : Kept → ℕ → ℕ → Turns
calling k special args output steps = record { built = is_built_call k special args; result = do_call (run_at output steps) k special args; told = None; least = least_of_send }

-- the primitive of a method is tried
abbrev pub trying : Kept → Ref → ℕ → Turns
trying k method number output steps = record { built = is_built_number k (arguments_of k method) (Some number); result = try_primitive (state_at k output steps) method number; told = None; least = least_of_send }

-- a primitive that is built refuses
pub record Fails (k : Kept) (method : Ref) (number : ℕ) : Type 0 where
  pub built : is_built_number k (arguments_of k method) (Some number) ≡ true
  pub end : (r : Run) → (prim number (arguments_of k method) (with_kept k r)).out.end ≡ ends.Fail

-- a value is returned
abbrev pub returning : Kept → Ref → Bool → Turns
returning k value local output steps = record { built = is_built_return k value local; result = do_return (run_at output steps) k value local; told = Some (back k value local); least = least_of_return }

-- it is over, in this run and in a state that v keeps
pub record IsDone (t : Turn) (v : Kept) (r : Run) : Type 0 where
  pub built : t.built ≡ true
  pub over : IsOver t.result.out.end
  pub state : Keeps v t.result.out.state
  pub run : t.result.run ≡ r

abbrev pub DoneIn : Turns → Kept → List ℕ → Type 0
DoneIn f v bytes = (output : List ℕ) (steps : ℕ) → IsDone (f output steps) v (run_at (output ++ bytes) steps)

-- it isn't built, or it stops, or the scheduler has lost its shape behind it
pub data TurnStops (t : Turn) (reason : Reason) : Type 0 where
  unbuilt : t.built ≡ false → reason ≡ why.NotBuilt → TurnStops t reason
  stopped : t.built ≡ true → t.result.out.end ≡ ends.Stopped reason → TurnStops t reason
  lost : t.built ≡ true → IsOver t.result.out.end → shape_fault t.result.out.state ≡ Some reason → TurnStops t reason

-- what a part of a step gives from the state k on, with what the sink tells before and behind it and with the world behind it
abbrev pub TurnGives : Turns → Kept → Option Layout → Option (List ℕ) → Option (List ℕ) → Store → Kept → Option Layout → StepEnd → Type 0
TurnGives f k l old new s v n (Active process) = (bytes : List ℕ) × Appends old new bytes × DoneIn f v bytes × IsReady s v × (shape_fault v ≡ None) × (is_idle v ≡ false) × Lays k l s v n
TurnGives f k l old new s v n Idle = (bytes : List ℕ) × Appends old new bytes × DoneIn f v bytes × IsSound s v × (shape_fault v ≡ None) × (is_idle v ≡ true)
TurnGives f k l old new s v n (Stop reason) = (new ≡ old) × ((output : List ℕ) (steps : ℕ) → TurnStops (f output steps) reason)
TurnGives f k l old new s v n (Full why) = (new ≡ old) × ((output : List ℕ) (steps : ℕ) → Overfills s l k (f output steps) why)
TurnGives f k l old new s v n WriteFault = (bytes : List ℕ) × AppendsPart old new bytes × DoneIn f v bytes × (shape_fault v ≡ None)

-- how a step that did its bytecode ends, by the scheduler behind it
abbrev pub EndsBy : Kept → StepEnd → Type 0
EndsBy v (Active process) = (shape_fault v ≡ None) × (is_idle v ≡ false)
EndsBy v Idle = (shape_fault v ≡ None) × (is_idle v ≡ true)
EndsBy v (Stop reason) = shape_fault v ≡ Some reason
EndsBy v (Full why) = ⊥
EndsBy v WriteFault = ⊥
