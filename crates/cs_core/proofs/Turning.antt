-- From a part of a step to the whole step.
use Rattle.std.proofs.Common.{◌≡◌, ℕ, ◌+◌, Bool, true, false, refl, sym, ap, ap₂, subst, ◌∙◌, Option, Some, None, List, [], ◌++◌, nat_lt}
use Rattle.std.specs.Prelude.{if◌then◌else◌}
use Rattle.std.proofs.lemmas.List.{append-nil}
use Rattle.cs_shelf.specs.Outside.{Appends}
use Rattle.cs_model.specs.declared.stop.Stop.{Stop as Reason}
use Rattle.cs_model.specs.declared.stop.Stop.TheVariants as why
use Rattle.cs_model.specs.declared.instruction.Instr.{Instr}
use Rattle.cs_model.specs.State as state
use Rattle.cs_model.specs.State.{Kept, Rest, Run, State}
use Rattle.cs_model.specs.Keeps.{Keeps}
use Rattle.cs_model.specs.Read.{pc_of}
use Rattle.cs_model.specs.Operation.{set_pc_of, suspend_of}
use Rattle.cs_model.specs.Exec.{exec}
use Rattle.cs_model.specs.End as ends
use Rattle.cs_model.specs.End.{Out, no_count}
use Rattle.cs_model.specs.PrimRun.{Result}
use Rattle.cs_model.specs.Due.{due, due_of, is_idle, is_left, without_context}
use Rattle.cs_model.proofs.Same.{equal, option_equal}
use Rattle.cs_model.proofs.Happening.{is_idle_same, without_context_moved}
use Rattle.cs_model.proofs.Stepping.{shape_fault_same}
use Rattle.cs_model.specs.Step.{completed, ends_with, finish, Step, Steps, Stopped, add_count, birth_limit, bytecode, finish_of, followed, instruction_at, next_step, shape_fault, step, stops, with_kept}
use Rattle.cs_model.specs.Built.{built_step, is_built, is_built_bytecode, is_built_from}
use Rattle.cs_acts.specs.Layout.{Layout}
use Rattle.cs_acts.specs.Names.{Store}
use Rattle.cs_acts.specs.Ready.{IsReady}
use Rattle.cs_core.specs.Stepped.{Completes, DoneIn, EndsBy, IsDone, Lays, IsOver, Overfills, LeadsTo, LeadsToNone, StepGives, Turn, TurnStops, least_of_return, next_turn, told_by, unbuilt, stopped, lost, Turns, TurnGives, run_at, state_at, step_at}
use Rattle.cs_core.specs.declared.step.StepEnd.{StepEnd}
use Rattle.cs_core.specs.declared.step.StepEnd.TheVariants.{Active, Idle, Stopped as Stop, Full, WriteFault}

-- ---- a step that does its bytecode

-- the pc is moved past the instruction i, and then it does this
abbrev pub past : Kept → Instr → Kept
past k i = set_pc_of k (pc_of k + i.len)

abbrev pub effect : Kept → Instr → Out
effect k i = exec i.op (past k i)

-- the step from k does the instruction i
pub record Begins (k : Kept) (i : Instr) : Type 0 where
  pub births : nat_lt birth_limit k.rest.next ≡ false
  pub active : is_idle k ≡ false
  pub instruction : instruction_at k ≡ Some i

built_at : (k : Kept) (i : Instr) (r : Run) → Begins k i → is_built (with_kept k r) ≡ is_built_from (past k i) i.op
unfolding is_built is_built_bytecode
built_at k i r h = rw (h.births, h.active, h.instruction)

-- the end of a step whose bytecode comes to this
abbrev pub ended : State → Turn → Step
ended s t = if t.built then add_count no_count (finish_of s t.result) else stops s no_count why.NotBuilt

-- the turn that the model's step from k takes with the instruction i
abbrev pub model_turn : Kept → Instr → Turns
model_turn k i output steps = record { built = is_built_from (past k i) i.op; result = followed (run_at output steps) (effect k i); told = told_by (effect k i); least = least_of_return }

step_done : (k : Kept) (i : Instr) (output : List ℕ) (steps : ℕ) → Begins k i → step (state_at k output steps) ≡ add_count no_count (finish_of (state_at k output steps) (followed (run_at output steps) (effect k i)))
unfolding step due due_of bytecode
step_done k i output steps h = rw (h.births, h.active, h.instruction)

begun : (k : Kept) (i : Instr) (output : List ℕ) (steps : ℕ) → Begins k i → step_at k output steps ≡ ended (state_at k output steps) (model_turn k i output steps)
unfolding built_step
begun k i output steps h =
    ap₂ (λ b t. if b then t else stops (state_at k output steps) no_count why.NotBuilt) (built_at k i (run_at output steps) h) (step_done k i output steps h)

-- which is the next one
next_is : (k : Kept) (i : Instr) (output : List ℕ) (steps : ℕ) → Begins k i → next_turn (state_at k output steps) ≡ model_turn k i output steps
unfolding is_built_bytecode bytecode
next_is k i output steps h = rw h.instruction

-- ---- how it ends

over_finish : (s : State) (x : Result) → IsOver x.out.end → finish_of s x ≡ completed s Steps x
over_finish s x h = elim x.out.end as (λ e. IsOver e → finish s x e ≡ completed s Steps x) [
  | ends.Done ↦ λ _. refl
  | ends.Send selector args above ↦ λ f. absurd f
  | ends.Return value local ↦ λ f. absurd f
  | ends.Entered ↦ λ _. refl
  | ends.Primitive method number ↦ λ f. absurd f
  | ends.Call special args ↦ λ f. absurd f
  | ends.Answer ↦ λ _. refl
  | ends.Fail ↦ λ f. absurd f
  | ends.Quit ↦ λ f. absurd f
  | ends.Snapshot ↦ λ f. absurd f
  | ends.Stopped reason ↦ λ f. absurd f
] h

pub shape_kept : (v m : Kept) → Keeps v m → shape_fault m ≡ shape_fault v
shape_kept v m k = option_equal (shape_fault_same k)

idle_kept : (v m : Kept) → Keeps v m → is_idle m ≡ is_idle v
idle_kept v m k = equal (is_idle_same k)

-- the step of the model behind a turn that is done, while the scheduler has its shape
record IsCompleted (t : Step) (x : Kept) (r : Run) : Type 0 where
  pub ending : t.ending ≡ Steps
  pub run : t.state.run ≡ next_step r
  pub state : t.state.kept ≡ without_context x

ended_with : (s : State) (t : Turn) (v : Kept) (r : Run) → IsDone t v r → ended s t ≡ add_count no_count (completed s Steps t.result)
ended_with s t v r d = ap (λ b. if b then add_count no_count (finish_of s t.result) else stops s no_count why.NotBuilt) d.built ∙ ap (add_count no_count) (over_finish s t.result d.over)

ended_completed : (s : State) (t : Turn) (v : Kept) (r : Run) → IsDone t v r → shape_fault v ≡ None → IsCompleted (ended s t) t.result.out.state r
ended_completed s t v r d shape =
    let fault : shape_fault t.result.out.state ≡ None = shape_kept v t.result.out.state d.state ∙ shape in
    let is : completed s Steps t.result ≡ ends_with Steps t.result = rw fault in
    let all : ended s t ≡ add_count no_count (ends_with Steps t.result) = ended_with s t v r d ∙ ap (add_count no_count) is in
    record {
      ending = ap (λ (p : Step). p.ending) all;
      run = ap (λ (p : Step). p.state.run) all ∙ ap next_step d.run;
      state = ap (λ (p : Step). p.state.kept) all;
    }

ended_stops : (s : State) (t : Turn) (reason : Reason) → TurnStops t reason → (ended s t).ending ≡ Stopped reason
ended_stops s t reason (unbuilt built is) = ap (λ b. (if b then add_count no_count (finish_of s t.result) else stops s no_count why.NotBuilt).ending) built ∙ ap Stopped (sym is)
ended_stops s t reason (stopped built end) = ap (λ b. (if b then add_count no_count (finish_of s t.result) else stops s no_count why.NotBuilt).ending) built ∙ ap (λ e. (finish s t.result e).ending) end
ended_stops s t reason (lost built over fault) =
    let is : completed s Steps t.result ≡ stops s t.result.out.count reason = rw fault in
    ap (λ b. (if b then add_count no_count (finish_of s t.result) else stops s no_count why.NotBuilt).ending) built ∙ ap (λ (p : Step). p.ending) (over_finish s t.result over) ∙ ap (λ (p : Step). p.ending) is

-- an active process leaves the state as it is, and else no process is active
pub active_stays : (v x : Kept) → Keeps v x → is_idle v ≡ false → Keeps v (without_context x)
active_stays v x k idle =
    let none : is_idle x ≡ false = idle_kept v x k ∙ idle in
    let is : without_context x ≡ x = rw none in
    subst (Keeps v) (sym is) k

pub idle_stays : (x : Kept) → is_idle x ≡ true → is_idle (without_context x) ≡ true
unfolding is_idle suspend_of state.active_process state.slots_of state.scheduler_of state.special_at
idle_stays x h = go (is_left x)
  where
    go : (b : Bool) → is_idle (if b then suspend_of x else x) ≡ true
    go true = h
    go false = h

pub next_stays : (x : Kept) → (without_context x).rest.next ≡ x.rest.next
unfolding suspend_of
next_stays x = go (is_left x)
  where
    go : (b : Bool) → (if b then suspend_of x else x).rest.next ≡ x.rest.next
    go true = refl
    go false = refl

-- ---- a step that the code has done

completes : (k : Kept) (i : Instr) (v : Kept) (bytes : List ℕ) → Begins k i → DoneIn (model_turn k i) v bytes → shape_fault v ≡ None → Completes k bytes
completes k i v bytes h d shape output steps =
    let c = ended_completed (state_at k output steps) (model_turn k i output steps) v (run_at (output ++ bytes) steps) (d output steps) shape in
    (ap (λ (p : Step). p.ending) (begun k i output steps h) ∙ c.ending, ap (λ (p : Step). p.state.run) (begun k i output steps h) ∙ c.run)

leads_to : (k : Kept) (i : Instr) (v : Kept) (bytes : List ℕ) → Begins k i → DoneIn (model_turn k i) v bytes → shape_fault v ≡ None → is_idle v ≡ false → LeadsTo k v
leads_to k i v bytes h d shape active output steps =
    let t = model_turn k i output steps in
    let c = ended_completed (state_at k output steps) t v (run_at (output ++ bytes) steps) (d output steps) shape in
    let is : (step_at k output steps).state.kept ≡ without_context t.result.out.state = ap (λ (p : Step). p.state.kept) (begun k i output steps h) ∙ c.state in
    subst (Keeps v) (sym is) (active_stays v t.result.out.state (d output steps).state active)

leads_to_none : (k : Kept) (i : Instr) (v : Kept) (bytes : List ℕ) → Begins k i → DoneIn (model_turn k i) v bytes → shape_fault v ≡ None → is_idle v ≡ true → LeadsToNone k v
leads_to_none k i v bytes h d shape idle output steps =
    let t = model_turn k i output steps in
    let c = ended_completed (state_at k output steps) t v (run_at (output ++ bytes) steps) (d output steps) shape in
    let is : (step_at k output steps).state.kept ≡ without_context t.result.out.state = ap (λ (p : Step). p.state.kept) (begun k i output steps h) ∙ c.state in (
      ap is_idle is ∙ idle_stays t.result.out.state (idle_kept v t.result.out.state (d output steps).state ∙ idle),
      ap (λ (k : Kept). k.rest.next) is ∙ next_stays t.result.out.state ∙ sym (ap (λ (r : Rest). r.next) (d output steps).state.rest),
      subst (Keeps (without_context v)) (sym is) (without_context_moved (d output steps).state).keeps,
    )

-- what the turn of the model gives, its step gives
pub turn_gives : (k : Kept) (i : Instr) (l n : Option Layout) (old new : Option (List ℕ)) (s : Store) (v : Kept) (e : StepEnd) → Begins k i → TurnGives (model_turn k i) k l old new s v n e → StepGives k l old new s v n e
turn_gives k i l n old new s v (Active process) h (bytes, told, d, ready, shape, active, frames) = (bytes, told, completes k i v bytes h d shape, leads_to k i v bytes h d shape active, ready, active, frames)
turn_gives k i l n old new s v Idle h (bytes, told, d, sound, shape, idle) = (bytes, told, completes k i v bytes h d shape, leads_to_none k i v bytes h d shape idle, sound)
turn_gives k i l n old new s v (Stop reason) h (none, f) =
    (none, λ output steps. ap (λ (p : Step). p.ending) (begun k i output steps h) ∙ ended_stops (state_at k output steps) (model_turn k i output steps) reason (f output steps))
turn_gives k i l n old new s v (Full why) h (none, f) = (
  none,
  record { births = h.births; active = h.active },
  λ output steps. subst (λ t. Overfills s l k t why) (sym (next_is k i output steps h)) (f output steps),
)
turn_gives k i l n old new s v WriteFault h (bytes, told, d, shape) = (bytes, told, completes k i v bytes h d shape)

-- ---- no instruction is done

pub births_used : (k : Kept) (l n : Option Layout) (s : Store) (v : Kept) (old : Option (List ℕ)) → nat_lt birth_limit k.rest.next ≡ true → StepGives k l old old s v n (Stop why.BirthLimit)
unfolding built_step is_built step
births_used k l n s v old births = (refl, λ output steps. rw births)

pub no_instruction : (k : Kept) (l n : Option Layout) (s : Store) (v : Kept) (old : Option (List ℕ)) → nat_lt birth_limit k.rest.next ≡ false → is_idle k ≡ false → instruction_at k ≡ None → StepGives k l old old s v n (Stop why.BadCode)
unfolding built_step is_built is_built_bytecode step due due_of bytecode
no_instruction k l n s v old births active none = (refl, λ output steps. rw (births, active, none))

-- ---- the scheduler says how a step ends that is over

pub nothing_told : (old : Option (List ℕ)) → Appends old old []
nothing_told None = refl
nothing_told (Some told) = ap Some (sym (append-nil told))

pub ends_by : (f : Turns) (k v : Kept) (l n : Option Layout) (bytes : List ℕ) (old new : Option (List ℕ)) (s : Store) (e : StepEnd) → DoneIn f v bytes → IsReady s v → Lays k l s v n → Appends old new bytes
    → ((reason : Reason) → e ≡ Stop reason → new ≡ old) → EndsBy v e → TurnGives f k l old new s v n e
ends_by f k v l n bytes old new s (Active process) d ready frames told same b = (bytes, told, d, ready, b.0, b.1, frames)
ends_by f k v l n bytes old new s Idle d ready frames told same b = (bytes, told, d, ready.sound, b.0, b.1)
ends_by f k v l n bytes old new s (Stop reason) d ready frames told same b = (
  same reason refl,
  λ output steps.
      let t = d output steps in
      lost t.built t.over (shape_kept v (f output steps).result.out.state t.state ∙ b),
)
ends_by f k v l n bytes old new s (Full why) d ready frames told same b = absurd b
ends_by f k v l n bytes old new s WriteFault d ready frames told same b = absurd b

-- nothing is written
pub ends_quietly : (f : Turns) (k v : Kept) (l n : Option Layout) (told : Option (List ℕ)) (s : Store) (e : StepEnd) → DoneIn f v [] → IsReady s v → Lays k l s v n → EndsBy v e → TurnGives f k l told told s v n e
ends_quietly f k v l n told s e d ready frames by = ends_by f k v l n [] told told s e d ready frames (nothing_told told) (λ reason _. refl) by
