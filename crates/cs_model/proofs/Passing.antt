-- The states that a run passes are those behind each event that is due, and behind each step.
use Rattle.std.proofs.Common.{◌≡◌, ℕ, zero, suc, ◌+◌, Bool, true, false, refl, sym, ap, subst, ◌∙◌, arith, Option, Some, None, List, [], ◌∷◌, ◌++◌, length, take, unwrap_or, nat_lt, if◌then◌else◌}
use Rattle.std.specs.Prelude.{slice_get}
use Rattle.cs_model.specs.declared.event.Event.{Event}
use Rattle.cs_model.specs.declared.event.EventKind.{EventKind}
use Rattle.cs_model.specs.declared.event.EventKind.TheVariants as kind
use Rattle.cs_model.specs.State.{Kept, Run, State, Timer}
use Rattle.cs_model.specs.Due.{Happened, happened, due_timer, fire, with_clock, happen, with_events, is_due, left_count, event_counting, event_passed, and_then_due, due_of, due}
use Rattle.cs_model.specs.Step.{Ending, Steps, Quit, Idle, Stopped, Step, Ran, birth_limit, step, run, run_by}
use Rattle.cs_model.specs.Step as step
use Rattle.cs_model.specs.Demand.{goes_on, step_after, behind_event, behind_events, before_bytecode, last_state, first_events, states_of}
use Rattle.cs_model.specs.End.{is_done, plus, given}

both : {A : Type 0} → false ≡ true → A
both e = absurd (cc)

-- ---- an event does the same whatever events are left

-- the same with these events left
abbrev with_left : List Event → Happened → Happened
with_left es h = record h { state = record { kept = h.state.kept; run = with_events es h.state.run } }

fire_left : (k : Kept) (r : Run) (es fs : List Event) (o : Option Timer) → fire k (with_events es r) o ≡ with_left es (fire k (with_events fs r) o)
fire_left k r es fs None = refl
fire_left k r es fs (Some t) = refl

happen_left : (e : EventKind) (k : Kept) (r : Run) (es fs : List Event) → happen e k (with_events es r) ≡ with_left es (happen e k (with_events fs r))
happen_left (kind.Signal n) k r es fs = refl
happen_left (kind.Clock moment) k r es fs = fire_left k (with_clock moment r) es fs (due_timer (with_clock moment r))
happen_left (kind.Byte b) k r es fs = refl

fire_events : (k : Kept) (r : Run) (es : List Event) (o : Option Timer) → (fire k (with_events es r) o).state.run.events ≡ es
fire_events k r es None = refl
fire_events k r es (Some t) = refl

happen_events : (e : EventKind) (k : Kept) (r : Run) (es : List Event) → (happen e k (with_events es r)).state.run.events ≡ es
happen_events (kind.Signal n) k r es = refl
happen_events (kind.Clock moment) k r es = fire_events k (with_clock moment r) es (due_timer (with_clock moment r))
happen_events (kind.Byte b) k r es = refl

due_of_left : (es fs : List Event) (s : State) → due_of es (record s { run = with_events fs s.run }) ≡ due_of es s
unfolding due_of
due_of_left [] fs s = refl
due_of_left (e ∷ es) fs s = refl

-- ---- the states behind events

some_is : {x y : Kept} → Some x ≡ Some y → x ≡ y
some_is {x} e = ap (λ o. unwrap_or o x) e

event_of : (es : List Event) (s : State) (n : ℕ) (k : Kept) → slice_get (behind_events es s) n ≡ Some k → (due_of (take (suc n) es) s).state.kept ≡ k
unfolding due_of behind_events
event_of [] s n k h = absurd (cc)
event_of (e ∷ es) s n k h = go (λ t m f. event_of es t m k f) (is_due s e) h where
  Earlier : Type 0
  Earlier = (t : State) (m : ℕ) → slice_get (behind_events es t) m ≡ Some k → (due_of (take (suc m) es) t).state.kept ≡ k

  rest : Earlier → (n : ℕ) (h : Happened) → slice_get ((event_passed h).kept ∷ behind_events es (event_passed h)) n ≡ Some k → (due_of (take n es) (event_passed (with_left (take n es) h))).state.kept ≡ k
  rest earlier zero h f = some_is f
  rest earlier (suc n) h f = ap (λ a. a.state.kept) (due_of_left (take (suc n) es) (take (suc n) es) (event_passed h)) ∙ earlier (event_passed h) n f

  done : Earlier → (c : Bool) (h : Happened) → slice_get (if c then (event_passed h).kept ∷ behind_events es (event_passed h) else []) n ≡ Some k → (if c then event_counting (plus h.count (left_count h.state.kept)) (due_of (take n es) (event_passed (with_left (take n es) h))) else with_left (take n es) h).state.kept ≡ k
  done earlier true h f = rest earlier n h f
  done earlier false h f = absurd (cc)

  go : Earlier → (b : Bool) → slice_get (if b then behind_event (happen e.kind s.kept (with_events es s.run)) (λ t. t.kept ∷ behind_events es t) else []) n ≡ Some k → (if b then and_then_due (happen e.kind s.kept (with_events (take n es) s.run)) (λ t. due_of (take n es) t) else happened (record s { run = with_events (e ∷ take n es) s.run })).state.kept ≡ k
  go earlier true f =
      ap (λ h. (and_then_due h (λ t. due_of (take n es) t)).state.kept) (happen_left e.kind s.kept s.run (take n es) es)
      ∙ done earlier (is_done (happen e.kind s.kept (with_events es s.run)).end) (happen e.kind s.kept (with_events es s.run)) f
  go earlier false f = absurd (cc)

-- one entry for each event that is done, none for the one that stops, and the others are left
count_of : (es : List Event) (s : State) → length (behind_events es s) + ((if is_done (due_of es s).end then 0 else 1) + length (due_of es s).state.run.events) ≡ length es
unfolding due_of behind_events
count_of [] s = refl
count_of (e ∷ es) s = go (λ t. count_of es t) (is_due s e) where
  Earlier : Type 0
  Earlier = (t : State) → length (behind_events es t) + ((if is_done (due_of es t).end then 0 else 1) + length (due_of es t).state.run.events) ≡ length es

  done : Earlier → (c : Bool) (h : Happened) → is_done h.end ≡ c → h.state.run.events ≡ es → length (if c then (event_passed h).kept ∷ behind_events es (event_passed h) else []) + ((if is_done (if c then event_counting (plus h.count (left_count h.state.kept)) (due_of es (event_passed h)) else h).end then 0 else 1) + length (if c then event_counting (plus h.count (left_count h.state.kept)) (due_of es (event_passed h)) else h).state.run.events) ≡ suc (length es)
  done earlier true h d f = omega (arith, earlier (event_passed h))
  done earlier false h d f = subst (λ c. 0 + ((if c then 0 else 1) + length h.state.run.events) ≡ suc (length es)) (sym d) (omega (arith, ap length f))

  go : Earlier → (b : Bool) → length (if b then behind_event (happen e.kind s.kept (with_events es s.run)) (λ t. t.kept ∷ behind_events es t) else []) + ((if is_done (if b then and_then_due (happen e.kind s.kept (with_events es s.run)) (λ t. due_of es t) else happened (record s { run = with_events (e ∷ es) s.run })).end then 0 else 1) + length (if b then and_then_due (happen e.kind s.kept (with_events es s.run)) (λ t. due_of es t) else happened (record s { run = with_events (e ∷ es) s.run })).state.run.events) ≡ suc (length es)
  go earlier true = done earlier (is_done (happen e.kind s.kept (with_events es s.run)).end) (happen e.kind s.kept (with_events es s.run)) refl (happen_events e.kind s.kept s.run es)
  go earlier false = omega arith

last_of : (es : List Event) (s : State) → is_done (due_of es s).end ≡ true → last_state s.kept (behind_events es s) ≡ (due_of es s).state.kept
unfolding due_of behind_events last_state
last_of [] s d = refl
last_of (e ∷ es) s d = go (λ t f. last_of es t f) (is_due s e) d where
  Earlier : Type 0
  Earlier = (t : State) → is_done (due_of es t).end ≡ true → last_state t.kept (behind_events es t) ≡ (due_of es t).state.kept

  done : Earlier → (c : Bool) (h : Happened) → is_done h.end ≡ c → is_done (if c then event_counting (plus h.count (left_count h.state.kept)) (due_of es (event_passed h)) else h).end ≡ true → last_state s.kept (if c then (event_passed h).kept ∷ behind_events es (event_passed h) else []) ≡ (if c then event_counting (plus h.count (left_count h.state.kept)) (due_of es (event_passed h)) else h).state.kept
  done earlier true h g d = earlier (event_passed h) d
  done earlier false h g d = both (sym g ∙ d)

  go : Earlier → (b : Bool) → is_done (if b then and_then_due (happen e.kind s.kept (with_events es s.run)) (λ t. due_of es t) else happened (record s { run = with_events (e ∷ es) s.run })).end ≡ true → last_state s.kept (if b then behind_event (happen e.kind s.kept (with_events es s.run)) (λ t. t.kept ∷ behind_events es t) else []) ≡ (if b then and_then_due (happen e.kind s.kept (with_events es s.run)) (λ t. due_of es t) else happened (record s { run = with_events (e ∷ es) s.run })).state.kept
  go earlier true d = done earlier (is_done (happen e.kind s.kept (with_events es s.run)).end) (happen e.kind s.kept (with_events es s.run)) refl d
  go earlier false d = refl

-- ---- before a bytecode

event_at : (s : State) (n : ℕ) (k : Kept) → slice_get (before_bytecode s) n ≡ Some k → (due (first_events (suc n) s)).state.kept ≡ k
unfolding due before_bytecode
event_at s n k h = go (nat_lt birth_limit s.kept.rest.next) h where
  go : (b : Bool) → slice_get (if b then [] else behind_events s.run.events s) n ≡ Some k → (due_of (take (suc n) s.run.events) (first_events (suc n) s)).state.kept ≡ k
  go true f = absurd (cc)
  go false f = ap (λ a. a.state.kept) (due_of_left (take (suc n) s.run.events) (take (suc n) s.run.events) s) ∙ event_of s.run.events s n k f

pub event_is : (s : State) (n : ℕ) (k : Kept) → slice_get (before_bytecode s) n ≡ Some k → (due (first_events (n + 1) s)).state.kept ≡ k
event_is s n k h = subst (λ j. (due (first_events j s)).state.kept ≡ k) next (event_at s n k h) where
  next : suc n ≡ n + 1
  next = omega arith

pub none_come : (s : State) → nat_lt birth_limit s.kept.rest.next ≡ true → before_bytecode s ≡ []
unfolding before_bytecode
none_come s e = ap (λ b. if b then [] else behind_events s.run.events s) e

pub count_is : (s : State) → nat_lt birth_limit s.kept.rest.next ≡ false → length (before_bytecode s) + ((if is_done (due s).end then 0 else 1) + length (due s).state.run.events) ≡ length s.run.events
unfolding due before_bytecode
count_is s e = ap (λ b. length (if b then [] else behind_events s.run.events s) + ((if is_done (due_of s.run.events s).end then 0 else 1) + length (due_of s.run.events s).state.run.events)) e ∙ count_of s.run.events s

pub last_is : (s : State) → nat_lt birth_limit s.kept.rest.next ≡ false → is_done (due s).end ≡ true → last_state s.kept (before_bytecode s) ≡ (due s).state.kept
unfolding due before_bytecode
last_is s e d = ap (λ b. last_state s.kept (if b then [] else behind_events s.run.events s)) e ∙ last_of s.run.events s d

-- ---- behind each step

last_behind : (k : Kept) (xs : List Kept) (y : Kept) → last_state k (xs ++ y ∷ []) ≡ y
unfolding last_state
last_behind k [] y = refl
last_behind k (x ∷ xs) y = last_behind x xs y

last_joined : (k : Kept) (xs ys : List Kept) → last_state k (xs ++ ys) ≡ last_state (last_state k xs) ys
unfolding last_state
last_joined k [] ys = refl
last_joined k (x ∷ xs) ys = last_joined x xs ys

pub states_end : (n : ℕ) (s : State) → last_state s.kept (states_of n s) ≡ (run n s).state.kept
unfolding last_state states_of run_by step_after
states_end zero s = refl
states_end (suc n) s = last_joined s.kept (states_of n s) _ ∙ go (states_end n s) (run n s).ending where
  go : last_state s.kept (states_of n s) ≡ (run n s).state.kept → (e : Ending) → last_state (last_state s.kept (states_of n s)) (given (if goes_on e then Some (step (run n s).state) else None) [] (λ t. before_bytecode (run n s).state ++ t.state.kept ∷ [])) ≡ (step.go_on step (run n s) e).state.kept
  go h Steps = last_behind _ (before_bytecode (run n s).state) _
  go h Quit = h
  go h Idle = h
  go h (Stopped reason) = h
