-- A step does its bytecode in the state behind the events that are due, if it comes to that.
use Rattle.std.proofs.Common.{◌≡◌, ◌≢◌, ◌||◌, not, Bool, true, false, ap, Option, Some, None, List, [], ◌∷◌, nat_lt, unwrap_or, if◌then◌else◌}
use Rattle.cs_model.specs.declared.stop.Stop.TheVariants as why
use Rattle.cs_model.specs.declared.event.Event.{Event}
use Rattle.cs_model.specs.declared.event.EventKind.{EventKind}
use Rattle.cs_model.specs.declared.event.EventKind.TheVariants as kind
use Rattle.cs_model.specs.State.{Kept, Run, State, Timer}
use Rattle.cs_model.specs.Due.{Happened, happened, is_idle, due_timer, fire, with_clock, happen, with_events, is_due, left_count, event_counting, event_passed, and_then_due, due_of, due}
use Rattle.cs_model.specs.Step.{Ending, Steps, Quit, Idle, Stopped, stops, birth_limit, idle, add_count, finish_of, ready, stop_in, after_due, bytecode, step}
use Rattle.cs_model.specs.Shallow.{bytecode_state}
use Rattle.cs_model.specs.End.{End, no_count, is_done, plus, given}
use Rattle.cs_model.specs.End as ends
use Rattle.cs_model.proofs.LeadEnding.{IsPlain, signal_ends, external_ends}

-- ---- what is due is done, or it stops

fire_plain : (k : Kept) (r : Run) (o : Option Timer) → IsPlain (fire k r o).end
fire_plain k r None = tt
fire_plain k r (Some t) = (signal_ends k t.semaphore).plain

happen_plain : (e : EventKind) (k : Kept) (r : Run) → IsPlain (happen e k r).end
happen_plain (kind.Signal n) k r = (external_ends k n).plain
happen_plain (kind.Clock moment) k r = fire_plain k (with_clock moment r) (due_timer (with_clock moment r))
happen_plain (kind.Byte b) k r = tt

due_of_plain : (es : List Event) (s : State) → IsPlain (due_of es s).end
unfolding due_of
due_of_plain [] s = tt
due_of_plain (e ∷ es) s = go (λ t. due_of_plain es t) (is_due s e) where
  Earlier : Type 0
  Earlier = (t : State) → IsPlain (due_of es t).end

  done : Earlier → (c : Bool) (h : Happened) → IsPlain h.end → IsPlain (if c then event_counting (plus h.count (left_count h.state.kept)) (due_of es (event_passed h)) else h).end
  done earlier true h p = earlier (event_passed h)
  done earlier false h p = p

  go : Earlier → (b : Bool) → IsPlain (if b then and_then_due (happen e.kind s.kept (with_events es s.run)) (λ t. due_of es t) else happened (record s { run = with_events (e ∷ es) s.run })).end
  go earlier true = done earlier (is_done (happen e.kind s.kept (with_events es s.run)).end) (happen e.kind s.kept (with_events es s.run)) (happen_plain e.kind s.kept (with_events es s.run))
  go earlier false = tt

due_plain : (s : State) → IsPlain (due s).end
unfolding due
due_plain s = due_of_plain s.run.events s

-- ---- the bytecode of a step

some_is : {x y : State} → Some x ≡ Some y → x ≡ y
some_is {x} e = ap (λ o. unwrap_or o x) e

pub bytecode_done : (s b : State) → bytecode_state s ≡ Some b → step s ≡ add_count (due s).count (finish_of s (bytecode b))
unfolding step
bytecode_done s b e = go (nat_lt birth_limit s.kept.rest.next) (due s) e where
  awake : (c : Bool) (h : Happened) → (if c then None else Some h.state) ≡ Some b → (if c then idle h else add_count h.count (finish_of s (bytecode h.state))) ≡ add_count h.count (finish_of s (bytecode b))
  awake true h f = absurd (cc)
  awake false h f = ap (λ t. add_count h.count (finish_of s (bytecode t))) (some_is f)

  done : (g : End) (h : Happened) → (if not (is_done g) || is_idle h.state.kept then None else Some h.state) ≡ Some b → given (stop_in g) (ready s h) (λ reason. stops s h.count reason) ≡ add_count h.count (finish_of s (bytecode b))
  done ends.Done h f = awake (is_idle h.state.kept) h f
  done (ends.Send selector args above) h f = absurd (cc)
  done (ends.Return value local) h f = absurd (cc)
  done ends.Entered h f = absurd (cc)
  done (ends.Primitive method number) h f = absurd (cc)
  done (ends.Call special args) h f = absurd (cc)
  done ends.Answer h f = absurd (cc)
  done ends.Fail h f = absurd (cc)
  done ends.Quit h f = absurd (cc)
  done ends.Snapshot h f = absurd (cc)
  done (ends.Stopped reason) h f = absurd (cc)

  go : (c : Bool) (h : Happened) → (if c || not (is_done h.end) || is_idle h.state.kept then None else Some h.state) ≡ Some b → (if c then stops s no_count why.BirthLimit else after_due s h) ≡ add_count h.count (finish_of s (bytecode b))
  go true h f = absurd (cc)
  go false h f = done h.end h f

-- an ending at which no bytecode was completed
abbrev pub IsUndone : Ending → Type 0
IsUndone Steps = ⊥
IsUndone Quit = ⊥
IsUndone Idle = Unit {0}
IsUndone (Stopped reason) = Unit {0}

undone : (s : State) → bytecode_state s ≡ None → IsUndone (step s).ending
unfolding step
undone s e = go (nat_lt birth_limit s.kept.rest.next) (due s) (due_plain s) e where
  awake : (c : Bool) (h : Happened) → (if c then None else Some h.state) ≡ None → IsUndone (if c then idle h else add_count h.count (finish_of s (bytecode h.state))).ending
  awake true h f = tt
  awake false h f = absurd (cc)

  done : (g : End) (h : Happened) → IsPlain g → (if not (is_done g) || is_idle h.state.kept then None else Some h.state) ≡ None → IsUndone (given (stop_in g) (ready s h) (λ reason. stops s h.count reason)).ending
  done ends.Done h p f = awake (is_idle h.state.kept) h f
  done (ends.Send selector args above) h p f = absurd (p)
  done (ends.Return value local) h p f = absurd (p)
  done ends.Entered h p f = absurd (p)
  done (ends.Primitive method number) h p f = absurd (p)
  done (ends.Call special args) h p f = absurd (p)
  done ends.Answer h p f = absurd (p)
  done ends.Fail h p f = absurd (p)
  done ends.Quit h p f = absurd (p)
  done ends.Snapshot h p f = absurd (p)
  done (ends.Stopped reason) h p f = tt

  go : (c : Bool) (h : Happened) → IsPlain h.end → (if c || not (is_done h.end) || is_idle h.state.kept then None else Some h.state) ≡ None → IsUndone (if c then stops s no_count why.BirthLimit else after_due s h).ending
  go true h p f = tt
  go false h p f = done h.end h p f

neither : (e : Ending) → IsUndone e → (e ≢ Steps) × (e ≢ Quit)
neither Steps u = absurd (u)
neither Quit u = absurd (u)
neither Idle u = (λ e. absurd (cc), λ e. absurd (cc))
neither (Stopped reason) u = (λ e. absurd (cc), λ e. absurd (cc))

pub bytecode_undone : (s : State) → bytecode_state s ≡ None → ((step s).ending ≢ Steps) × ((step s).ending ≢ Quit)
bytecode_undone s e = neither (step s).ending (undone s e)
