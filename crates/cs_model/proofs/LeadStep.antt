-- A step of a valid state gives a valid state, and so does a run.
use Rattle.std.proofs.Common.{◌≡◌, ◌≢◌, ◌≤◌, ℕ, zero, suc, ◌==◌, ◌&&◌, not, Bool, true, false, refl, sym, ap, ◌∙◌, Option, Some, None, IsSome, is_some, inl, inr, nat_lt, arith, if◌then◌else◌}
use Rattle.std.proofs.lemmas.Bool.{cases_lt}
use Rattle.std.proofs.lemmas.Bool.Decides.{nat_tests}
use Rattle.cs_model.specs.declared.stop.Stop.{Stop}
use Rattle.cs_model.specs.declared.stop.Stop.TheVariants as why
use Rattle.cs_model.specs.Ref.{Ref, Small, Char, same_ref}
use Rattle.cs_model.specs.Ref as ref
use Rattle.cs_model.specs.State.{Kept, Run, State, Timer, IsHeld, IsValid, IsProcess, object_at, slots_of, special_at, scheduler_of, active_process, is_nil}
use Rattle.cs_model.specs.PrimRun.{Result}
use Rattle.cs_model.specs.Due.{Happened, is_idle, is_idle_at, without_context, due}
use Rattle.cs_model.specs.End.{End, Count, no_count, is_done, given}
use Rattle.cs_model.specs.End as ends
use Rattle.cs_model.specs.Step.{is_ref, is_process, process_fault, shape_fault, Ending, Steps, Quit, Idle, Stopped, Step, stops, next_step, with_kept, completed, saved_fault, finish, birth_limit, add_count, ready, stop_in, after_due, step, bytecode, Ran, go_on, run_by, run}
use Rattle.cs_model.specs.Built.{is_built, built_step, built_run}
use Rattle.cs_model.specs.Keeps.{Keeps}
use Rattle.cs_model.proofs.Same.{same}
use Rattle.cs_model.proofs.Happening.{without_context_moved, due_alike}
use Rattle.cs_model.proofs.Stepping.{bytecode_of_state}
use Rattle.cs_model.proofs.Leading.{Sound, Leads, leads_itself, leads_trans}
use Rattle.cs_model.proofs.LeadCombining.{Runs, Settled, runs_settled, EndFits}
use Rattle.cs_model.proofs.LeadInstance.{and_true}
use Rattle.cs_model.proofs.LeadRun.{Led, held_on}
use Rattle.cs_model.proofs.LeadEnding.{IsPlain}
use Rattle.cs_model.proofs.LeadEvent.{Between, without_left, Dues, due_dues}
use Rattle.cs_model.proofs.LeadFollowing.{bytecode_led}

-- ---- what a valid state is within a step

pub valid_closed : {s : State} → IsValid s → Keeps s.kept s.kept
valid_closed v = record { same = λ i o h. h; whole = λ i o h plain. h; closed = v.held; roots = v.roots; rest = refl }

pub valid_sound : {s : State} → IsValid s → Sound s.kept
valid_sound v = record {
  below = v.below;
  pcs = v.pcs;
  indices = v.indices;
  table = λ index i e. record { there = v.roots.classes index i e; plain = v.table index i e };
  hidden = v.hidden;
  bare = v.bare;
  live = v.live;
}

idle_by : (k : Kept) (p : Ref) → active_process k ≡ Some p → is_idle k ≡ is_nil k p
unfolding is_idle
idle_by k p e = ap (λ o. is_idle_at k o) e

-- the active process, where there is one
process_there : (k : Kept) → IsSome (active_process k) → (p : Ref) × (active_process k ≡ Some p)
process_there k h = go (active_process k) h where
  go : (o : Option Ref) → IsSome o → (p : Ref) × (o ≡ Some p)
  go None g = absurd (cc)
  go (Some p) g = (p, refl)

pub valid_between : {s : State} → IsValid s → Between s.kept
valid_between {s} v =
    let p = process_there s.kept v.scheduler in
    let i = idle_by s.kept p.0 p.1 in
    record {
      sound = valid_sound v;
      awake = record { idle = λ e. i ∙ (v.idle p.0 p.1).1 e };
      idle = λ e. (v.idle p.0 p.1).0 (sym i ∙ e);
    }

-- ---- a valid state at the end of a step

both : {A : Type 0} → false ≡ true → A
both e = absurd (cc)

idle_there : (k : Kept) → is_idle k ≡ true → IsSome (active_process k)
unfolding is_idle
idle_there k e = go (active_process k) e where
  go : (o : Option Ref) → is_idle_at k o ≡ true → IsSome o
  go None f = both f
  go (Some p) f = refl

-- with no process active
pub idle_valid : {k : Kept} (q : Run) → Keeps k k → Between k → is_idle k ≡ true → ((t : Timer) → q.timer ≡ Some t → IsHeld k t.semaphore) → IsValid (record { kept = k; run = q })
idle_valid {k} q closed b e timer = record {
  below = b.sound.below;
  held = closed.closed;
  roots = closed.roots;
  timer = timer;
  pcs = b.sound.pcs;
  indices = b.sound.indices;
  table = λ index i f. (b.sound.table index i f).plain;
  hidden = b.sound.hidden;
  bare = b.sound.bare;
  scheduler = idle_there k e;
  process = λ p f n. both (sym n ∙ sym (idle_by k p f) ∙ e);
  idle = λ p f. (λ h. b.idle e, λ h. sym (idle_by k p f) ∙ e);
  live = b.sound.live;
}

-- the active process has its shape
record Shaped (k : Kept) : Type 0 where
  there : IsSome (active_process k)
  process : (p : Ref) → active_process k ≡ Some p → is_nil k p ≡ false → IsProcess k p

not_ref : (k : Kept) (o : Option Ref) (p : Ref) → IsSome (slots_of k 4 p) → not (is_ref o p) ≡ true → o ≢ Some p
unfolding slots_of
not_ref k o (Small a) h n = absurd (cc)
not_ref k o (Char c) h n = absurd (cc)
not_ref k o (ref.Obj i) h n = λ e. both (sym (ap not (ap (λ q. is_ref q (ref.Obj i)) e ∙ itself)) ∙ n) where
  itself : (i == i) ≡ true
  itself = grind (arith, nat_tests)

process_shaped : (k : Kept) (p : Ref) → is_process k p ≡ true → IsProcess k p
process_shaped k p e =
    let outer = and_true (is_some (slots_of k 4 p) && not (is_ref (scheduler_of k) p)) (not (is_ref (special_at k 3) p)) e in
    let inner = and_true (is_some (slots_of k 4 p)) (not (is_ref (scheduler_of k) p)) outer.0 in
    record { slots = inner.0; no_scheduler = not_ref k (scheduler_of k) p inner.0 inner.1; no_link = not_ref k (special_at k 3) p inner.0 outer.1 }

shaped : (k : Kept) → shape_fault k ≡ None → Shaped k
unfolding shape_fault
shaped k e = record { there = there (active_process k) e; process = λ p f n. process_shaped k p (is_one p (is_nil k p) (is_process k p) n (sym (ap (λ o. process_fault k o) f) ∙ e)) } where
  there : (o : Option Ref) → process_fault k o ≡ None → IsSome o
  there None f = absurd (cc)
  there (Some p) f = refl

  is_one : (p : Ref) (b c : Bool) → b ≡ false → (if b then None else if c then None else Some why.BadProcess) ≡ None → c ≡ true
  is_one p true c n f = absurd (cc)
  is_one p false true n f = refl
  is_one p false false n f = absurd (cc)

-- with no context where no process is active
pub ended_valid : {k : Kept} (q : Run) → Keeps k k → Sound k → Settled k → shape_fault k ≡ None → ((t : Timer) → q.timer ≡ Some t → IsHeld k t.semaphore) → IsValid (with_kept (without_context k) q)
ended_valid {k} q closed sound settled fine timer =
    let w = without_left sound in
    let c = (without_context_moved closed).keeps in
    let h = shaped k fine in
    let before : (p : Ref) → active_process (without_context k) ≡ Some p → active_process k ≡ Some p = λ p f. sym w.process ∙ f in
    record {
      below = w.leads.sound.below;
      held = c.closed;
      roots = c.roots;
      timer = λ t e. held_on w.leads t.semaphore (timer t e);
      pcs = w.leads.sound.pcs;
      indices = w.leads.sound.indices;
      table = λ index i f. (w.leads.sound.table index i f).plain;
      hidden = w.leads.sound.hidden;
      bare = w.leads.sound.bare;
      scheduler = ap is_some w.process ∙ h.there;
      process = λ p f n. w.shape p (h.process p (before p f) (ap (λ i. same_ref p (ref.Obj i)) (sym w.leads.nil) ∙ n));
      idle = λ p f. (λ e. w.idle (idle_by (without_context k) p f ∙ e), λ e. (w.settled settled).idle e p f);
      live = w.leads.sound.live;
    }

-- ---- a step

-- what a step of a valid state reaches
pub record Reaches (s : State) (t : State) : Type 0 where
  pub leads : Leads s.kept t.kept
  pub valid : IsValid t

pub itself_reaches : {s : State} → IsValid s → Reaches s s
itself_reaches v = record { leads = leads_itself (valid_sound v); valid = v }

-- what a step gives
pub record Gives (s : State) (t : Step) : Type 0 where
  pub reaches : Reaches s t.state

stops_gives : {s : State} (n : Count) (reason : Stop) → IsValid s → Gives s (stops s n reason)
stops_gives n reason v = record { reaches = itself_reaches v }

-- the result of a bytecode, before the end of the step
record Ends (s : State) (a : Result) : Type 0 where
  leads : Leads s.kept a.out.state
  closed : Keeps a.out.state a.out.state
  timer : (t : Timer) → a.run.timer ≡ Some t → IsHeld a.out.state t.semaphore

given_gives : {s : State} {A : Type 0} (o : Option A) {a : Step} (f : A → Step) → (o ≡ None → Gives s a) → ((x : A) → Gives s (f x)) → Gives s (given o a f)
given_gives None f h g = h refl
given_gives (Some x) f h g = g x

completed_gives : {s : State} {a : Result} (e : Ending) → IsValid s → Ends s a → Settled a.out.state → Gives s (completed s e a)
completed_gives {s} {a} e v r settled =
    given_gives (shape_fault a.out.state) _
    (λ fine. record { reaches = record { leads = leads_trans r.leads (without_left r.leads.sound).leads; valid = ended_valid (next_step a.run) r.closed r.leads.sound settled fine r.timer } })
    (λ reason. stops_gives _ reason v)

finish_gives : {s : State} {a : Result} (e : End) → IsValid s → Ends s a → EndFits Runs a.out.state e → Gives s (finish s a e)
finish_gives ends.Done v r f = completed_gives Steps v r (runs_settled f)
finish_gives (ends.Send selector args above) v r f = completed_gives Steps v r (runs_settled f)
finish_gives (ends.Return value local) v r f = completed_gives Steps v r (runs_settled f)
finish_gives ends.Entered v r f = completed_gives Steps v r f
finish_gives (ends.Primitive method number) v r f = completed_gives Steps v r (runs_settled f.0)
finish_gives (ends.Call special args) v r f = completed_gives Steps v r (runs_settled f)
finish_gives ends.Answer v r f = completed_gives Steps v r f
finish_gives ends.Fail v r f = completed_gives Steps v r (runs_settled f)
finish_gives ends.Quit v r f = completed_gives Quit v r f
finish_gives {a = a} ends.Snapshot v r f = given_gives (saved_fault a.snapshot) _ (λ e. completed_gives Steps v r f) (λ reason. stops_gives _ reason v)
finish_gives (ends.Stopped reason) v r f = stops_gives _ reason v

if_gives : {s : State} (b : Bool) {a c : Step} → (b ≡ true → Gives s a) → Gives s c → Gives s (if b then a else c)
if_gives true h g = h refl
if_gives false h g = g

-- a timer behind the events and the bytecode
timer_there : {s : State} {h : Happened} {a : Result} → IsValid s → Dues s.kept s.run h → Leads s.kept a.out.state → Led h.state.kept h.state.run a → (t : Timer) → a.run.timer ≡ Some t → IsHeld a.out.state t.semaphore
timer_there v d l b t e = elim (b.timer t e) [
  | inl f ↦ held_on l t.semaphore (v.timer t (d.timer t f))
  | inr g ↦ g
]

adds_gives : {s : State} {t : Step} (n : Count) → Gives s t → Gives s (add_count n t)
adds_gives n h = record { reaches = h.reaches }

ready_gives : (s : State) (h : Happened) → IsValid s → Dues s.kept s.run h → Keeps h.state.kept h.state.kept → is_done h.end ≡ true → Gives s (ready s h)
ready_gives s h v d closed done =
    if_gives (is_idle h.state.kept)
    (λ e. record { reaches = record { leads = d.leads; valid = idle_valid h.state.run closed (d.between done) e (λ t f. held_on d.leads t.semaphore (v.timer t (d.timer t f))) } })
    (adds_gives h.count (let b = bytecode_led h.state closed d.leads.sound in
    let twin = bytecode_of_state {s = h.state} {t = h.state} (record { kept = closed; run = refl }) in
    let l = leads_trans d.leads b.out.leads in
    finish_gives {a = bytecode h.state} (bytecode h.state).out.end v (record { leads = l; closed = twin.out.keeps; timer = timer_there v d l b }) b.out.fits))

plain_done : (e : End) → IsPlain e → stop_in e ≡ None → is_done e ≡ true
plain_done ends.Done h f = refl
plain_done (ends.Send selector args above) h f = elim h [ ]
plain_done (ends.Return value local) h f = elim h [ ]
plain_done ends.Entered h f = elim h [ ]
plain_done (ends.Primitive method number) h f = elim h [ ]
plain_done (ends.Call special args) h f = elim h [ ]
plain_done ends.Answer h f = elim h [ ]
plain_done ends.Fail h f = elim h [ ]
plain_done ends.Quit h f = elim h [ ]
plain_done ends.Snapshot h f = elim h [ ]
plain_done (ends.Stopped reason) h f = absurd (cc)

after_due_gives : (s : State) (h : Happened) → IsValid s → Dues s.kept s.run h → Keeps h.state.kept h.state.kept → Gives s (after_due s h)
after_due_gives s h v d closed = given_gives (stop_in h.end) _ (λ e. ready_gives s h v d closed (plain_done h.end d.plain e)) (λ reason. stops_gives _ reason v)

pub step_reaches : (s : State) → IsValid s → Reaches s (step s).state
unfolding step
step_reaches s v =
    (if_gives (nat_lt birth_limit s.kept.rest.next) (λ e. stops_gives no_count why.BirthLimit v)
    (after_due_gives s (due s) v (due_dues s.run (valid_between v)) (due_alike (valid_closed v) (same s.run tt)).state.kept)).reaches

-- ---- a run

abbrev pub KeepsValid : (State → Step) → Type 0
KeepsValid f = (s : State) → IsValid s → Reaches s (f s).state

reaches_trans : {s t u : State} → Reaches s t → Reaches t u → Reaches s u
reaches_trans a b = record { leads = leads_trans a.leads b.leads; valid = b.valid }

go_on_reaches : {s : State} (f : State → Step) (r : Ran) (e : Ending) → KeepsValid f → Reaches s r.state → Reaches s (go_on f r e).state
go_on_reaches f r Steps keeps h = reaches_trans h (keeps r.state h.valid)
go_on_reaches f r Quit keeps h = h
go_on_reaches f r Idle keeps h = h
go_on_reaches f r (Stopped reason) keeps h = h

pub run_by_reaches : (f : State → Step) → KeepsValid f → (n : ℕ) (s : State) → IsValid s → Reaches s (run_by f n s).state
unfolding run_by
run_by_reaches f keeps zero s v = itself_reaches v
run_by_reaches f keeps (suc n) s v = go_on_reaches f (run_by f n s) (run_by f n s).ending keeps (run_by_reaches f keeps n s v)

pub run_reaches : (n : ℕ) (s : State) → IsValid s → Reaches s (run n s).state
run_reaches n s v = run_by_reaches step step_reaches n s v

-- a step that isn't built leaves the state as it was
built_step_reaches : (s : State) → IsValid s → Reaches s (built_step s).state
unfolding built_step
built_step_reaches s v = (if_gives (is_built s) (λ e. record { reaches = step_reaches s v }) (stops_gives no_count why.NotBuilt v)).reaches

pub built_run_reaches : (n : ℕ) (s : State) → IsValid s → Reaches s (built_run n s).state
built_run_reaches n s v = run_by_reaches built_step built_step_reaches n s v

-- ---- births

-- what is new has a birth that isn't below the old next one
pub made_above : {k t : Kept} → Leads k t → (i : ℕ) → object_at k i ≡ None → IsSome (object_at t i) → k.rest.next ≤ i
made_above {k} {t} l i e h = elim (cases_lt i k.rest.next) [
  | inl f ↦ absurd (both (sym (ap is_some (l.fresh i f e)) ∙ h))
  | inr f ↦ f
]
