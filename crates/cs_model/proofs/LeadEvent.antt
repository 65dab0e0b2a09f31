-- What the events that are due lead to.
use Rattle.std.proofs.Common.{◌≡◌, ℕ, ◌&&◌, Bool, true, false, refl, sym, ap, ◌∙◌, Option, Some, None, is_some, List, [], ◌∷◌, if◌then◌else◌}
use Rattle.cs_model.specs.declared.event.Event.{Event}
use Rattle.cs_model.specs.declared.event.EventKind.{EventKind}
use Rattle.cs_model.specs.declared.event.EventKind.TheVariants as kind
use Rattle.cs_model.specs.Ref.{Ref}
use Rattle.cs_model.specs.State.{Kept, Run, State, Timer, active_process, is_nil, IsProcess}
use Rattle.cs_model.specs.Operation.{suspend_of}
use Rattle.cs_model.specs.PrimProcess.{is_semaphore}
use Rattle.cs_model.specs.PrimRun.{with_timer}
use Rattle.cs_model.specs.Due.{external_at, signal_external, due_timer, Happened, happened, with_out, fire, with_clock, add_input, happen, with_events, is_idle_at, is_idle, is_due, without_context, left_count, event_counting, event_passed, and_then_due, due_of, due}
use Rattle.cs_model.specs.End.{Out, is_done, plus}
use Rattle.cs_model.proofs.Leading.{Sound, Leads, leads_itself, leads_trans}
use Rattle.cs_model.proofs.LeadCombining.{Settled, Leading, done_leading, given_leading, if_leading, done_end}
use Rattle.cs_model.proofs.LeadOperation.{suspend_leads}
use Rattle.cs_model.proofs.LeadIdle.{special_suspended, scheduler_suspended, slots_suspended, process_suspended}
use Rattle.cs_model.proofs.LeadSwitch.{Awake, signal_leading}
use Rattle.cs_model.proofs.LeadEnding.{IsPlain, Ends, signal_ends, external_ends}

-- ---- one event

pub external_leading : {k : Kept} (n : ℕ) → Sound k → Awake k → Leading Awake k (signal_external k n)
unfolding signal_external
external_leading {k} n s a =
    given_leading (external_at k n) _ (done_leading (leads_itself s) a) (λ x e.
    if_leading (is_semaphore k x) (λ f. signal_leading s a x) (λ f. done_leading (leads_itself s) a))

-- An event leaves what leads on, in which no process is active where no context is; and no timer but the one from before is on.
pub record Happens (k : Kept) (r : Run) (h : Happened) : Type 0 where
  pub plain : IsPlain h.end
  pub leads : Leads k h.state.kept
  pub awake : is_done h.end ≡ true → Awake h.state.kept
  pub timer : (t : Timer) → h.state.run.timer ≡ Some t → r.timer ≡ Some t

nothing_happens : {k : Kept} (r q : Run) → Sound k → Awake k → q.timer ≡ r.timer → Happens k r (happened (record { kept = k; run = q }))
nothing_happens r q s a e = record { plain = tt; leads = leads_itself s; awake = λ d. a; timer = λ t f. sym e ∙ f }

out_happens : {k : Kept} {o : Out} (r q : Run) → Ends o → Leading Awake k o → ((t : Timer) → q.timer ≡ Some t → r.timer ≡ Some t) → Happens k r (with_out q o)
out_happens {o = o} r q p h e = record { plain = p.plain; leads = h.leads; awake = λ d. done_end Awake o.state o.end d h.fits; timer = e }

fire_happens : {k : Kept} (r q : Run) (o : Option Timer) → Sound k → Awake k → q.timer ≡ r.timer → Happens k r (fire k q o)
fire_happens r q None s a e = nothing_happens r q s a e
fire_happens r q (Some t) s a e = out_happens r (with_timer None q) (signal_ends _ t.semaphore) (signal_leading s a t.semaphore) (λ u f. absurd (cc))

-- the events that are left say nothing of the timer
less_events : {k : Kept} (es : List Event) (r : Run) (h : Happened) → Happens k (with_events es r) h → Happens k r h
less_events es r h a = record { plain = a.plain; leads = a.leads; awake = a.awake; timer = a.timer }

happen_happens : {k : Kept} (e : EventKind) (r : Run) → Sound k → Awake k → Happens k r (happen e k r)
happen_happens (kind.Signal n) r s a = out_happens r r (external_ends _ n) (external_leading n s a) (λ t f. f)
happen_happens (kind.Clock moment) r s a = fire_happens r (with_clock moment r) (due_timer (with_clock moment r)) s a refl
happen_happens (kind.Byte b) r s a = nothing_happens r (add_input b r) s a refl

-- ---- with no process active no context is

idle_suspended : (k : Kept) → is_idle (suspend_of k) ≡ is_idle k
unfolding is_idle suspend_of
idle_suspended k = ap (λ o. is_idle_at (suspend_of k) o) (process_suspended k) ∙ same_nil (active_process k) where
  same_nil : (o : Option Ref) → is_idle_at (suspend_of k) o ≡ is_idle_at k o
  same_nil None = refl
  same_nil (Some p) = refl

-- between two events: a context is active exactly where a process is
pub record Between (k : Kept) : Type 0 where
  pub sound : Sound k
  pub awake : Awake k
  pub idle : is_idle k ≡ true → k.rest.active ≡ None

-- with no context where no process is
pub record Left (k t : Kept) : Type 0 where
  pub leads : Leads k t
  pub process : active_process t ≡ active_process k
  pub idle : is_idle t ≡ true → t.rest.active ≡ None
  pub awake : Awake k → Awake t
  pub settled : Settled k → Settled t
  pub shape : (p : Ref) → IsProcess k p → IsProcess t p

both : false ≡ true → ⊥
both h = cc

no_active : (o : Option ℕ) → is_some o ≡ false → o ≡ None
no_active None h = refl
no_active (Some i) h = absurd (cc)

idle_process : (k : Kept) (p : Ref) → is_idle k ≡ true → active_process k ≡ Some p → is_nil (suspend_of k) p ≡ true
unfolding is_idle suspend_of
idle_process k p e f = sym (ap (λ o. is_idle_at k o) f) ∙ e

process_kept : (k : Kept) (p : Ref) → IsProcess k p → IsProcess (suspend_of k) p
process_kept k p h = record {
  slots = ap is_some (slots_suspended k 4 p) ∙ h.slots;
  no_scheduler = λ e. h.no_scheduler (sym (scheduler_suspended k) ∙ e);
  no_link = λ e. h.no_link (sym (special_suspended k) ∙ e);
}

pub without_left : {k : Kept} → Sound k → Left k (without_context k)
unfolding suspend_of
without_left {k} s = go (is_idle k) refl (is_some k.rest.active) refl where
  go : (b : Bool) → is_idle k ≡ b → (c : Bool) → is_some k.rest.active ≡ c → Left k (if b && c then suspend_of k else k)
  go true e true f = record { leads = suspend_leads s; process = process_suspended k; idle = λ h. refl; awake = λ a. record { idle = λ h. idle_suspended k ∙ e }; settled = λ a. record { idle = λ h p f. idle_process k p e (sym (process_suspended k) ∙ f) }; shape = λ p h. process_kept k p h }
  go true e false f = record { leads = leads_itself s; process = refl; idle = λ h. no_active k.rest.active f; awake = λ a. a; settled = λ a. a; shape = λ p h. h }
  go false e c f = record { leads = leads_itself s; process = refl; idle = λ h. absurd (both (sym e ∙ h)); awake = λ a. a; settled = λ a. a; shape = λ p h. h }

-- ---- all that are due

-- the same of all that are due; what they leave is between two events
pub record Dues (k : Kept) (r : Run) (h : Happened) : Type 0 where
  pub plain : IsPlain h.end
  pub leads : Leads k h.state.kept
  pub between : is_done h.end ≡ true → Between h.state.kept
  pub timer : (t : Timer) → h.state.run.timer ≡ Some t → r.timer ≡ Some t

none_due : {k : Kept} (r q : Run) → Between k → q.timer ≡ r.timer → Dues k r (happened (record { kept = k; run = q }))
none_due r q b e = record { plain = tt; leads = leads_itself b.sound; between = λ d. b; timer = λ t f. sym e ∙ f }

if_due : {k : Kept} {r : Run} {a c : Happened} (b : Bool) → Dues k r a → Dues k r c → Dues k r (if b then a else c)
if_due true h g = h
if_due false h g = g

go_on_dues : {k : Kept} (r : Run) (h : Happened) (f : State → Happened) → Happens k r h → ((t : Kept) → Between t → Dues t h.state.run (f (record { kept = t; run = h.state.run }))) → Dues k r (and_then_due h f)
go_on_dues {k} r h f a next = go (is_done h.end) refl where
  go : (b : Bool) → is_done h.end ≡ b → Dues k r (if b then event_counting (plus h.count (left_count h.state.kept)) (f (event_passed h)) else h)
  go true e =
      let w = without_left a.leads.sound in
      let n = next (without_context h.state.kept) (record { sound = w.leads.sound; awake = w.awake (a.awake e); idle = w.idle }) in
      record { plain = n.plain; leads = leads_trans a.leads (leads_trans w.leads n.leads); between = n.between; timer = λ t g. a.timer t (n.timer t g) }
  go false e = record { plain = a.plain; leads = a.leads; between = λ d. absurd (both (sym e ∙ d)); timer = a.timer }

due_of_dues : (es : List Event) {k : Kept} (r : Run) → Between k → Dues k r (due_of es (record { kept = k; run = r }))
unfolding due_of
due_of_dues [] r b = none_due r (with_events [] r) b refl
due_of_dues (e ∷ es) {k} r b =
    if_due (is_due (record { kept = k; run = r }) e)
    (go_on_dues r (happen e.kind k (with_events es r)) (λ t. due_of es t) (less_events es r _ (happen_happens e.kind (with_events es r) b.sound b.awake))
    (λ t c. due_of_dues es (happen e.kind k (with_events es r)).state.run c))
    (none_due r (with_events (e ∷ es) r) b refl)

pub due_dues : {k : Kept} (r : Run) → Between k → Dues k r (due (record { kept = k; run = r }))
unfolding due
due_dues r b = due_of_dues r.events r b
