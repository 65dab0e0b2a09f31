-- What the primitives that see the whole state lead to.
use Rattle.std.proofs.Common.{◌≡◌, ℕ, ℤ, int_lt, ◌==◌, ◌||◌, Bool, true, false, refl, sym, ap, subst, ◌∙◌, Option, Some, None, List, [], ◌∷◌, unwrap_or, option_map, ◌⊎◌, inl, inr, if◌then◌else◌}
use Rattle.cs_model.specs.Ref.{Ref, Small, Char, small_of}
use Rattle.cs_model.specs.Ref as ref
use Rattle.cs_model.specs.State.{Kept, Run, State, Timer, IsHeld, is_nil, active_process}
use Rattle.cs_model.specs.Operation.{store_of, nil_of}
use Rattle.cs_model.specs.Number.{boolean}
use Rattle.cs_model.specs.PrimAnswer.{receiver, argument}
use Rattle.cs_model.specs.PrimProcess.{is_semaphore}
use Rattle.cs_model.specs.PrimRun.{Result, result, fails, counted, forget, forgotten, snapshot_prim, quit_prim, clock_prim, arm, timer_prim, bytes_to_write, written, write_prim, with_input, read_from, read_prim}
use Rattle.cs_model.specs.End.{End, Out, out, given}
use Rattle.cs_model.specs.End as ends
use Rattle.cs_model.specs.Keeps.{Keeps}
use Rattle.cs_model.proofs.Same.{holds}
use Rattle.cs_model.proofs.Answering.{argument_same}
use Rattle.cs_model.proofs.Leading.{Leads}
use Rattle.cs_model.proofs.LeadCombining.{Runs, Ready, Goes, goes_itself, ready_behind, runs_settled, Leading, out_leading, fail_leading, behind, weaker}
use Rattle.cs_model.proofs.LeadOperation.{store_goes}
use Rattle.cs_model.proofs.LeadSwitch.{runs_awake, awake_settled, signal_leading}
use Rattle.cs_model.proofs.LeadAnswer.{answer_goes, answer_leading, answer_behind}
use Rattle.cs_model.proofs.LeadProcess.{answered_leading}

-- ---- results

-- A timer that is armed is the one from before, or its semaphore is there.
pub record Led (k : Kept) (r : Run) (a : Result) : Type 0 where
  pub out : Leading Runs k a.out
  pub timer : (t : Timer) → a.run.timer ≡ Some t → (r.timer ≡ Some t) ⊎ IsHeld a.out.state t.semaphore

pub result_led : {k : Kept} {o : Out} (r q : Run) → q.timer ≡ r.timer → Leading Runs k o → Led k r (result o q)
result_led r q e h = record { out = h; timer = λ t f. inl (sym e ∙ f) }

-- the timer is off
off_led : {k : Kept} {o : Out} (r q : Run) → q.timer ≡ None → Leading Runs k o → Led k r (result o q)
off_led r q e h = record { out = h; timer = λ t f. absurd (none_some t (sym e ∙ f)) } where
  none_some : (t : Timer) → None ≡ Some t → ⊥
  none_some t f = cc

pub if_led : {k : Kept} {r : Run} {a c : Result} (b : Bool) → (b ≡ true → Led k r a) → (b ≡ false → Led k r c) → Led k r (if b then a else c)
if_led true h g = h refl
if_led false h g = g refl

pub given_led : {k : Kept} {r : Run} {A : Type 0} (o : Option A) {a : Result} (f : A → Result) → Led k r a → ((x : A) → o ≡ Some x → Led k r (f x)) → Led k r (given o a f)
given_led None f h g = h
given_led (Some x) f h g = g x refl

fails_led : (s : State) → Ready s.kept → Led s.kept s.run (fails s)
fails_led s r = result_led s.run s.run refl (fail_leading r)

counted_led : {a : Result} (s : State) (wanted args : ℕ) → Ready s.kept → Led s.kept s.run a → Led s.kept s.run (counted s wanted args a)
counted_led s wanted args r h = if_led (wanted == args) (λ e. h) (λ e. fails_led s r)

-- ---- snapshots and the end

forget_goes : {k : Kept} (o : Option Ref) → Ready k → Goes k (forget k o)
forget_goes None r = goes_itself r
forget_goes {k} (Some p) r = chosen (is_nil k p) where
  chosen : (b : Bool) → Goes k (if b then k else store_of k p 1 (nil_of k))
  chosen true = goes_itself r
  chosen false = store_goes p 1 (nil_of k) r

pub forgotten_goes : {k : Kept} → Ready k → Goes k (forgotten k)
unfolding forgotten
forgotten_goes {k} r = forget_goes (active_process k) r

pub snapshot_led : (s : State) (args : ℕ) → Ready s.kept → Led s.kept s.run (snapshot_prim s args)
unfolding snapshot_prim
snapshot_led s args r =
    counted_led s 0 args r (if_led s.run.snapping
    (λ e. let a = answer_behind {P = Runs} 0 (boolean s.kept false) (forgotten_goes r) in
    record { out = record { leads = a.leads; fits = runs_settled (answer_goes 0 (boolean s.kept false) (ready_behind (forgotten_goes r))).runs }; timer = λ t f. inl f })
    (λ e. fails_led s r))

pub quit_led : (s : State) (args : ℕ) → Ready s.kept → Led s.kept s.run (quit_prim s args)
unfolding quit_prim
quit_led s args r =
    counted_led s 0 args r (let g = answer_goes 0 (receiver s.kept 0) r in result_led s.run s.run refl (record { leads = g.leads; fits = runs_settled g.runs }))

-- ---- the clock and the timer

pub clock_led : (s : State) (args : ℕ) → Ready s.kept → Led s.kept s.run (clock_prim s args)
unfolding clock_prim
clock_led s args r = counted_led s 0 args r (result_led s.run s.run refl (answer_leading 0 _ r))

-- what was there still is
pub held_on : {k t : Kept} → Leads k t → (x : Ref) → IsHeld k x → IsHeld t x
held_on l (Small a) h = tt
held_on l (Char c) h = tt
held_on l (ref.Obj i) h = (l.stays.at i).held h

arm_led : (s : State) (k : Kept) (semaphore : Ref) (moment : ℤ) → Goes s.kept k → IsHeld k semaphore → Led s.kept s.run (arm s k semaphore moment)
arm_led s k semaphore moment g held =
    if_led (is_nil s.kept semaphore) (λ e. off_led s.run _ refl (out_leading ends.Answer g.leads (runs_settled g.runs))) (λ e.
    if_led (int_lt s.run.clock moment)
    (λ f. record { out = out_leading ends.Answer g.leads (runs_settled g.runs); timer = λ t h. inr (subst (λ x. IsHeld k x) (same_semaphore t h) held) })
    (λ f. off_led s.run _ refl (behind g.leads (answered_leading (weaker (λ u a. awake_settled a) (signal_leading g.leads.sound (runs_awake g.runs) semaphore))))))
  where
    same_semaphore : (t : Timer) → Some (record { semaphore = semaphore; moment = moment }) ≡ Some t → semaphore ≡ t.semaphore
    same_semaphore t h = ap (λ o. unwrap_or (option_map (λ u. u.semaphore) o) semaphore) h

pub timer_led : (s : State) (args : ℕ) → Keeps s.kept s.kept → Ready s.kept → Led s.kept s.run (timer_prim s args)
unfolding timer_prim
timer_led s args k r =
    counted_led s 2 args r (given_led (small_of (argument s.kept 2 1)) _ (fails_led s r) (λ moment e.
    if_led (is_nil s.kept (argument s.kept 2 0) || is_semaphore s.kept (argument s.kept 2 0))
    (λ f. let g = answer_goes 2 (receiver s.kept 2) r in arm_led s _ (argument s.kept 2 0) moment g (held_on g.leads _ (holds (argument_same k 2 0))))
    (λ f. fails_led s r)))

-- ---- output and input

pub write_led : (s : State) (args : ℕ) → Ready s.kept → Led s.kept s.run (write_prim s args)
unfolding write_prim
write_led s args r =
    counted_led s 1 args r (given_led (bytes_to_write s.kept (argument s.kept 1 0)) _ (fails_led s r) (λ bytes e. result_led s.run (written bytes s.run) refl (answer_leading 1 _ r)))

read_from_led : (s : State) (input : List ℕ) → Ready s.kept → Led s.kept s.run (read_from s input)
read_from_led s [] r = result_led s.run s.run refl (answer_leading 0 _ r)
read_from_led s (b ∷ input) r = result_led s.run (with_input input s.run) refl (answer_leading 0 _ r)

pub read_led : (s : State) (args : ℕ) → Ready s.kept → Led s.kept s.run (read_prim s args)
unfolding read_prim
read_led s args r = counted_led s 0 args r (read_from_led s s.run.input r)
