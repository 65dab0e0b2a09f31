-- What the primitives on processes and semaphores lead to.
use Rattle.std.proofs.Common.{◌≡◌, ℕ, Bool, true, false, refl, if◌then◌else◌}
use Rattle.cs_model.specs.declared.stop.Stop.TheVariants as why
use Rattle.cs_model.specs.Ref.{Ref, same_ref}
use Rattle.cs_model.specs.State.{Kept, active_process}
use Rattle.cs_model.specs.Operation.{nil_of}
use Rattle.cs_model.specs.Process.{process_slots, suspended_context, my_list, slot_or_none}
use Rattle.cs_model.specs.PrimAnswer.{answer, receiver}
use Rattle.cs_model.specs.PrimProcess.{is_semaphore, answered, signal_prim, wait_prim, is_suspended, resume_prim, leave_and_answer, suspend_prim, yield_prim}
use Rattle.cs_model.specs.End.{End, Out, is_done, and_then}
use Rattle.cs_model.specs.End as ends
use Rattle.cs_model.proofs.LeadCombining.{Runs, Ready, Settled, ready_behind, Leading, fail_leading, stop_leading, behind, given_leading, if_leading, weaker, settled_leading, done_end, other_end, and_then_goes}
use Rattle.cs_model.proofs.LeadSwitch.{runs_awake, awake_settled, signal_leading, wait_leading, resume_leading, suspend_active_leading, suspend_other_leading, give_way_leading}
use Rattle.cs_model.proofs.LeadAnswer.{answer_goes, answer_leading, with_count_leading}

pub answered_leading : {P : Kept → Type 0} {k : Kept} {o : Out} → Leading Settled k o → Leading P k (answered o)
unfolding answered
answered_leading {P} {k} {o} h = go (is_done o.end) refl where
  go : (b : Bool) → is_done o.end ≡ b → Leading P k (if b then record o { end = ends.Answer } else o)
  go true e = record { leads = h.leads; fits = done_end Settled o.state o.end e h.fits }
  go false e = record { leads = h.leads; fits = other_end Settled P o.state o.end e h.fits }

-- what is done behind an answer
answered_behind : {P : Kept → Type 0} {k : Kept} {o : Out} (args : ℕ) (x : Ref) → Ready k → (Ready (answer k args x).state → Leading Settled (answer k args x).state o) → Leading P k (answered o)
answered_behind args x r h = let g = answer_goes args x r in behind g.leads (answered_leading (h (ready_behind g)))

pub signal_prim_leading : {P : Kept → Type 0} {k : Kept} (args : ℕ) → Ready k → Leading P k (signal_prim k args)
unfolding signal_prim
signal_prim_leading {k = k} args r =
    with_count_leading 0 args r (if_leading (is_semaphore k (receiver k 0))
    (λ e. answered_behind 0 (receiver k 0) r (λ t. weaker (λ u a. awake_settled a) (signal_leading t.sound (runs_awake t.runs) (receiver k 0))))
    (λ e. fail_leading r))

pub wait_prim_leading : {P : Kept → Type 0} {k : Kept} (args : ℕ) → Ready k → Leading P k (wait_prim k args)
unfolding wait_prim
wait_prim_leading {k = k} args r =
    with_count_leading 0 args r (if_leading (is_semaphore k (receiver k 0))
    (λ e. answered_behind 0 (receiver k 0) r (λ t. wait_leading t (receiver k 0)))
    (λ e. fail_leading r))

pub resume_prim_leading : {P : Kept → Type 0} {k : Kept} (args : ℕ) → Ready k → Leading P k (resume_prim k args)
unfolding resume_prim
resume_prim_leading {k = k} args r =
    with_count_leading 0 args r (if_leading (is_suspended k (slot_or_none k process_slots suspended_context (receiver k 0)) (slot_or_none k process_slots my_list (receiver k 0)))
    (λ e. given_leading (active_process k) _ (stop_leading r.sound why.BadSpecial) (λ running f.
    if_leading (same_ref running (receiver k 0)) (λ g. fail_leading r)
    (λ g. answered_behind 0 (receiver k 0) r (λ t. settled_leading (resume_leading t (receiver k 0))))))
    (λ e. fail_leading r))

leave_and_answer_leading : {P : Kept → Type 0} {k : Kept} {o : Out} (list : Ref) → Leading Runs k o → Leading P k (leave_and_answer k list o)
unfolding and_then
leave_and_answer_leading list h = and_then_goes (λ t. answer t 0 list) h (λ t r l. answer_leading 0 list r)

pub suspend_prim_leading : {P : Kept → Type 0} {k : Kept} (args : ℕ) → Ready k → Leading P k (suspend_prim k args)
unfolding suspend_prim
suspend_prim_leading {k = k} args r =
    with_count_leading 0 args r (given_leading (active_process k) _ (stop_leading r.sound why.BadSpecial) (λ running e.
    if_leading (same_ref running (receiver k 0))
    (λ f. answered_behind 0 (nil_of k) r (λ t. suspend_active_leading t running))
    (λ f. given_leading (slot_or_none k process_slots my_list (receiver k 0)) _ (fail_leading r) (λ list g. leave_and_answer_leading list (suspend_other_leading r (receiver k 0))))))

pub yield_leading : {P : Kept → Type 0} {k : Kept} (args : ℕ) → Ready k → Leading P k (yield_prim k args)
unfolding yield_prim
yield_leading {k = k} args r = with_count_leading 0 args r (answered_behind 0 (receiver k 0) r (λ t. settled_leading (give_way_leading t)))
