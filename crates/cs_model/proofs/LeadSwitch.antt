-- What operations on processes, semaphores and their lists lead to.
use Rattle.std.proofs.Common.{◌≡◌, ℕ, ◌==◌, arith, ℤ, pos, ◌+ℤ◌, ◌-ℤ◌, int_lt, Bool, true, false, refl, sym, ap, subst, ◌∙◌, Option, Some, None, IsSome, is_some, option_and_then, unwrap_or, if◌then◌else◌}
use Rattle.std.proofs.lemmas.Bool.Decides.{nat_tests}
use Rattle.cs_model.specs.declared.stop.Stop.TheVariants as why
use Rattle.cs_model.specs.Ref.{Ref, Small, Char, same_ref, small_of}
use Rattle.cs_model.specs.Ref as ref
use Rattle.cs_model.specs.Obj.{at_least}
use Rattle.cs_model.specs.State.{Kept, slots_of, scheduler_of, active_process, is_nil, IsLive}
use Rattle.cs_model.specs.Profile.{puts_in_front}
use Rattle.cs_model.specs.Operation.{store_of, suspend_of, nil_of}
use Rattle.cs_model.specs.Return.{context_birth, is_live}
use Rattle.cs_model.specs.Due.{is_idle, is_idle_at}
use Rattle.cs_model.specs.Process.{next_link, suspended_context, my_list, first_link, last_link, excess_signals, process_slots, semaphore_slots, list_slots, slot_or_none, with_slot_of, if_scheduler, shaped_scheduler, lists_of, list_of_process, with_list_of, link_last, add_last, last_if_alone, add_first, add_preempted, link_past, take_out, with_first, give_context, start_at, start, stop_running, Highest, Waiting, AllEmpty, NoList, highest_of, none_active, start_highest, start_next, priority_of, preempt, resume_beside, resume, one_more_excess, signal, wait_behind, wait, suspend_active, ListPlace, At, NotThere, NoProcess, TooFar, leave_list, suspend_other, give_way_to, give_way}
use Rattle.cs_model.specs.End.{Out, stop, done, and_then}
use Rattle.cs_model.proofs.Leading.{Sound, Leads, leads_itself, leads_trans}
use Rattle.cs_model.proofs.LeadCombining.{Runs, Ready, Settled, runs_settled, Leading, done_leading, stop_leading, fail_leading, behind, looked_leading, given_leading, if_leading, and_then_leading, weaker, settled_leading}
use Rattle.cs_model.proofs.LeadOperation.{store_leads, store-rest, store-live, resume_goes, suspend_leads}
use Rattle.cs_model.proofs.LeadIdle.{process_stays, none_is_nil}

-- ---- stores

-- objects get other slots, and nothing else changes
pub record Stored (k t : Kept) : Type 0 where
  pub leads : Leads k t
  pub rest : t.rest ≡ k.rest
  pub live : (i : ℕ) → IsLive k i → IsLive t i

pub stored_itself : {k : Kept} → Sound k → Stored k k
stored_itself s = record { leads = leads_itself s; rest = refl; live = λ i h. h }

pub stored : {k t u : Kept} → Stored k t → Stored t u → Stored k u
stored a b = record { leads = leads_trans a.leads b.leads; rest = b.rest ∙ a.rest; live = λ i h. b.live i (a.live i h) }

pub store_stored : {k : Kept} → Sound k → (x : Ref) (n : ℕ) (v : Ref) → Stored k (store_of k x n v)
store_stored {k} s x n v = record { leads = store_leads x n v s; rest = store-rest k x n v; live = store-live k x n v }

if_stored : {k t u : Kept} (b : Bool) → Stored k t → Stored k u → Stored k (if b then t else u)
if_stored true a b = a
if_stored false a b = b

-- a context is active behind a store where it was before
pub stored_runs : {k t : Kept} → Stored k t → Runs k → Runs t
stored_runs a r = record { active = ap (λ q. is_some q.active) a.rest ∙ r.active }

-- ---- lists

link_last_leading : {k : Kept} → Sound k → (list p : Ref) → Leading (Stored k) k (link_last k list p)
link_last_leading {k} s list p =
    given_leading (slot_or_none k list_slots first_link list) _ (stop_leading s why.BadProcess) (λ first e. at_end first) where
      last_is : (last : Ref) → Leading (Stored k) k (if is_some (slots_of k process_slots last) then done (store_of k last next_link p) else stop why.BadProcess k)
      last_is last = if_leading (is_some (slots_of k process_slots last)) (λ h. let a = store_stored s last next_link p in done_leading a.leads a) (λ h. stop_leading s why.BadProcess)

      at_end : (first : Ref) → Leading (Stored k) k (if is_nil k first then done (store_of k list first_link p) else with_slot_of k list_slots last_link list (λ last. if is_some (slots_of k process_slots last) then done (store_of k last next_link p) else stop why.BadProcess k))
      at_end first =
          if_leading (is_nil k first) (λ f. let a = store_stored s list first_link p in done_leading a.leads a)
          (λ f. given_leading (slot_or_none k list_slots last_link list) _ (stop_leading s why.BadProcess) (λ last g. last_is last))

-- what is stored behind stores
stored_behind : {k t : Kept} {o : Out} → Stored k t → Leading (Stored t) t o → Leading (Stored k) k o
stored_behind a h = behind a.leads (weaker (λ u b. stored a b) h)

pub add_last_leading : {k : Kept} → Sound k → (list p : Ref) → Leading (Stored k) k (add_last k list p)
unfolding add_last
add_last_leading {k} s list p =
    let a = store_stored s p next_link (nil_of k) in
    let b = stored a (store_stored a.leads.sound p my_list list) in
    stored_behind b (and_then_leading _ (link_last_leading b.leads.sound list p) (λ t l c. let d = store_stored l.sound list last_link p in done_leading d.leads (stored c d)))

last_if_alone_stored : {k : Kept} → Sound k → (list p first : Ref) → Stored k (last_if_alone k list p first)
last_if_alone_stored {k} s list p first = if_stored (is_nil k first) (store_stored s list last_link p) (stored_itself s)

add_first_leading : {k : Kept} → Sound k → (list p : Ref) → Leading (Stored k) k (add_first k list p)
unfolding add_first
add_first_leading {k} s list p =
    given_leading (slot_or_none k list_slots first_link list) _ (stop_leading s why.BadProcess) (λ first e.
    let a = store_stored s p next_link first in
    let b = stored a (store_stored a.leads.sound p my_list list) in
    let c = stored b (store_stored b.leads.sound list first_link p) in
    let d = stored c (last_if_alone_stored c.leads.sound list p first) in
    done_leading d.leads d)

add_preempted_leading : {k : Kept} → Sound k → (list p : Ref) → Leading (Stored k) k (add_preempted k list p)
unfolding add_preempted
add_preempted_leading {k} s list p = if_leading (puts_in_front k.rest.header) (λ e. add_first_leading s list p) (λ e. add_last_leading s list p)

link_past_stored : {k : Kept} → Sound k → (list : Ref) (before : Option Ref) (next : Ref) → Stored k (link_past k list before next)
link_past_stored s list None next = store_stored s list first_link next
link_past_stored s list (Some before) next = store_stored s before next_link next

pub take_out_stored : {k : Kept} → Sound k → (list p : Ref) (before : Option Ref) → Stored k (take_out k list p before)
unfolding take_out
take_out_stored {k} s list p before =
    let a = link_past_stored s list before (unwrap_or (slot_or_none k process_slots next_link p) (nil_of k)) in
    let b = stored a (if_stored _ (store_stored a.leads.sound list last_link (unwrap_or before (nil_of k))) (stored_itself a.leads.sound)) in
    let c = stored b (store_stored b.leads.sound p next_link _) in
    stored c (store_stored c.leads.sound p my_list _)

with_first_leading : {P : Kept → Type 0} {k : Kept} → Sound k → (list : Ref) (f : Kept → Ref → Out) → ((t : Kept) (p : Ref) → Stored k t → Leading P t (f t p)) → Leading P k (with_first k list f)
with_first_leading {P} {k} s list f next =
    given_leading (slot_or_none k list_slots first_link list) _ (stop_leading s why.BadProcess) (λ p e.
    if_leading (is_some (slots_of k process_slots p)) (λ h. let a = take_out_stored s list p None in behind a.leads (next (take_out k list p None) p a)) (λ h. stop_leading s why.BadProcess))

with_list_leading : {P : Kept → Type 0} {k : Kept} → Sound k → (p : Ref) (f : Ref → Out) → ((list : Ref) → Leading P k (f list)) → Leading P k (with_list_of k p f)
with_list_leading {k = k} s p f next =
    given_leading (shaped_scheduler k) _ (stop_leading s why.BadSpecial) (λ scheduler e.
    given_leading (list_of_process k scheduler p) f (stop_leading s why.BadProcess) (λ list g. next list))

-- ---- starting and stopping

give_context_leading : {k : Kept} → Sound k → (p : Ref) (i : ℕ) → IsLive k i → Leading Runs k (give_context k p i)
give_context_leading {k} s p i live =
    given_leading (shaped_scheduler k) _ (stop_leading s why.BadSpecial) (λ scheduler e.
    let a = store_stored s scheduler 1 p in
    let g = resume_goes i a.leads.sound (a.live i live) in
    done_leading (leads_trans a.leads g.leads) g.runs)

start_at_leading : {k : Kept} → Sound k → (p context : Ref) → Leading Runs k (start_at k p context)
start_at_leading {k} s p context =
    given_leading (context_birth k context) _ (stop_leading s why.BadProcess) (λ i e.
    if_leading (is_live k i)
    (λ live. let a = store_stored s p suspended_context (nil_of k) in behind a.leads (give_context_leading a.leads.sound p i (a.live i live)))
    (λ dead. stop_leading s why.BadProcess))

pub start_leading : {k : Kept} → Sound k → (p : Ref) → Leading Runs k (start k p)
unfolding start
start_leading {k} s p = given_leading (slot_or_none k process_slots suspended_context p) _ (stop_leading s why.BadProcess) (λ context e. start_at_leading s p context)

pub stop_running_leads : {k : Kept} → Sound k → (p : Ref) → Leads k (stop_running k p)
unfolding stop_running
stop_running_leads s p = let a = store_leads p suspended_context _ s in leads_trans a (suspend_leads a.sound)

-- nil has no slots
bare_slots : {k : Kept} → Sound k → slots_of k 2 (nil_of k) ≡ None
unfolding slots_of
bare_slots s = ap (λ o. at_least 2 o) s.bare

nil_is : (t : Kept) (n : ℕ) (p : Ref) → t.rest.nil ≡ n → p ≡ ref.Obj n → is_nil t p ≡ true
nil_is t n p e f = ap (λ x. same_ref x (ref.Obj t.rest.nil)) (f ∙ ap (λ i. ref.Obj i) (sym e)) ∙ itself t.rest.nil where
  itself : (i : ℕ) → (i == i) ≡ true
  itself i = grind (arith, nat_tests)

none_active_leading : {k : Kept} → Sound k → (scheduler : Ref) → scheduler_of k ≡ Some scheduler → IsSome (slots_of k 2 scheduler) → Leading Settled k (none_active k scheduler)
none_active_leading {k} s scheduler e wide =
    let a = store_leads scheduler 1 (nil_of k) s in
    let l = leads_trans a (suspend_leads a.sound) in
    done_leading l (record { idle = λ none p h. nil_is (suspend_of (store_of k scheduler 1 (nil_of k))) k.rest.nil p l.nil (none_is_nil k scheduler e wide (bare_slots s) p h) })

start_highest_leading : {k : Kept} → Sound k → (scheduler : Ref) → scheduler_of k ≡ Some scheduler → IsSome (slots_of k 2 scheduler) → (h : Highest) → Leading Settled k (start_highest k scheduler h)
start_highest_leading s scheduler e wide (Waiting list) = settled_leading (with_first_leading s list _ (λ t p a. start_leading a.leads.sound p))
start_highest_leading s scheduler e wide AllEmpty = none_active_leading s scheduler e wide
start_highest_leading s scheduler e wide NoList = stop_leading s why.BadProcess

-- a scheduler that has its shape
record ShapedAt (k : Kept) (scheduler : Ref) : Type 0 where
  is : scheduler_of k ≡ Some scheduler
  wide : IsSome (slots_of k 2 scheduler)

shaped_at : (k : Kept) (scheduler : Ref) → shaped_scheduler k ≡ Some scheduler → ShapedAt k scheduler
unfolding shaped_scheduler
shaped_at k scheduler e = go (scheduler_of k) refl e where
  wide_one : (x : Ref) (b : Bool) → scheduler_of k ≡ Some x → is_some (slots_of k 2 x) ≡ b → (if b then Some x else None) ≡ Some scheduler → ShapedAt k scheduler
  wide_one x true f h g = subst (λ y. ShapedAt k y) (ap (λ o. unwrap_or o x) g) (record { is = f; wide = h })
  wide_one x false f h g = absurd (cc)

  go : (o : Option Ref) → scheduler_of k ≡ o → option_and_then (λ x. if_scheduler k x) o ≡ Some scheduler → ShapedAt k scheduler
  go None f g = absurd (cc)
  go (Some x) f g = wide_one x (is_some (slots_of k 2 x)) f refl g

pub start_next_leading : {k : Kept} → Sound k → Leading Settled k (start_next k)
unfolding start_next
start_next_leading {k} s =
    given_leading (shaped_scheduler k) _ (stop_leading s why.BadSpecial) (λ scheduler e.
    given_leading (lists_of k scheduler) _ (stop_leading s why.BadProcess) (λ lists f.
    let h = shaped_at k scheduler e in start_highest_leading s scheduler h.is h.wide (highest_of k lists)))

-- ---- resume

-- a process starts behind what is stored
start_behind : {k : Kept} {o : Out} → Leading (Stored k) k o → (p : Ref) → Leading Runs k (and_then o (λ t. start t p))
start_behind h p = and_then_leading _ h (λ t l a. start_leading l.sound p)

preempt_leading : {k : Kept} → Sound k → (running p : Ref) → Leading Runs k (preempt k running p)
preempt_leading s running p =
    let a = stop_running_leads s running in
    looked_leading (behind a (with_list_leading a.sound running _ (λ list. start_behind (add_preempted_leading a.sound list running) p)))

-- where a process is running, a context is active
resume_beside_leading : {k : Kept} → Sound k → (running p : Ref) → (is_nil k running ≡ false → Runs k) → Leading Runs k (resume_beside k running p)
resume_beside_leading {k} s running p h =
    if_leading (is_nil k running) (λ e. start_leading s p) (λ e.
    given_leading (priority_of k p) _ (stop_leading s why.BadProcess) (λ mine f.
    given_leading (priority_of k running) _ (stop_leading s why.BadProcess) (λ its g.
    if_leading (int_lt its mine) (λ q. preempt_leading s running p)
    (λ q. with_list_leading s p _ (λ list. weaker (λ t a. stored_runs a (h e)) (add_last_leading s list p))))))

pub resume_leading : {k : Kept} → Ready k → (p : Ref) → Leading Runs k (resume k p)
unfolding resume
resume_leading {k} r p =
    if_leading (is_some (slots_of k process_slots p))
    (λ e. given_leading (active_process k) _ (stop_leading r.sound why.BadSpecial) (λ running f. resume_beside_leading r.sound running p (λ g. r.runs)))
    (λ e. stop_leading r.sound why.BadProcess)

-- ---- signals

-- where no context is active no process is
pub record Awake (k : Kept) : Type 0 where
  pub idle : k.rest.active ≡ None → is_idle k ≡ true

pub runs_awake : {k : Kept} → Runs k → Awake k
runs_awake r = record { idle = λ e. absurd (none_active (sym (ap is_some e) ∙ r.active)) } where
  none_active : false ≡ true → ⊥
  none_active e = cc

pub awake_settled : {k : Kept} → Awake k → Settled k
unfolding is_idle
awake_settled {k} a = record { idle = λ e p h. sym (ap (λ o. is_idle_at k o) h) ∙ a.idle e }

-- a process is running: a context is active
running_runs : (k : Kept) → Awake k → (running : Ref) → active_process k ≡ Some running → is_nil k running ≡ false → Runs k
unfolding is_idle
running_runs k a running e apart = go k.rest.active refl where
  both : true ≡ false → ⊥
  both f = cc

  go : (o : Option ℕ) → k.rest.active ≡ o → Runs k
  go None f = absurd (both (sym (a.idle f) ∙ ap (λ o. is_idle_at k o) e ∙ apart))
  go (Some i) f = record { active = ap is_some f }

one_more_leading : {k : Kept} → Sound k → Awake k → (semaphore : Ref) (o : Option ℤ) → Leading Awake k (one_more_excess k semaphore o)
unfolding is_idle
one_more_leading s a semaphore None = stop_leading s why.BadProcess
one_more_leading {k} s a semaphore (Some n) =
    if_leading (int_lt n (pos 1073741823))
    (λ e. let t = store_stored s semaphore excess_signals (Small (n +ℤ pos 1)) in
    done_leading t.leads (record { idle = λ f. ap (λ o. is_idle_at (store_of k semaphore excess_signals (Small (n +ℤ pos 1))) o) (process_stays k semaphore (Small (n +ℤ pos 1))) ∙ nil_same t ∙ a.idle (sym (ap (λ r. r.active) t.rest) ∙ f) }))
    (λ e. stop_leading s why.BadProcess)
  where
    nil_same : {t : Kept} → Stored k t → is_idle_at t (active_process k) ≡ is_idle_at k (active_process k)
    nil_same {t} b = go (active_process k) where
      go : (o : Option Ref) → is_idle_at t o ≡ is_idle_at k o
      go None = refl
      go (Some p) = ap (λ r. same_ref p (ref.Obj r.nil)) b.rest

stored_nil : {k t : Kept} → Stored k t → (p : Ref) → is_nil t p ≡ is_nil k p
stored_nil a p = ap (λ r. same_ref p (ref.Obj r.nil)) a.rest

pub signal_leading : {k : Kept} → Sound k → Awake k → (semaphore : Ref) → Leading Awake k (signal k semaphore)
unfolding signal
signal_leading {k} s a semaphore =
    given_leading (slot_or_none k semaphore_slots first_link semaphore) _ (stop_leading s why.BadProcess) (λ first e.
    if_leading (is_nil k first) (λ f. one_more_leading s a semaphore (option_and_then (λ x. small_of x) (slot_or_none k semaphore_slots excess_signals semaphore)))
    (λ f. given_leading (active_process k) _ (stop_leading s why.BadSpecial) (λ running g.
    with_first_leading s semaphore _ (λ t p b. weaker (λ u r. runs_awake r)
    (resume_beside_leading b.leads.sound running p (λ h. stored_runs b (running_runs k a running g (sym (stored_nil b running) ∙ h))))))))

-- ---- wait, suspend, yield

wait_behind_leading : {k : Kept} → Ready k → (semaphore : Ref) → Leading Settled k (wait_behind k semaphore)
wait_behind_leading {k} r semaphore =
    given_leading (active_process k) _ (stop_leading r.sound why.BadSpecial) (λ running e.
    if_leading (is_some (slots_of k process_slots running))
    (λ f. and_then_leading _ (add_last_leading r.sound semaphore running) (λ t l b.
    let a = stop_running_leads l.sound running in looked_leading (behind a (start_next_leading a.sound))))
    (λ f. stop_leading r.sound why.BadProcess))

pub wait_leading : {k : Kept} → Ready k → (semaphore : Ref) → Leading Settled k (wait k semaphore)
unfolding wait
wait_leading {k} r semaphore =
    given_leading (option_and_then (λ x. small_of x) (slot_or_none k semaphore_slots excess_signals semaphore)) _ (stop_leading r.sound why.BadProcess) (λ n e.
    if_leading (int_lt (pos 0) n)
    (λ f. let a = store_stored r.sound semaphore excess_signals (Small (n -ℤ pos 1)) in done_leading a.leads (runs_settled (stored_runs a r.runs)))
    (λ f. wait_behind_leading r semaphore))

pub suspend_active_leading : {k : Kept} → Ready k → (running : Ref) → Leading Settled k (suspend_active k running)
unfolding suspend_active
suspend_active_leading {k} r running =
    if_leading (is_some (slots_of k process_slots running))
    (λ e. let a = stop_running_leads r.sound running in looked_leading (behind a (start_next_leading a.sound)))
    (λ e. stop_leading r.sound why.BadProcess)

leave_list_leading : {k : Kept} → Ready k → (p list : Ref) (place : ListPlace) → Leading Runs k (leave_list k p list place)
leave_list_leading r p list (At before) = let a = take_out_stored r.sound list p before in done_leading a.leads (stored_runs a r.runs)
leave_list_leading r p list NotThere = fail_leading r
leave_list_leading r p list NoProcess = stop_leading r.sound why.BadProcess
leave_list_leading r p list TooFar = stop_leading r.sound why.ChainTooLong

pub suspend_other_leading : {k : Kept} → Ready k → (p : Ref) → Leading Runs k (suspend_other k p)
unfolding suspend_other
suspend_other_leading {k} r p =
    given_leading (slot_or_none k process_slots my_list p) _ (fail_leading r) (λ list e.
    given_leading (slot_or_none k list_slots first_link list) _ (fail_leading r) (λ first f. leave_list_leading r p list _))

give_way_to_leading : {k : Kept} → Ready k → (running list : Ref) → Leading Runs k (give_way_to k running list)
give_way_to_leading r running list =
    with_first_leading r.sound list _ (λ t p b.
    let a = stop_running_leads b.leads.sound running in looked_leading (behind a (start_behind (add_last_leading a.sound list running) p)))

pub give_way_leading : {k : Kept} → Ready k → Leading Runs k (give_way k)
unfolding give_way
give_way_leading {k} r =
    given_leading (active_process k) _ (stop_leading r.sound why.BadSpecial) (λ running e.
    with_list_leading r.sound running _ (λ list.
    given_leading (slot_or_none k list_slots first_link list) _ (stop_leading r.sound why.BadProcess) (λ first f.
    if_leading (is_nil k first) (λ g. done_leading (leads_itself r.sound) r.runs) (λ g. give_way_to_leading r running list))))
