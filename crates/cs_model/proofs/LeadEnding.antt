-- A signal is done, or it stops.
use Rattle.std.proofs.Common.{ℕ, ℤ, pos, int_lt, Bool, true, false, Option, Some, None, is_some, option_and_then, if◌then◌else◌}
use Rattle.cs_model.specs.Ref.{Ref, small_of}
use Rattle.cs_model.specs.State.{Kept, slots_of, active_process, is_nil}
use Rattle.cs_model.specs.Profile.{puts_in_front}
use Rattle.cs_model.specs.Operation.{store_of, nil_of}
use Rattle.cs_model.specs.Return.{context_birth, is_live}
use Rattle.cs_model.specs.Process.{suspended_context, first_link, last_link, excess_signals, process_slots, semaphore_slots, list_slots, slot_or_none, shaped_scheduler, list_of_process, with_list_of, link_last, add_last, add_first, add_preempted, take_out, start, stop_running, priority_of, resume_beside, one_more_excess, signal}
use Rattle.cs_model.specs.PrimProcess.{is_semaphore}
use Rattle.cs_model.specs.Due.{external_at, signal_external}
use Rattle.cs_model.specs.End.{End, Out, done, stop, looked, given, is_done, and_then}
use Rattle.cs_model.specs.End as ends

abbrev pub IsPlain : End → Type 0
IsPlain ends.Done = Unit {0}
IsPlain (ends.Send selector args above) = ⊥
IsPlain (ends.Return value local) = ⊥
IsPlain ends.Entered = ⊥
IsPlain (ends.Primitive method number) = ⊥
IsPlain (ends.Call special args) = ⊥
IsPlain ends.Answer = ⊥
IsPlain ends.Fail = ⊥
IsPlain ends.Quit = ⊥
IsPlain ends.Snapshot = ⊥
IsPlain (ends.Stopped reason) = Unit {0}

pub record Ends (o : Out) : Type 0 where
  pub plain : IsPlain o.end

done_ends : (k : Kept) → Ends (done k)
done_ends k = record { plain = tt }

-- ---- composition

given_ends : {A : Type 0} (o : Option A) {a : Out} (f : A → Out) → Ends a → ((x : A) → Ends (f x)) → Ends (given o a f)
given_ends None f h g = h
given_ends (Some x) f h g = g x

if_ends : (b : Bool) {x y : Out} → Ends x → Ends y → Ends (if b then x else y)
if_ends true h g = h
if_ends false h g = g

looked_ends : {o : Out} → Ends o → Ends (looked o)
unfolding looked
looked_ends h = record { plain = h.plain }

and_then_ends : {o : Out} (f : Kept → Out) → Ends o → ((t : Kept) → Ends (f t)) → Ends (and_then o f)
unfolding and_then
and_then_ends {o} f h g = if_ends (is_done o.end) (record { plain = (g o.state).plain }) h

-- ---- what a signal is composed of

link_last_ends : (k : Kept) (list p : Ref) → Ends (link_last k list p)
link_last_ends k list p =
    given_ends (slot_or_none k list_slots first_link list) _ (record { plain = tt }) (λ first.
    if_ends (is_nil k first) (record { plain = tt })
    (given_ends (slot_or_none k list_slots last_link list) _ (record { plain = tt }) (λ last.
    if_ends (is_some (slots_of k process_slots last)) (record { plain = tt }) (record { plain = tt }))))

add_last_ends : (k : Kept) (list p : Ref) → Ends (add_last k list p)
unfolding add_last
add_last_ends k list p = and_then_ends _ (link_last_ends _ list p) (λ t. record { plain = tt })

add_first_ends : (k : Kept) (list p : Ref) → Ends (add_first k list p)
unfolding add_first
add_first_ends k list p = given_ends (slot_or_none k list_slots first_link list) _ (record { plain = tt }) (λ first. record { plain = tt })

add_preempted_ends : (k : Kept) (list p : Ref) → Ends (add_preempted k list p)
unfolding add_preempted
add_preempted_ends k list p = if_ends (puts_in_front k.rest.header) (add_first_ends k list p) (add_last_ends k list p)

start_ends : (k : Kept) (p : Ref) → Ends (start k p)
unfolding start
start_ends k p =
    given_ends (slot_or_none k process_slots suspended_context p) _ (record { plain = tt }) (λ context.
    given_ends (context_birth k context) _ (record { plain = tt }) (λ i.
    if_ends (is_live k i)
    (given_ends (shaped_scheduler (store_of k p suspended_context (nil_of k))) _ (record { plain = tt }) (λ scheduler. record { plain = tt }))
    (record { plain = tt })))

with_list_ends : (k : Kept) (p : Ref) (f : Ref → Out) → ((list : Ref) → Ends (f list)) → Ends (with_list_of k p f)
with_list_ends k p f g =
    given_ends (shaped_scheduler k) _ (record { plain = tt }) (λ scheduler. given_ends (list_of_process k scheduler p) f (record { plain = tt }) g)

resume_beside_ends : (k : Kept) (running p : Ref) → Ends (resume_beside k running p)
resume_beside_ends k running p =
    if_ends (is_nil k running) (start_ends k p)
    (given_ends (priority_of k p) _ (record { plain = tt }) (λ mine.
    given_ends (priority_of k running) _ (record { plain = tt }) (λ its.
    if_ends (int_lt its mine)
    (looked_ends (with_list_ends (stop_running k running) running _ (λ list. and_then_ends _ (add_preempted_ends (stop_running k running) list running) (λ t. start_ends t p))))
    (with_list_ends k p _ (λ list. add_last_ends k list p)))))

one_more_ends : (k : Kept) (semaphore : Ref) (o : Option ℤ) → Ends (one_more_excess k semaphore o)
one_more_ends k semaphore None = record { plain = tt }
one_more_ends k semaphore (Some n) = if_ends (int_lt n (pos 1073741823)) (record { plain = tt }) (record { plain = tt })

pub signal_ends : (k : Kept) (semaphore : Ref) → Ends (signal k semaphore)
unfolding signal
signal_ends k semaphore =
    given_ends (slot_or_none k semaphore_slots first_link semaphore) _ (record { plain = tt }) (λ first.
    if_ends (is_nil k first) (one_more_ends k semaphore (option_and_then (λ x. small_of x) (slot_or_none k semaphore_slots excess_signals semaphore)))
    (given_ends (active_process k) _ (record { plain = tt }) (λ running.
    given_ends (slot_or_none k list_slots first_link semaphore) _ (record { plain = tt }) (λ p.
    if_ends (is_some (slots_of k process_slots p)) (resume_beside_ends (take_out k semaphore p None) running p) (record { plain = tt })))))

pub external_ends : (k : Kept) (n : ℕ) → Ends (signal_external k n)
unfolding signal_external
external_ends k n = given_ends (external_at k n) _ (done_ends k) (λ x. if_ends (is_semaphore k x) (signal_ends k x) (done_ends k))
