-- The primitives on processes and semaphores are alike.
use Rattle.std.proofs.Common.{ℕ, ◌&&◌, false, refl, Option}
use Rattle.cs_model.specs.declared.stop.Stop.TheVariants as why
use Rattle.cs_model.specs.Ref.{Ref, same_ref}
use Rattle.cs_model.specs.State.{Kept, IsHeld}
use Rattle.cs_model.specs.Process.{process_slots, suspended_context, my_list}
use Rattle.cs_model.specs.PrimProcess.{semaphore_class, both_same, is_semaphore, answered, signal_prim, wait_prim, is_live_at, is_suspended, resume_prim, leave_and_answer, suspend_prim, yield_prim}
use Rattle.cs_model.specs.End.{Out, is_done}
use Rattle.cs_model.specs.Keeps.{Keeps}
use Rattle.cs_model.specs.Alike.{Alike}
use Rattle.cs_model.proofs.Same.{Same, same, SameOption, none, some, Any, is, value, two, option_is}
use Rattle.cs_model.proofs.Reading.{Has, up, nil_same, is_nil_same, special_at_same, class_of_same, active_process_same}
use Rattle.cs_model.proofs.Combining.{fail_alike, stop_alike, behind, left, end_same, count_same, counting_alike, given_alike, if_alike}
use Rattle.cs_model.proofs.Searching.{context_birth_same, is_live_same}
use Rattle.cs_model.proofs.Scheduling.{slot_same, signal_alike, wait_alike, resume_alike, suspend_active_alike, suspend_other_alike, give_way_alike}
use Rattle.cs_model.proofs.Answering.{answer_alike, answered_moved, prim_receiver_same, with_count_alike}

pub is_semaphore_same : {v m : Kept} {x y : Ref} → Keeps v m → Same (IsHeld v) x y → Same Any (is_semaphore v x) (is_semaphore m y)
unfolding is_semaphore
is_semaphore_same k s = two both_same (option_is (class_of_same k s)) (option_is (special_at_same k semaphore_class))

pub answered_alike : {v : Kept} {a b : Out} → Alike v a b → Alike v (answered a) (answered b)
unfolding answered
answered_alike h = if_alike (value is_done (end_same h)) (record { end = refl; count = h.count; keeps = h.keeps; grows = h.grows; held = tt }) h

pub signal_prim_alike : {v m : Kept} → Keeps v m → (args : ℕ) → Alike v (signal_prim v args) (signal_prim m args)
unfolding signal_prim
signal_prim_alike k args =
    with_count_alike k 0 args (if_alike (is_semaphore_same k (prim_receiver_same k 0))
    (let s = answered_moved k 0 (prim_receiver_same k 0) in answered_alike (behind s (signal_alike s.keeps (up s.grows (prim_receiver_same k 0)))))
    (fail_alike k))

pub wait_prim_alike : {v m : Kept} → Keeps v m → (args : ℕ) → Alike v (wait_prim v args) (wait_prim m args)
unfolding wait_prim
wait_prim_alike k args =
    with_count_alike k 0 args (if_alike (is_semaphore_same k (prim_receiver_same k 0))
    (let s = answered_moved k 0 (prim_receiver_same k 0) in answered_alike (behind s (wait_alike s.keeps (up s.grows (prim_receiver_same k 0)))))
    (fail_alike k))

is_live_at_same : {v m : Kept} {o p : Option ℕ} → Keeps v m → SameOption (Has v) o p → Same Any (is_live_at v o) (is_live_at m p)
is_live_at_same k none = same false tt
is_live_at_same k (some i h) = is_live_same k (same i h)

is_suspended_same : {v m : Kept} {o p q r : Option Ref} → Keeps v m → SameOption (IsHeld v) o p → SameOption (IsHeld v) q r → Same Any (is_suspended v o q) (is_suspended m p r)
is_suspended_same k none s = same false tt
is_suspended_same k (some context h) none = same false tt
is_suspended_same k (some context h) (some list g) = two (λ a b. a && b) (is_nil_same k (is list)) (is_live_at_same k (context_birth_same k (same context h)))

pub resume_prim_alike : {v m : Kept} → Keeps v m → (args : ℕ) → Alike v (resume_prim v args) (resume_prim m args)
unfolding resume_prim
resume_prim_alike k args =
    with_count_alike k 0 args (if_alike (is_suspended_same k (slot_same k process_slots suspended_context (prim_receiver_same k 0)) (slot_same k process_slots my_list (prim_receiver_same k 0)))
    (given_alike _ _ (active_process_same k) (stop_alike k why.BadSpecial) (λ running h.
    if_alike (two same_ref (is running) (prim_receiver_same k 0)) (fail_alike k)
    (let s = answered_moved k 0 (prim_receiver_same k 0) in answered_alike (behind s (resume_alike s.keeps (up s.grows (prim_receiver_same k 0)))))))
    (fail_alike k))

leave_and_answer_alike : {v m : Kept} {x : Ref} {a b : Out} → Keeps v m → Same (IsHeld v) x x → Alike v a b → Alike v (leave_and_answer v x a) (leave_and_answer m x b)
leave_and_answer_alike k s h = if_alike (value is_done (end_same h)) (counting_alike (count_same h) (let l = left h in behind l (answer_alike l.keeps 0 (up l.grows s)))) h

pub suspend_prim_alike : {v m : Kept} → Keeps v m → (args : ℕ) → Alike v (suspend_prim v args) (suspend_prim m args)
unfolding suspend_prim
suspend_prim_alike k args =
    with_count_alike k 0 args (given_alike _ _ (active_process_same k) (stop_alike k why.BadSpecial) (λ running h.
    if_alike (two same_ref (is running) (prim_receiver_same k 0))
    (let s = answered_moved k 0 (nil_same k) in answered_alike (behind s (suspend_active_alike s.keeps (up s.grows (same running h)))))
    (given_alike _ _ (slot_same k process_slots my_list (prim_receiver_same k 0)) (fail_alike k) (λ list g. leave_and_answer_alike k (same list g) (suspend_other_alike k (prim_receiver_same k 0))))))

pub yield_alike : {v m : Kept} → Keeps v m → (args : ℕ) → Alike v (yield_prim v args) (yield_prim m args)
unfolding yield_prim
yield_alike k args = with_count_alike k 0 args (let s = answered_moved k 0 (prim_receiver_same k 0) in answered_alike (behind s (give_way_alike s.keeps)))
