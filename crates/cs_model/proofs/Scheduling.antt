-- The operations on processes, semaphores and their lists are alike.
use Rattle.std.proofs.Common.{◌≡◌, refl, sym, ap, subst, true, false, ℕ, zero, suc, ℤ, pos, ◌+ℤ◌, ◌-ℤ◌, int_lt, Option, Some, None, is_some, List, [], ◌∷◌, option_and_then}
use Rattle.std.specs.Prelude.{slice_get}
use Rattle.std.specs.List.{AllByRecursion}
use Rattle.cs_model.specs.declared.stop.Stop.TheVariants as why
use Rattle.cs_model.specs.Ref as ref
use Rattle.cs_model.specs.Ref.{Ref, Small, Char, same_ref, small_of, small_index}
use Rattle.cs_model.specs.Obj.{Obj, Ptr, Raw, Method, Ctx, is_context, slots_in, at_least}
use Rattle.cs_model.specs.State.{Kept, object_at, slots_of, IsHeld}
use Rattle.cs_model.specs.Profile.{puts_in_front}
use Rattle.cs_model.specs.Process.{next_link, suspended_context, priority, my_list, first_link, last_link, excess_signals, process_slots, semaphore_slots, list_slots, slot_or_none, with_slot_of, if_scheduler, shaped_scheduler, with_scheduler, with_active_process, lists_of, list_at, if_list, list_of_process, with_list_of, link_last, add_last, last_if_alone, add_first, add_preempted, link_past, is_same, last_past, unlinked, take_out, with_first, give_context, start_at, start, stop_running, Highest, Waiting, AllEmpty, NoList, if_waiting, or_lower, highest_of, none_active, start_highest, start_next, with_priority, preempt, resume_beside, resume, one_more_excess, signal, wait_behind, wait, suspend_active, list_links, ListPlace, At, NotThere, NoProcess, TooFar, find_link, leave_list, suspend_other, suspend, give_way_to, give_way}
use Rattle.cs_model.specs.End.{Out}
use Rattle.cs_model.specs.Keeps.{Keeps}
use Rattle.cs_model.specs.Alike.{Alike, IsHeldIf}
use Rattle.cs_model.proofs.Same.{Same, same, SameOption, none, some, Any, is, value, of_option, two, and_then_same, or_same, if_same, if_option, option_is, any_option, some_same}
use Rattle.cs_model.proofs.Keeping.{kept_context, Moved, moved, unmoved, choose_moved}
use Rattle.cs_model.proofs.Reading.{held_if, AllHeld, Has, up, rest_same, nil_same, is_nil_same, object_of_same, slots_in_same, slots_of_same, slice_same, scheduler_same, active_process_same, active_ref_same}
use Rattle.cs_model.proofs.Operating.{store_moved, resume_moved, suspend_moved}
use Rattle.cs_model.proofs.Combining.{fail_alike, done_alike, stop_alike, behind, looked_alike, given_alike, if_alike, and_then_alike}
use Rattle.cs_model.proofs.Searching.{context_birth_same, is_live_same}

-- ---- slots

pub slot_same : {v m : Kept} {x y : Ref} → Keeps v m → (n i : ℕ) → Same (IsHeld v) x y → SameOption (IsHeld v) (slot_or_none v n i x) (slot_or_none m n i y)
slot_same k n i s = and_then_same (slots_of_same k n s) (λ slots h. slice_same i (same slots h))

with_slot_alike : {v m : Kept} {x y : Ref} (f g : Ref → Out) → Keeps v m → (n i : ℕ) → Same (IsHeld v) x y → ((z : Ref) → IsHeld v z → Alike v (f z) (g z)) → Alike v (with_slot_of v n i x f) (with_slot_of m n i y g)
with_slot_alike f g k n i s next = given_alike f g (slot_same k n i s) (stop_alike k why.BadProcess) next

if_scheduler_same : {v m : Kept} {x y : Ref} → Keeps v m → Same (IsHeld v) x y → SameOption (IsHeld v) (if_scheduler v x) (if_scheduler m y)
if_scheduler_same k s = if_option (of_option is_some (slots_of_same k 2 s)) (some_same s) none

pub shaped_scheduler_same : {v m : Kept} → Keeps v m → SameOption (IsHeld v) (shaped_scheduler v) (shaped_scheduler m)
unfolding shaped_scheduler
shaped_scheduler_same k = and_then_same (scheduler_same k) (λ x h. if_scheduler_same k (same x h))

with_scheduler_alike : {v m : Kept} (f g : Ref → Out) → Keeps v m → ((z : Ref) → IsHeld v z → Alike v (f z) (g z)) → Alike v (with_scheduler v f) (with_scheduler m g)
with_scheduler_alike f g k next = given_alike f g (shaped_scheduler_same k) (stop_alike k why.BadSpecial) next

pub with_active_alike : {v m : Kept} (f g : Ref → Out) → Keeps v m → ((z : Ref) → IsHeld v z → Alike v (f z) (g z)) → Alike v (with_active_process v f) (with_active_process m g)
with_active_alike f g k next = given_alike f g (active_process_same k) (stop_alike k why.BadSpecial) next

-- whether a reference is a process
is_process_same : {v m : Kept} {x y : Ref} → Keeps v m → Same (IsHeld v) x y → Same Any (is_some (slots_of v process_slots x)) (is_some (slots_of m process_slots y))
is_process_same k s = of_option is_some (slots_of_same k process_slots s)

-- ---- lists

lists_of_same : {v m : Kept} {x y : Ref} → Keeps v m → Same (IsHeld v) x y → SameOption (AllHeld v) (lists_of v x) (lists_of m y)
lists_of_same k s = and_then_same (and_then_same (slots_of_same k 2 s) (λ slots h. slice_same 0 (same slots h))) (λ x h. slots_in_same (object_of_same k (same x h)))

list_at_same : {v : Kept} {xs ys : List Ref} {o p : Option ℕ} → Same (AllHeld v) xs ys → Same Any o p → SameOption (IsHeld v) (list_at xs o) (list_at ys p)
list_at_same s (same None a) = none
list_at_same s (same (Some zero) a) = none
list_at_same s (same (Some (suc n)) a) = slice_same n s

if_list_same : {v m : Kept} {x y : Ref} → Keeps v m → Same (IsHeld v) x y → SameOption (IsHeld v) (if_list v x) (if_list m y)
if_list_same k s = if_option (of_option is_some (slots_of_same k list_slots s)) (some_same s) none

list_of_process_same : {v m : Kept} {x y p q : Ref} → Keeps v m → Same (IsHeld v) x y → Same (IsHeld v) p q → SameOption (IsHeld v) (list_of_process v x p) (list_of_process m y q)
unfolding list_of_process
list_of_process_same k s p =
    and_then_same (lists_of_same k s) (λ lists h.
    and_then_same (list_at_same (same lists h) (of_option (λ o. option_and_then (λ x. small_index x) o) (slot_same k process_slots priority p))) (λ list g.
    if_list_same k (same list g)))

with_list_alike : {v m : Kept} {p q : Ref} (f g : Ref → Out) → Keeps v m → Same (IsHeld v) p q → ((z : Ref) → IsHeld v z → Alike v (f z) (g z)) → Alike v (with_list_of v p f) (with_list_of m q g)
with_list_alike f g k p next = with_scheduler_alike _ _ k (λ scheduler h. given_alike f g (list_of_process_same k (same scheduler h) p) (stop_alike k why.BadProcess) next)

link_last_alike : {v m : Kept} {x y p q : Ref} → Keeps v m → Same (IsHeld v) x y → Same (IsHeld v) p q → Alike v (link_last v x p) (link_last m y q)
link_last_alike k list p =
    with_slot_alike _ _ k list_slots first_link list (λ first h.
    if_alike (is_nil_same k (is first)) (done_alike (store_moved k list first_link p))
    (with_slot_alike _ _ k list_slots last_link list (λ last g.
    if_alike (is_process_same k (same last g)) (done_alike (store_moved k (is last) next_link p)) (stop_alike k _))))

pub add_last_alike : {v m : Kept} {x y p q : Ref} → Keeps v m → Same (IsHeld v) x y → Same (IsHeld v) p q → Alike v (add_last v x p) (add_last m y q)
unfolding add_last
add_last_alike k list p =
    let a = store_moved k p next_link (nil_same k) in
    let b = moved a (store_moved a.keeps p my_list (up a.grows list)) in
    and_then_alike _ _ (behind b (link_last_alike b.keeps (up b.grows list) (up b.grows p))) (λ t u s. done_alike (store_moved s.keeps list last_link (up s.grows p)))

last_if_alone_moved : {v m : Kept} {x y p q f g : Ref} → Keeps v m → Same (IsHeld v) x y → Same (IsHeld v) p q → Same (IsHeld v) f g → Moved v (last_if_alone v x p f) (last_if_alone m y q g)
last_if_alone_moved k list p first = choose_moved (is_nil_same k first) (store_moved k list last_link p) (unmoved k)

pub add_first_alike : {v m : Kept} {x y p q : Ref} → Keeps v m → Same (IsHeld v) x y → Same (IsHeld v) p q → Alike v (add_first v x p) (add_first m y q)
unfolding add_first
add_first_alike k list p =
    with_slot_alike _ _ k list_slots first_link list (λ first h.
    let a = store_moved k p next_link (same first h) in
    let b = moved a (store_moved a.keeps p my_list (up a.grows list)) in
    let c = moved b (store_moved b.keeps list first_link (up b.grows p)) in
    done_alike (moved c (last_if_alone_moved c.keeps (up c.grows list) (up c.grows p) (up c.grows (same first h)))))

pub add_preempted_alike : {v m : Kept} {x y p q : Ref} → Keeps v m → Same (IsHeld v) x y → Same (IsHeld v) p q → Alike v (add_preempted v x p) (add_preempted m y q)
unfolding add_preempted
add_preempted_alike k list p = if_alike (value (λ r. puts_in_front r.header) (rest_same k)) (add_first_alike k list p) (add_last_alike k list p)

link_past_moved : {v m : Kept} {x y n l : Ref} {o p : Option Ref} → Keeps v m → Same (IsHeld v) x y → SameOption (IsHeld v) o p → Same (IsHeld v) n l → Moved v (link_past v x o n) (link_past m y p l)
link_past_moved k list none next = store_moved k list first_link next
link_past_moved k list (some before h) next = store_moved k (is before) next_link next

end_at_moved : {v m : Kept} {x y p q b c : Ref} → Keeps v m → Same (IsHeld v) x y → Same (IsHeld v) p q → Same (IsHeld v) b c → Moved v (last_past v x p b) (last_past m y q c)
end_at_moved k list p before = choose_moved (two is_same (option_is (slot_same k list_slots last_link list)) p) (store_moved k list last_link before) (unmoved k)

unlinked_moved : {v m : Kept} {p q : Ref} → Keeps v m → Same (IsHeld v) p q → Moved v (unlinked v p) (unlinked m q)
unlinked_moved k p = let a = store_moved k p next_link (nil_same k) in moved a (store_moved a.keeps p my_list (up a.grows (nil_same k)))

pub take_out_moved : {v m : Kept} {x y p q : Ref} {b c : Option Ref} → Keeps v m → Same (IsHeld v) x y → Same (IsHeld v) p q → SameOption (IsHeld v) b c → Moved v (take_out v x p b) (take_out m y q c)
unfolding take_out
take_out_moved k list p before =
    let a = link_past_moved k list before (or_same (slot_same k process_slots next_link p) (nil_same k)) in
    let b = moved a (end_at_moved a.keeps (up a.grows list) (up a.grows p) (up a.grows (or_same before (nil_same k)))) in
    moved b (unlinked_moved b.keeps (up b.grows p))

with_first_alike : {v m : Kept} {x y : Ref} (f g : Kept → Ref → Out) → Keeps v m → Same (IsHeld v) x y → ((t u : Kept) (p : Ref) → Moved v t u → Same (IsHeld t) p p → Alike t (f t p) (g u p)) → Alike v (with_first v x f) (with_first m y g)
with_first_alike f g k list next =
    with_slot_alike _ _ k list_slots first_link list (λ p h.
    if_alike (is_process_same k (same p h))
    (let s = take_out_moved k list (same p h) none in behind s (next _ _ p s (up s.grows (same p h))))
    (stop_alike k _))

-- ---- starting and stopping

give_context_alike : {v m : Kept} {p q : Ref} → Keeps v m → Same (IsHeld v) p q → (i : ℕ) → Has v i → Alike v (give_context v p i) (give_context m q i)
give_context_alike k p i g = with_scheduler_alike _ _ k (λ scheduler h. let s = store_moved k (is scheduler) 1 p in done_alike (moved s (resume_moved s.keeps (same i (s.grows.held i g)))))

start_at_alike : {v m : Kept} {p q x y : Ref} → Keeps v m → Same (IsHeld v) p q → Same (IsHeld v) x y → Alike v (start_at v p x) (start_at m q y)
start_at_alike k p context =
    given_alike _ _ (context_birth_same k context) (stop_alike k why.BadProcess) (λ i h.
    if_alike (is_live_same k (same i h))
    (let s = store_moved k p suspended_context (nil_same k) in behind s (give_context_alike s.keeps (up s.grows p) i (s.grows.held i h)))
    (stop_alike k _))

pub start_alike : {v m : Kept} {p q : Ref} → Keeps v m → Same (IsHeld v) p q → Alike v (start v p) (start m q)
unfolding start
start_alike k p = with_slot_alike _ _ k process_slots suspended_context p (λ context h. start_at_alike k p (same context h))

pub stop_running_moved : {v m : Kept} {P : Ref → Type 0} {p q : Ref} → Keeps v m → Same P p q → Moved v (stop_running v p) (stop_running m q)
unfolding stop_running
stop_running_moved k p = let s = store_moved k p suspended_context (active_ref_same k) in moved s (suspend_moved s.keeps)

abbrev HighestHeld : Kept → Highest → Type 0
HighestHeld v (Waiting list) = IsHeld v list
HighestHeld v AllEmpty = Unit {0}
HighestHeld v NoList = Unit {0}

if_waiting_same : {v m : Kept} {x y : Ref} {o p : Option Ref} → Keeps v m → Same (IsHeld v) x y → SameOption (IsHeld v) o p → Same (HighestHeld v) (if_waiting v x o) (if_waiting m y p)
if_waiting_same k s none = same NoList tt
if_waiting_same k (same list g) (some first h) = if_same (is_nil_same k (is first)) (same AllEmpty tt) (same (Waiting list) g)

or_lower_same : {v m : Kept} {a b c d : Highest} → Keeps v m → Same (HighestHeld v) a b → Same (HighestHeld v) c d → Same (HighestHeld v) (or_lower a c) (or_lower b d)
or_lower_same k (same (Waiting list) h) t = same (Waiting list) h
or_lower_same k (same AllEmpty h) t = t
or_lower_same k (same NoList h) t = same NoList tt

highest_same : {v m : Kept} → Keeps v m → (lists : List Ref) → AllByRecursion (IsHeld v) lists → Same (HighestHeld v) (highest_of v lists) (highest_of m lists)
unfolding highest_of
highest_same k [] h = same AllEmpty tt
highest_same k (list ∷ lists) h = or_lower_same k (highest_same k lists h.1) (if_waiting_same k (same list h.0) (slot_same k list_slots first_link (same list h.0)))

none_active_alike : {v m : Kept} {x y : Ref} → Keeps v m → Same (IsHeld v) x y → Alike v (none_active v x) (none_active m y)
none_active_alike k s = let a = store_moved k s 1 (nil_same k) in done_alike (moved a (suspend_moved a.keeps))

start_highest_alike : {v m : Kept} {x y : Ref} {a b : Highest} → Keeps v m → Same (IsHeld v) x y → Same (HighestHeld v) a b → Alike v (start_highest v x a) (start_highest m y b)
start_highest_alike k s (same (Waiting list) h) = with_first_alike _ _ k (same list h) (λ t u p r g. start_alike r.keeps g)
start_highest_alike k s (same AllEmpty h) = none_active_alike k s
start_highest_alike k s (same NoList h) = stop_alike k _

pub start_next_alike : {v m : Kept} → Keeps v m → Alike v (start_next v) (start_next m)
unfolding start_next
start_next_alike k =
    with_scheduler_alike _ _ k (λ scheduler h.
    given_alike _ _ (lists_of_same k (same scheduler h)) (stop_alike k why.BadProcess) (λ lists g.
    start_highest_alike k (same scheduler h) (highest_same k lists g.all)))

-- ---- resume, signal, wait, suspend, yield

with_priority_alike : {v m : Kept} {p q : Ref} (f g : ℤ → Out) → Keeps v m → Same (IsHeld v) p q → ((z : ℤ) → Any z → Alike v (f z) (g z)) → Alike v (with_priority v p f) (with_priority m q g)
with_priority_alike f g k p next = given_alike f g (and_then_same (slot_same k process_slots priority p) (λ x h. any_option (small_of x))) (stop_alike k why.BadProcess) next

preempt_alike : {v m : Kept} {r s p q : Ref} → Keeps v m → Same (IsHeld v) r s → Same (IsHeld v) p q → Alike v (preempt v r p) (preempt m s q)
preempt_alike k running p =
    let s = stop_running_moved k running in
    looked_alike (behind s (with_list_alike _ _ s.keeps (up s.grows running) (λ list h.
    and_then_alike _ _ (add_preempted_alike s.keeps (same list h) (up s.grows running)) (λ t u r. start_alike r.keeps (up r.grows (up s.grows p))))))

resume_beside_alike : {v m : Kept} {r s p q : Ref} → Keeps v m → Same (IsHeld v) r s → Same (IsHeld v) p q → Alike v (resume_beside v r p) (resume_beside m s q)
resume_beside_alike k running p =
    if_alike (is_nil_same k running) (start_alike k p)
    (with_priority_alike _ _ k p (λ mine a.
    with_priority_alike _ _ k running (λ its b.
    if_alike (is (int_lt its mine)) (preempt_alike k running p) (with_list_alike _ _ k p (λ list g. add_last_alike k (same list g) p)))))

pub resume_alike : {v m : Kept} {p q : Ref} → Keeps v m → Same (IsHeld v) p q → Alike v (resume v p) (resume m q)
unfolding resume
resume_alike k p =
    if_alike (is_process_same k p)
    (with_active_alike _ _ k (λ running h. resume_beside_alike k (same running h) p))
    (stop_alike k _)

one_more_alike : {v m : Kept} {x y : Ref} {o p : Option ℤ} → Keeps v m → Same (IsHeld v) x y → Same Any o p → Alike v (one_more_excess v x o) (one_more_excess m y p)
one_more_alike k s (same None a) = stop_alike k _
one_more_alike k s (same (Some n) a) = if_alike (is (int_lt n (pos 1073741823))) (done_alike (store_moved k s excess_signals (same (Small (n +ℤ pos 1)) tt))) (stop_alike k _)

pub signal_alike : {v m : Kept} {x y : Ref} → Keeps v m → Same (IsHeld v) x y → Alike v (signal v x) (signal m y)
unfolding signal
signal_alike k s =
    with_slot_alike _ _ k semaphore_slots first_link s (λ first h.
    if_alike (is_nil_same k (is first)) (one_more_alike k s (of_option (λ o. option_and_then (λ x. small_of x) o) (slot_same k semaphore_slots excess_signals s)))
    (with_active_alike _ _ k (λ running h. with_first_alike _ _ k s (λ t u p r g. resume_beside_alike r.keeps (up r.grows (same running h)) g))))

-- a reference that v lacks names a context of m, or nothing: neither is a semaphore
none_both : {A : Type 0} (P : A → Type 0) (o p : Option A) → o ≡ None → p ≡ None → SameOption P o p
none_both P o p e f = subst (λ q. SameOption P q p) (sym e) (subst (λ q. SameOption P None q) (sym f) none)

no_slots : (n : ℕ) (o : Option Obj) → ((p : Obj) → o ≡ Some p → is_context p ≡ true) → at_least n (slots_in o) ≡ None
no_slots n None h = refl
no_slots n (Some (Ptr head slots)) h = let e : false ≡ true = h (Ptr head slots) refl in absurd (cc)
no_slots n (Some (Raw head bytes)) h = refl
no_slots n (Some (Method head header literals bytecodes)) h = refl
no_slots n (Some (Ctx c)) h = refl

signal_absent : {v m : Kept} → Keeps v m → (i : ℕ) → object_at v i ≡ None → Alike v (signal v (ref.Obj i)) (signal m (ref.Obj i))
unfolding signal slots_of
signal_absent {v} {m} k i lacks =
    let first = λ (o : Option (List Ref)). option_and_then (λ slots. slice_get slots first_link) o in
    let mine : at_least semaphore_slots (slots_in (object_at v i)) ≡ None = ap (λ o. at_least semaphore_slots (slots_in o)) lacks in
    let its : at_least semaphore_slots (slots_in (object_at m i)) ≡ None = no_slots semaphore_slots (object_at m i) (λ p e. kept_context k i p lacks e) in
    given_alike _ _ (none_both (λ x. ⊥) _ _ (ap first mine) (ap first its)) (stop_alike k why.BadProcess) (λ x h. absurd h)

-- so a signal needs no premise
pub signal_any : {v m : Kept} → Keeps v m → (x : Ref) → Alike v (signal v x) (signal m x)
signal_any k (Small a) = signal_alike k (same (Small a) tt)
signal_any k (Char c) = signal_alike k (same (Char c) tt)
signal_any {v} {m} k (ref.Obj i) =
    elim (object_at v i) as (λ o. object_at v i ≡ o → Alike v (signal v (ref.Obj i)) (signal m (ref.Obj i))) [
      | None ↦ λ e. signal_absent k i e
      | Some o ↦ λ e. signal_alike k (same (ref.Obj i) (ap is_some e))
    ] refl

wait_behind_alike : {v m : Kept} {x y : Ref} → Keeps v m → Same (IsHeld v) x y → Alike v (wait_behind v x) (wait_behind m y)
wait_behind_alike k s =
    with_active_alike _ _ k (λ running h.
    if_alike (is_process_same k (same running h))
    (and_then_alike _ _ (add_last_alike k s (same running h)) (λ t u r.
    let a = stop_running_moved r.keeps (is running) in looked_alike (behind a (start_next_alike a.keeps))))
    (stop_alike k _))

pub wait_alike : {v m : Kept} {x y : Ref} → Keeps v m → Same (IsHeld v) x y → Alike v (wait v x) (wait m y)
unfolding wait
wait_alike k s =
    given_alike _ _ (and_then_same (slot_same k semaphore_slots excess_signals s) (λ x h. any_option (small_of x))) (stop_alike k why.BadProcess) (λ n a.
    if_alike (is (int_lt (pos 0) n)) (done_alike (store_moved k s excess_signals (same (Small (n -ℤ pos 1)) tt))) (wait_behind_alike k s))

pub suspend_active_alike : {v m : Kept} {p q : Ref} → Keeps v m → Same (IsHeld v) p q → Alike v (suspend_active v p) (suspend_active m q)
unfolding suspend_active
suspend_active_alike k p = if_alike (is_process_same k p) (let s = stop_running_moved k p in looked_alike (behind s (start_next_alike s.keeps))) (stop_alike k _)

-- the process behind which another one stands is there
abbrev PlaceHeld : Kept → ListPlace → Type 0
PlaceHeld v (At before) = IsHeldIf v before
PlaceHeld v NotThere = Unit {0}
PlaceHeld v NoProcess = Unit {0}
PlaceHeld v TooFar = Unit {0}

at_same : {v m : Kept} {o p : Option Ref} → Keeps v m → SameOption (IsHeld v) o p → Same (PlaceHeld v) (At o) (At p)
at_same k none = same (At None) tt
at_same k (some x h) = same (At (Some x)) h

find_link_same : {v m : Kept} → Keeps v m → (p : Ref) (n : ℕ) {b c o r : Option Ref} → SameOption (IsHeld v) b c → SameOption (IsHeld v) o r → Same (PlaceHeld v) (find_link n v p b o) (find_link n m p c r)
unfolding find_link
find_link_same k p zero before none = same NoProcess tt
find_link_same k p zero before (some link h) = if_same (is_nil_same k (is link)) (same NotThere tt) (same TooFar tt)
find_link_same k p (suc n) before none = same NoProcess tt
find_link_same k p (suc n) before (some link h) =
    if_same (is_nil_same k (is link)) (same NotThere tt)
    (if_same (is_process_same k (same link h))
    (if_same (is (same_ref link p)) (at_same k before) (find_link_same k p n (some link h) (slot_same k process_slots next_link (same link h))))
    (same NoProcess tt))

leave_list_alike : {v m : Kept} {x y p q : Ref} {a b : ListPlace} → Keeps v m → Same (IsHeld v) p q → Same (IsHeld v) x y → Same (PlaceHeld v) a b → Alike v (leave_list v p x a) (leave_list m q y b)
leave_list_alike k p list (same (At before) h) = done_alike (take_out_moved k list p (held_if k before h))
leave_list_alike k p list (same NotThere h) = fail_alike k
leave_list_alike k p list (same NoProcess h) = stop_alike k _
leave_list_alike k p list (same TooFar h) = stop_alike k _

find_same : {v m : Kept} {p q : Ref} → Keeps v m → Same (IsHeld v) p q → (x : Ref) → IsHeld v x → Same (PlaceHeld v) (find_link list_links v p None (Some x)) (find_link list_links m q None (Some x))
find_same k (same p g) x h = find_link_same k p list_links none (some x h)

pub suspend_other_alike : {v m : Kept} {p q : Ref} → Keeps v m → Same (IsHeld v) p q → Alike v (suspend_other v p) (suspend_other m q)
unfolding suspend_other
suspend_other_alike k p =
    given_alike _ _ (slot_same k process_slots my_list p) (fail_alike k) (λ list h.
    given_alike _ _ (slot_same k list_slots first_link (same list h)) (fail_alike k) (λ first g.
    leave_list_alike k p (same list h) (find_same k p first g)))

pub suspend_alike : {v m : Kept} {p q : Ref} → Keeps v m → Same (IsHeld v) p q → Alike v (suspend v p) (suspend m q)
unfolding suspend
suspend_alike k p = with_active_alike _ _ k (λ running h. if_alike (two same_ref (is running) p) (suspend_active_alike k (same running h)) (suspend_other_alike k p))

give_way_to_alike : {v m : Kept} {r s x y : Ref} → Keeps v m → Same (IsHeld v) r s → Same (IsHeld v) x y → Alike v (give_way_to v r x) (give_way_to m s y)
give_way_to_alike k running list =
    with_first_alike _ _ k list (λ t u p r g.
    let s = stop_running_moved r.keeps (up r.grows running) in
    looked_alike (behind s (and_then_alike _ _ (add_last_alike s.keeps (up s.grows (up r.grows list)) (up s.grows (up r.grows running))) (λ w z e.
    start_alike e.keeps (up e.grows (up s.grows g))))))

pub give_way_alike : {v m : Kept} → Keeps v m → Alike v (give_way v) (give_way m)
unfolding give_way
give_way_alike k =
    with_active_alike _ _ k (λ running h.
    with_list_alike _ _ k (same running h) (λ list g.
    with_slot_alike _ _ k list_slots first_link (same list g) (λ first f.
    if_alike (is_nil_same k (is first)) (done_alike (unmoved k)) (give_way_to_alike k (same running h) (same list g)))))
