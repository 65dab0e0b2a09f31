-- Processes, semaphores and their lists (Blue Book, part four: process scheduling; yield, suspending a process that isn't
-- active and the state without an active process are this machine's own).
--
-- A Process has nextLink, suspendedContext, priority and myList; a list has firstLink and lastLink, and a Semaphore has
-- excessSignals beside them; the scheduler has the array of lists by priority and the active process. Shapes are looked at
-- where they are needed. Nothing keeps apart what these names stand for: a list may be the scheduler itself. So each
-- definition reads the active process once, before anything is written, and says in which order the links change, the active
-- process keeps its context, and the other process starts.
use Rattle.std.specs.Prelude.{ℕ, zero, suc, ℤ, pos, ◌+ℤ◌, ◌-ℤ◌, Bool, false, int_lt, if◌then◌else◌, List, [], ◌∷◌, Option, Some, None, is_some, option_and_then, slice_get, unwrap_or}
use Rattle.cs_model.specs.declared.stop.Stop.TheVariants as why
use Rattle.cs_model.specs.Ref.{Ref, Small, Char, named_object, same_ref, small_of, small_index}
use Rattle.cs_model.specs.Ref as ref
use Rattle.cs_model.specs.Obj.{slots_in}
use Rattle.cs_model.specs.State.{Kept, object_of, slots_of, is_nil, scheduler_of, active_process}
use Rattle.cs_model.specs.Read.{active_birth}
use Rattle.cs_model.specs.Profile.{puts_in_front}
use Rattle.cs_model.specs.Operation.{store_of, resume_of, suspend_of, nil_of}
use Rattle.cs_model.specs.Return.{context_birth, is_live}
use Rattle.cs_model.specs.End.{Out, out, stop, done, given, looked, and_then}
use Rattle.cs_model.specs.End as ends

-- ---- slots

abbrev pub next_link : ℕ
next_link = 0

abbrev pub suspended_context : ℕ
suspended_context = 1

abbrev pub priority : ℕ
priority = 2

abbrev pub my_list : ℕ
my_list = 3

abbrev pub first_link : ℕ
first_link = 0

abbrev pub last_link : ℕ
last_link = 1

abbrev pub excess_signals : ℕ
excess_signals = 2

abbrev pub process_slots : ℕ
process_slots = 4

abbrev pub semaphore_slots : ℕ
semaphore_slots = 3

abbrev pub list_slots : ℕ
list_slots = 2

-- slot i of a pointer object with at least n slots, else the step stops
abbrev pub slot_or_none : Kept → ℕ → ℕ → Ref → Option Ref
slot_or_none k n i x = option_and_then (λ slots. slice_get slots i) (slots_of k n x)

abbrev pub with_slot_of : Kept → ℕ → ℕ → Ref → (Ref → Out) → Out
with_slot_of k n i x next = given (slot_or_none k n i x) (stop why.BadProcess k) next

-- the scheduler, which has two slots
abbrev pub if_scheduler : Kept → Ref → Option Ref
if_scheduler k x = if is_some (slots_of k 2 x) then Some x else None

unfoldable pub shaped_scheduler : Kept → Option Ref
shaped_scheduler k = option_and_then (λ x. if_scheduler k x) (scheduler_of k)

-- the scheduler and the active process have their shape
abbrev pub with_scheduler : Kept → (Ref → Out) → Out
with_scheduler k next = given (shaped_scheduler k) (stop why.BadSpecial k) next

abbrev pub with_active_process : Kept → (Ref → Out) → Out
with_active_process k next = given (active_process k) (stop why.BadSpecial k) next

-- ---- lists

-- slot 0 of the scheduler: the array of lists, by priority from 1
abbrev pub lists_of : Kept → Ref → Option (List Ref)
lists_of k scheduler = option_and_then (λ x. slots_in (object_of k x)) (option_and_then (λ slots. slice_get slots 0) (slots_of k 2 scheduler))

abbrev pub list_at : List Ref → Option ℕ → Option Ref
list_at lists None = None
list_at lists (Some zero) = None
list_at lists (Some (suc p)) = slice_get lists p

abbrev pub if_list : Kept → Ref → Option Ref
if_list k list = if is_some (slots_of k list_slots list) then Some list else None

-- the list of a process's priority
unfoldable pub list_of_process : Kept → Ref → Ref → Option Ref
list_of_process k scheduler p =
    option_and_then (λ lists. option_and_then (λ list. if_list k list)
    (list_at lists (option_and_then (λ x. small_index x) (slot_or_none k process_slots priority p))))
    (lists_of k scheduler)

abbrev pub with_list_of : Kept → Ref → (Ref → Out) → Out
with_list_of k p next = with_scheduler k (λ scheduler. given (list_of_process k scheduler p) (stop why.BadProcess k) next)

-- behind the last of a list that isn't empty, which must be a process
abbrev pub link_last : Kept → Ref → Ref → Out
link_last k list p =
    with_slot_of k list_slots first_link list (λ first.
    if is_nil k first then done (store_of k list first_link p) else
    with_slot_of k list_slots last_link list (λ last.
    if is_some (slots_of k process_slots last) then done (store_of k last next_link p) else stop why.BadProcess k))

-- the process goes to the back of the list: its nextLink is nil and its myList the list, the last one links to it, and it is
-- the last
unfoldable pub add_last : Kept → Ref → Ref → Out
add_last k list p =
    and_then (link_last (store_of (store_of k p next_link (nil_of k)) p my_list list) list p) (λ t. done (store_of t list last_link p))

-- where the list was empty, the process is the last one too
abbrev pub last_if_alone : Kept → Ref → Ref → Ref → Kept
last_if_alone k list p first = if is_nil k first then store_of k list last_link p else k

-- the process goes to the front of the list: its nextLink is the first one, its myList the list, and it is the first
unfoldable pub add_first : Kept → Ref → Ref → Out
add_first k list p =
    with_slot_of k list_slots first_link list (λ first.
    done (last_if_alone (store_of (store_of (store_of k p next_link first) p my_list list) list first_link p) list p first))

-- a process that is preempted goes to the back of its list, or to the front where the image's header has it so
unfoldable pub add_preempted : Kept → Ref → Ref → Out
add_preempted k list p = if puts_in_front k.rest.header then add_first k list p else add_last k list p

-- the link to a process gets what the process links to: the list's first link, or that of the process before
abbrev pub link_past : Kept → Ref → Option Ref → Ref → Kept
link_past k list None next = store_of k list first_link next
link_past k list (Some before) next = store_of k before next_link next

abbrev pub is_same : Option Ref → Ref → Bool
is_same None y = false
is_same (Some x) y = same_ref x y

-- where the process was the last, the one before is the last
abbrev pub last_past : Kept → Ref → Ref → Ref → Kept
last_past k list p before = if is_same (slot_or_none k list_slots last_link list) p then store_of k list last_link before else k

-- out of a list nextLink and myList are nil
abbrev pub unlinked : Kept → Ref → Kept
unlinked k p = store_of (store_of k p next_link (nil_of k)) p my_list (nil_of k)

unfoldable pub take_out : Kept → Ref → Ref → Option Ref → Kept
take_out k list p before =
    unlinked (last_past (link_past k list before (unwrap_or (slot_or_none k process_slots next_link p) (nil_of k))) list p (unwrap_or before (nil_of k))) p

-- the first of a list that isn't empty leaves it
abbrev pub with_first : Kept → Ref → (Kept → Ref → Out) → Out
with_first k list next =
    with_slot_of k list_slots first_link list (λ p.
    if is_some (slots_of k process_slots p) then next (take_out k list p None) p else stop why.BadProcess k)

-- ---- starting and stopping

-- the process is active, and gives its suspendedContext to the machine
abbrev pub give_context : Kept → Ref → ℕ → Out
give_context k p i = with_scheduler k (λ scheduler. done (resume_of (store_of k scheduler 1 p) i))

abbrev pub start_at : Kept → Ref → Ref → Out
start_at k p context =
    given (context_birth k context) (stop why.BadProcess k) (λ i.
    if is_live k i then give_context (store_of k p suspended_context (nil_of k)) p i else stop why.BadProcess k)

unfoldable pub start : Kept → Ref → Out
start k p = with_slot_of k process_slots suspended_context p (λ context. start_at k p context)

-- the active process keeps the active context
unfoldable pub stop_running : Kept → Ref → Kept
stop_running k p = suspend_of (store_of k p suspended_context (ref.Obj (active_birth k)))

-- the lists from the highest priority down: the first one that isn't empty
pub data Highest : Type 0 where
  Waiting : (list : Ref) → Highest
  AllEmpty : Highest
  NoList : Highest

abbrev pub if_waiting : Kept → Ref → Option Ref → Highest
if_waiting k list None = NoList
if_waiting k list (Some first) = if is_nil k first then AllEmpty else Waiting list

abbrev pub or_lower : Highest → Highest → Highest
or_lower (Waiting list) lower = Waiting list
or_lower AllEmpty lower = lower
or_lower NoList lower = NoList

unfoldable pub highest_of : Kept → List Ref → Highest
highest_of k [] = AllEmpty
highest_of k (list ∷ lists) = or_lower (highest_of k lists) (if_waiting k list (slot_or_none k list_slots first_link list))

-- no process is active
abbrev pub none_active : Kept → Ref → Out
none_active k scheduler = done (suspend_of (store_of k scheduler 1 (nil_of k)))

abbrev pub start_highest : Kept → Ref → Highest → Out
start_highest k scheduler (Waiting list) = with_first k list (λ t p. start t p)
start_highest k scheduler AllEmpty = none_active k scheduler
start_highest k scheduler NoList = stop why.BadProcess k

-- the first process of the highest list that isn't empty becomes active
unfoldable pub start_next : Kept → Out
start_next k = with_scheduler k (λ scheduler. given (lists_of k scheduler) (stop why.BadProcess k) (λ lists. start_highest k scheduler (highest_of k lists)))

-- ---- resume, signal, wait, suspend, yield

abbrev pub priority_of : Kept → Ref → Option ℤ
priority_of k p = option_and_then (λ x. small_of x) (slot_or_none k process_slots priority p)

abbrev pub with_priority : Kept → Ref → (ℤ → Out) → Out
with_priority k p next = given (priority_of k p) (stop why.BadProcess k) next

-- the active process goes into its list, and p starts
abbrev pub preempt : Kept → Ref → Ref → Out
preempt k running p =
    looked (with_list_of (stop_running k running) running (λ list.
    and_then (add_preempted (stop_running k running) list running) (λ t. start t p)))

-- p is active where its priority is above that of the running process, or none is running; else it waits in its own list
abbrev pub resume_beside : Kept → Ref → Ref → Out
resume_beside k running p =
    if is_nil k running then start k p else
    with_priority k p (λ mine.
    with_priority k running (λ its.
    if int_lt its mine then preempt k running p else with_list_of k p (λ list. add_last k list p)))

unfoldable pub resume : Kept → Ref → Out
resume k p =
    if is_some (slots_of k process_slots p) then with_active_process k (λ running. resume_beside k running p)
    else stop why.BadProcess k

-- one more excess signal, if that is still a SmallInteger
abbrev pub one_more_excess : Kept → Ref → Option ℤ → Out
one_more_excess k semaphore None = stop why.BadProcess k
one_more_excess k semaphore (Some n) =
    if int_lt n (pos 1073741823) then done (store_of k semaphore excess_signals (Small (n +ℤ pos 1))) else stop why.BadProcess k

-- The first waiter is resumed; without one the signal is kept. The active process is read before the waiter leaves the list,
-- since that list may be the scheduler.
unfoldable pub signal : Kept → Ref → Out
signal k semaphore =
    with_slot_of k semaphore_slots first_link semaphore (λ first.
    if is_nil k first then one_more_excess k semaphore (option_and_then (λ x. small_of x) (slot_or_none k semaphore_slots excess_signals semaphore))
    else with_active_process k (λ running. with_first k semaphore (λ t p. resume_beside t running p)))

-- the active process waits in the semaphore's list, and the next one runs
abbrev pub wait_behind : Kept → Ref → Out
wait_behind k semaphore =
    with_active_process k (λ running.
    if is_some (slots_of k process_slots running) then
    and_then (add_last k semaphore running) (λ t. looked (start_next (stop_running t running)))
    else stop why.BadProcess k)

-- an excess signal is taken, or the process waits
unfoldable pub wait : Kept → Ref → Out
wait k semaphore =
    given (option_and_then (λ x. small_of x) (slot_or_none k semaphore_slots excess_signals semaphore)) (stop why.BadProcess k) (λ n.
    if int_lt (pos 0) n then done (store_of k semaphore excess_signals (Small (n -ℤ pos 1))) else wait_behind k semaphore)

-- the active process stops, and the next one runs
unfoldable pub suspend_active : Kept → Ref → Out
suspend_active k running =
    if is_some (slots_of k process_slots running) then looked (start_next (stop_running k running)) else stop why.BadProcess k

-- how many links a search of a list follows
unfoldable pub list_links : ℕ
list_links = 65536

-- where a process stands in a list: behind which one, if it isn't the first
pub data ListPlace : Type 0 where
  At : (before : Option Ref) → ListPlace
  NotThere : ListPlace
  NoProcess : ListPlace
  TooFar : ListPlace

unfoldable pub find_link : ℕ → Kept → Ref → Option Ref → Option Ref → ListPlace
find_link n k p before None = NoProcess
find_link zero k p before (Some link) = if is_nil k link then NotThere else TooFar
find_link (suc n) k p before (Some link) =
    if is_nil k link then NotThere else
    if is_some (slots_of k process_slots link) then
    (if same_ref link p then At before else find_link n k p (Some link) (slot_or_none k process_slots next_link link))
    else NoProcess

-- a process that isn't active leaves its list
abbrev pub leave_list : Kept → Ref → Ref → ListPlace → Out
leave_list k p list (At before) = done (take_out k list p before)
leave_list k p list NotThere = out ends.Fail k
leave_list k p list NoProcess = stop why.BadProcess k
leave_list k p list TooFar = stop why.ChainTooLong k

unfoldable pub suspend_other : Kept → Ref → Out
suspend_other k p =
    given (slot_or_none k process_slots my_list p) (out ends.Fail k) (λ list.
    given (slot_or_none k list_slots first_link list) (out ends.Fail k) (λ first.
    leave_list k p list (find_link list_links k p None (Some first))))

unfoldable pub suspend : Kept → Ref → Out
suspend k p = with_active_process k (λ running. if same_ref running p then suspend_active k running else suspend_other k p)

-- yield: the first process of the active one's list runs, and the active one goes to the back of that list
abbrev pub give_way_to : Kept → Ref → Ref → Out
give_way_to k running list =
    with_first k list (λ t p.
    looked (and_then (add_last (stop_running t running) list running) (λ u. start u p)))

unfoldable pub give_way : Kept → Out
give_way k =
    with_active_process k (λ running.
    with_list_of k running (λ list.
    with_slot_of k list_slots first_link list (λ first.
    if is_nil k first then done k else give_way_to k running list)))
