-- Primitives on processes and semaphores (Blue Book, part four: process primitives). A primitive answers first and switches
-- afterwards, in the same step.
use Rattle.std.specs.Prelude.{ℕ, ◌&&◌, Bool, false, if◌then◌else◌, Option, Some, None}
use Rattle.cs_model.specs.declared.stop.Stop.TheVariants as why
use Rattle.cs_model.specs.Ref.{Ref, same_ref}
use Rattle.cs_model.specs.State.{Kept, special_at, is_nil, active_process}
use Rattle.cs_model.specs.Read.{class_of}
use Rattle.cs_model.specs.Operation.{nil_of}
use Rattle.cs_model.specs.Return.{context_birth, is_live}
use Rattle.cs_model.specs.Process.{process_slots, suspended_context, my_list, slot_or_none, signal, wait, resume, suspend_active, suspend_other, give_way}
use Rattle.cs_model.specs.PrimAnswer.{fail, answer, receiver, with_count}
use Rattle.cs_model.specs.End.{Out, out, stop, done, given, is_done, counting}
use Rattle.cs_model.specs.End as ends

-- a semaphore is an instance of special 18
abbrev pub semaphore_class : ℕ
semaphore_class = 18

abbrev pub both_same : Option Ref → Option Ref → Bool
both_same None y = false
both_same (Some x) None = false
both_same (Some x) (Some y) = same_ref x y

unfoldable pub is_semaphore : Kept → Ref → Bool
is_semaphore k x = both_same (class_of k x) (special_at k semaphore_class)

-- what is done behind an answer
unfoldable pub answered : Out → Out
answered o = if is_done o.end then record o { end = ends.Answer } else o

unfoldable pub signal_prim : Kept → ℕ → Out
signal_prim k args = with_count k 0 args (if is_semaphore k (receiver k 0) then answered (signal (answer k 0 (receiver k 0)).state (receiver k 0)) else fail k)

unfoldable pub wait_prim : Kept → ℕ → Out
wait_prim k args = with_count k 0 args (if is_semaphore k (receiver k 0) then answered (wait (answer k 0 (receiver k 0)).state (receiver k 0)) else fail k)

abbrev pub is_live_at : Kept → Option ℕ → Bool
is_live_at k None = false
is_live_at k (Some i) = is_live k i

-- a Process whose myList is nil and whose suspendedContext is live
abbrev pub is_suspended : Kept → Option Ref → Option Ref → Bool
is_suspended k None list = false
is_suspended k (Some context) None = false
is_suspended k (Some context) (Some list) = is_nil k list && is_live_at k (context_birth k context)

unfoldable pub resume_prim : Kept → ℕ → Out
resume_prim k args = with_count k 0 args
    (if is_suspended k (slot_or_none k process_slots suspended_context (receiver k 0)) (slot_or_none k process_slots my_list (receiver k 0)) then
    given (active_process k) (stop why.BadSpecial k) (λ running.
    if same_ref running (receiver k 0) then fail k else answered (resume (answer k 0 (receiver k 0)).state (receiver k 0)))
    else fail k)

-- the active process answers nil and stops; another one answers the list that it leaves
abbrev pub leave_and_answer : Kept → Ref → Out → Out
leave_and_answer k list o = if is_done o.end then counting o.count (answer o.state 0 list) else o

unfoldable pub suspend_prim : Kept → ℕ → Out
suspend_prim k args = with_count k 0 args
    (given (active_process k) (stop why.BadSpecial k) (λ running.
    if same_ref running (receiver k 0) then answered (suspend_active (answer k 0 (nil_of k)).state running)
    else given (slot_or_none k process_slots my_list (receiver k 0)) (fail k) (λ list. leave_and_answer k list (suspend_other k (receiver k 0)))))

unfoldable pub yield_prim : Kept → ℕ → Out
yield_prim k args = with_count k 0 args (answered (give_way (answer k 0 (receiver k 0)).state))
