-- Shallow runs: chains are short, processes are few and apart, each goes on where it stopped, and image code writes no sender, pc,
-- stackp, method or closure of an activation. Of such a run it can be told by its looks alone how few contexts a machine of stack
-- pages has to make (this machine's own).
use Rattle.std.specs.Prelude.{◌≡◌, ◌≢◌, ℕ, zero, suc, ◌+◌, ◌<◌, ◌≤◌, ◌==◌, ◌&&◌, ◌||◌, not, Bool, true, false, nat_lt, if◌then◌else◌, List, [], ◌∷◌, ◌++◌, length, Option, Some, None, option_map, option_and_then, slice_get}
use Rattle.std.specs.List.{All, Contains, list_any}
use Rattle.std.specs.Option.{option_to_list}
use Rattle.cs_model.specs.declared.instruction.Op.{Op}
use Rattle.cs_model.specs.declared.instruction.Op.TheVariants as op
use Rattle.cs_model.specs.Ref.{Ref, named_object, same_ref}
use Rattle.cs_model.specs.State.{Kept, Run, State, special_at, is_nil, active_process}
use Rattle.cs_model.specs.Read.{receiver_of}
use Rattle.cs_model.specs.Exec.{exec}
use Rattle.cs_model.specs.Send.{send}
use Rattle.cs_model.specs.Return.{Search, Met, Ended, TooLong, context_birth, sender_birth, senders_to, back}
use Rattle.cs_model.specs.PrimAnswer.{receiver, argument}
use Rattle.cs_model.specs.PrimObject.{slot_index}
use Rattle.cs_model.specs.PrimRun.{Result}
use Rattle.cs_model.specs.PrimTable.{prim}
use Rattle.cs_model.specs.Due.{is_idle, due}
use Rattle.cs_model.specs.Step.{Message, message_in, return_in, primitive_in, call_in, arguments_of, with_kept, instruction_at, moved_past, birth_limit, run}
use Rattle.cs_model.specs.Demand.{step_after, states_of, before_bytecode, was_active}
use Rattle.cs_model.specs.End.{End, Out, given, is_done}
use Rattle.cs_model.specs.End as ends

-- ---- chains and processes

-- the active chain is the active context and its senders
unfoldable pub chain : ℕ → Kept → Option ℕ → List ℕ
chain zero k i = []
chain (suc n) k None = []
chain (suc n) k (Some i) = i ∷ chain n k (sender_birth k i)

unfoldable pub ends_within : ℕ → Kept → Option ℕ → Bool
ends_within n k None = true
ends_within zero k (Some i) = false
ends_within (suc n) k (Some i) = ends_within n k (sender_birth k i)

abbrev pub longest_chain : ℕ
longest_chain = 60

abbrev pub active_chain : Kept → List ℕ
active_chain k = chain longest_chain k k.rest.active

-- the process that is active, if one is
abbrev pub running : Kept → Option Ref
running k = option_and_then (λ p. if is_nil k p then None else Some p) (active_process k)

abbrev pub one_more_process : Option Ref → List Ref → List Ref
one_more_process None ps = ps
one_more_process (Some p) ps = if list_any (λ q. same_ref p q) ps then ps else p ∷ ps

-- the processes that were active, each once
abbrev pub processes_in : List Kept → List Ref
processes_in [] = []
processes_in (k ∷ ks) = one_more_process (running k) (processes_in ks)

-- ---- the primitives that a bytecode tries

-- the state in which a primitive is tried
pub record Trial : Type 0 where
  pub state : State
  pub method : Ref
  pub number : ℕ

abbrev pub result_of : Trial → Result
result_of t = prim t.number (arguments_of t.state.kept t.method) t.state

-- the primitive that an end asks for
abbrev pub trial_in : Run → Out → Option Trial
trial_in r o = option_map (λ p. record { state = with_kept o.state r; method = p.0; number = p.1 }) (primitive_in o.end)

-- that of the method, and that of the one that a perform finds, which is entered at once where it is a perform too
abbrev pub trials_from : Trial → List Trial
trials_from t = t ∷ option_to_list (trial_in (result_of t).run (result_of t).out)

-- the message that an instruction leads to, and the state in which it is sent: its own, or that of a return that can't be done
pub record Sending : Type 0 where
  pub state : Kept
  pub message : Message

abbrev pub sending_of_call : Out → Option Sending
sending_of_call o =
    option_and_then (λ c. option_map (λ selector. record { state = o.state; message = record { selector = selector; args = c.1; above = None } })
    (special_at o.state c.0)) (call_in o.end)

abbrev pub sending_from : Out → Option Sending
sending_from o =
    given (message_in o.end)
    (option_and_then (λ p. sending_of_call (back o.state p.0 p.1)) (return_in o.end))
    (λ m. Some (record { state = o.state; message = m }))

abbrev pub sent_out : Sending → Out
sent_out a = send a.state a.message.selector a.message.args a.message.above

unfoldable pub trials : Run → Out → List Trial
trials r o = given (option_and_then (λ a. trial_in r (sent_out a)) (sending_from o)) [] (λ t. trials_from t)

-- ---- the contexts that image code changes

-- sender, pc, stackp, method and closure are fields 0 to 4
abbrev pub is_frame_field : Option ℕ → Bool
is_frame_field None = false
is_frame_field (Some i) = nat_lt i 5

abbrev pub stored_field : Op → Option ℕ
stored_field (op.PopRcvr i) = Some i
stored_field (op.StoreRcvr i) = Some i
stored_field other = None

abbrev pub context_named : Kept → Ref → List ℕ
context_named k x = option_to_list (context_birth k x)

-- a store into the receiver
abbrev pub changed_by_store : Op → Kept → List ℕ
changed_by_store o k = if is_frame_field (stored_field o) && is_done (exec o k).end then context_named k (receiver_of k) else []

abbrev pub if_met : Search → List ℕ
if_met (Met between) = between
if_met (Ended between) = []
if_met TooLong = []

-- 196 gives its receiver another sender, and ends the contexts between
abbrev pub ended_between : Kept → ℕ → Ref → List ℕ
ended_between k i goal = if is_nil k goal then [] else given (named_object goal) [] (λ j. if_met (senders_to k i j))

abbrev pub changed_by_end : Kept → List ℕ
changed_by_end k = given (context_birth k (receiver k 1)) [] (λ i. i ∷ ended_between k i (argument k 1 0))

abbrev pub is_answer : End → Bool
is_answer ends.Answer = true
is_answer other = false

-- 74 stores a slot, counted from 1
abbrev pub changed_by_slot : Kept → List ℕ
changed_by_slot k = if is_frame_field (slot_index (argument k 2 0)) then context_named k (receiver k 2) else []

abbrev pub changed_by_number : ℕ → Kept → List ℕ
changed_by_number number k = if number == 74 then changed_by_slot k else if number == 196 then changed_by_end k else []

abbrev pub changed_by_trial : Trial → List ℕ
changed_by_trial t = if is_answer (result_of t).out.end then changed_by_number t.number t.state.kept else []

unfoldable pub changed_by_trials : List Trial → List ℕ
changed_by_trials [] = []
changed_by_trials (t ∷ ts) = changed_by_trial t ++ changed_by_trials ts

abbrev pub changed_by_op : Run → Op → Kept → List ℕ
changed_by_op r o k = changed_by_store o k ++ changed_by_trials (trials r (exec o k))

-- of a bytecode: the contexts of which it writes such a field, and those that 196 changes or ends
unfoldable pub changed : State → List ℕ
changed s = given (instruction_at s.kept) [] (λ i. changed_by_op s.run i.op (moved_past s.kept i))

-- the state in which the bytecode of a step is done, if it comes to that
abbrev pub bytecode_state : State → Option State
bytecode_state s =
    if nat_lt birth_limit s.kept.rest.next || not (is_done (due s).end) || is_idle (due s).state.kept then None else Some (due s).state

-- those of step n + 1
unfoldable pub changed_after : ℕ → State → List ℕ
changed_after n s = given (step_after n s) [] (λ t. given (bytecode_state (run n s).state) [] (λ b. changed b))

-- the states up to its bytecode
abbrev pub states_before : ℕ → State → List Kept
states_before n s = states_of n s ++ before_bytecode (run n s).state

-- ---- shallow runs

abbrev pub IsState : ℕ → State → ℕ → Kept → Type 0
IsState n s i k = slice_get (states_of n s) i ≡ Some k

-- the process isn't active between two states
abbrev pub IsAway : ℕ → State → ℕ → ℕ → Ref → Type 0
IsAway n s i j p = suc i < j × ((l : ℕ) (k : Kept) → i < l → l < j → IsState n s l k → running k ≢ Some p)

-- Over the first n steps, the active chain always ends and has at most 60 contexts; at most p processes were active; a process
-- that becomes active again does so with the context at which it stopped; no context was on the chains of two processes; and
-- image code changed no context that had begun.
pub record IsShallow (n : ℕ) (s : State) (p : ℕ) : Type 0 where
  pub chains : All (λ k. ends_within longest_chain k k.rest.active ≡ true) (states_of n s)
  pub processes : length (processes_in (states_of n s)) ≤ p
  pub again : (i j : ℕ) (a b : Kept) (q : Ref) → IsState n s i a → IsState n s j b → running a ≡ Some q → running b ≡ Some q → IsAway n s i j q → b.rest.active ≡ a.rest.active
  pub apart : (i j : ℕ) (a b : Kept) (q r : Ref) (c : ℕ) → IsState n s i a → IsState n s j b → running a ≡ Some q → running b ≡ Some r → Contains (active_chain a) c → Contains (active_chain b) c → q ≡ r
  pub untouched : (i c : ℕ) → i < n → Contains (changed_after i s) c → was_active c (states_before i s) ≡ false
