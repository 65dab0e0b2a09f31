-- One step of the machine: the events that are due, and one bytecode with all that it leads to. A run is a number of steps.
use Rattle.std.specs.Prelude.{ℕ, zero, suc, ◌+◌, ◌-◌, ◌&&◌, Bool, true, false, not, nat_lt, if◌then◌else◌, List, [], ◌∷◌, ◌++◌, Option, Some, None, is_some, option_and_then}
use Rattle.cs_model.specs.declared.stop.Stop.{Stop}
use Rattle.cs_model.specs.declared.stop.Stop.TheVariants as why
use Rattle.cs_model.specs.declared.instruction.Instr.{Instr}
use Rattle.cs_model.specs.Ref.{Ref, same_ref}
use Rattle.cs_model.specs.Obj.{first_pc, header_in, argument_count}
use Rattle.cs_model.specs.State.{Kept, Run, State, object_of, slots_of, special_at, scheduler_of, is_nil, active_process}
use Rattle.cs_model.specs.Read.{pc_of, literals_of, bytecodes_of}
use Rattle.cs_model.specs.Operation.{set_pc_of}
use Rattle.cs_model.specs.Decode.{decode_at}
use Rattle.cs_model.specs.Exec.{exec}
use Rattle.cs_model.specs.Send.{enter_out, send}
use Rattle.cs_model.specs.Return.{back}
use Rattle.cs_model.specs.PrimRun.{Result, result}
use Rattle.cs_model.specs.PrimTable.{prim, is_perform}
use Rattle.cs_model.specs.Due.{Happened, is_idle, without_context, left_count, due}
use Rattle.cs_model.specs.End.{End, Out, Count, out, stop, no_count, plus, given}
use Rattle.cs_model.specs.End as ends

-- ---- what an end asks for

pub record Message : Type 0 where
  pub selector : Ref
  pub args : ℕ
  pub above : Option Ref

abbrev pub message_in : End → Option Message
message_in (ends.Send selector args above) = Some (record { selector = selector; args = args; above = above })
message_in end = None

abbrev pub return_in : End → Option (Ref × Bool)
return_in (ends.Return value local) = Some (value, local)
return_in end = None

abbrev pub primitive_in : End → Option (Ref × ℕ)
primitive_in (ends.Primitive method number) = Some (method, number)
primitive_in end = None

abbrev pub call_in : End → Option (ℕ × ℕ)
call_in (ends.Call special args) = Some (special, args)
call_in end = None

abbrev pub is_fail : End → Bool
is_fail ends.Fail = true
is_fail end = false

-- ---- the primitive of a method that was found

abbrev pub with_kept : Kept → Run → State
with_kept k r = record { kept = k; run = r }

-- what was counted before counts too
abbrev pub result_counting : Count → Result → Result
result_counting n r = record r { out = record { end = r.out.end; state = r.out.state; count = plus n r.out.count } }

abbrev pub arguments_of : Kept → Ref → ℕ
arguments_of k method = argument_count (header_in (object_of k method))

-- where a primitive fails its method is entered behind it
abbrev pub or_enter : State → Ref → Result → Result
or_enter s method r = if is_fail r.out.end then result (enter_out s.kept method (arguments_of s.kept method) true) s.run else r

-- a method that was reached by a perform: its own perform fails
unfoldable pub try_performed : State → Ref → ℕ → Result
try_performed s method number =
    if is_perform number then result (enter_out s.kept method (arguments_of s.kept method) true) s.run
    else or_enter s method (prim number (arguments_of s.kept method) s)

abbrev pub tried : State → Ref → Result → Result
tried s method r =
    given (primitive_in r.out.end) (or_enter s method r) (λ p. result_counting r.out.count (try_performed (with_kept r.out.state r.run) p.0 p.1))

unfoldable pub try_primitive : State → Ref → ℕ → Result
try_primitive s method number = tried s method (prim number (arguments_of s.kept method) s)

-- ---- sends and returns

abbrev pub sent : Run → Out → Result
sent r o = given (primitive_in o.end) (result o r) (λ p. result_counting o.count (try_primitive (with_kept o.state r) p.0 p.1))

unfoldable pub do_send : Run → Kept → Ref → ℕ → Option Ref → Result
do_send r k selector args above = sent r (send k selector args above)

-- aboutToReturn:through: and cannotReturn: are sent as any other message
abbrev pub do_call : Run → Kept → ℕ → ℕ → Result
do_call r k special args = given (special_at k special) (result (stop why.BadSpecial k) r) (λ selector. do_send r k selector args None)

abbrev pub returned : Run → Out → Result
returned r o = given (call_in o.end) (result o r) (λ c. result_counting o.count (do_call r o.state c.0 c.1))

unfoldable pub do_return : Run → Kept → Ref → Bool → Result
do_return r k value local = returned r (back k value local)

-- ---- the bytecode

abbrev pub followed : Run → Out → Result
followed r o =
    given (message_in o.end)
    (given (return_in o.end) (result o r) (λ p. result_counting o.count (do_return r o.state p.0 p.1)))
    (λ m. result_counting o.count (do_send r o.state m.selector m.args m.above))

-- the instruction at the active pc
unfoldable pub instruction_at : Kept → Option Instr
instruction_at k = decode_at (bytecodes_of k) (pc_of k - first_pc (literals_of k))

-- the pc is moved past it, and then it has its effect
abbrev pub moved_past : Kept → Instr → Kept
moved_past k i = set_pc_of k (pc_of k + i.len)

abbrev pub obey : State → Instr → Result
obey s i = followed s.run (exec i.op (moved_past s.kept i))

unfoldable pub bytecode : State → Result
bytecode s = given (instruction_at s.kept) (result (stop why.BadCode s.kept) s.run) (λ i. obey s i)

-- ---- the end of a step

abbrev pub is_ref : Option Ref → Ref → Bool
is_ref None y = false
is_ref (Some x) y = same_ref x y

-- special 3 and the active process must have their shape still
abbrev pub is_process : Kept → Ref → Bool
is_process k p = is_some (slots_of k 4 p) && not (is_ref (scheduler_of k) p) && not (is_ref (special_at k 3) p)

abbrev pub process_fault : Kept → Option Ref → Option Stop
process_fault k None = Some why.BadSpecial
process_fault k (Some p) = if is_nil k p then None else if is_process k p then None else Some why.BadProcess

unfoldable pub shape_fault : Kept → Option Stop
shape_fault k = process_fault k (active_process k)

-- how a run ends: the steps are done, the image quits, no process is active and no event is left, or a step stops
pub data Ending : Type 0 where
  Steps : Ending
  Quit : Ending
  Idle : Ending
  Stopped : (reason : Stop) → Ending

-- What a step gives: how it ends, where Steps means that the run may go on; the state; what it counted; and the state that it
-- saved, if it did.
pub record Step : Type 0 where
  pub ending : Ending
  pub state : State
  pub count : Count
  pub snapshot : Option Kept

-- a step that stops gives the state before it
abbrev pub stops : State → Count → Stop → Step
stops s n reason = record { ending = Stopped reason; state = s; count = n; snapshot = None }

-- one more bytecode is completed
abbrev pub next_step : Run → Run
next_step r = record r { steps = r.steps + 1 }

-- with no active process no context is active
abbrev pub ends_with : Ending → Result → Step
ends_with e r = record {
  ending = e;
  state = with_kept (without_context r.out.state) (next_step r.run);
  count = plus r.out.count (left_count r.out.state);
  snapshot = r.snapshot;
}

abbrev pub completed : State → Ending → Result → Step
completed s e r = given (shape_fault r.out.state) (ends_with e r) (λ reason. stops s r.out.count reason)

-- A state that is saved must have that shape too: where the active process is the scheduler or special 3, settling writes over what
-- names it.
abbrev pub saved_fault : Option Kept → Option Stop
saved_fault saved = option_and_then (λ k. shape_fault k) saved

abbrev pub finish : State → Result → End → Step
finish s r ends.Quit = completed s Quit r
finish s r ends.Snapshot = given (saved_fault r.snapshot) (completed s Steps r) (λ reason. stops s r.out.count reason)
finish s r (ends.Stopped reason) = stops s r.out.count reason
finish s r end = completed s Steps r

-- ---- a step

-- births end so far below 2^62 that a step can't pass it
abbrev pub birth_limit : ℕ
birth_limit = 4611686018427387840

abbrev pub idle : Happened → Step
idle h = record { ending = Idle; state = h.state; count = h.count; snapshot = None }

abbrev pub add_count : Count → Step → Step
add_count n t = record t { count = plus n t.count }

abbrev pub finish_of : State → Result → Step
finish_of s r = finish s r r.out.end

abbrev pub ready : State → Happened → Step
ready s h = if is_idle h.state.kept then idle h else add_count h.count (finish_of s (bytecode h.state))

-- an event is done, or the signal that it makes stops
abbrev pub stop_in : End → Option Stop
stop_in (ends.Stopped reason) = Some reason
stop_in end = None

abbrev pub after_due : State → Happened → Step
after_due s h = given (stop_in h.end) (ready s h) (λ reason. stops s h.count reason)

unfoldable pub step : State → Step
step s = if nat_lt birth_limit s.kept.rest.next then stops s no_count why.BirthLimit else after_due s (due s)

-- ---- a run

-- What a run of n steps gives: how it ended, the state, what it counted, and the states that it saved, in order.
pub record Ran : Type 0 where
  pub ending : Ending
  pub state : State
  pub count : Count
  pub snapshots : List Kept

abbrev pub started : State → Ran
started s = record { ending = Steps; state = s; count = no_count; snapshots = [] }

abbrev pub saved : Option Kept → List Kept
saved None = []
saved (Some k) = k ∷ []

abbrev pub one_more : Ran → Step → Ran
one_more r t = record { ending = t.ending; state = t.state; count = plus r.count t.count; snapshots = r.snapshots ++ saved t.snapshot }

-- a run that has ended stays
abbrev pub go_on : (State → Step) → Ran → Ending → Ran
go_on f r Steps = one_more r (f r.state)
go_on f r Quit = r
go_on f r Idle = r
go_on f r (Stopped reason) = r

-- so many steps by a step function, or fewer where one of them ends the run
unfoldable pub run_by : (State → Step) → ℕ → State → Ran
run_by f zero s = started s
run_by f (suc n) s = go_on f (run_by f n s) (run_by f n s).ending

abbrev pub run : ℕ → State → Ran
run n s = run_by step n s
