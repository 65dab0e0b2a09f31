-- Which steps are built so far. A step that isn't built stops with NotBuilt; any other one is the step of the model.
use Rattle.std.specs.Prelude.{ℕ, ◌==◌, ◌&&◌, ◌||◌, not, Bool, true, false, nat_lt, if◌then◌else◌, Option, Some, None}
use Rattle.cs_model.specs.declared.stop.Stop.TheVariants as why
use Rattle.cs_model.specs.declared.instruction.Op.{Op}
use Rattle.cs_model.specs.declared.instruction.Op.TheVariants.{PushRcvr, PushTemp, PushLit, PushLitVar, PopRcvr, PopTemp, PopLitVar, StoreRcvr, StoreTemp, StoreLitVar, PushSelf, PushTrue, PushFalse, PushNil, PushInt, ReturnSelf, ReturnTrue, ReturnFalse, ReturnNil, ReturnTop, BlockReturn, Send, SendSuper, Pop, Dup, ThisContext, NewArray, PopArray, Prim, PushVec, StoreVec, PopVec, Closure, Jump, JumpTrue, JumpFalse, Special, Common}
use Rattle.cs_model.specs.Ref.{Ref}
use Rattle.cs_model.specs.Obj.{header_in, bytecodes_in, argument_count, primitive_number}
use Rattle.cs_model.specs.State.{Kept, State, object_of, special_at}
use Rattle.cs_model.specs.Context.{is_context_ref}
use Rattle.cs_model.specs.Read.{depth_of, receiver_of}
use Rattle.cs_model.specs.Exec.{exec}
use Rattle.cs_model.specs.Lookup.{Sought}
use Rattle.cs_model.specs.Lookup as sought
use Rattle.cs_model.specs.Send.{begins_at, look_from}
use Rattle.cs_model.specs.Return.{back}
use Rattle.cs_model.specs.Due.{is_idle}
use Rattle.cs_model.specs.PrimAnswer.{receiver}
use Rattle.cs_model.specs.PrimTable.{is_object_number, is_perform, is_process_number}
use Rattle.cs_model.specs.End.{Out, no_count, given}
use Rattle.cs_model.specs.Step.{Message, call_in, message_in, return_in, instruction_at, moved_past, birth_limit, Step, step, stops, Ran, run_by}

-- ---- instructions: all but those that make an Array, and writes to the fields of a receiver that is a context

abbrev pub is_built_op : Op → Kept → Bool
is_built_op (PushRcvr i) k = true
is_built_op (PushTemp i) k = true
is_built_op (PushLit i) k = true
is_built_op (PushLitVar i) k = true
is_built_op (PopRcvr i) k = not (is_context_ref k (receiver_of k))
is_built_op (PopTemp i) k = true
is_built_op (PopLitVar i) k = true
is_built_op (StoreRcvr i) k = not (is_context_ref k (receiver_of k))
is_built_op (StoreTemp i) k = true
is_built_op (StoreLitVar i) k = true
is_built_op PushSelf k = true
is_built_op PushTrue k = true
is_built_op PushFalse k = true
is_built_op PushNil k = true
is_built_op (PushInt z) k = true
is_built_op ReturnSelf k = true
is_built_op ReturnTrue k = true
is_built_op ReturnFalse k = true
is_built_op ReturnNil k = true
is_built_op ReturnTop k = true
is_built_op BlockReturn k = true
is_built_op (Send lit args) k = true
is_built_op (SendSuper lit args) k = true
is_built_op Pop k = true
is_built_op Dup k = true
is_built_op ThisContext k = true
is_built_op (NewArray n) k = false
is_built_op (PopArray n) k = false
is_built_op (Prim i j) k = true
is_built_op (PushVec i j) k = true
is_built_op (StoreVec i j) k = true
is_built_op (PopVec i j) k = true
is_built_op (Closure copied args size) k = true
is_built_op (Jump offset) k = true
is_built_op (JumpTrue offset) k = true
is_built_op (JumpFalse offset) k = true
is_built_op (Special i) k = true
is_built_op (Common i) k = true

-- ---- sends: a method that is found, of the right number of arguments, has no primitive, or one that is built; where the send stops,
-- that is built too

-- the primitives on the run that aren't built: all but output
abbrev pub is_unbuilt_on_runs : ℕ → Bool
is_unbuilt_on_runs number = number == 97 || number == 113 || number == 135 || number == 136 || number == 901

-- and those on contexts: that which ends contexts, and that which stores into a context's stack
abbrev pub is_unbuilt_on_contexts : ℕ → Bool
is_unbuilt_on_contexts number = number == 196 || number == 211

-- besides, those on objects, those that perform and those on processes; a number that isn't listed is built, and fails
abbrev pub is_unbuilt : ℕ → Bool
is_unbuilt number = is_object_number number || is_perform number || is_process_number number || is_unbuilt_on_runs number || is_unbuilt_on_contexts number

-- of those on objects, 73 is built where the receiver is a context
abbrev pub is_built_number : Kept → ℕ → Option ℕ → Bool
is_built_number k args None = true
is_built_number k args (Some number) = not (is_unbuilt number) || (number == 73 && is_context_ref k (receiver k args))

abbrev pub is_built_method : Kept → Ref → ℕ → Bool
is_built_method k method args =
    if argument_count (header_in (object_of k method)) == args
    then is_built_number k args (primitive_number (header_in (object_of k method)) (bytecodes_in (object_of k method))) else true

abbrev pub is_built_found : Kept → ℕ → Sought → Bool
is_built_found k args (sought.Method method) = is_built_method k method args
is_built_found k args sought.Missing = false
is_built_found k args sought.Loop = true

abbrev pub is_built_send : Kept → Message → Bool
is_built_send k m = if nat_lt m.args (depth_of k) then is_built_found k m.args (look_from k m.selector (begins_at k m.args m.above)) else true

-- ---- returns: all of them, where the message that one leads to is built

abbrev pub is_built_call : Kept → ℕ → ℕ → Bool
is_built_call k special args = given (special_at k special) true (λ selector. is_built_send k (record { selector = selector; args = args; above = None }))

abbrev pub is_built_back : Out → Bool
is_built_back o = given (call_in o.end) true (λ c. is_built_call o.state c.0 c.1)

abbrev pub is_built_return : Kept → Ref → Bool → Bool
is_built_return k value local = is_built_back (back k value local)

-- ---- a step

-- what an instruction leads to
abbrev pub is_built_out : Out → Bool
is_built_out o = given (message_in o.end) (given (return_in o.end) true (λ p. is_built_return o.state p.0 p.1)) (λ m. is_built_send o.state m)

-- an instruction, with the pc moved past it
abbrev pub is_built_from : Kept → Op → Bool
is_built_from k op = is_built_op op k && is_built_out (exec op k)

unfoldable pub is_built_bytecode : Kept → Bool
is_built_bytecode k = given (instruction_at k) true (λ i. is_built_from (moved_past k i) i.op)

-- births that are used up, and no active process, come before the bytecode
unfoldable pub is_built : State → Bool
is_built s = nat_lt birth_limit s.kept.rest.next || is_idle s.kept || is_built_bytecode s.kept

-- the step of a machine that stops with NotBuilt where a step isn't built
unfoldable pub built_step : State → Step
built_step s = if is_built s then step s else stops s no_count why.NotBuilt

abbrev pub built_run : ℕ → State → Ran
built_run n s = run_by built_step n s
