-- Whether a step is built is alike, and so is the step of a machine that stops where it isn't.
use Rattle.std.proofs.Common.{ℕ, ◌+◌, ◌==◌, not, Bool, true, false, Option, Some, None, nat_lt}
use Rattle.cs_model.specs.declared.stop.Stop.TheVariants as why
use Rattle.cs_model.specs.declared.instruction.Op.{Op}
use Rattle.cs_model.specs.declared.instruction.Op.TheVariants as op
use Rattle.cs_model.specs.Ref.{Ref}
use Rattle.cs_model.specs.Obj.{header_in, bytecodes_in, argument_count, primitive_number}
use Rattle.cs_model.specs.State.{Kept, State, IsHeld}
use Rattle.cs_model.specs.Context.{is_context_ref}
use Rattle.cs_model.specs.Read.{receiver_of}
use Rattle.cs_model.specs.Lookup.{Sought, Missing, Loop}
use Rattle.cs_model.specs.Lookup as sought
use Rattle.cs_model.specs.Step.{Message, call_in, birth_limit}
use Rattle.cs_model.specs.End.{Out, no_count}
use Rattle.cs_model.specs.Built.{is_built_op, is_unbuilt, is_built_number, is_built_method, is_built_found, is_built_send, is_built_call, is_built_back, is_built_return, is_built_out, is_built_from, is_built_bytecode, is_built, built_step, built_run}
use Rattle.cs_model.specs.Keeps.{Keeps, KeepsState}
use Rattle.cs_model.specs.Alike.{SoughtHeld, Alike, AlikeStep, AlikeRan}
use Rattle.cs_model.proofs.Same.{Same, same, Any, is, of_option, value, plain, if_same}
use Rattle.cs_model.proofs.Reading.{held_if, special_at_same, object_of_same, depth_same, pc_same, rest_same, receiver_same}
use Rattle.cs_model.proofs.Operating.{set_pc_moved}
use Rattle.cs_model.proofs.Fields.{and_same, or_else_same, is_context_ref_same}
use Rattle.cs_model.proofs.Combining.{end_same}
use Rattle.cs_model.proofs.Answering.{prim_receiver_same}
use Rattle.cs_model.proofs.Executing.{exec_alike}
use Rattle.cs_model.proofs.Returning.{back_alike}
use Rattle.cs_model.proofs.Searching.{given_same}
use Rattle.cs_model.proofs.Sending.{begins_at_same, look_from_same}
use Rattle.cs_model.proofs.Happening.{is_idle_same}
use Rattle.cs_model.proofs.Stepping.{MessageHeld, message_in_same, return_in_same, instruction_at_same, stops_alike, if_step, step_alike, run_by_alike}

-- ---- instructions

field_same : {v m : Kept} → Keeps v m → Same Any (not (is_context_ref v (receiver_of v))) (not (is_context_ref m (receiver_of m)))
field_same k = value not (is_context_ref_same k (receiver_same k))

pub is_built_op_same : {v m : Kept} → Keeps v m → (o : Op) → Same Any (is_built_op o v) (is_built_op o m)
is_built_op_same k (op.PushRcvr i) = is true
is_built_op_same k (op.PushTemp i) = is true
is_built_op_same k (op.PushLit i) = is true
is_built_op_same k (op.PushLitVar i) = is true
is_built_op_same k (op.PopRcvr i) = field_same k
is_built_op_same k (op.PopTemp i) = is true
is_built_op_same k (op.PopLitVar i) = is true
is_built_op_same k (op.StoreRcvr i) = field_same k
is_built_op_same k (op.StoreTemp i) = is true
is_built_op_same k (op.StoreLitVar i) = is true
is_built_op_same k op.PushSelf = is true
is_built_op_same k op.PushTrue = is true
is_built_op_same k op.PushFalse = is true
is_built_op_same k op.PushNil = is true
is_built_op_same k (op.PushInt z) = is true
is_built_op_same k op.ReturnSelf = is true
is_built_op_same k op.ReturnTrue = is true
is_built_op_same k op.ReturnFalse = is true
is_built_op_same k op.ReturnNil = is true
is_built_op_same k op.ReturnTop = is true
is_built_op_same k op.BlockReturn = is true
is_built_op_same k (op.Send lit args) = is true
is_built_op_same k (op.SendSuper lit args) = is true
is_built_op_same k op.Pop = is true
is_built_op_same k op.Dup = is true
is_built_op_same k op.ThisContext = is true
is_built_op_same k (op.NewArray n) = is false
is_built_op_same k (op.PopArray n) = is false
is_built_op_same k (op.Prim i j) = is true
is_built_op_same k (op.PushVec i j) = is true
is_built_op_same k (op.StoreVec i j) = is true
is_built_op_same k (op.PopVec i j) = is true
is_built_op_same k (op.Closure copied args size) = is true
is_built_op_same k (op.Jump offset) = is true
is_built_op_same k (op.JumpTrue offset) = is true
is_built_op_same k (op.JumpFalse offset) = is true
is_built_op_same k (op.Special i) = is true
is_built_op_same k (op.Common i) = is true

-- ---- sends

is_built_number_same : {v m : Kept} {a b : Option ℕ} → Keeps v m → (args : ℕ) → Same Any a b → Same Any (is_built_number v args a) (is_built_number m args b)
is_built_number_same k args (same None h) = is true
is_built_number_same k args (same (Some n) h) = or_else_same (is (not (is_unbuilt n))) (and_same (is (n == 73)) (is_context_ref_same k (prim_receiver_same k args)))

is_built_method_same : {v m : Kept} {x y : Ref} → Keeps v m → Same (IsHeld v) x y → (args : ℕ) → Same Any (is_built_method v x args) (is_built_method m y args)
is_built_method_same k s args =
    let o = object_of_same k s in
    if_same (of_option (λ o. argument_count (header_in o) == args) o) (is_built_number_same k args (of_option (λ o. primitive_number (header_in o) (bytecodes_in o)) o)) (is true)

is_built_found_same : {v m : Kept} {a b : Sought} → Keeps v m → (args : ℕ) → Same (SoughtHeld v) a b → Same Any (is_built_found v args a) (is_built_found m args b)
is_built_found_same k args (same (sought.Method x) h) = is_built_method_same k (same x h) args
is_built_found_same k args (same Missing h) = is false
is_built_found_same k args (same Loop h) = is true

pub is_built_send_same : {v m : Kept} → Keeps v m → (p : Message) → MessageHeld v p → Same Any (is_built_send v p) (is_built_send m p)
is_built_send_same k p h =
    if_same (value (nat_lt p.args) (depth_same k)) (is_built_found_same k p.args (look_from_same k (is p.selector) (begins_at_same k p.args (held_if k p.above h.1)))) (is true)

-- ---- returns

pub is_built_call_same : {v m : Kept} → Keeps v m → (special args : ℕ) → Same Any (is_built_call v special args) (is_built_call m special args)
is_built_call_same k special args =
    given_same _ _ (special_at_same k special) (is true) (λ selector h. is_built_send_same k (record { selector = selector; args = args; above = None }) (h, tt))

is_built_back_same : {v : Kept} {a b : Out} → Alike v a b → Same Any (is_built_back a) (is_built_back b)
is_built_back_same h = given_same _ _ (plain (value call_in (end_same h))) (is true) (λ c g. is_built_call_same h.keeps c.0 c.1)

pub is_built_return_same : {v m : Kept} {x y : Ref} → Keeps v m → Same (IsHeld v) x y → (local : Bool) → Same Any (is_built_return v x local) (is_built_return m y local)
is_built_return_same k s local = is_built_back_same (back_alike k s local)

-- ---- a step

is_built_out_same : {v : Kept} {a b : Out} → Alike v a b → Same Any (is_built_out a) (is_built_out b)
is_built_out_same {a = a} h =
    given_same _ _ (message_in_same a.state (end_same h))
    (given_same _ _ (return_in_same a.state (end_same h)) (is true) (λ p g. is_built_return_same h.keeps (same p.0 g) p.1))
    (λ p g. is_built_send_same h.keeps p g)

is_built_from_same : {v m : Kept} → Keeps v m → (o : Op) → Same Any (is_built_from v o) (is_built_from m o)
is_built_from_same k o = and_same (is_built_op_same k o) (is_built_out_same (exec_alike o k))

pub is_built_bytecode_same : {v m : Kept} → Keeps v m → Same Any (is_built_bytecode v) (is_built_bytecode m)
unfolding is_built_bytecode
is_built_bytecode_same k =
    given_same _ _ (instruction_at_same k) (is true) (λ i a. is_built_from_same (set_pc_moved k (value (λ pc. pc + i.len) (pc_same k))).keeps i.op)

is_built_same : {s t : State} → KeepsState s t → Same Any (is_built s) (is_built t)
unfolding is_built
is_built_same k = or_else_same (or_else_same (value (λ r. nat_lt birth_limit r.next) (rest_same k.kept)) (is_idle_same k.kept)) (is_built_bytecode_same k.kept)

pub built_step_alike : {s t : State} → KeepsState s t → AlikeStep s.kept (built_step s) (built_step t)
unfolding built_step
built_step_alike k = if_step (is_built_same k) (step_alike k) (stops_alike k (is no_count) why.NotBuilt)

pub built_run_alike : {s t : State} (n : ℕ) → KeepsState s t → AlikeRan s.kept (built_run n s) (built_run n t)
built_run_alike n k = run_by_alike built_step (λ s t h. built_step_alike h) n k
