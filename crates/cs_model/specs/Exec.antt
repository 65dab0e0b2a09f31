-- What each instruction does (V3PlusClosures; Blue Book, part four). The pc has been moved past it.
use Rattle.std.specs.Prelude.{ℕ, ◌+◌, ◌-◌, ◌*◌, ℤ, pos, negsuc, ◌+ℤ◌, ◌==◌, Bool, true, false, nat_lt, nat_le, if◌then◌else◌, List, [], ◌∷◌, length, Option, Some, None, option_and_then, slice_get, unwrap_or}
use Rattle.cs_model.specs.declared.stop.Stop.TheVariants as why
use Rattle.cs_model.specs.declared.instruction.Op.{Op}
use Rattle.cs_model.specs.declared.instruction.Op.TheVariants as op
use Rattle.cs_model.specs.Ref.{Ref, Small, same_ref, small_of, small_index}
use Rattle.cs_model.specs.Ref as ref
use Rattle.cs_model.specs.Obj.{Obj, Context, Ptr, Raw, Method, Ctx, new_head, slots_in, lies_in, words_of_slots}
use Rattle.cs_model.specs.State.{Kept, object_of, is_read_only, slots_of, special_at, is_nil}
use Rattle.cs_model.specs.Read.{active_birth, active_context, stack_of, depth_of, size_of, pc_of, receiver_of, method_of, literals_of, from_top, class_of}
use Rattle.cs_model.specs.Operation.{set_pc_of, push_of, drop_of, pop_of, set_stack_of, store_of, add_of, next_ref, nil_of, last_values, edit_object}
use Rattle.cs_model.specs.Context.{context_get, accepts, context_put, closure_class}
use Rattle.cs_model.specs.Number.{boolean, number_result, selector_primitive}
use Rattle.cs_model.specs.Instance.{Made, New, NotInstantiable, TableFull, instantiate}
use Rattle.cs_model.specs.End.{Out, out, stop, done, given, made, looked, and_then}
use Rattle.cs_model.specs.End as ends

-- ---- the stack

unfoldable pub push_out : Kept → Ref → Out
push_out k x = if nat_lt (depth_of k) (size_of k) then done (push_of k x) else stop why.StackOver k

abbrev pub top_of : Kept → Option Ref
top_of k = from_top 0 (stack_of k)

-- the topmost value, which stays
abbrev pub with_top : Kept → (Ref → Out) → Out
with_top k next = given (top_of k) (stop why.StackUnder k) next

unfoldable pub pop_out : Kept → Out
pop_out k = with_top k (λ x. done (pop_of k))

unfoldable pub dup_out : Kept → Out
dup_out k = with_top k (λ x. push_out k x)

unfoldable pub push_all : List Ref → Kept → Out
push_all [] k = done k
push_all (x ∷ xs) k = and_then (push_out k x) (λ t. push_all xs t)

-- the special selector is sent to the receiver below so many arguments
unfoldable pub special_send_out : Kept → ℕ → ℕ → Out
special_send_out k special args = given (special_at k special) (stop why.BadSpecial k) (λ selector. out (ends.Send selector args None) k)

-- ---- stores into slots: nothing is stored into a read-only object; the message attemptToAssign:withIndex: tells it of the value
-- and of the slot, counted from 1, and the value is off the stack then

abbrev pub attempt_to_assign : ℕ
attempt_to_assign = 50

unfoldable pub refuse_store : Kept → Ref → ℕ → Ref → Out
refuse_store bare target i v =
    and_then (push_all (target ∷ v ∷ Small (pos (i + 1)) ∷ []) bare) (λ t. special_send_out t attempt_to_assign 2)

unfoldable pub store_slot : Kept → Kept → Ref → ℕ → Ref → Out
store_slot k bare target i v = if is_read_only k target then refuse_store bare target i v else done (store_of k target i v)

-- ---- receiver fields: slots of a pointer object, fields of a context, and none of anything else

abbrev pub push_field : Kept → ℕ → Option Obj → Out
push_field k i None = stop why.BadField k
push_field k i (Some (Ptr head slots)) = given (slice_get slots i) (stop why.BadField k) (λ x. push_out k x)
push_field k i (Some (Raw head bytes)) = stop why.BadField k
push_field k i (Some (Method head header literals bytecodes)) = stop why.BadField k
push_field k i (Some (Ctx c)) = given (context_get k c i) (stop why.BadField k) (λ x. if i == 0 then looked (push_out k x) else push_out k x)

unfoldable pub push_receiver_out : Kept → ℕ → Out
push_receiver_out k i = push_field k i (object_of k (receiver_of k))

abbrev pub birth_or_zero : Ref → ℕ
birth_or_zero (Small a) = 0
birth_or_zero (ref.Char c) = 0
birth_or_zero (ref.Obj i) = i

-- whether a reference names the active context
abbrev pub is_active : Kept → Ref → Bool
is_active k x = same_ref x (ref.Obj (active_birth k))

abbrev pub store_in_context : Kept → ℕ → Ref → Context → Out
store_in_context k i v c =
    if nat_lt i (6 + length c.stack) then
    (if accepts k (is_active k (receiver_of k)) c i v then done (context_put k (birth_or_zero (receiver_of k)) i v) else stop why.BadStore k)
    else stop why.BadField k

abbrev pub store_field : Kept → Kept → ℕ → Ref → Option Obj → Out
store_field k bare i v None = stop why.BadField k
store_field k bare i v (Some (Ptr head slots)) = if nat_lt i (length slots) then store_slot k bare (receiver_of k) i v else stop why.BadField k
store_field k bare i v (Some (Raw head bytes)) = stop why.BadField k
store_field k bare i v (Some (Method head header literals bytecodes)) = stop why.BadField k
store_field k bare i v (Some (Ctx c)) = store_in_context k i v c

unfoldable pub store_receiver_out : Kept → Kept → ℕ → Ref → Out
store_receiver_out k bare i v = store_field k bare i v (object_of k (receiver_of k))

-- ---- temporaries, literals and literal variables

unfoldable pub push_temp_out : Kept → ℕ → Out
push_temp_out k i = given (slice_get (stack_of k) i) (stop why.BadField k) (λ x. push_out k x)

unfoldable pub store_temp_out : Kept → ℕ → Ref → Out
store_temp_out k i v = if nat_lt i (depth_of k) then done (set_stack_of k i v) else stop why.BadField k

abbrev pub literal_at : Kept → ℕ → Option Ref
literal_at k i = slice_get (literals_of k) i

unfoldable pub push_literal_out : Kept → ℕ → Out
push_literal_out k i = given (literal_at k i) (stop why.BadLiteral k) (λ x. push_out k x)

-- a literal variable is a pointer object with two slots, of which slot 1 is its value
unfoldable pub variable_at : Kept → ℕ → Option (List Ref)
variable_at k i = option_and_then (λ x. slots_of k 2 x) (literal_at k i)

abbrev pub variable_value : Kept → ℕ → Option Ref
variable_value k i = option_and_then (λ slots. slice_get slots 1) (variable_at k i)

unfoldable pub push_variable_out : Kept → ℕ → Out
push_variable_out k i = given (variable_value k i) (stop why.BadLiteral k) (λ x. push_out k x)

unfoldable pub store_variable_out : Kept → Kept → ℕ → Ref → Out
store_variable_out k bare i v =
    given (variable_value k i) (stop why.BadLiteral k) (λ old. store_slot k bare (unwrap_or (literal_at k i) (nil_of k)) 1 v)

-- ---- vectors: slot i of the pointer object that is stack value j

abbrev pub vector_at : Kept → ℕ → Ref
vector_at k j = unwrap_or (slice_get (stack_of k) j) (Small (pos 0))

abbrev pub vector_slot : Kept → ℕ → ℕ → Option Ref
vector_slot k i j = option_and_then (λ slots. slice_get slots i) (slots_in (object_of k (vector_at k j)))

unfoldable pub push_vector_out : Kept → ℕ → ℕ → Out
push_vector_out k i j = given (vector_slot k i j) (stop why.BadField k) (λ x. push_out k x)

unfoldable pub store_vector_out : Kept → Kept → ℕ → ℕ → Ref → Out
store_vector_out k bare i j v = given (vector_slot k i j) (stop why.BadField k) (λ old. store_slot k bare (vector_at k j) i v)

-- ---- A pop form takes the value first, and what is there is judged on the stack without it. A store form judges it on the stack
-- with the value; `bare` is the state without it.

unfoldable pub pop_into : Kept → (Kept → Kept → Ref → Out) → Out
pop_into k store = with_top k (λ x. store (pop_of k) (pop_of k) x)

unfoldable pub store_into : Kept → (Kept → Kept → Ref → Out) → Out
store_into k store = with_top k (λ x. store k (pop_of k) x)

-- ---- jumps

-- the pc that is so far from another one, if it lies in the method
abbrev pub pc_of_sum : ℤ → Option ℕ
pc_of_sum (pos n) = Some n
pc_of_sum (negsuc n) = None

abbrev pub if_lies : Option Obj → Option ℕ → Option ℕ
if_lies method None = None
if_lies method (Some pc) = if lies_in method pc then Some pc else None

unfoldable pub pc_after : Kept → ℤ → Option ℕ
pc_after k offset = if_lies (method_of k) (pc_of_sum (pos (pc_of k) +ℤ offset))

unfoldable pub jump_out : Kept → ℤ → Out
jump_out k offset = given (pc_after k offset) (stop why.BadCode k) (λ pc. done (set_pc_of k pc))

-- a condition that is neither true nor false stays, as the receiver of mustBeBoolean
abbrev pub must_be_boolean : ℕ
must_be_boolean = 25

unfoldable pub jump_if_out : Kept → Bool → ℕ → Out
jump_if_out k wanted offset = with_top k (λ x.
    if same_ref x (boolean k wanted) then jump_out (pop_of k) (pos offset) else
    if same_ref x (ref.Obj k.rest.true_) then done (pop_of k) else
    if same_ref x (ref.Obj k.rest.false_) then done (pop_of k) else
    special_send_out k must_be_boolean 0)

-- ---- returns: without a closure a return is local; a block's returns from its home

abbrev pub is_local : Kept → Bool
is_local k = is_nil k (active_context k).closure

abbrev pub return_out : Kept → Ref → Bool → Out
return_out k x local = out (ends.Return x local) k

-- ---- sends

unfoldable pub send_literal_out : Kept → ℕ → ℕ → Out
send_literal_out k lit args = given (literal_at k lit) (stop why.BadLiteral k) (λ selector. out (ends.Send selector args None) k)

-- a super send begins at the superclass of slot 1 of the method's last literal
unfoldable pub send_super_out : Kept → ℕ → ℕ → Out
send_super_out k lit args =
    given (literal_at k lit) (stop why.BadLiteral k) (λ selector.
    given (variable_value k (length (literals_of k) - 1)) (stop why.BadLiteral k) (λ above.
    out (ends.Send selector args (Some above)) k))

-- slots 2 i and 2 i + 1 of special 23 are special selector i and its argument count, 0 to 15
abbrev pub special_selectors : ℕ
special_selectors = 23

abbrev pub argument_count_in : Ref → Option ℕ
argument_count_in x = option_and_then (λ n. if nat_lt n 16 then Some n else None) (small_index x)

abbrev pub selector_pair : Kept → ℕ → Option (List Ref)
selector_pair k i = option_and_then (λ table. slots_of k (2 * i + 2) table) (special_at k special_selectors)

unfoldable pub send_selector_out : Kept → ℕ → Out
send_selector_out k i =
    given (selector_pair k i) (stop why.BadSpecial k) (λ slots.
    given (slice_get slots (2 * i)) (stop why.BadSpecial k) (λ selector.
    given (option_and_then (λ x. argument_count_in x) (slice_get slots (2 * i + 1))) (stop why.BadSpecial k) (λ args.
    out (ends.Send selector args None) k)))

-- the two topmost values, if both are SmallIntegers
abbrev pub two_smalls : Option ℤ → Option ℤ → Option (ℤ × ℤ)
two_smalls None b = None
two_smalls (Some a) None = None
two_smalls (Some a) (Some b) = Some (a, b)

abbrev pub small_operands : Kept → Option (ℤ × ℤ)
small_operands k = two_smalls (option_and_then (λ x. small_of x) (from_top 1 (stack_of k))) (option_and_then (λ x. small_of x) (from_top 0 (stack_of k)))

-- what special selector i gives at once
abbrev pub at_once : Kept → ℕ → Option Ref
at_once k i = option_and_then (λ p. number_result k (selector_primitive i) p.0 p.1) (small_operands k)

unfoldable pub special_out : Kept → ℕ → Out
special_out k i = given (at_once k i) (send_selector_out k i) (λ x. done (push_of (drop_of k 2) x))

-- special selector 16 + i: `==` and `class` answer at once, all others are sent
unfoldable pub same_out : Kept → Out
same_out k = given (from_top 1 (stack_of k)) (stop why.StackUnder k) (λ a. with_top k (λ b. done (push_of (drop_of k 2) (boolean k (same_ref a b)))))

unfoldable pub class_out : Kept → Out
class_out k = with_top k (λ x. done (push_of (pop_of k) (unwrap_or (class_of k x) (nil_of k))))

unfoldable pub common_out : Kept → ℕ → Out
common_out k i = if i == 6 then same_out k else if i == 7 then class_out k else send_selector_out k (16 + i)

-- ---- arrays

abbrev pub array_class : ℕ
array_class = 7

abbrev pub slots_equal : ℕ → Option (List Ref) → Bool
slots_equal n None = false
slots_equal n (Some slots) = length slots == n

abbrev pub array_made : Kept → ℕ → (Kept → Ref → Out) → Made → Out
array_made k n next NotInstantiable = stop why.BadSpecial k
array_made k n next TableFull = stop why.BadSpecial k
array_made k n next (New t array words) =
    made words (if slots_equal n (slots_in (object_of t array)) then next t array else stop why.BadSpecial t)

-- a new Array by special 7: a pointer object with exactly the asked number of slots
unfoldable pub with_array : Kept → ℕ → (Kept → Ref → Out) → Out
with_array k n next = given (special_at k array_class) (stop why.BadSpecial k) (λ class. array_made k n next (instantiate k class n))

abbrev pub with_slots : List Ref → Obj → Obj
with_slots slots (Ptr head old) = Ptr head slots
with_slots slots (Raw head bytes) = Raw head bytes
with_slots slots (Method head header literals bytecodes) = Method head header literals bytecodes
with_slots slots (Ctx c) = Ctx c

-- all slots of an object are written
unfoldable pub fill_of : Kept → Ref → List Ref → Kept
fill_of k x values = edit_object k x (with_slots values)

unfoldable pub new_array_out : Kept → ℕ → Out
new_array_out k n = with_array k n (λ t array. push_out t array)

unfoldable pub pop_array_out : Kept → ℕ → Out
pop_array_out k n =
    if nat_le n (depth_of k) then
    with_array k n (λ t array. push_out (drop_of (fill_of t array (last_values n (stack_of k))) n) array)
    else stop why.StackUnder k

-- ---- closures

-- a closure over the active context: outerContext, startpc, numArgs and the copied values
abbrev pub new_closure : Kept → ℕ → ℕ → Obj
new_closure k copied args =
    Ptr (new_head closure_class 3) (ref.Obj (active_birth k) ∷ Small (pos (pc_of k)) ∷ Small (pos args) ∷ last_values copied (stack_of k))

unfoldable pub closure_out : Kept → ℕ → ℕ → ℕ → Out
closure_out k copied args size =
    given (pc_after k (pos size)) (stop why.BadCode k) (λ pc.
    if nat_le copied (depth_of k) then
    looked (made (words_of_slots (3 + copied))
    (and_then (push_out (drop_of (add_of k (new_closure k copied args)) copied) (next_ref k)) (λ t. done (set_pc_of t pc))))
    else stop why.StackUnder k)

-- ---- the table

-- the active context is pushed, where there is room
unfoldable pub this_context_out : Kept → Out
this_context_out k = if nat_lt (depth_of k) (size_of k) then looked (done (push_of k (ref.Obj (active_birth k)))) else stop why.StackOver k

unfoldable pub exec : Op → Kept → Out
exec (op.PushRcvr i) k = push_receiver_out k i
exec (op.PushTemp i) k = push_temp_out k i
exec (op.PushLit i) k = push_literal_out k i
exec (op.PushLitVar i) k = push_variable_out k i
exec (op.PopRcvr i) k = pop_into k (λ t bare x. store_receiver_out t bare i x)
exec (op.PopTemp i) k = pop_into k (λ t bare x. store_temp_out t i x)
exec (op.PopLitVar i) k = pop_into k (λ t bare x. store_variable_out t bare i x)
exec (op.StoreRcvr i) k = store_into k (λ t bare x. store_receiver_out t bare i x)
exec (op.StoreTemp i) k = store_into k (λ t bare x. store_temp_out t i x)
exec (op.StoreLitVar i) k = store_into k (λ t bare x. store_variable_out t bare i x)
exec op.PushSelf k = push_out k (receiver_of k)
exec op.PushTrue k = push_out k (boolean k true)
exec op.PushFalse k = push_out k (boolean k false)
exec op.PushNil k = push_out k (nil_of k)
exec (op.PushInt z) k = push_out k (Small z)
exec op.ReturnSelf k = return_out k (receiver_of k) (is_local k)
exec op.ReturnTrue k = return_out k (boolean k true) (is_local k)
exec op.ReturnFalse k = return_out k (boolean k false) (is_local k)
exec op.ReturnNil k = return_out k (nil_of k) (is_local k)
exec op.ReturnTop k = with_top k (λ x. return_out (pop_of k) x (is_local k))
exec op.BlockReturn k = with_top k (λ x. return_out (pop_of k) x true)
exec (op.Send lit args) k = send_literal_out k lit args
exec (op.SendSuper lit args) k = send_super_out k lit args
exec op.Pop k = pop_out k
exec op.Dup k = dup_out k
exec op.ThisContext k = this_context_out k
exec (op.NewArray n) k = new_array_out k n
exec (op.PopArray n) k = pop_array_out k n
exec (op.Prim i j) k = done k
exec (op.PushVec i j) k = push_vector_out k i j
exec (op.StoreVec i j) k = store_into k (λ t bare x. store_vector_out t bare i j x)
exec (op.PopVec i j) k = pop_into k (λ t bare x. store_vector_out t bare i j x)
exec (op.Closure copied args size) k = closure_out k copied args size
exec (op.Jump offset) k = jump_out k offset
exec (op.JumpTrue offset) k = jump_if_out k true offset
exec (op.JumpFalse offset) k = jump_if_out k false offset
exec (op.Special i) k = special_out k i
exec (op.Common i) k = common_out k i
