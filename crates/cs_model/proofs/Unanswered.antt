-- Only a primitive answers: no instruction, send or return does.
use Rattle.std.proofs.Common.{◌≡◌, ℕ, ◌+◌, ◌-◌, ◌*◌, ◌==◌, ◌&&◌, not, Bool, true, false, refl, ℤ, pos, Option, Some, None, List, [], ◌∷◌, ◌++◌, length, option_and_then, nat_lt, nat_le, if◌then◌else◌}
use Rattle.std.specs.Prelude.{slice_get}
use Rattle.cs_model.specs.declared.instruction.Op.{Op}
use Rattle.cs_model.specs.declared.instruction.Op.TheVariants as op
use Rattle.cs_model.specs.Ref.{Ref, Small, same_ref, small_of}
use Rattle.cs_model.specs.Ref as ref
use Rattle.cs_model.specs.Obj.{Obj, Ptr, Raw, Method, Ctx, header_in, bytecodes_in, argument_count, primitive_number, context_in, slots_in}
use Rattle.cs_model.specs.State.{Kept, object_at, object_of, is_read_only, slots_of, special_at}
use Rattle.cs_model.specs.Read.{active_birth, stack_of, depth_of, size_of, receiver_of, literals_of, from_top}
use Rattle.cs_model.specs.Operation.{drop_of, pop_of, next_ref}
use Rattle.cs_model.specs.Context.{context_get, accepts}
use Rattle.cs_model.specs.Number.{boolean}
use Rattle.cs_model.specs.Instance.{Made, New, NotInstantiable, TableFull, instantiate}
use Rattle.cs_model.specs.Exec.{push_out, top_of, with_top, pop_out, dup_out, push_all, special_send_out, attempt_to_assign, refuse_store, store_slot, push_field, push_receiver_out, is_active, store_field, store_receiver_out, push_temp_out, store_temp_out, literal_at, push_literal_out, variable_value, push_variable_out, store_variable_out, vector_slot, push_vector_out, store_vector_out, pop_into, store_into, pc_after, jump_out, must_be_boolean, jump_if_out, send_literal_out, send_super_out, argument_count_in, selector_pair, send_selector_out, at_once, special_out, same_out, class_out, common_out, array_class, slots_equal, array_made, with_array, new_array_out, pop_array_out, closure_out, this_context_out, exec}
use Rattle.cs_model.specs.Lookup.{Sought, lookup}
use Rattle.cs_model.specs.Lookup as sought
use Rattle.cs_model.specs.Send.{receiver_at, class_or_nil, enter_out, offer, invoke, message_class, does_not_understand, message_made, with_message, not_understood_by, send_message, not_understood, send_found, begins_at, look_from, send}
use Rattle.cs_model.specs.Return.{Search, Met, Ended, TooLong, Home, HomeAt, NoHome, HomeTooFar, home, senders_to, sender_birth, first_marked, unwind_mark, call_with, is_live, is_among, has_room, arrive, local_out, from_home, to_home, nonlocal_out, back}
use Rattle.cs_model.specs.Shallow.{is_answer}
use Rattle.cs_model.specs.End.{End, Out, out, done, stop, made, made_context, looked, given, is_done, and_then}
use Rattle.cs_model.specs.End as ends

pub record Unanswered (o : Out) : Type 0 where
  pub none : is_answer o.end ≡ false

-- ---- composition

plain : {o : Out} → is_answer o.end ≡ false → Unanswered o
plain e = record { none = e }

given_un : {A : Type 0} (o : Option A) {a : Out} (f : A → Out) → Unanswered a → ((x : A) → Unanswered (f x)) → Unanswered (given o a f)
given_un None f h g = h
given_un (Some x) f h g = g x

if_un : (b : Bool) {x y : Out} → Unanswered x → Unanswered y → Unanswered (if b then x else y)
if_un true h g = h
if_un false h g = g

looked_un : {o : Out} → Unanswered o → Unanswered (looked o)
unfolding looked
looked_un h = record { none = h.none }

made_un : {o : Out} (words : ℕ) → Unanswered o → Unanswered (made words o)
unfolding made
made_un words h = record { none = h.none }

and_then_un : {o : Out} (f : Kept → Out) → Unanswered o → ((t : Kept) → Unanswered (f t)) → Unanswered (and_then o f)
unfolding and_then
and_then_un {o} f h g = if_un (is_done o.end) (record { none = (g o.state).none }) h

-- ---- the stack

push_un : (k : Kept) (x : Ref) → Unanswered (push_out k x)
unfolding push_out
push_un k x = if_un (nat_lt (depth_of k) (size_of k)) (plain refl) (plain refl)

push_all_un : (xs : List Ref) (k : Kept) → Unanswered (push_all xs k)
unfolding push_all
push_all_un [] k = plain refl
push_all_un (x ∷ xs) k = and_then_un (λ t. push_all xs t) (push_un k x) (λ t. push_all_un xs t)

with_top_un : (k : Kept) (f : Ref → Out) → ((x : Ref) → Unanswered (f x)) → Unanswered (with_top k f)
with_top_un k f g = given_un (top_of k) f (plain refl) g

special_send_un : (k : Kept) (special args : ℕ) → Unanswered (special_send_out k special args)
unfolding special_send_out
special_send_un k special args = given_un (special_at k special) (λ selector. out (ends.Send selector args None) k) (plain refl) (λ x. plain refl)

-- ---- sends

pub enter_un : (k : Kept) (x : Ref) (args : ℕ) (skip : Bool) → Unanswered (enter_out k x args skip)
unfolding enter_out made_context
enter_un k x args skip = plain refl

offer_un : (k : Kept) (x : Ref) (args : ℕ) (n : Option ℕ) → Unanswered (offer k x args n)
offer_un k x args None = enter_un k x args false
offer_un k x args (Some n) = plain refl

invoke_un : (k : Kept) (x : Ref) (args : ℕ) → Unanswered (invoke k x args)
unfolding invoke
invoke_un k x args =
    if_un (argument_count (header_in (object_of k x)) == args)
    (offer_un k x args (primitive_number (header_in (object_of k x)) (bytecodes_in (object_of k x)))) (plain refl)

array_un : (k : Kept) (n : ℕ) (f : Kept → Ref → Out) → ((t : Kept) (x : Ref) → Unanswered (f t x)) → (m : Made) → Unanswered (array_made k n f m)
array_un k n f g NotInstantiable = plain refl
array_un k n f g TableFull = plain refl
array_un k n f g (New t x words) = made_un words (if_un (slots_equal n (slots_in (object_of t x))) (g t x) (plain refl))

with_array_un : (k : Kept) (n : ℕ) (f : Kept → Ref → Out) → ((t : Kept) (x : Ref) → Unanswered (f t x)) → Unanswered (with_array k n f)
unfolding with_array
with_array_un k n f g = given_un (special_at k array_class) (λ class. array_made k n f (instantiate k class n)) (plain refl) (λ class. array_un k n f g (instantiate k class n))

message_un : (k : Kept) (selector array class : Ref) (f : Kept → Ref → Out) → ((t : Kept) (x : Ref) → Unanswered (f t x)) → (m : Made) → Unanswered (message_made k selector array class f m)
message_un k selector array class f g NotInstantiable = plain refl
message_un k selector array class f g TableFull = plain refl
message_un k selector array class f g (New t x words) = made_un words (given_un (slots_of t 2 x) _ (plain refl) (λ slots. g _ x))

with_message_un : (k : Kept) (selector array class : Ref) (f : Kept → Ref → Out) → ((t : Kept) (x : Ref) → Unanswered (f t x)) → Unanswered (with_message k selector array class f)
with_message_un k selector array class f g =
    given_un (special_at k message_class) (λ messages. message_made k selector array class f (instantiate k messages 0)) (plain refl) (λ messages. message_un k selector array class f g (instantiate k messages 0))

not_understood_by_un : (k : Kept) (l : Sought) → Unanswered (not_understood_by k l)
not_understood_by_un k (sought.Method x) = invoke_un k x 1
not_understood_by_un k sought.Missing = plain refl
not_understood_by_un k sought.Loop = plain refl

send_message_un : (k : Kept) (class : Ref) (args : ℕ) (message : Ref) → Unanswered (send_message k class args message)
send_message_un k class args message =
    and_then_un _ (push_un (drop_of k args) message) (λ t.
    given_un (special_at t does_not_understand) _ (plain refl) (λ selector. not_understood_by_un t (lookup t class selector)))

not_understood_un : (k : Kept) (x : Ref) (args : ℕ) → Unanswered (not_understood k x args)
unfolding not_understood
not_understood_un k x args = with_array_un k args _ (λ t array. with_message_un _ x array _ _ (λ u message. send_message_un u (class_or_nil k (receiver_at k args)) args message))

send_found_un : (k : Kept) (x : Ref) (args : ℕ) (l : Sought) → Unanswered (send_found k x args l)
send_found_un k x args (sought.Method method) = invoke_un k method args
send_found_un k x args sought.Missing = not_understood_un k x args
send_found_un k x args sought.Loop = plain refl

pub send_un : (k : Kept) (x : Ref) (args : ℕ) (above : Option Ref) → Unanswered (send k x args above)
unfolding send
send_un k x args above = if_un (nat_lt args (depth_of k)) (send_found_un k x args (look_from k x (begins_at k args above))) (plain refl)

-- ---- returns

call_un : (k : Kept) (special args : ℕ) (values : List Ref) → Unanswered (call_with k special args values)
call_un k special args values = and_then_un _ (push_all_un (ref.Obj (active_birth k) ∷ values) k) (λ t. looked_un (plain refl))

arrive_un : (k : Kept) (x : Ref) (dying : List ℕ) (target : Option ℕ) → Unanswered (arrive k x dying target)
arrive_un k x dying None = call_un k _ 1 _
arrive_un k x dying (Some target) =
    if_un (is_live k target && not (is_among target dying))
    (if_un (has_room (context_in (object_at k target))) (plain refl) (plain refl)) (call_un k _ 1 _)

local_un : (k : Kept) (x : Ref) → Unanswered (local_out k x)
unfolding local_out
local_un k x = arrive_un k x (active_birth k ∷ []) (sender_birth k (active_birth k))

from_home_un : (k : Kept) (x : Ref) (i : ℕ) (s : Search) → Unanswered (from_home k x i s)
from_home_un k x i (Met passed) =
    given_un (first_marked k unwind_mark passed) _ (arrive_un k x (active_birth k ∷ passed ++ i ∷ []) (sender_birth k i)) (λ mark. call_un k _ 2 _)
from_home_un k x i (Ended passed) = call_un k _ 1 _
from_home_un k x i TooLong = plain refl

to_home_un : (k : Kept) (x : Ref) (h : Home) → Unanswered (to_home k x h)
to_home_un k x (HomeAt i) = from_home_un k x i (senders_to k (active_birth k) i)
to_home_un k x NoHome = call_un k _ 1 _
to_home_un k x HomeTooFar = plain refl

nonlocal_un : (k : Kept) (x : Ref) → Unanswered (nonlocal_out k x)
unfolding nonlocal_out
nonlocal_un k x = to_home_un k x (home k (active_birth k))

pub back_un : (k : Kept) (x : Ref) (local : Bool) → Unanswered (back k x local)
unfolding back
back_un k x local = if_un local (local_un k x) (nonlocal_un k x)

-- ---- instructions

refuse_un : (bare : Kept) (target : Ref) (i : ℕ) (v : Ref) → Unanswered (refuse_store bare target i v)
unfolding refuse_store
refuse_un bare target i v = and_then_un _ (push_all_un _ bare) (λ t. special_send_un t attempt_to_assign 2)

store_slot_un : (k bare : Kept) (target : Ref) (i : ℕ) (v : Ref) → Unanswered (store_slot k bare target i v)
unfolding store_slot
store_slot_un k bare target i v = if_un (is_read_only k target) (refuse_un bare target i v) (plain refl)

push_field_un : (k : Kept) (i : ℕ) (o : Option Obj) → Unanswered (push_field k i o)
push_field_un k i None = plain refl
push_field_un k i (Some (Ptr head slots)) = given_un (slice_get slots i) _ (plain refl) (λ x. push_un k x)
push_field_un k i (Some (Raw head bytes)) = plain refl
push_field_un k i (Some (Method head header literals bytecodes)) = plain refl
push_field_un k i (Some (Ctx c)) = given_un (context_get k c i) _ (plain refl) (λ x. if_un (i == 0) (looked_un (push_un k x)) (push_un k x))

store_field_un : (k bare : Kept) (i : ℕ) (v : Ref) (o : Option Obj) → Unanswered (store_field k bare i v o)
store_field_un k bare i v None = plain refl
store_field_un k bare i v (Some (Ptr head slots)) = if_un (nat_lt i (length slots)) (store_slot_un k bare (receiver_of k) i v) (plain refl)
store_field_un k bare i v (Some (Raw head bytes)) = plain refl
store_field_un k bare i v (Some (Method head header literals bytecodes)) = plain refl
store_field_un k bare i v (Some (Ctx c)) =
    if_un (nat_lt i (6 + length c.stack)) (if_un (accepts k (is_active k (receiver_of k)) c i v) (plain refl) (plain refl)) (plain refl)

receiver_un : (k bare : Kept) (i : ℕ) (v : Ref) → Unanswered (store_receiver_out k bare i v)
unfolding store_receiver_out
receiver_un k bare i v = store_field_un k bare i v (object_of k (receiver_of k))

temp_un : (k : Kept) (i : ℕ) (v : Ref) → Unanswered (store_temp_out k i v)
unfolding store_temp_out
temp_un k i v = if_un (nat_lt i (depth_of k)) (plain refl) (plain refl)

variable_un : (k bare : Kept) (i : ℕ) (v : Ref) → Unanswered (store_variable_out k bare i v)
unfolding store_variable_out
variable_un k bare i v = given_un (variable_value k i) _ (plain refl) (λ old. store_slot_un k bare _ 1 v)

vector_un : (k bare : Kept) (i j : ℕ) (v : Ref) → Unanswered (store_vector_out k bare i j v)
unfolding store_vector_out
vector_un k bare i j v = given_un (vector_slot k i j) _ (plain refl) (λ old. store_slot_un k bare _ i v)

pop_into_un : (k : Kept) (f : Kept → Kept → Ref → Out) → ((t bare : Kept) (x : Ref) → Unanswered (f t bare x)) → Unanswered (pop_into k f)
unfolding pop_into
pop_into_un k f g = with_top_un k _ (λ x. g (pop_of k) (pop_of k) x)

store_into_un : (k : Kept) (f : Kept → Kept → Ref → Out) → ((t bare : Kept) (x : Ref) → Unanswered (f t bare x)) → Unanswered (store_into k f)
unfolding store_into
store_into_un k f g = with_top_un k _ (λ x. g k (pop_of k) x)

jump_un : (k : Kept) (offset : ℤ) → Unanswered (jump_out k offset)
unfolding jump_out
jump_un k offset = given_un (pc_after k offset) _ (plain refl) (λ pc. plain refl)

jump_if_un : (k : Kept) (wanted : Bool) (offset : ℕ) → Unanswered (jump_if_out k wanted offset)
unfolding jump_if_out
jump_if_un k wanted offset = with_top_un k _ (λ x.
    if_un (same_ref x (boolean k wanted)) (jump_un (pop_of k) (pos offset))
    (if_un (same_ref x (ref.Obj k.rest.true_)) (plain refl)
    (if_un (same_ref x (ref.Obj k.rest.false_)) (plain refl) (special_send_un k must_be_boolean 0))))

selector_un : (k : Kept) (i : ℕ) → Unanswered (send_selector_out k i)
unfolding send_selector_out
selector_un k i =
    given_un (selector_pair k i) _ (plain refl) (λ slots.
    given_un (slice_get slots (2 * i)) _ (plain refl) (λ selector.
    given_un (option_and_then (λ x. argument_count_in x) (slice_get slots (2 * i + 1))) _ (plain refl) (λ args. plain refl)))

receiver_pushed_un : (k : Kept) (i : ℕ) → Unanswered (push_receiver_out k i)
unfolding push_receiver_out
receiver_pushed_un k i = push_field_un k i (object_of k (receiver_of k))

pushed_un : (k : Kept) (o : Option Ref) {a : Out} → Unanswered a → Unanswered (given o a (λ x. push_out k x))
pushed_un k o h = given_un o _ h (λ x. push_un k x)

closure_un : (k : Kept) (copied args size : ℕ) → Unanswered (closure_out k copied args size)
unfolding closure_out
closure_un k copied args size =
    given_un (pc_after k (pos size)) _ (plain refl) (λ pc.
    if_un (nat_le copied (depth_of k)) (looked_un (made_un _ (and_then_un _ (push_un _ (next_ref k)) (λ t. plain refl)))) (plain refl))

common_un : (k : Kept) (i : ℕ) → Unanswered (common_out k i)
unfolding common_out same_out class_out
common_un k i =
    if_un (i == 6) (given_un (from_top 1 (stack_of k)) _ (plain refl) (λ a. with_top_un k _ (λ b. plain refl)))
    (if_un (i == 7) (with_top_un k _ (λ x. plain refl)) (selector_un k (16 + i)))

pub exec_un : (i : Op) (k : Kept) → Unanswered (exec i k)
unfolding exec push_temp_out push_literal_out push_variable_out push_vector_out pop_out dup_out send_literal_out send_super_out new_array_out pop_array_out special_out this_context_out
exec_un (op.PushRcvr i) k = receiver_pushed_un k i
exec_un (op.PushTemp i) k = pushed_un k (slice_get (stack_of k) i) (plain refl)
exec_un (op.PushLit i) k = pushed_un k (literal_at k i) (plain refl)
exec_un (op.PushLitVar i) k = pushed_un k (variable_value k i) (plain refl)
exec_un (op.PopRcvr i) k = pop_into_un k _ (λ t bare x. receiver_un t bare i x)
exec_un (op.PopTemp i) k = pop_into_un k _ (λ t bare x. temp_un t i x)
exec_un (op.PopLitVar i) k = pop_into_un k _ (λ t bare x. variable_un t bare i x)
exec_un (op.StoreRcvr i) k = store_into_un k _ (λ t bare x. receiver_un t bare i x)
exec_un (op.StoreTemp i) k = store_into_un k _ (λ t bare x. temp_un t i x)
exec_un (op.StoreLitVar i) k = store_into_un k _ (λ t bare x. variable_un t bare i x)
exec_un op.PushSelf k = push_un k _
exec_un op.PushTrue k = push_un k _
exec_un op.PushFalse k = push_un k _
exec_un op.PushNil k = push_un k _
exec_un (op.PushInt z) k = push_un k _
exec_un op.ReturnSelf k = plain refl
exec_un op.ReturnTrue k = plain refl
exec_un op.ReturnFalse k = plain refl
exec_un op.ReturnNil k = plain refl
exec_un op.ReturnTop k = with_top_un k _ (λ x. plain refl)
exec_un op.BlockReturn k = with_top_un k _ (λ x. plain refl)
exec_un (op.Send lit args) k = given_un (literal_at k lit) _ (plain refl) (λ selector. plain refl)
exec_un (op.SendSuper lit args) k =
    given_un (literal_at k lit) _ (plain refl) (λ selector. given_un (variable_value k (length (literals_of k) - 1)) _ (plain refl) (λ above. plain refl))
exec_un op.Pop k = with_top_un k _ (λ x. plain refl)
exec_un op.Dup k = with_top_un k _ (λ x. push_un k x)
exec_un op.ThisContext k = if_un (nat_lt (depth_of k) (size_of k)) (looked_un (plain refl)) (plain refl)
exec_un (op.NewArray n) k = with_array_un k n _ (λ t array. push_un t array)
exec_un (op.PopArray n) k = if_un (nat_le n (depth_of k)) (with_array_un k n _ (λ t array. push_un _ array)) (plain refl)
exec_un (op.Prim i j) k = plain refl
exec_un (op.PushVec i j) k = pushed_un k (vector_slot k i j) (plain refl)
exec_un (op.StoreVec i j) k = store_into_un k _ (λ t bare x. vector_un t bare i j x)
exec_un (op.PopVec i j) k = pop_into_un k _ (λ t bare x. vector_un t bare i j x)
exec_un (op.Closure copied args size) k = closure_un k copied args size
exec_un (op.Jump offset) k = jump_un k offset
exec_un (op.JumpTrue offset) k = jump_if_un k true offset
exec_un (op.JumpFalse offset) k = jump_if_un k false offset
exec_un (op.Special i) k = given_un (at_once k i) _ (selector_un k i) (λ x. plain refl)
exec_un (op.Common i) k = common_un k i
