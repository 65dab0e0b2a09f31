-- Sends: lookup, the primitive of a method, its activation, and doesNotUnderstand: (Blue Book, part four: message sending).
use Rattle.std.specs.Prelude.{ℕ, ◌+◌, ◌-◌, ◌==◌, ◌&&◌, Bool, false, nat_lt, nat_le, if◌then◌else◌, List, [], ◌∷◌, ◌++◌, length, take, Option, Some, None, option_and_then, slice_get, unwrap_or}
use Rattle.cs_model.specs.declared.stop.Stop.TheVariants as why
use Rattle.cs_model.specs.Ref.{Ref}
use Rattle.cs_model.specs.Obj.{Obj, Ptr, Raw, Method, Ctx, header_in, bytecodes_in, primitive_number, argument_count, context_size, with_stack, is_method}
use Rattle.cs_model.specs.State.{Kept, object_of, slots_of, special_at}
use Rattle.cs_model.specs.Read.{stack_of, depth_of, size_of, from_top, class_of}
use Rattle.cs_model.specs.Operation.{drop_of, enter_of, edit_active, nil_of, last_values, receiver_below}
use Rattle.cs_model.specs.Lookup.{Sought, lookup}
use Rattle.cs_model.specs.Lookup as sought
use Rattle.cs_model.specs.Instance.{Made, New, NotInstantiable, TableFull, instantiate}
use Rattle.cs_model.specs.Exec.{push_out, with_array, fill_of}
use Rattle.cs_model.specs.Enter.{context_words}
use Rattle.cs_model.specs.End.{Out, out, stop, done, given, made, made_context, and_then}
use Rattle.cs_model.specs.End as ends

-- the receiver below so many arguments
abbrev pub receiver_at : Kept → ℕ → Ref
receiver_at k args = receiver_below args (nil_of k) (stack_of k)

-- ---- a method that was found

-- the words of the context that entering a method makes
abbrev pub activation_words : Option Obj → ℕ
activation_words method = context_words (context_size (header_in method))

-- a method is entered; behind its primitive where that failed
unfoldable pub enter_out : Kept → Ref → ℕ → Bool → Out
enter_out k method args skip = made_context (activation_words (object_of k method)) (out ends.Entered (enter_of k method args skip))

abbrev pub offer : Kept → Ref → ℕ → Option ℕ → Out
offer k method args None = enter_out k method args false
offer k method args (Some number) = out (ends.Primitive method number) k

-- a method takes its number of arguments; its primitive is tried first, if it has one
unfoldable pub invoke : Kept → Ref → ℕ → Out
invoke k method args =
    if argument_count (header_in (object_of k method)) == args then
    offer k method args (primitive_number (header_in (object_of k method)) (bytecodes_in (object_of k method)))
    else stop why.BadArgs k

-- ---- what isn't understood

-- special 15 is the class of messages, with selector, arguments and, if it has a third slot, the receiver's class
abbrev pub message_class : ℕ
message_class = 15

abbrev pub does_not_understand : ℕ
does_not_understand = 20

abbrev pub message_slots : Ref → Ref → Ref → List Ref → List Ref
message_slots selector array class [] = []
message_slots selector array class (a ∷ []) = a ∷ []
message_slots selector array class (a ∷ b ∷ []) = selector ∷ array ∷ []
message_slots selector array class (a ∷ b ∷ c ∷ rest) = selector ∷ array ∷ class ∷ rest

abbrev pub message_made : Kept → Ref → Ref → Ref → (Kept → Ref → Out) → Made → Out
message_made k selector array class next NotInstantiable = stop why.BadSpecial k
message_made k selector array class next TableFull = stop why.BadSpecial k
message_made k selector array class next (New t message words) =
    made words (given (slots_of t 2 message) (stop why.BadSpecial t) (λ slots. next (fill_of t message (message_slots selector array class slots)) message))

abbrev pub with_message : Kept → Ref → Ref → Ref → (Kept → Ref → Out) → Out
with_message k selector array class next =
    given (special_at k message_class) (stop why.BadSpecial k) (λ messages. message_made k selector array class next (instantiate k messages 0))

-- the class of a reference, or nil where the table has none
abbrev pub class_or_nil : Kept → Ref → Ref
class_or_nil k x = unwrap_or (class_of k x) (nil_of k)

abbrev pub not_understood_by : Kept → Sought → Out
not_understood_by k (sought.Method method) = invoke k method 1
not_understood_by k sought.Missing = stop why.NotUnderstood k
not_understood_by k sought.Loop = stop why.ClassLoop k

-- special 20 is sent with the message, which takes the arguments' place
abbrev pub send_message : Kept → Ref → ℕ → Ref → Out
send_message k class args message =
    and_then (push_out (drop_of k args) message) (λ t.
    given (special_at t does_not_understand) (stop why.BadSpecial t) (λ selector. not_understood_by t (lookup t class selector)))

-- an Array of the arguments is made, and then a Message
unfoldable pub not_understood : Kept → Ref → ℕ → Out
not_understood k selector args =
    with_array k args (λ t array.
    with_message (fill_of t array (last_values args (stack_of t))) selector array (class_or_nil k (receiver_at k args)) (λ u message.
    send_message u (class_or_nil k (receiver_at k args)) args message))

-- ---- the send

abbrev pub send_found : Kept → Ref → ℕ → Sought → Out
send_found k selector args (sought.Method method) = invoke k method args
send_found k selector args sought.Missing = not_understood k selector args
send_found k selector args sought.Loop = stop why.ClassLoop k

-- where a lookup begins: at the receiver's class, or at the superclass of `above`, if that is a class
abbrev pub superclass_of : Option (List Ref) → Option Ref
superclass_of None = None
superclass_of (Some slots) = slice_get slots 0

abbrev pub begins_at : Kept → ℕ → Option Ref → Option Ref
begins_at k args None = class_of k (receiver_at k args)
begins_at k args (Some above) = superclass_of (slots_of k 3 above)

abbrev pub look_from : Kept → Ref → Option Ref → Sought
look_from k selector None = sought.Missing
look_from k selector (Some class) = lookup k class selector

unfoldable pub send : Kept → Ref → ℕ → Option Ref → Out
send k selector args above =
    if nat_lt args (depth_of k) then send_found k selector args (look_from k selector (begins_at k args above)) else stop why.StackUnder k

-- ---- perform

-- an Array has format 2
abbrev pub array_elements : Option Obj → Option (List Ref)
array_elements None = None
array_elements (Some (Ptr head slots)) = if head.format == 2 then Some slots else None
array_elements (Some (Raw head bytes)) = None
array_elements (Some (Method head header literals bytecodes)) = None
array_elements (Some (Ctx c)) = None

-- the elements in the place of so many arguments
abbrev pub spread_of : Kept → ℕ → List Ref → Kept
spread_of k args values = edit_active k (λ c. with_stack (take (length c.stack - args) c.stack ++ values) c)

-- the elements of an Array, where they fit the stack in the place of the arguments
unfoldable pub elements_fitting : Kept → ℕ → Ref → Option (List Ref)
elements_fitting k args array =
    option_and_then (λ values. if nat_le (depth_of k - args + length values) (size_of k) then Some values else None) (array_elements (object_of k array))

-- the arguments but the first move down one place
abbrev pub without_selector : Kept → ℕ → Kept
without_selector k args = edit_active k (λ c. with_stack (take (length c.stack - args) c.stack ++ last_values (args - 1) c.stack) c)

abbrev pub perform_found : Kept → Kept → Ref → ℕ → Sought → Out
perform_found k t selector args (sought.Method method) =
    if argument_count (header_in (object_of k method)) == args then invoke t method args else out ends.Fail k
perform_found k t selector args sought.Missing = not_understood t selector args
perform_found k t selector args sought.Loop = stop why.ClassLoop k

-- 83: the first argument is the selector, sent with the rest
unfoldable pub perform : Kept → ℕ → Out
perform k args =
    if args == 0 then out ends.Fail k else
    given (from_top (args - 1) (stack_of k)) (out ends.Fail k) (λ selector.
    perform_found k (without_selector k args) selector (args - 1) (look_from k selector (class_of k (receiver_at k args))))

-- 84: a selector, and an Array of the arguments
unfoldable pub perform_with_arguments : Kept → Out
perform_with_arguments k =
    given (from_top 1 (stack_of k)) (out ends.Fail k) (λ selector.
    given (from_top 0 (stack_of k)) (out ends.Fail k) (λ array.
    given (elements_fitting k 2 array) (out ends.Fail k) (λ values.
    perform_found k (spread_of k 2 values) selector (length values) (look_from k selector (class_of k (receiver_at k 2))))))

-- 188: an Array of the arguments, and the method to be entered
unfoldable pub execute_method : Kept → Out
execute_method k =
    given (from_top 1 (stack_of k)) (out ends.Fail k) (λ array.
    given (from_top 0 (stack_of k)) (out ends.Fail k) (λ method.
    given (elements_fitting k 2 array) (out ends.Fail k) (λ values.
    if is_method (object_of k method) && argument_count (header_in (object_of k method)) == length values then invoke (spread_of k 2 values) method (length values)
    else out ends.Fail k)))
