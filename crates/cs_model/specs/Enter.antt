-- Entering blocks (methods are entered by an operation alone).
use Rattle.std.specs.Prelude.{ℕ, ◌+◌, ◌==◌, ◌&&◌, Bool, false, nat_le, if◌then◌else◌, List, [], ◌++◌, length, drop, Option, Some, None, is_some, slice_get, unwrap_or}
use Rattle.cs_model.specs.Ref.{Ref, Small, same_ref, small_index}
use Rattle.cs_model.specs.Ref as ref
use Rattle.cs_model.specs.Obj.{Obj, Context, Ptr, Raw, Method, Ctx, context_in, is_method, header_in, context_size, words_of_slots, context_fields}
use Rattle.cs_model.specs.State.{Kept, object_of}
use Rattle.cs_model.specs.Read.{active_birth}
use Rattle.cs_model.specs.Operation.{nil_of, enter_with, last_values}
use Rattle.cs_model.specs.Context.{closure_class, lies_if_index}
use Rattle.cs_model.specs.declared.stop.Stop.TheVariants as why
use Rattle.cs_model.specs.End.{Out, out, stop, made_context}
use Rattle.cs_model.specs.End as ends

-- the slots of a closure: an object of the closures' class index and format 3
abbrev pub closure_slots : Option Obj → List Ref
closure_slots None = []
closure_slots (Some (Ptr head slots)) = if head.class == closure_class && head.format == 3 then slots else []
closure_slots (Some (Raw head bytes)) = []
closure_slots (Some (Method head header literals bytecodes)) = []
closure_slots (Some (Ctx c)) = []

-- a slot of a closure: 0 outerContext, 1 startpc, 2 numArgs, and then the copied values
abbrev pub closure_slot : Kept → Ref → ℕ → Ref
closure_slot k closure i = unwrap_or (slice_get (closure_slots (object_of k closure)) i) (nil_of k)

abbrev pub copied_values : Kept → Ref → List Ref
copied_values k closure = drop 3 (closure_slots (object_of k closure))

-- the method and the receiver of a closure are those of its outer context
abbrev pub method_in_context : Ref → Option Context → Ref
method_in_context nil None = nil
method_in_context nil (Some c) = c.method

abbrev pub receiver_in_context : Ref → Option Context → Ref
receiver_in_context nil None = nil
receiver_in_context nil (Some c) = c.receiver

unfoldable pub outer_context : Kept → Ref → Option Context
outer_context k closure = context_in (object_of k (closure_slot k closure 0))

abbrev pub closure_method : Kept → Ref → Ref
closure_method k closure = method_in_context (nil_of k) (outer_context k closure)

abbrev pub is_count : ℕ → Option ℕ → Bool
is_count n None = false
is_count n (Some m) = n == m

-- a closure can be evaluated where its outer context has a method, its startpc lies there, and it takes so many arguments
unfoldable pub can_evaluate : Kept → Ref → ℕ → Bool
can_evaluate k closure args =
    nat_le 3 (length (closure_slots (object_of k closure))) && is_some (outer_context k closure)
    && is_method (object_of k (closure_method k closure))
    && lies_if_index (object_of k (closure_method k closure)) (small_index (closure_slot k closure 1))
    && is_count args (small_index (closure_slot k closure 2))

-- the size of the context in which it runs
abbrev pub block_size : Kept → Ref → ℕ
block_size k closure = context_size (header_in (object_of k (closure_method k closure)))

-- the context of a block: the arguments, and then the copied values
abbrev pub block_context : Kept → Ref → ℕ → Context → Context
block_context k closure args old = record {
  hash = 0;
  sender = ref.Obj (active_birth k);
  pc = small_index (closure_slot k closure 1);
  method = closure_method k closure;
  closure = closure;
  receiver = receiver_in_context (nil_of k) (outer_context k closure);
  stack = last_values args old.stack ++ copied_values k closure;
  size = block_size k closure;
}

unfoldable pub enter_block_of : Kept → Ref → ℕ → Kept
enter_block_of k closure args = enter_with k args (block_context k closure args)

-- the words of a context of this size
abbrev pub context_words : ℕ → ℕ
context_words size = words_of_slots (context_fields + size)

-- a block is entered where arguments and copied values fit its context
unfoldable pub enter_block_out : Kept → Ref → ℕ → Out
enter_block_out k closure args =
    if nat_le (args + length (copied_values k closure)) (block_size k closure) then
    made_context (context_words (block_size k closure)) (out ends.Entered (enter_block_of k closure args))
    else stop why.StackOver k
