-- Entering a block is alike.
use Rattle.std.proofs.Common.{ℕ, ◌+◌, ◌==◌, ◌&&◌, Bool, true, false, Option, is_some, List, [], length, nat_le, if◌then◌else◌}
use Rattle.cs_model.specs.Ref.{Ref, small_index}
use Rattle.cs_model.specs.Obj.{Obj, Context, Ptr, Raw, Method, Ctx, is_method, header_in, context_size}
use Rattle.cs_model.specs.State.{Kept, object_of, IsHeld, ContextHeld, NamesHeld}
use Rattle.cs_model.specs.Operation.{nil_of}
use Rattle.cs_model.specs.Context.{closure_class, lies_if_index}
use Rattle.cs_model.specs.Enter.{closure_slots, closure_slot, copied_values, method_in_context, receiver_in_context, outer_context, closure_method, is_count, can_evaluate, block_size, block_context, enter_block_of, context_words, enter_block_out}
use Rattle.cs_model.specs.Keeps.{Keeps}
use Rattle.cs_model.specs.Alike.{Alike}
use Rattle.cs_model.proofs.Same.{Same, same, SameOption, none, some, Any, is, value, of_option, two, or_same, option_is}
use Rattle.cs_model.proofs.Keeping.{Moved}
use Rattle.cs_model.proofs.Reading.{AllHeld, nil_same, object_of_same, context_in_same, slice_same, active_ref_same, active_context_same, context_stack}
use Rattle.cs_model.proofs.Operating.{append_same, last_values_same, drop_same, context_same, enter_with_moved}
use Rattle.cs_model.proofs.Fields.{and_same}
use Rattle.cs_model.proofs.Combining.{moved_alike, stop_alike, if_alike, made_context_alike}

closure_object : {v : Kept} (slots : List Ref) → (b : Bool) → AllHeld v slots → Same (AllHeld v) (if b then slots else []) (if b then slots else [])
closure_object slots true h = same slots h
closure_object slots false h = same [] (record { all = tt })

closure_slots_same : {v : Kept} {o p : Option Obj} → SameOption (NamesHeld v) o p → Same (AllHeld v) (closure_slots o) (closure_slots p)
closure_slots_same none = same [] (record { all = tt })
closure_slots_same (some (Ptr head slots) h) = closure_object slots (head.class == closure_class && head.format == 3) (record { all = h })
closure_slots_same (some (Raw head bytes) h) = same [] (record { all = tt })
closure_slots_same (some (Method head header literals bytecodes) h) = same [] (record { all = tt })
closure_slots_same (some (Ctx c) h) = same [] (record { all = tt })

pub slots_same : {v m : Kept} {x y : Ref} → Keeps v m → Same (IsHeld v) x y → Same (AllHeld v) (closure_slots (object_of v x)) (closure_slots (object_of m y))
slots_same k s = closure_slots_same (object_of_same k s)

pub closure_slot_same : {v m : Kept} {x y : Ref} → Keeps v m → Same (IsHeld v) x y → (i : ℕ) → Same (IsHeld v) (closure_slot v x i) (closure_slot m y i)
closure_slot_same k s i = or_same (slice_same i (slots_same k s)) (nil_same k)

pub copied_values_same : {v m : Kept} {x y : Ref} → Keeps v m → Same (IsHeld v) x y → Same (AllHeld v) (copied_values v x) (copied_values m y)
copied_values_same k s = drop_same 3 (slots_same k s)

pub outer_context_same : {v m : Kept} {x y : Ref} → Keeps v m → Same (IsHeld v) x y → SameOption (ContextHeld v) (outer_context v x) (outer_context m y)
unfolding outer_context
outer_context_same k s = context_in_same (object_of_same k (closure_slot_same k s 0))

method_in_same : {v m : Kept} {c d : Option Context} → Keeps v m → SameOption (ContextHeld v) c d → Same (IsHeld v) (method_in_context (nil_of v) c) (method_in_context (nil_of m) d)
method_in_same k none = nil_same k
method_in_same k (some c h) = same c.method h.method

receiver_in_same : {v m : Kept} {c d : Option Context} → Keeps v m → SameOption (ContextHeld v) c d → Same (IsHeld v) (receiver_in_context (nil_of v) c) (receiver_in_context (nil_of m) d)
receiver_in_same k none = nil_same k
receiver_in_same k (some c h) = same c.receiver h.receiver

pub closure_method_same : {v m : Kept} {x y : Ref} → Keeps v m → Same (IsHeld v) x y → Same (IsHeld v) (closure_method v x) (closure_method m y)
closure_method_same k s = method_in_same k (outer_context_same k s)

pub can_evaluate_same : {v m : Kept} {x y : Ref} → Keeps v m → Same (IsHeld v) x y → (args : ℕ) → Same Any (can_evaluate v x args) (can_evaluate m y args)
unfolding can_evaluate
can_evaluate_same k s args =
    and_same (and_same (and_same (and_same
    (value (λ xs. nat_le 3 (length xs)) (slots_same k s))
    (of_option is_some (outer_context_same k s)))
    (of_option is_method (object_of_same k (closure_method_same k s))))
    (two (λ o x. lies_if_index o (small_index x)) (option_is (object_of_same k (closure_method_same k s))) (closure_slot_same k s 1)))
    (value (λ x. is_count args (small_index x)) (closure_slot_same k s 2))

pub block_size_same : {v m : Kept} {x y : Ref} → Keeps v m → Same (IsHeld v) x y → Same Any (block_size v x) (block_size m y)
block_size_same k s = of_option (λ o. context_size (header_in o)) (object_of_same k (closure_method_same k s))

block_context_same : {v m : Kept} {x y : Ref} {c d : Context} → Keeps v m → Same (IsHeld v) x y → (args : ℕ) → Same (ContextHeld v) c d → Same (ContextHeld v) (block_context v x args c) (block_context m y args d)
block_context_same k s args t =
    context_same k (is 0) (active_ref_same k) (value small_index (closure_slot_same k s 1)) (closure_method_same k s) s (receiver_in_same k (outer_context_same k s))
    (append_same (last_values_same args (context_stack t)) (copied_values_same k s)) (block_size_same k s)

pub enter_block_moved : {v m : Kept} {x y : Ref} → Keeps v m → Same (IsHeld v) x y → (args : ℕ) → Moved v (enter_block_of v x args) (enter_block_of m y args)
unfolding enter_block_of
enter_block_moved {v} {m} {x} {y} k s args = enter_with_moved (block_context v x args) (block_context m y args) k args (block_context_same k s args (active_context_same k))

pub enter_block_alike : {v m : Kept} {x y : Ref} → Keeps v m → Same (IsHeld v) x y → (args : ℕ) → Alike v (enter_block_out v x args) (enter_block_out m y args)
unfolding enter_block_out
enter_block_alike k s args =
    if_alike (two (λ xs n. nat_le (args + length xs) n) (copied_values_same k s) (block_size_same k s))
    (made_context_alike (value context_words (block_size_same k s)) (moved_alike (enter_block_moved k s args) (same _ tt)))
    (stop_alike k _)
