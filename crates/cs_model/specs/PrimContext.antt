-- Primitives on the stack values of contexts: 210 and 211 read and write value i, counted from 1, and 212 is stackp. (Fields
-- of contexts, and their copies, are cases of the primitives on objects.)
use Rattle.std.specs.Prelude.{ℕ, nat_lt, if◌then◌else◌, length, Option, Some, None, option_map, option_and_then, slice_get}
use Rattle.cs_model.specs.Ref.{Ref, named_object}
use Rattle.cs_model.specs.Obj.{Context, context_in, edit_context, stored}
use Rattle.cs_model.specs.State.{Kept, object_at, object_of}
use Rattle.cs_model.specs.Operation.{edit_found}
use Rattle.cs_model.specs.PrimAnswer.{answer_if, receiver, argument, with_count}
use Rattle.cs_model.specs.PrimObject.{slot_index, small_count, answer_in}
use Rattle.cs_model.specs.End.{Out}

unfoldable pub stack_at_prim : Kept → ℕ → Out
stack_at_prim k args = with_count k 1 args
    (answer_if k 1 (option_and_then (λ c. option_and_then (λ i. slice_get c.stack i) (slot_index (argument k 1 0))) (context_in (object_of k (receiver k 1)))))

abbrev pub stack_put : Kept → ℕ → ℕ → Ref → Context → Option Kept
stack_put k birth i v c = if nat_lt i (length c.stack) then Some (edit_found (edit_context (stored i v)) birth (object_at k birth) k) else None

unfoldable pub stack_at_put_prim : Kept → ℕ → Out
stack_at_put_prim k args = with_count k 2 args
    (answer_in
    (option_and_then (λ birth. option_and_then (λ c. option_and_then (λ i. stack_put k birth i (argument k 2 1) c) (slot_index (argument k 2 0)))
    (context_in (object_at k birth))) (named_object (receiver k 2)))
    k 2 (argument k 2 1))

unfoldable pub stackp_prim : Kept → ℕ → Out
stackp_prim k args = with_count k 0 args (answer_if k 0 (option_map (λ c. small_count (length c.stack)) (context_in (object_of k (receiver k 0)))))
