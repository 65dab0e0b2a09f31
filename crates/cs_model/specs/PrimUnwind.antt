-- Primitives that evaluate closures, and those that look along senders for marks.
use Rattle.std.specs.Prelude.{ℕ, zero, suc, ◌==◌, ◌||◌, Bool, false, if◌then◌else◌, List, [], length, Option, Some, None, is_some}
use Rattle.cs_model.specs.declared.stop.Stop.TheVariants as why
use Rattle.cs_model.specs.Ref.{Ref, named_object}
use Rattle.cs_model.specs.Ref as ref
use Rattle.cs_model.specs.Obj.{Context, context_in, edit_context}
use Rattle.cs_model.specs.State.{Kept, object_at, object_of, is_nil}
use Rattle.cs_model.specs.Read.{active_birth}
use Rattle.cs_model.specs.Operation.{nil_of, edit_found, kill_all}
use Rattle.cs_model.specs.Enter.{can_evaluate, enter_block_out}
use Rattle.cs_model.specs.Send.{elements_fitting, spread_of}
use Rattle.cs_model.specs.Return.{Search, Met, Ended, TooLong, senders_to, sender_birth, links, context_birth, is_among, is_marked, unwind_mark, handler_mark}
use Rattle.cs_model.specs.PrimAnswer.{fail, answer, receiver, argument, with_count}
use Rattle.cs_model.specs.End.{Out, stop, given, looked}

-- ---- 201 to 205, 221 and 222 evaluate a closure with 0 to 4, 0 and 1 arguments; 206 with an Array of them

unfoldable pub evaluate_prim : Kept → ℕ → ℕ → Out
evaluate_prim k wanted args = with_count k wanted args (if can_evaluate k (receiver k wanted) wanted then enter_block_out k (receiver k wanted) wanted else fail k)

unfoldable pub evaluate_array_prim : Kept → ℕ → Out
evaluate_array_prim k args = with_count k 1 args
    (given (elements_fitting k 1 (argument k 1 0)) (fail k) (λ values.
    if can_evaluate k (receiver k 1) (length values) then enter_block_out (spread_of k 1 values) (receiver k 1) (length values) else fail k))

-- ---- 195 and 197: the first marked context

abbrev pub context_or_nil : Kept → Option ℕ → Ref
context_or_nil k None = nil_of k
context_or_nil k (Some i) = ref.Obj i

-- answering a context counts as a look, answering nil doesn't
abbrev pub answer_context : Kept → ℕ → Option ℕ → Out
answer_context k args None = answer k args (nil_of k)
answer_context k args (Some i) = looked (answer k args (ref.Obj i))

-- The senders of a context, until one has the number as its mark or is the goal. The sender behind the last link is still
-- looked at.
pub data Marked : Type 0 where
  MarkAt : (birth : ℕ) → Marked
  NoMark : Marked
  MarkTooFar : Marked

abbrev pub is_goal : Option ℕ → ℕ → Bool
is_goal None i = false
is_goal (Some goal) i = i == goal

unfoldable pub search_mark : ℕ → Kept → ℕ → Option ℕ → Option ℕ → Marked
search_mark n k number goal None = NoMark
search_mark zero k number goal (Some i) = MarkTooFar
search_mark (suc n) k number goal (Some i) =
    if is_goal goal i then NoMark else if is_marked k number i then MarkAt i else search_mark n k number goal (sender_birth k i)

abbrev pub answer_mark : Kept → ℕ → Marked → Out
answer_mark k args (MarkAt i) = answer_context k args (Some i)
answer_mark k args NoMark = answer_context k args None
answer_mark k args MarkTooFar = stop why.ChainTooLong k

-- an argument that is nil or a context
abbrev pub is_end : Kept → Ref → Bool
is_end k x = is_nil k x || is_some (context_in (object_of k x))

unfoldable pub unwind_mark_prim : Kept → ℕ → Out
unwind_mark_prim k args = with_count k 1 args
    (given (context_birth k (receiver k 1)) (fail k) (λ i.
    if is_end k (argument k 1 0) then answer_mark k 1 (search_mark links k unwind_mark (named_object (argument k 1 0)) (sender_birth k i)) else fail k))

-- from the receiver itself on
unfoldable pub handler_mark_prim : Kept → ℕ → Out
handler_mark_prim k args = with_count k 0 args
    (given (context_birth k (receiver k 0)) (fail k) (λ i.
    if is_marked k handler_mark i then answer_context k 0 (Some i) else answer_mark k 0 (search_mark links k handler_mark None (sender_birth k i))))

-- ---- 196: the contexts between die, and the argument is the sender

abbrev pub with_sender : Ref → Context → Context
with_sender x c = record c { sender = x }

-- the contexts between die where the argument was met, and in every case the receiver's sender is the argument
unfoldable pub end_between_of : Kept → List ℕ → ℕ → Ref → Kept
end_between_of k dying i goal = edit_found (edit_context (with_sender goal)) i (object_at (kill_all dying k) i) (kill_all dying k)

abbrev pub end_if : Kept → ℕ → Ref → List ℕ → Out
end_if k i goal dying = if is_among (active_birth k) dying then fail k else answer (end_between_of k dying i goal) 1 (ref.Obj i)

abbrev pub end_searched : Kept → ℕ → Ref → Search → Out
end_searched k i goal (Met passed) = end_if k i goal passed
end_searched k i goal (Ended passed) = end_if k i goal []
end_searched k i goal TooLong = stop why.ChainTooLong k

-- for nil nothing is searched
abbrev pub end_up_to : Kept → ℕ → Ref → Option ℕ → Out
end_up_to k i goal None = fail k
end_up_to k i goal (Some birth) = if is_nil k goal then end_if k i goal [] else end_searched k i goal (senders_to k i birth)

unfoldable pub end_between_prim : Kept → ℕ → Out
end_between_prim k args = with_count k 1 args
    (given (context_birth k (receiver k 1)) (fail k) (λ i.
    if is_end k (argument k 1 0) then end_up_to k i (argument k 1 0) (named_object (argument k 1 0)) else fail k))
