-- The primitives that evaluate closures, and those that look along senders, are alike.
use Rattle.std.proofs.Common.{ℕ, zero, suc, Option, None, is_some, List, [], length}
use Rattle.cs_model.specs.Ref.{Ref, named_object}
use Rattle.cs_model.specs.Ref as ref
use Rattle.cs_model.specs.State.{Kept, IsHeld}
use Rattle.cs_model.specs.Operation.{kill_all}
use Rattle.cs_model.specs.Return.{Search, Met, Ended, TooLong, sender_birth, links, is_among, unwind_mark, handler_mark}
use Rattle.cs_model.specs.PrimUnwind.{evaluate_prim, evaluate_array_prim, answer_context, Marked, MarkAt, NoMark, MarkTooFar, is_goal, search_mark, answer_mark, is_end, unwind_mark_prim, handler_mark_prim, with_sender, end_between_of, end_if, end_searched, end_up_to, end_between_prim}
use Rattle.cs_model.specs.Keeps.{Keeps}
use Rattle.cs_model.specs.Alike.{Alike}
use Rattle.cs_model.proofs.Same.{holds, Same, same, SameOption, none, some, Any, is, of_option, value, if_same}
use Rattle.cs_model.proofs.Keeping.{Moved, moved, edit_found_moved}
use Rattle.cs_model.proofs.Reading.{Has, up, nil_same, is_nil_same, object_of_same, context_in_same, active_birth_same}
use Rattle.cs_model.proofs.Operating.{kill_all_moved}
use Rattle.cs_model.proofs.Fields.{edit_context_edit, or_else_same}
use Rattle.cs_model.proofs.Entering.{can_evaluate_same, enter_block_alike}
use Rattle.cs_model.proofs.Combining.{fail_alike, stop_alike, behind, looked_alike, given_alike, if_alike}
use Rattle.cs_model.proofs.Searching.{SearchHeld, senders_to_same, sender_birth_same, context_birth_same, birth_of_same, is_marked_same}
use Rattle.cs_model.proofs.Sending.{elements_fitting_same, spread_moved}
use Rattle.cs_model.proofs.Answering.{answer_alike, prim_receiver_same, argument_same, with_count_alike}

pub evaluate_alike : {v m : Kept} → Keeps v m → (wanted args : ℕ) → Alike v (evaluate_prim v wanted args) (evaluate_prim m wanted args)
unfolding evaluate_prim
evaluate_alike k wanted args =
    with_count_alike k wanted args (if_alike (can_evaluate_same k (prim_receiver_same k wanted) wanted) (enter_block_alike k (prim_receiver_same k wanted) wanted) (fail_alike k))

pub evaluate_array_alike : {v m : Kept} → Keeps v m → (args : ℕ) → Alike v (evaluate_array_prim v args) (evaluate_array_prim m args)
unfolding evaluate_array_prim
evaluate_array_alike k args =
    with_count_alike k 1 args (given_alike _ _ (elements_fitting_same k 1 (argument_same k 1 0)) (fail_alike k) (λ values h.
    if_alike (can_evaluate_same k (prim_receiver_same k 1) (length values))
    (let s = spread_moved k 1 (same values h) in behind s (enter_block_alike s.keeps (up s.grows (prim_receiver_same k 1)) (length values)))
    (fail_alike k)))

-- ---- marks

answer_context_alike : {v m : Kept} {o p : Option ℕ} → Keeps v m → (args : ℕ) → SameOption (Has v) o p → Alike v (answer_context v args o) (answer_context m args p)
answer_context_alike k args none = answer_alike k args (nil_same k)
answer_context_alike k args (some i h) = looked_alike (answer_alike k args (same (ref.Obj i) h))

abbrev MarkHeld : Kept → Marked → Type 0
MarkHeld v (MarkAt i) = Has v i
MarkHeld v NoMark = Unit {0}
MarkHeld v MarkTooFar = Unit {0}

search_mark_same : {v m : Kept} → Keeps v m → (number : ℕ) (goal : Option ℕ) (n : ℕ) {o p : Option ℕ} → SameOption (Has v) o p → Same (MarkHeld v) (search_mark n v number goal o) (search_mark n m number goal p)
unfolding search_mark
search_mark_same k number goal zero none = same NoMark tt
search_mark_same k number goal zero (some i h) = same MarkTooFar tt
search_mark_same k number goal (suc n) none = same NoMark tt
search_mark_same k number goal (suc n) (some i h) =
    if_same (is (is_goal goal i)) (same NoMark tt)
    (if_same (is_marked_same k number (same i h)) (same (MarkAt i) h) (search_mark_same k number goal n (sender_birth_same k (same i h))))

-- from a context on, to a goal
mark_from_same : {v m : Kept} {g h : Option ℕ} → Keeps v m → (number i : ℕ) → Has v i → Same Any g h → Same (MarkHeld v) (search_mark links v number g (sender_birth v i)) (search_mark links m number h (sender_birth m i))
mark_from_same k number i there (same goal a) = search_mark_same k number goal links (sender_birth_same k (same i there))

answer_mark_alike : {v m : Kept} {a b : Marked} → Keeps v m → (args : ℕ) → Same (MarkHeld v) a b → Alike v (answer_mark v args a) (answer_mark m args b)
answer_mark_alike k args (same (MarkAt i) h) = answer_context_alike k args (some i h)
answer_mark_alike k args (same NoMark h) = answer_context_alike k args none
answer_mark_alike k args (same MarkTooFar h) = stop_alike k _

is_end_same : {v m : Kept} {x y : Ref} → Keeps v m → Same (IsHeld v) x y → Same Any (is_end v x) (is_end m y)
is_end_same k s = or_else_same (is_nil_same k s) (of_option is_some (context_in_same (object_of_same k s)))

pub unwind_mark_alike : {v m : Kept} → Keeps v m → (args : ℕ) → Alike v (unwind_mark_prim v args) (unwind_mark_prim m args)
unfolding unwind_mark_prim
unwind_mark_alike k args =
    with_count_alike k 1 args (given_alike _ _ (context_birth_same k (prim_receiver_same k 1)) (fail_alike k) (λ i h.
    if_alike (is_end_same k (argument_same k 1 0)) (answer_mark_alike k 1 (mark_from_same k unwind_mark i h (value named_object (argument_same k 1 0)))) (fail_alike k)))

pub handler_mark_alike : {v m : Kept} → Keeps v m → (args : ℕ) → Alike v (handler_mark_prim v args) (handler_mark_prim m args)
unfolding handler_mark_prim
handler_mark_alike k args =
    with_count_alike k 0 args (given_alike _ _ (context_birth_same k (prim_receiver_same k 0)) (fail_alike k) (λ i h.
    if_alike (is_marked_same k handler_mark (same i h)) (answer_context_alike k 0 (some i h)) (answer_mark_alike k 0 (mark_from_same k handler_mark i h (is None)))))

-- ---- the contexts between die

pub end_between_moved : {v m : Kept} {x y : Ref} → Keeps v m → (dying : List ℕ) (i : ℕ) → Same (IsHeld v) x y → Moved v (end_between_of v dying i x) (end_between_of m dying i y)
unfolding end_between_of
end_between_moved {v} k dying i (same x g) =
    let a = kill_all_moved dying k in
    moved a (edit_found_moved a.keeps (edit_context_edit (kill_all dying v) (same (with_sender x) (λ c h. record { sender = holds (up a.grows (same x g)); method = h.method; closure = h.closure; receiver = h.receiver; stack = h.stack }))) (is i))

end_if_alike : {v m : Kept} {x y : Ref} → Keeps v m → (i : ℕ) → Has v i → Same (IsHeld v) x y → (dying : List ℕ) → Alike v (end_if v i x dying) (end_if m i y dying)
end_if_alike k i h s dying =
    if_alike (value (λ b. is_among b dying) (active_birth_same k)) (fail_alike k)
    (let e = end_between_moved k dying i s in behind e (answer_alike e.keeps 1 (up e.grows (same (ref.Obj i) h))))

end_searched_alike : {v m : Kept} {x y : Ref} {a b : Search} → Keeps v m → (i : ℕ) → Has v i → Same (IsHeld v) x y → Same (SearchHeld v) a b → Alike v (end_searched v i x a) (end_searched m i y b)
end_searched_alike k i h s (same (Met passed) all) = end_if_alike k i h s passed
end_searched_alike k i h s (same (Ended passed) all) = end_if_alike k i h s []
end_searched_alike k i h s (same TooLong all) = stop_alike k _

end_at_alike : {v m : Kept} {x y : Ref} {o p : Option ℕ} → Keeps v m → (i : ℕ) → Has v i → Same (IsHeld v) x y → SameOption (Has v) o p → Alike v (end_up_to v i x o) (end_up_to m i y p)
end_at_alike k i h s none = fail_alike k
end_at_alike k i h s (some birth g) = if_alike (is_nil_same k s) (end_if_alike k i h s []) (end_searched_alike k i h s (senders_to_same k (same i h) birth))

pub end_between_alike : {v m : Kept} → Keeps v m → (args : ℕ) → Alike v (end_between_prim v args) (end_between_prim m args)
unfolding end_between_prim
end_between_alike k args =
    with_count_alike k 1 args (given_alike _ _ (context_birth_same k (prim_receiver_same k 1)) (fail_alike k) (λ i h.
    if_alike (is_end_same k (argument_same k 1 0)) (end_at_alike k i h (argument_same k 1 0) (birth_of_same k (argument_same k 1 0))) (fail_alike k)))
