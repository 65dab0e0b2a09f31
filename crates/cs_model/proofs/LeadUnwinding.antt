-- What becomes of a state by the primitives on closures, on senders and on the values of contexts.
use Rattle.std.proofs.Common.{◌≡◌, ℕ, ◌-◌, Bool, true, false, refl, sym, ap, subst, ◌∙◌, Option, Some, None, List, [], ◌++◌, take, length, nat_lt, unwrap_or, if◌then◌else◌}
use Rattle.cs_model.specs.declared.stop.Stop.TheVariants as why
use Rattle.cs_model.specs.Ref.{Ref, named_object}
use Rattle.cs_model.specs.Ref as ref
use Rattle.cs_model.specs.Obj.{Context, context_in, edit_context, stored, with_stack}
use Rattle.cs_model.specs.State.{Kept, object_at, is_nil}
use Rattle.cs_model.specs.Read.{active_birth}
use Rattle.cs_model.specs.Operation.{edit_found, nil_of}
use Rattle.cs_model.specs.Enter.{can_evaluate}
use Rattle.cs_model.specs.Send.{elements_fitting}
use Rattle.cs_model.specs.Return.{Search, Met, Ended, TooLong, senders_to, sender_birth, links, context_birth, is_among, is_marked, unwind_mark, handler_mark}
use Rattle.cs_model.specs.PrimAnswer.{receiver, argument}
use Rattle.cs_model.specs.PrimObject.{slot_index}
use Rattle.cs_model.specs.PrimContext.{stack_at_prim, stack_put, stack_at_put_prim, stackp_prim}
use Rattle.cs_model.specs.PrimUnwind.{evaluate_prim, evaluate_array_prim, answer_context, Marked, MarkAt, NoMark, MarkTooFar, search_mark, answer_mark, is_end, unwind_mark_prim, handler_mark_prim, with_sender, end_between_of, end_if, end_searched, end_up_to, end_between_prim}
use Rattle.cs_model.proofs.LeadCombining.{Ready, Goes, goes_trans, goes_by, ready_behind, Leading, stop_leading, fail_leading, behind, looked_leading, given_leading, if_leading}
use Rattle.cs_model.proofs.LeadOperation.{KeepsPlace, edit_context_mild, edit_found_leads, edit_found-rest}
use Rattle.cs_model.proofs.LeadEntering.{kill_all_leads, kill_all-rest, enter_block_leading, can_evaluate_block, block_beside}
use Rattle.cs_model.proofs.LeadSending.{spread_goes}
use Rattle.cs_model.proofs.LeadAnswer.{answer_leading, answer_behind, with_count_leading, answer_if_leading, answer_in_leading, and_then_some}

-- ---- closures are evaluated

pub evaluate_leading : {P : Kept → Type 0} {k : Kept} (wanted args : ℕ) → Ready k → Leading P k (evaluate_prim k wanted args)
unfolding evaluate_prim
evaluate_leading {P} {k} wanted args r = with_count_leading wanted args r
    (if_leading (can_evaluate k (receiver k wanted) wanted) (λ e. enter_block_leading (receiver k wanted) wanted r (can_evaluate_block k (receiver k wanted) wanted e)) (λ e. fail_leading r))

pub evaluate_array_leading : {P : Kept → Type 0} {k : Kept} (args : ℕ) → Ready k → Leading P k (evaluate_array_prim k args)
unfolding evaluate_array_prim
evaluate_array_leading {P} {k} args r = with_count_leading 1 args r
    (given_leading (elements_fitting k 1 (argument k 1 0)) _ (fail_leading r) (λ values e.
    if_leading (can_evaluate k (receiver k 1) (length values))
    (λ f.
    let s = spread_goes 1 values r in
    let block = block_beside (λ c. with_stack (take (length c.stack - 1) c.stack ++ values) c) (receiver k 1) (record { pc = λ c. refl; method = λ c. refl }) r (can_evaluate_block k (receiver k 1) (length values) f) in
    behind s.leads (enter_block_leading (receiver k 1) (length values) (ready_behind s) block))
    (λ f. fail_leading r)))

-- ---- marks

answer_context_leading : {P : Kept → Type 0} {k : Kept} (args : ℕ) (o : Option ℕ) → Ready k → Leading P k (answer_context k args o)
answer_context_leading {P} {k} args None r = answer_leading args (nil_of k) r
answer_context_leading args (Some i) r = looked_leading (answer_leading args (ref.Obj i) r)

answer_mark_leading : {P : Kept → Type 0} {k : Kept} (args : ℕ) (m : Marked) → Ready k → Leading P k (answer_mark k args m)
answer_mark_leading args (MarkAt i) r = answer_context_leading args (Some i) r
answer_mark_leading args NoMark r = answer_context_leading args None r
answer_mark_leading args MarkTooFar r = stop_leading r.sound why.ChainTooLong

pub unwind_mark_leading : {P : Kept → Type 0} {k : Kept} (args : ℕ) → Ready k → Leading P k (unwind_mark_prim k args)
unfolding unwind_mark_prim
unwind_mark_leading {P} {k} args r = with_count_leading 1 args r
    (given_leading (context_birth k (receiver k 1)) _ (fail_leading r) (λ i e.
    if_leading (is_end k (argument k 1 0)) (λ f. answer_mark_leading 1 (search_mark links k unwind_mark (named_object (argument k 1 0)) (sender_birth k i)) r) (λ f. fail_leading r)))

pub handler_mark_leading : {P : Kept → Type 0} {k : Kept} (args : ℕ) → Ready k → Leading P k (handler_mark_prim k args)
unfolding handler_mark_prim
handler_mark_leading {P} {k} args r = with_count_leading 0 args r
    (given_leading (context_birth k (receiver k 0)) _ (fail_leading r) (λ i e.
    if_leading (is_marked k handler_mark i) (λ f. answer_context_leading 0 (Some i) r) (λ f. answer_mark_leading 0 (search_mark links k handler_mark None (sender_birth k i)) r)))

-- ---- the contexts between die

-- a context changes in a part that is neither its pc nor its method
pub context_edited : {k : Kept} (f : Context → Context) (i : ℕ) → KeepsPlace f → Ready k → Goes k (edit_found (edit_context f) i (object_at k i) k)
context_edited {k} f i p r =
    goes_by (edit_found_leads (edit_context f) i r.sound (λ o e. edit_context_mild f p o)) r.runs (ap (λ s. s.active) (edit_found-rest (edit_context f) i (object_at k i) k))

active_apart : (k : Kept) (dying : List ℕ) → is_among (active_birth k) dying ≡ false → (i : ℕ) → k.rest.active ≡ Some i → is_among i dying ≡ false
active_apart k dying h i e = ap (λ o. is_among (unwrap_or o k.rest.nil) dying) (sym e) ∙ h

end_between_goes : {k : Kept} (dying : List ℕ) (i : ℕ) (goal : Ref) → Ready k → is_among (active_birth k) dying ≡ false → Goes k (end_between_of k dying i goal)
unfolding end_between_of
end_between_goes {k} dying i goal r h =
    let a = goes_by (kill_all_leads dying r.sound (record { apart = active_apart k dying h })) r.runs (ap (λ s. s.active) (kill_all-rest dying k)) in
    goes_trans a (context_edited (with_sender goal) i (record { pc = λ c. refl; method = λ c. refl }) (ready_behind a))

end_if_leading : {P : Kept → Type 0} {k : Kept} (i : ℕ) (goal : Ref) (dying : List ℕ) → Ready k → Leading P k (end_if k i goal dying)
end_if_leading {P} {k} i goal dying r = if_leading (is_among (active_birth k) dying) (λ e. fail_leading r) (λ e. answer_behind 1 (ref.Obj i) (end_between_goes dying i goal r e))

end_searched_leading : {P : Kept → Type 0} {k : Kept} (i : ℕ) (goal : Ref) (s : Search) → Ready k → Leading P k (end_searched k i goal s)
end_searched_leading i goal (Met passed) r = end_if_leading i goal passed r
end_searched_leading i goal (Ended passed) r = end_if_leading i goal [] r
end_searched_leading i goal TooLong r = stop_leading r.sound why.ChainTooLong

end_at_leading : {P : Kept → Type 0} {k : Kept} (i : ℕ) (goal : Ref) (o : Option ℕ) → Ready k → Leading P k (end_up_to k i goal o)
end_at_leading i goal None r = fail_leading r
end_at_leading {P} {k} i goal (Some birth) r = if_leading (is_nil k goal) (λ e. end_if_leading i goal [] r) (λ e. end_searched_leading i goal (senders_to k i birth) r)

pub end_between_leading : {P : Kept → Type 0} {k : Kept} (args : ℕ) → Ready k → Leading P k (end_between_prim k args)
unfolding end_between_prim
end_between_leading {P} {k} args r = with_count_leading 1 args r
    (given_leading (context_birth k (receiver k 1)) _ (fail_leading r) (λ i e.
    if_leading (is_end k (argument k 1 0)) (λ f. end_at_leading i (argument k 1 0) (named_object (argument k 1 0)) r) (λ f. fail_leading r)))

-- ---- the values of a context

pub stack_at_leading : {P : Kept → Type 0} {k : Kept} (args : ℕ) → Ready k → Leading P k (stack_at_prim k args)
unfolding stack_at_prim
stack_at_leading args r = with_count_leading 1 args r (answer_if_leading 1 _ r)

stack_put_goes : {k t : Kept} (birth i : ℕ) (v : Ref) (c : Context) → Ready k → stack_put k birth i v c ≡ Some t → Goes k t
stack_put_goes {k} {t} birth i v c r e = go (nat_lt i (length c.stack)) e where
  written : Goes k (edit_found (edit_context (stored i v)) birth (object_at k birth) k)
  written = context_edited (stored i v) birth (record { pc = λ c. refl; method = λ c. refl }) r

  go : (b : Bool) → (if b then Some (edit_found (edit_context (stored i v)) birth (object_at k birth) k) else None) ≡ Some t → Goes k t
  go true f = subst (λ u. Goes k u) (ap (λ o. unwrap_or o k) f) written
  go false f = absurd (cc)

pub stack_at_put_leading : {P : Kept → Type 0} {k : Kept} (args : ℕ) → Ready k → Leading P k (stack_at_put_prim k args)
unfolding stack_at_put_prim
stack_at_put_leading {P} {k} args r = with_count_leading 2 args r
    (answer_in_leading _ 2 (argument k 2 1) r (λ t e.
    let a = and_then_some _ (named_object (receiver k 2)) t e in
    let b = and_then_some _ (context_in (object_at k a.0)) t a.2 in
    let d = and_then_some _ (slot_index (argument k 2 0)) t b.2 in
    stack_put_goes a.0 d.0 (argument k 2 1) b.0 r d.2))

pub stackp_leading : {P : Kept → Type 0} {k : Kept} (args : ℕ) → Ready k → Leading P k (stackp_prim k args)
unfolding stackp_prim
stackp_leading args r = with_count_leading 0 args r (answer_if_leading 0 _ r)
