-- What the primitives that evaluate closures or look for marks come to in the model, and what trying one comes to.
use Rattle.std.proofs.Common.{◌≡◌, ◌⊎◌, inl, inr, ℕ, ◌+◌, ◌-◌, ◌<◌, ◌≤◌, Bool, true, false, refl, sym, ap, ◌∙◌, arith, Option, Some, None, List, [], ◌∷◌, ◌++◌, length, length-take, length-append, nat_le, take, unwrap_or}
use Rattle.std.specs.Prelude.{◌==◌, if◌then◌else◌}
use Rattle.std.specs.List.{AllByRecursion}
use Rattle.std.proofs.lemmas.Bool.Decides.{eqb_tells, nat_tests}
use Rattle.cs_model.specs.declared.stop.Stop.{Stop as Reason}
use Rattle.cs_model.specs.declared.stop.Stop.TheVariants as why
use Rattle.cs_model.specs.Ref.{Ref}
use Rattle.cs_model.specs.Ref as ref
use Rattle.cs_model.specs.Obj.{Context, Ctx, context_in, context_size, header_in, with_stack}
use Rattle.cs_model.specs.State.{Kept, Run, Rest, State, object_at, object_of}
use Rattle.cs_model.specs.Read.{IsRunning, active_birth, active_context, depth_of, stack_of}
use Rattle.cs_model.specs.Operation.{nil_of}
use Rattle.cs_model.specs.Enter.{block_size, can_evaluate, closure_method, context_words, copied_values, enter_block_of, enter_block_out}
use Rattle.cs_model.specs.Send.{elements_fitting, spread_of}
use Rattle.cs_model.specs.Return.{context_birth, is_marked, handler_mark}
use Rattle.cs_model.specs.End as ends
use Rattle.cs_model.specs.End.{Out, given, looked, made_context}
use Rattle.cs_model.specs.PrimAnswer.{answer, argument, fail, receiver}
use Rattle.cs_model.specs.PrimUnwind.{Marked, MarkAt, NoMark, MarkTooFar, answer_mark, evaluate_array_prim, evaluate_prim, handler_mark_prim, is_end, unwind_mark_prim}
use Rattle.cs_model.specs.PrimRun.{Result, result}
use Rattle.cs_model.specs.PrimTable.{kept_prim, prim}
use Rattle.cs_model.specs.Step.{arguments_of, primitive_in, with_kept}
use Rattle.cs_model.specs.Built.{is_built_number}
use Rattle.cs_model.proofs.Editing.{active_context-put}
use Rattle.cs_model.proofs.Objects.{object_at-put_other, object_at-put_same, rest-put}
use Rattle.cs_acts.specs.declared.act.Full.{Full as Why}
use Rattle.cs_acts.specs.declared.prim.PrimEnd.{PrimEnd}
use Rattle.cs_acts.specs.declared.prim.PrimEnd.TheVariants as prims
use Rattle.cs_acts.specs.Layout.{IsApart, Layout, depth_if, frame_words, is_on, page_words}
use Rattle.cs_acts.specs.Names.{Store}
use Rattle.cs_acts.specs.Primed.{PrimGives, PrimLaid}
use Rattle.cs_unwind.specs.Primitive.{entered_from, unwinds}
use Rattle.cs_core.specs.Stepped.{EndsBy, Fails, TurnGives, state_at, trying}
use Rattle.cs_core.specs.declared.step.StepEnd.{StepEnd}
use Rattle.cs_core.specs.declared.step.StepEnd.TheVariants.{Stopped as Stop, Full}
use Rattle.cs_core.proofs.Chaining.{all_on, apart_from, page_same}
use Rattle.cs_core.proofs.Coming.{Comes, Sends, answers, enters, fails, no_primitive, sends_itself, stops, trying_fails, trying_full, trying_over, trying_stops}
use Rattle.cs_core.proofs.Settling.{edit_stays}

-- ---- the state from which a block is entered

-- the elements of an Array are on the stack
spread : List Ref → Context → Context
spread values c = with_stack (take (length c.stack - 1) c.stack ++ values) c

module _ (k : Kept) (values : List Ref) where
  spread_rest : (spread_of k 1 values).rest ≡ k.rest
  unfolding spread
  spread_rest = rest-put k (active_birth k) (Ctx (spread values (active_context k)))

  spread_active : active_birth (spread_of k 1 values) ≡ active_birth k
  spread_active = ap (λ (r : Rest). unwrap_or r.active r.nil) spread_rest

  spread_same : object_at (spread_of k 1 values) (active_birth k) ≡ Some (Ctx (spread values (active_context k)))
  unfolding spread
  spread_same = object_at-put_same k (active_birth k) (Ctx (spread values (active_context k)))

  spread_context : active_context (spread_of k 1 values) ≡ spread values (active_context k)
  unfolding spread
  spread_context = active_context-put k (spread values (active_context k))

  spread_depth : length values < 57 → length (spread values (active_context k)).stack ≤ depth_of k + 56
  unfolding spread
  spread_depth few = omega (arith, few, length-append (take (depth_of k - 1) (stack_of k)) values, length-take (depth_of k - 1) (stack_of k))

  other_frame : (i : ℕ) → (i ≡ active_birth k → ⊥) → frame_words (spread_of k 1 values) i ≡ frame_words k i
  unfolding spread
  other_frame i other = ap (λ o. 10 + depth_if (context_in o)) (object_at-put_other k (active_birth k) i (Ctx (spread values (active_context k))) other)

  spread_words : IsRunning k → length values < 57 → (page : List ℕ) → IsApart page → page_words (spread_of k 1 values) page ≤ page_words k page + 56
  unfolding page_words
  spread_words running few [] a = omega arith
  spread_words running few (i ∷ is) a = elim (eqb_tells i (active_birth k)) [
    | inl e ↦
        let rest : page_words (spread_of k 1 values) is ≡ page_words k is = page_same (spread_of k 1 values) k is (λ j on. other_frame j (λ q. apart_from i j is a.0 on (q ∙ sym e.1))) in
        let new : frame_words (spread_of k 1 values) i ≡ 10 + length (spread values (active_context k)).stack = ap (frame_words (spread_of k 1 values)) e.1 ∙ ap (λ o. 10 + depth_if (context_in o)) spread_same in
        let old : frame_words k i ≡ 10 + depth_of k = ap (frame_words k) e.1 ∙ ap (λ o. 10 + depth_if (context_in o)) running.found in
        omega (arith, rest, new, old, spread_depth few)
    | inr e ↦ let first = other_frame i e.1 in omega (arith, first, spread_words running few is a.1)
  ]

  spread_sends : length values < 57 → IsRunning k → Sends k (spread_of k 1 values)
  spread_sends few running = record {
    known = ap (λ (r : Rest). r.active) spread_rest ∙ running.known ∙ ap Some (sym spread_active);
    found = ap (object_at (spread_of k 1 values)) spread_active ∙ spread_same ∙ ap (λ c. Some (Ctx c)) (sym spread_context);
    stays = edit_stays k (λ c. with_stack (take (length c.stack - 1) c.stack ++ values) c) (ap context_in running.found) refl;
    fills = λ page apart h. omega (arith, h, spread_words running few page apart);
  }

-- ---- what the primitives come to

given_unwinds : {A : Type 0} (k from : Kept) (o : Option A) (none : Out) (some : A → Out) → Comes k from none → ((x : A) → Comes k from (some x)) → Comes k from (given o none some)
given_unwinds k from None none some n s = n
given_unwinds k from (Some x) none some n s = s x

if_unwinds : (k from : Kept) (b : Bool) (x y : Out) → Comes k from x → Comes k from y → Comes k from (if b then x else y)
if_unwinds k from true x y s t = s
if_unwinds k from false x y s t = t

failing : (k from : Kept) → Comes k from (fail k)
failing k from = fails refl

answering : (k : Kept) (args : ℕ) (x : Ref) → Comes k k (answer k args x)
unfolding answer
answering k args x = answers (args + 1) x refl refl refl

looking : (k from : Kept) (o : Out) → Comes k from o → Comes k from (looked o)
unfolding looked
looking k from o (answers n x e s is) = answers n x e s is
looking k from o (enters closure n e s few h) = enters closure n e s few h
looking k from o (fails e) = fails e
looking k from o (stops reason e) = stops reason e

small_context : (header : ℕ) → context_size header ≤ 56
small_context header = go _
  where
    go : (b : Bool) → (if b then 56 else 16) ≤ 56
    go true = omega arith
    go false = omega arith

block_unwinds : (k from : Kept) (closure : Ref) (n : ℕ) → (n < 57 → IsRunning k → Sends k from) → Comes k from (enter_block_out from closure n)
unfolding enter_block_out made_context
block_unwinds k from closure n h = go (nat_le (n + length (copied_values from closure)) (block_size from closure)) refl
  where
    go : (b : Bool) → nat_le (n + length (copied_values from closure)) (block_size from closure) ≡ b → Comes k from (if b then made_context (context_words (block_size from closure)) (ends.out ends.Entered (enter_block_of from closure n)) else ends.stop why.StackOver from)
    go true e =
        let fits : n + length (copied_values from closure) ≤ block_size from closure = grind (arith, nat_tests, e) in
        let few : n < 57 = omega (arith, fits, small_context (header_in (object_of from (closure_method from closure)))) in
        enters closure n refl refl few (h few)
    go false e = stops _ refl

evaluate_unwinds : (k : Kept) (wanted args : ℕ) → Comes k k (evaluate_prim k wanted args)
unfolding evaluate_prim
evaluate_unwinds k wanted args =
    if_unwinds k k (wanted == args) _ _ (if_unwinds k k (can_evaluate k (receiver k wanted) wanted) _ _ (block_unwinds k k (receiver k wanted) wanted (λ few. sends_itself k)) (failing k k)) (failing k k)

array_unwinds : (k : Kept) (args : ℕ) → Comes k (entered_from k 206) (evaluate_array_prim k args)
unfolding evaluate_array_prim
array_unwinds k args = go (elements_fitting k 1 (argument k 1 0))
  where
    go : (o : Option (List Ref))
        → Comes k (given o k (λ values. spread_of k 1 values))
        (if 1 == args then given o (fail k) (λ values. if can_evaluate k (receiver k 1) (length values) then enter_block_out (spread_of k 1 values) (receiver k 1) (length values) else fail k) else fail k)
    go None = if_unwinds k k (1 == args) _ _ (failing k k) (failing k k)
    go (Some values) =
        let from = spread_of k 1 values in
        if_unwinds k from (1 == args) _ _ (if_unwinds k from (can_evaluate k (receiver k 1) (length values)) _ _ (block_unwinds k from (receiver k 1) (length values) (spread_sends k values)) (failing k from)) (failing k from)

mark_unwinds : (k : Kept) (args : ℕ) (m : Marked) → Comes k k (answer_mark k args m)
mark_unwinds k args (MarkAt i) = looking k k (answer k args (ref.Obj i)) (answering k args (ref.Obj i))
mark_unwinds k args NoMark = answering k args (nil_of k)
mark_unwinds k args MarkTooFar = stops _ refl

unwind_mark_unwinds : (k : Kept) (args : ℕ) → Comes k k (unwind_mark_prim k args)
unfolding unwind_mark_prim
unwind_mark_unwinds k args =
    if_unwinds k k (1 == args) _ _ (given_unwinds k k (context_birth k (receiver k 1)) _ _ (failing k k) (λ i. if_unwinds k k (is_end k (argument k 1 0)) _ _ (mark_unwinds k 1 _) (failing k k))) (failing k k)

handler_mark_unwinds : (k : Kept) (args : ℕ) → Comes k k (handler_mark_prim k args)
unfolding handler_mark_prim
handler_mark_unwinds k args =
    if_unwinds k k (0 == args) _ _
    (given_unwinds k k (context_birth k (receiver k 0)) _ _ (failing k k) (λ i. if_unwinds k k (is_marked k handler_mark i) _ _ (looking k k (answer k 0 (ref.Obj i)) (answering k 0 (ref.Obj i))) (mark_unwinds k 0 _))) (failing k k)

-- ---- by their numbers

-- it changes nothing of the run
pub record UnwindsBy (s : State) (args number : ℕ) : Type 0 where
  pub is : prim number args s ≡ result (kept_prim number args s.kept) s.run
  pub comes : Comes s.kept (entered_from s.kept number) (kept_prim number args s.kept)

abbrev numbers : List ℕ
numbers = 195 ∷ 197 ∷ 198 ∷ 199 ∷ 201 ∷ 202 ∷ 203 ∷ 204 ∷ 205 ∷ 206 ∷ 221 ∷ 222 ∷ []

by_numbers : (s : State) (args : ℕ) → AllByRecursion (UnwindsBy s args) numbers
unfolding prim kept_prim
by_numbers s args = (
  record { is = refl; comes = unwind_mark_unwinds s.kept args },
  (
    record { is = refl; comes = handler_mark_unwinds s.kept args },
    (
      record { is = refl; comes = failing s.kept s.kept },
      (
        record { is = refl; comes = failing s.kept s.kept },
        (
          record { is = refl; comes = evaluate_unwinds s.kept 0 args },
          (
            record { is = refl; comes = evaluate_unwinds s.kept 1 args },
            (
              record { is = refl; comes = evaluate_unwinds s.kept 2 args },
              (
                record { is = refl; comes = evaluate_unwinds s.kept 3 args },
                (
                  record { is = refl; comes = evaluate_unwinds s.kept 4 args },
                  (record { is = refl; comes = array_unwinds s.kept args }, (record { is = refl; comes = evaluate_unwinds s.kept 0 args }, (record { is = refl; comes = evaluate_unwinds s.kept 1 args }, tt))),
                ),
              ),
            ),
          ),
        ),
      ),
    ),
  ),
)

among_numbers : (number : ℕ) → unwinds number ≡ true → is_on number numbers ≡ true
among_numbers number h = grind (arith, nat_tests, h)

unwinds_by : (s : State) (number args : ℕ) → unwinds number ≡ true → UnwindsBy s args number
unwinds_by s number args h = all_on (UnwindsBy s args) numbers (by_numbers s args) number (among_numbers number h)

pub unwind_leaves : (s : State) (args number : ℕ) → unwinds number ≡ true → (primitive_in (prim number args s).out.end ≡ None) × ((prim number args s).run ≡ s.run)
unwind_leaves s args number h =
    let u = unwinds_by s number args h in
    (ap (λ (r : Result). primitive_in r.out.end) u.is ∙ no_primitive u.comes, ap (λ (r : Result). r.run) u.is)

-- ---- what trying one comes to

built_unwinds : (k : Kept) (number args : ℕ) → unwinds number ≡ true → is_built_number k args (Some number) ≡ true
built_unwinds k number args h =
    all_on (λ n. is_built_number k args (Some n) ≡ true) numbers (refl, (refl, (refl, (refl, (refl, (refl, (refl, (refl, (refl, (refl, (refl, (refl, tt)))))))))))) number (among_numbers number h)

module _ (k : Kept) (x : Ref) (number args : ℕ) (count : arguments_of k x ≡ args) (unwinding : unwinds number ≡ true) where
  -- what the model makes of it, and the state from which it enters a block
  abbrev pub made : Out
  made = kept_prim number args k

  abbrev pub from : Kept
  from = entered_from k number

  by : (r : Run) → prim number args (with_kept k r) ≡ result made r
  by r = (unwinds_by (with_kept k r) number args unwinding).is

  comes : Comes k from made
  comes = (unwinds_by (state_at k [] 0) number args unwinding).comes

  is_built : is_built_number k (arguments_of k x) (Some number) ≡ true
  is_built = built_unwinds k number (arguments_of k x) unwinding

  pub unwind_over : (v : Kept) (l n : Option Layout) (told : Option (List ℕ)) (old s : Store) (e : StepEnd) (r : PrimEnd) → IsRunning k → (r ≡ prims.Answer) ⊎ (r ≡ prims.Entered) → PrimGives old s l k from v r made → PrimLaid from r l n → EndsBy v e
      → TurnGives (trying k x number) k l told told s v n e
  unwind_over = trying_over k from x number args made count is_built by comes

  pub unwind_fails : made.end ≡ ends.Fail → Fails k x number
  unwind_fails = trying_fails k from x number args made count is_built by comes

  pub unwind_stops : (v : Kept) (l n : Option Layout) (told : Option (List ℕ)) (s : Store) (reason : Reason) → made.end ≡ ends.Stopped reason → TurnGives (trying k x number) k l told told s v n (Stop reason)
  unwind_stops = trying_stops k from x number args made count is_built by comes

  pub unwind_full : (v : Kept) (l n : Option Layout) (told : Option (List ℕ)) (old s : Store) (why : Why) → IsRunning k → PrimGives old s l k from v (prims.Full why) made → TurnGives (trying k x number) k l told told s v n (Full why)
  unwind_full = trying_full k from x number args made count is_built by comes
