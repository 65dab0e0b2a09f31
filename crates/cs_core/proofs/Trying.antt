-- What the built primitives come to.
use Rattle.std.proofs.Common.{◌≡◌, ℕ, Bool, true, false, refl, sym, ap, subst, ◌∙◌, arith, Option, Some, None, List, [], ◌++◌}
use Rattle.std.specs.Prelude.{◌==◌}
use Rattle.std.proofs.lemmas.Bool.Decides.{nat_tests}
use Rattle.std.proofs.lemmas.List.{append-nil}
use Rattle.cs_shelf.specs.Outside.{Appends, AppendsPart}
use Rattle.cs_model.specs.declared.stop.Stop.{Stop as Reason}
use Rattle.cs_model.specs.Ref.{Ref}
use Rattle.cs_model.specs.State.{Kept, Run, State}
use Rattle.cs_model.specs.Keeps.{Keeps}
use Rattle.cs_model.specs.Read.{IsRunning}
use Rattle.cs_model.specs.Operation.{drop_of, push_of}
use Rattle.cs_model.specs.End as ends
use Rattle.cs_model.specs.PrimAnswer.{answer, argument, receiver}
use Rattle.cs_model.specs.PrimRun.{Result, bytes_to_write, fails, result, write_prim}
use Rattle.cs_model.specs.PrimTable.{is_listed, prim}
use Rattle.cs_model.proofs.Listing.{unlisted_built, unlisted_fails}
use Rattle.cs_model.specs.Send.{enter_out}
use Rattle.cs_model.specs.Step.{arguments_of, tried, try_primitive, with_kept}
use Rattle.cs_model.specs.Built.{is_built_number}
use Rattle.cs_acts.specs.declared.act.Full.{Full as Why}
use Rattle.cs_acts.specs.Layout.{Layout}
use Rattle.cs_acts.specs.Names.{Store}
use Rattle.cs_acts.specs.Ready.{IsReady}
use Rattle.cs_send.specs.Sent.{Enters, RefusesSend}
use Rattle.cs_core.specs.Stepped.{CausedByFault, DoneIn, EndsBy, Fails, IsOver, Lays, lost, TurnGives, run_at, state_at, trying}
use Rattle.cs_core.specs.declared.step.StepEnd.{StepEnd}
use Rattle.cs_core.specs.declared.step.StepEnd.TheVariants.{Active, Idle, Stopped as Stop, Full, WriteFault}
use Rattle.cs_core.proofs.Laying.{refused}
use Rattle.cs_core.proofs.Stacking.{few_arguments, method_lays}
use Rattle.cs_core.proofs.Turning.{ends_by, ends_quietly, shape_kept}

-- ---- what trying comes to

-- it answers
tried_answer : (s : State) (x : Ref) (p : Result) → p.out.end ≡ ends.Answer → tried s x p ≡ p
tried_answer s x p h = rw h

-- it fails, and its method is entered
tried_fail : (s : State) (x : Ref) (p : Result) → p.out.end ≡ ends.Fail → tried s x p ≡ result (enter_out s.kept x (arguments_of s.kept x) true) s.run
tried_fail s x p h = rw h

pub answered : (k : Kept) (x : Ref) (number args : ℕ) (output : List ℕ) (steps : ℕ) → arguments_of k x ≡ args → (prim number args (state_at k output steps)).out.end ≡ ends.Answer
    → try_primitive (state_at k output steps) x number ≡ prim number args (state_at k output steps)
unfolding try_primitive
answered k x number args output steps count h =
    ap (λ n. tried (state_at k output steps) x (prim number n (state_at k output steps))) count ∙ tried_answer (state_at k output steps) x (prim number args (state_at k output steps)) h

failed : (k : Kept) (x : Ref) (number args : ℕ) (output : List ℕ) (steps : ℕ) → arguments_of k x ≡ args → (prim number (arguments_of k x) (state_at k output steps)).out.end ≡ ends.Fail
    → try_primitive (state_at k output steps) x number ≡ result (enter_out k x args true) (run_at output steps)
unfolding try_primitive
failed k x number args output steps count h =
    tried_fail (state_at k output steps) x (prim number (arguments_of k x) (state_at k output steps)) h ∙ ap (λ n. result (enter_out k x n true) (run_at output steps)) count

-- ---- the method is entered

pub enters_behind : (k v : Kept) (x : Ref) (args number : ℕ) (l n : Option Layout) (told : Option (List ℕ)) (old s : Store) (e : StepEnd) → IsRunning k → arguments_of k x ≡ args → Fails k x number → Enters old s l n k v (enter_out k x args true) → EndsBy v e
    → TurnGives (trying k x number) k l told told s v n e
enters_behind k v x args number l n told old s e running count f h by =
    ends_quietly (trying k x number) k v l n told s e done h.ready (method_lays k v x args true h.state running h.ready.running (few_arguments k x args count) l n s h.laid) by
  where
    done : DoneIn (trying k x number) v []
    done output steps =
        let is = failed k x number args output steps count (f.end (run_at output steps)) in
        record {
          built = f.built;
          over = subst (λ (p : Result). IsOver p.out.end) (sym is) (subst IsOver (sym h.end) tt);
          state = subst (λ (p : Result). Keeps v p.out.state) (sym is) h.state;
          run = ap (λ (p : Result). p.run) is ∙ ap (λ o. run_at o steps) (sym (append-nil output));
        }

pub full_behind : (k v : Kept) (x : Ref) (args number : ℕ) (l n : Option Layout) (told : Option (List ℕ)) (s : Store) (why : Why) → arguments_of k x ≡ args → Fails k x number → RefusesSend s l k (enter_out k x args true) why
    → TurnGives (trying k x number) k l told told s v n (Full why)
full_behind k v x args number l n told s why count f h =
    (refl, λ output steps. refused s l k (trying k x number output steps) (enter_out k x args true) why f.built (ap (λ (p : Result). p.out) (failed k x number args output steps count (f.end (run_at output steps)))) (omega arith) h)

-- ---- output

other_count : (n : ℕ) → (n ≡ 1 → ⊥) → (1 == n) ≡ false
other_count n h = go (1 == n) refl
  where
    go : (b : Bool) → (1 == n) ≡ b → (1 == n) ≡ false
    go true p = absurd (h (grind (arith, nat_tests, p)))
    go false p = p

-- a primitive of one argument that answers
answers_prim : (number : ℕ) (k v : Kept) (method x : Ref) (bytes : List ℕ) → arguments_of k method ≡ 1 → is_built_number k (arguments_of k method) (Some number) ≡ true
    → ((output : List ℕ) (steps : ℕ) → prim number 1 (state_at k output steps) ≡ result (answer k 1 x) (run_at (output ++ bytes) steps))
    → Keeps v (push_of (drop_of k 2) x) → DoneIn (trying k method number) v bytes
unfolding answer
answers_prim number k v method x bytes count built is keeps output steps =
    let e = is output steps in
    let all : try_primitive (state_at k output steps) method number ≡ result (answer k 1 x) (run_at (output ++ bytes) steps) = answered k method number 1 output steps count (ap (λ (p : Result). p.out.end) e) ∙ e in
    record {
      built = built;
      over = subst (λ (p : Result). IsOver p.out.end) (sym all) tt;
      state = subst (λ (p : Result). Keeps v p.out.state) (sym all) keeps;
      run = ap (λ (p : Result). p.run) all;
    }

prim_write : (k : Kept) (x y : Ref) (bytes output : List ℕ) (steps : ℕ) → receiver k 1 ≡ x → argument k 1 0 ≡ y → bytes_to_write k y ≡ Some bytes
    → prim 900 1 (state_at k output steps) ≡ result (answer k 1 x) (run_at (output ++ bytes) steps)
unfolding prim write_prim
prim_write k x y bytes output steps p q h =
    let is : bytes_to_write k (argument k 1 0) ≡ Some bytes = ap (bytes_to_write k) q ∙ h in
    let first : prim 900 1 (state_at k output steps) ≡ result (answer k 1 (receiver k 1)) (run_at (output ++ bytes) steps) = rw is in
    first ∙ ap (λ z. result (answer k 1 z) (run_at (output ++ bytes) steps)) p

prim_no_write : (k : Kept) (y : Ref) (r : Run) → argument k 1 0 ≡ y → bytes_to_write k y ≡ None → prim 900 1 (with_kept k r) ≡ fails (with_kept k r)
unfolding prim write_prim
prim_no_write k y r q h =
    let is : bytes_to_write k (argument k 1 0) ≡ None = ap (bytes_to_write k) q ∙ h in
    rw is

write_else : (k : Kept) (r : Run) (args : ℕ) → (1 == args) ≡ false → (prim 900 args (with_kept k r)).out.end ≡ ends.Fail
unfolding prim write_prim
write_else k r args other = rw other

pub write_fails_else : (k : Kept) (x : Ref) (args : ℕ) → arguments_of k x ≡ args → (args ≡ 1 → ⊥) → Fails k x 900
write_fails_else k x args count other = record { built = refl; end = λ r. ap (λ n. (prim 900 n (with_kept k r)).out.end) count ∙ write_else k r args (other_count args other) }

pub no_write_fails : (k : Kept) (x : Ref) (args : ℕ) (y : Ref) → arguments_of k x ≡ args → args ≡ 1 → argument k 1 0 ≡ y → bytes_to_write k y ≡ None → Fails k x 900
no_write_fails k x args y count one q h =
    record { built = refl; end = λ r. ap (λ n. (prim 900 n (with_kept k r)).out.end) (count ∙ one) ∙ ap (λ (p : Result). p.out.end) (prim_no_write k y r q h) }

pub write_answers : (k : Kept) (method : Ref) (args : ℕ) (x y : Ref) (bytes : List ℕ) (v : Kept) → arguments_of k method ≡ args → args ≡ 1 → receiver k 1 ≡ x → argument k 1 0 ≡ y → bytes_to_write k y ≡ Some bytes
    → Keeps v (push_of (drop_of k 2) x) → DoneIn (trying k method 900) v bytes
write_answers k method args x y bytes v count one p q h keeps = answers_prim 900 k v method x bytes (count ∙ one) refl (λ output steps. prim_write k x y bytes output steps p q h) keeps

module _ (k v : Kept) (method : Ref) (l n : Option Layout) (bytes : List ℕ) (old : Option (List ℕ)) (s : Store) (a : DoneIn (trying k method 900) v bytes) where
  -- it is written, or a first part of it is
  pub write_gives : (new : Option (List ℕ)) (e : StepEnd) → IsReady s v → Lays k l s v n → EndsBy v e → ((reason : Reason) → e ≡ Stop reason → ⊥) → Appends old new bytes → TurnGives (trying k method 900) k l old new s v n e
  write_gives new e ready frames by goes told = ends_by (trying k method 900) k v l n bytes old new s e a ready frames told (λ reason is. absurd (goes reason is)) by

  pub write_fails : (new : Option (List ℕ)) (e : StepEnd) → EndsBy v e → ((reason : Reason) → e ≡ Stop reason → ⊥) → AppendsPart old new bytes → TurnGives (trying k method 900) k l old new s v n WriteFault
  write_fails new (Active process) by goes told = (bytes, told, a, by.0)
  write_fails new Idle by goes told = (bytes, told, a, by.0)
  write_fails new (Stop reason) by goes told = absurd (goes reason refl)
  write_fails new (Full why) by goes told = absurd by
  write_fails new WriteFault by goes told = absurd by

  -- where the step stops at its end, nothing is written
  pub write_lost : (reason : Reason) → EndsBy v (Stop reason) → TurnGives (trying k method 900) k l old old s v n (Stop reason)
  write_lost reason by = (
    refl,
    λ output steps.
        let t = a output steps in
        lost t.built t.over (shape_kept v (trying k method 900 output steps).result.out.state t.state ∙ by),
  )

-- a step that ends by the scheduler needs no fault
pub no_cause : (v : Kept) (e : StepEnd) (old new : ℕ) → EndsBy v e → CausedByFault old new e
no_cause v (Active process) old new by = tt
no_cause v Idle old new by = tt
no_cause v (Stop reason) old new by = tt
no_cause v (Full why) old new by = absurd by
no_cause v WriteFault old new by = absurd by

-- ---- a number that isn't listed

pub unlisted_number_fails : (k : Kept) (x : Ref) (number args : ℕ) → arguments_of k x ≡ args → is_listed number ≡ false → Fails k x number
unlisted_number_fails k x number args count h = record {
  built = unlisted_built number (arguments_of k x) k h;
  end = λ r. ap (λ (p : Result). p.out.end) (unlisted_fails number (arguments_of k x) (with_kept k r) h);
}
