-- From what the instruction did to the whole step.
use Rattle.std.proofs.Common.{◌≡◌, ℕ, ◌+◌, ◌<◌, ◌≤◌, ◌&&◌, not, Bool, true, false, sym, ap, ap₂, subst, ◌∙◌, arith, Option, Some, List, is_some}
use Rattle.std.proofs.lemmas.Bool.{false≢true}
use Rattle.cs_model.specs.declared.stop.Stop.{Stop as Reason}
use Rattle.cs_model.specs.declared.stop.Stop.TheVariants as why
use Rattle.cs_model.specs.declared.instruction.Instr.{Instr}
use Rattle.cs_model.specs.Ref.{Ref}
use Rattle.cs_model.specs.State.{IsHeld, Kept, Rest}
use Rattle.cs_model.specs.Obj.{Ctx, context_in, with_pc}
use Rattle.cs_model.specs.Keeps.{Keeps}
use Rattle.cs_model.specs.Read.{IsRunning, active_birth, active_context, pc_of}
use Rattle.cs_model.specs.Operation.{set_pc_of}
use Rattle.cs_model.proofs.Objects.{rest-put}
use Rattle.cs_model.specs.Built.{is_built_op}
use Rattle.cs_model.specs.End as ends
use Rattle.cs_model.specs.End.{End}
use Rattle.cs_model.specs.Step.{Message, instruction_at}
use Rattle.cs_model.proofs.Stepping.{MessageHeld}
use Rattle.cs_acts.specs.declared.act.Full.{Full as Why}
use Rattle.cs_acts.specs.Layout.{Layout}
use Rattle.cs_acts.specs.Names.{Store}
use Rattle.cs_acts.specs.Ready.{IsReady}
use Rattle.cs_core.specs.Stepped.{EndsBy, StepGives, TurnGives, WhereStopped, can_begin, least_of_return, returning, sending}
use Rattle.cs_core.specs.declared.step.StepEnd.{StepEnd}
use Rattle.cs_core.specs.declared.step.StepEnd.TheVariants.{Active, Idle, Stopped as Stop, Full, WriteFault}
use Rattle.cs_core.proofs.Asking.{behind_return, behind_send}
use Rattle.cs_core.proofs.Beginning.{Executed, Refused, births_left, did, did_not}
use Rattle.cs_core.proofs.Carrying.{carried, done_turn, full_turn, returns_same, sends_same, stop_turn, unbuilt_turn}
use Rattle.cs_core.proofs.Laying.{fills_by_words}
use Rattle.cs_core.proofs.Settling.{IsFree, Runs, Stays, exec_settles, free_on, runs_on, set_pc_stays, stays_on}
use Rattle.cs_core.proofs.Stacking.{settled_stacked, stays_lays}
use Rattle.cs_core.proofs.Turning.{Begins, effect, model_turn, past, turn_gives}

reason_in : Reason → End → Reason
reason_in other (ends.Stopped reason) = reason
reason_in other ends.Done = other
reason_in other (ends.Send selector args above) = other
reason_in other (ends.Return value local) = other
reason_in other ends.Entered = other
reason_in other (ends.Primitive method number) = other
reason_in other (ends.Call special args) = other
reason_in other ends.Answer = other
reason_in other ends.Fail = other
reason_in other ends.Quit = other
reason_in other ends.Snapshot = other

same_reason : (a b : Reason) → ends.Stopped a ≡ ends.Stopped b → a ≡ b
unfolding reason_in
same_reason a b e = ap (reason_in a) e

-- ---- a step that has begun

pub begun : (k : Kept) (n : ℕ) (i : Instr) (e : StepEnd) (P : Type 0) → n ≡ k.rest.next → n ≤ 4611686018427387840 → instruction_at k ≡ Some i → WhereStopped e (can_begin k ≡ false → P)
begun k n i e P is few instruction = at e
  where
    can : can_begin k ≡ true
    can = ap₂ (λ (b : Bool) (o : Option Instr). not b && is_some o) (births_left k n is few) instruction

    at : (e : StepEnd) → WhereStopped e (can_begin k ≡ false → P)
    at (Active process) = tt
    at Idle = tt
    at (Stop reason) = λ no. absurd (false≢true (sym no ∙ can))
    at (Full why) = tt
    at WriteFault = tt

past_rest : (k : Kept) (i : Instr) → (past k i).rest ≡ k.rest
unfolding set_pc_of
past_rest k i = rest-put k (active_birth k) (Ctx (with_pc (Some (pc_of k + i.len)) (active_context k)))

-- the instruction leaves senders and other stacks as they are
effect_stays : (k : Kept) (i : Instr) → IsRunning k → IsFree k → is_built_op i.op (past k i) ≡ true → Stays k (effect k i).state
effect_stays k i running free op =
    let runs : Runs k = ap context_in running.found in
    let moved : Stays k (past k i) = set_pc_stays k (pc_of k + i.len) runs in
    let same : (past k i).rest.next ≡ k.rest.next = ap (λ (r : Rest). r.next) (past_rest k i) in
    stays_on k (past k i) (effect k i).state moved ((exec_settles i.op (past k i) op (free_on k (past k i) moved same free)).stays (runs_on k (past k i) moved runs))

module _ (k : Kept) (i : Instr) (l n : Option Layout) (s : Store) (v : Kept) (h : Begins k i) where
  pub done_gives : (told : Option (List ℕ)) (e : StepEnd) → IsRunning k → IsFree k → Executed k i v ends.Done → IsReady s v → n ≡ l → EndsBy v e → StepGives k l told told s v n e
  done_gives told e running free (did op end keeps) ready same by =
      turn_gives k i l n told told s v e h (done_turn k i l n told s v e op end keeps ready (stays_lays k (effect k i).state v (effect_stays k i running free op) keeps ready.running l n same s) by)
  done_gives told e running free (did_not op is) ready same by = absurd (cc)

  pub full_gives : (told : Option (List ℕ)) (why : Why) → Refused s l k i why → StepGives k l told told s v n (Full why)
  full_gives told why r = turn_gives k i l n told told s v (Full why) h (full_turn k i l n told s v why r.op r.made r.heap r.cause)

  pub stop_gives : (told : Option (List ℕ)) (reason : Reason) → Executed k i v (ends.Stopped reason) → StepGives k l told told s v n (Stop reason)
  stop_gives told reason (did op end keeps) = turn_gives k i l n told told s v (Stop reason) h (stop_turn k i l n told s v reason op end)
  stop_gives told reason (did_not op is) =
      subst (λ r. StepGives k l told told s v n (Stop r)) (sym (same_reason reason why.NotBuilt is)) (turn_gives k i l n told told s v (Stop why.NotBuilt) h (unbuilt_turn k i l n told s v op))

  pub send_gives : (u : Kept) (m : Message) (b : Option Layout) (old new : Option (List ℕ)) (e : StepEnd) → IsRunning k → IsFree k → IsRunning u → Executed k i u (ends.Send m.selector m.args m.above) → MessageHeld u m → b ≡ l
      → TurnGives (sending u m) u b old new s v n e → StepGives k l old new s v n e
  send_gives u m b old new e running free on (did op end keeps) held same gives =
      turn_gives k i l n old new s v e h
      (carried (sending u m) (model_turn k i) u k l n old new s v e (sends_same k i u m op end keeps held) (λ output steps. (behind_send k u i m.selector m.args m.above running op end keeps).fills)
      (settled_stacked k (effect k i).state u l (effect_stays k i running free op) keeps on)
      (subst (λ b. TurnGives (sending u m) u b old new s v n e) same gives))
  send_gives u m b old new e running free on (did_not op is) held same gives = absurd (cc)

  pub return_gives : (u : Kept) (x : Ref) (local : Bool) (b : Option Layout) (old new : Option (List ℕ)) (e : StepEnd) → IsRunning k → IsFree k → IsRunning u → Executed k i u (ends.Return x local) → IsHeld u x → b ≡ l
      → TurnGives (returning u x local) u b old new s v n e → StepGives k l old new s v n e
  return_gives u x local b old new e running free on (did op end keeps) held same gives =
      turn_gives k i l n old new s v e h
      (carried (returning u x local) (model_turn k i) u k l n old new s v e (returns_same k i u x local op end keeps held) (λ output steps. fills_by_words u k least_of_return least_of_return (behind_return k u i x local running op end keeps).words (omega arith))
      (settled_stacked k (effect k i).state u l (effect_stays k i running free op) keeps on)
      (subst (λ b. TurnGives (returning u x local) u b old new s v n e) same gives))
  return_gives u x local b old new e running free on (did_not op is) held same gives = absurd (cc)

-- neither a send nor a return changes the next birth
pub births_few : (s : Store) (k u : Kept) (i : Instr) (n : ℕ) (selector : Ref) (args : ℕ) (above : Option Ref) → IsReady s k → n ≡ k.rest.next → n ≤ 4611686018427387840 → Executed k i u (ends.Send selector args above) → u.rest.next ≤ 4611686018427387840
births_few s k u i n selector args above ready is few (did op end keeps) =
    let same : u.rest.next ≡ n = (behind_send k u i selector args above ready.running op end keeps).next ∙ sym is in
    omega (arith, same, few)
births_few s k u i n selector args above ready is few (did_not op end) = absurd (cc)

pub births_back : (s : Store) (k u : Kept) (i : Instr) (n : ℕ) (x : Ref) (local : Bool) → IsReady s k → n ≡ k.rest.next → n ≤ 4611686018427387840 → Executed k i u (ends.Return x local) → u.rest.next ≤ 4611686018427387840
births_back s k u i n x local ready is few (did op end keeps) =
    let same : u.rest.next ≡ n = (behind_return k u i x local ready.running op end keeps).next ∙ sym is in
    omega (arith, same, few)
births_back s k u i n x local ready is few (did_not op end) = absurd (cc)

-- and there is one left for what an instruction makes
pub births_past : (k u : Kept) (n pc : ℕ) → ((m : Kept) → Keeps k m → Keeps u (set_pc_of m pc)) → Keeps k k → n ≡ k.rest.next → n ≤ 4611686018427387840 → u.rest.next < 4611686018427387904
unfolding set_pc_of
births_past k u n pc moved closed is few =
    let same : u.rest.next ≡ k.rest.next = ap (λ (r : Rest). r.next) (moved k closed).rest ∙ ap (λ (r : Rest). r.next) (rest-put k (active_birth k) (Ctx (with_pc (Some pc) (active_context k)))) in
    omega (arith, same, is, few)
