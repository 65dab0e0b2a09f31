-- What trying a primitive comes to that answers, enters a block, fails or stops, and changes nothing of the run.
use Rattle.std.proofs.Common.{◌≡◌, ◌⊎◌, inl, inr, ℕ, ◌<◌, true, false, refl, sym, ap, subst, ◌∙◌, arith, Option, Some, None, List, []}
use Rattle.std.specs.Prelude.{if◌then◌else◌}
use Rattle.std.proofs.lemmas.List.{append-nil}
use Rattle.cs_model.specs.declared.stop.Stop.{Stop as Reason}
use Rattle.cs_model.specs.Ref.{Ref}
use Rattle.cs_model.specs.Obj.{Ctx, context_in}
use Rattle.cs_model.specs.State.{Kept, Run, State, object_at}
use Rattle.cs_model.specs.Keeps.{Keeps}
use Rattle.cs_model.specs.Read.{IsRunning, active_birth, active_context}
use Rattle.cs_model.specs.Operation.{drop_of, enter_with, push_of}
use Rattle.cs_model.specs.Enter.{block_context, enter_block_of}
use Rattle.cs_model.specs.Send.{enter_out}
use Rattle.cs_model.specs.End as ends
use Rattle.cs_model.specs.End.{End, Out, given}
use Rattle.cs_model.specs.PrimRun.{Result, result}
use Rattle.cs_model.specs.PrimTable.{prim}
use Rattle.cs_model.specs.Step.{arguments_of, result_counting, is_fail, or_enter, primitive_in, tried, try_performed, try_primitive, with_kept}
use Rattle.cs_model.specs.Built.{is_built_number}
use Rattle.cs_acts.specs.declared.act.Full.{Full as Why}
use Rattle.cs_acts.specs.declared.act.Full.TheVariants.{Heap, Stack}
use Rattle.cs_acts.specs.declared.prim.PrimEnd.{PrimEnd}
use Rattle.cs_acts.specs.declared.prim.PrimEnd.TheVariants as prims
use Rattle.cs_acts.specs.Layout.{LaidBy, Layout, entered}
use Rattle.cs_acts.specs.Names.{Store}
use Rattle.cs_acts.specs.Primed.{EndsWithout as PrimWithout, IsSuccess, PrimGives, PrimLaid}
use Rattle.cs_core.specs.Stepped.{DoneIn, EndsBy, OverWithout, Fails, IsOver, Lays, TurnGives, run_at, state_at, stopped, trying}
use Rattle.cs_core.specs.declared.step.StepEnd.{StepEnd}
use Rattle.cs_core.specs.declared.step.StepEnd.TheVariants.{Stopped as Stop, Full}
use Rattle.cs_core.proofs.Laying.{FillsToo, fills_by_words, overfills_whole}
use Rattle.cs_core.proofs.Settling.{Stays, answer_stays, stays_itself}
use Rattle.cs_core.proofs.Stacking.{entered_lays, lays_before, stays_lays, stays_stacked}
use Rattle.cs_core.proofs.Turning.{ends_quietly}

-- ---- the state from which a block is entered

-- its active context may send another one, its stacks are those of k but the active one, and its pages have at most 56 words more
pub record Sends (k from : Kept) : Type 0 where
  pub known : from.rest.active ≡ Some (active_birth from)
  pub found : object_at from (active_birth from) ≡ Some (Ctx (active_context from))
  pub stays : Stays k from
  pub fills : FillsToo from 4030 k 3974

pub sends_itself : (k : Kept) → IsRunning k → Sends k k
sends_itself k running = record { known = running.known; found = running.found; stays = stays_itself k; fills = fills_by_words k k 4030 3974 (λ page. omega arith) (omega arith) }

-- ---- what a primitive comes to

pub data Comes (k from : Kept) (o : Out) : Type 0 where
  answers : (n : ℕ) (x : Ref) → o.end ≡ ends.Answer → o.state ≡ push_of (drop_of k n) x → from ≡ k → Comes k from o
  enters : (closure : Ref) (n : ℕ) → o.end ≡ ends.Entered → o.state ≡ enter_block_of from closure n → n < 57 → (IsRunning k → Sends k from) → Comes k from o
  fails : o.end ≡ ends.Fail → Comes k from o
  stops : (reason : Reason) → o.end ≡ ends.Stopped reason → Comes k from o

block_entered : (k : Kept) (closure : Ref) (n : ℕ) → enter_block_of k closure n ≡ enter_with k n (block_context k closure n)
unfolding enter_block_of
block_entered k closure n = refl

pub no_primitive : {k from : Kept} {o : Out} → Comes k from o → primitive_in o.end ≡ None
no_primitive (answers n x e s is) = ap primitive_in e
no_primitive (enters closure n e s few h) = ap primitive_in e
no_primitive (fails e) = ap primitive_in e
no_primitive (stops reason e) = ap primitive_in e

-- ---- what trying it comes to

tried_itself : (s : State) (x : Ref) (p : Result) → primitive_in p.out.end ≡ None → is_fail p.out.end ≡ false → tried s x p ≡ p
tried_itself s x p none goes =
    ap (λ o. given o (or_enter s x p) (λ q. result_counting p.out.count (try_performed (with_kept p.out.state p.run) q.0 q.1))) none
    ∙ ap (λ b. if b then result (enter_out s.kept x (arguments_of s.kept x) true) s.run else p) goes

-- A built primitive that comes to this, and changes nothing of the run.
module _ (k from : Kept) (x : Ref) (number args : ℕ) (made : Out) (count : arguments_of k x ≡ args) (is_built : is_built_number k (arguments_of k x) (Some number) ≡ true)
    (by : (r : Run) → prim number args (with_kept k r) ≡ result made r) (comes : Comes k from made) where
  -- unless it fails, trying comes to that
  tries : (end : End) → made.end ≡ end → primitive_in end ≡ None → is_fail end ≡ false → (output : List ℕ) (steps : ℕ) → try_primitive (state_at k output steps) x number ≡ result made (run_at output steps)
  unfolding try_primitive
  tries end is none goes output steps =
      let same : prim number (arguments_of k x) (state_at k output steps) ≡ result made (run_at output steps) = ap (λ n. prim number n (state_at k output steps)) count ∙ by (run_at output steps) in
      ap (tried (state_at k output steps) x) same ∙ tried_itself (state_at k output steps) x (result made (run_at output steps)) (ap primitive_in is ∙ none) (ap is_fail is ∙ goes)

  succeeds : IsSuccess made.end → (output : List ℕ) (steps : ℕ) → try_primitive (state_at k output steps) x number ≡ result made (run_at output steps)
  succeeds (inl e) = tries ends.Answer e refl refl
  succeeds (inr e) = tries ends.Entered e refl refl

  over : IsSuccess made.end → IsOver made.end
  over (inl e) = subst IsOver (sym e) tt
  over (inr e) = subst IsOver (sym e) tt

  done : (v : Kept) → IsSuccess made.end → Keeps v made.state → DoneIn (trying k x number) v []
  done v end keeps output steps =
      let is = succeeds end output steps in
      record {
        built = is_built;
        over = subst (λ (p : Result). IsOver p.out.end) (sym is) (over end);
        state = subst (λ (p : Result). Keeps v p.out.state) (sym is) keeps;
        run = ap (λ (p : Result). p.run) is ∙ ap (λ o. run_at o steps) (sym (append-nil output));
      }

  -- where it answers, and where it enters a block
  answer_lays : (v : Kept) (l n : Option Layout) (s : Store) → IsRunning k → IsRunning v → made.end ≡ ends.Answer → Keeps v made.state → n ≡ l → Lays k l s v n
  answer_lays v l n s running ready end keeps still = stays_lays k made.state v (go comes) keeps ready l n still s
    where
      go : Comes k from made → Stays k made.state
      go (answers n y e s is) = subst (Stays k) (sym s) (answer_stays k n y (ap context_in running.found))
      go (enters closure n e s few h) = absurd (let no : ends.Answer ≡ ends.Entered = sym end ∙ e in cc)
      go (fails e) = absurd (let no : ends.Answer ≡ ends.Fail = sym end ∙ e in cc)
      go (stops reason e) = absurd (let no : ends.Answer ≡ ends.Stopped reason = sym end ∙ e in cc)

  enter_lays : (v : Kept) (l n : Option Layout) (s : Store) → IsRunning k → IsRunning v → made.end ≡ ends.Entered → Keeps v made.state → LaidBy (entered from from.rest.next) l n → Lays k l s v n
  enter_lays v l n s running ready end keeps laid = go comes
    where
      go : Comes k from made → Lays k l s v n
      go (answers n y e s is) = absurd (let no : ends.Entered ≡ ends.Answer = sym end ∙ e in cc)
      go (enters closure m e is few h) =
          let sends = h running in
          lays_before from k v l n s (stays_stacked k from l sends.stays running)
          (entered_lays from v m (block_context from closure m) (subst (Keeps v) (is ∙ block_entered from closure m) keeps) sends.known sends.found refl ready few l n s laid)
      go (fails e) = absurd (let no : ends.Entered ≡ ends.Fail = sym end ∙ e in cc)
      go (stops reason e) = absurd (let no : ends.Entered ≡ ends.Stopped reason = sym end ∙ e in cc)

  pub trying_over : (v : Kept) (l n : Option Layout) (told : Option (List ℕ)) (old s : Store) (e : StepEnd) (r : PrimEnd) → IsRunning k → (r ≡ prims.Answer) ⊎ (r ≡ prims.Entered) → PrimGives old s l k from v r made → PrimLaid from r l n → EndsBy v e
      → TurnGives (trying k x number) k l told told s v n e
  trying_over v l n told old s e r running (inl is) gives laid by =
      let g = subst (λ r. PrimGives old s l k from v r made) is gives in
      let still : n ≡ l = subst (λ r. PrimLaid from r l n) is laid in
      ends_quietly (trying k x number) k v l n told s e (done v (inl g.0) g.1.state) g.1.ready (answer_lays v l n s running g.1.ready.running g.0 g.1.state still) by
  trying_over v l n told old s e r running (inr is) gives laid by =
      let g = subst (λ r. PrimGives old s l k from v r made) is gives in
      let new : LaidBy (entered from from.rest.next) l n = subst (λ r. PrimLaid from r l n) is laid in
      ends_quietly (trying k x number) k v l n told s e (done v (inr g.0) g.1.state) g.1.ready (enter_lays v l n s running g.1.ready.running g.0 g.1.state new) by

  pub trying_fails : made.end ≡ ends.Fail → Fails k x number
  trying_fails end = record {
    built = is_built;
    end = λ r. ap (λ n. (prim number n (with_kept k r)).out.end) count ∙ ap (λ (p : Result). p.out.end) (by r) ∙ end;
  }

  pub trying_stops : (v : Kept) (l n : Option Layout) (told : Option (List ℕ)) (s : Store) (reason : Reason) → made.end ≡ ends.Stopped reason → TurnGives (trying k x number) k l told told s v n (Stop reason)
  trying_stops v l n told s reason end = (
    refl,
    λ output steps. stopped is_built (ap (λ (p : Result). p.out.end) (tries (ends.Stopped reason) end refl refl output steps) ∙ end),
  )

  without : (why : Why) → PrimWithout why made.end → OverWithout why made.end
  without Heap end = over end
  without Stack end = end

  success : (why : Why) → PrimWithout why made.end → IsSuccess made.end
  success Heap end = end
  success Stack end = inr end

  filling : IsRunning k → IsSuccess made.end → FillsToo from 4030 k 3974
  filling running end = go comes end
    where
      go : Comes k from made → IsSuccess made.end → FillsToo from 4030 k 3974
      go (answers n y e s is) end = subst (λ f. FillsToo f 4030 k 3974) (sym is) (sends_itself k running).fills
      go (enters closure n e s few h) end = (h running).fills
      go (fails e) (inl end) = absurd (let no : ends.Answer ≡ ends.Fail = sym end ∙ e in cc)
      go (fails e) (inr end) = absurd (let no : ends.Entered ≡ ends.Fail = sym end ∙ e in cc)
      go (stops reason e) (inl end) = absurd (let no : ends.Answer ≡ ends.Stopped reason = sym end ∙ e in cc)
      go (stops reason e) (inr end) = absurd (let no : ends.Entered ≡ ends.Stopped reason = sym end ∙ e in cc)

  pub trying_full : (v : Kept) (l n : Option Layout) (told : Option (List ℕ)) (old s : Store) (why : Why) → IsRunning k → PrimGives old s l k from v (prims.Full why) made → TurnGives (trying k x number) k l told told s v n (Full why)
  trying_full v l n told old s why running h = (
    refl,
    λ output steps.
        overfills_whole s l k from made.state (trying k x number output steps) made made.count.objects why is_built (ap (λ (p : Result). p.out) (succeeds (success why h.0) output steps)) (without why h.0)
        (filling running (success why h.0)) (omega arith) (omega arith) h.1,
  )
