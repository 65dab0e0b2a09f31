-- What the message comes to that tells of a return.
use Rattle.std.proofs.Common.{◌≡◌, ℕ, ◌≤◌, Bool, true, false, sym, ap, subst, ◌∙◌, arith, Option, Some, None, List}
use Rattle.cs_word.specs.declared.Oop.{Oop}
use Rattle.cs_model.specs.declared.stop.Stop.TheVariants as why
use Rattle.cs_model.specs.Ref.{Ref}
use Rattle.cs_model.specs.Obj.{context_in}
use Rattle.cs_model.specs.State.{Kept, Rest, Run, special_at}
use Rattle.cs_model.specs.Keeps.{Keeps}
use Rattle.cs_model.specs.Read.{IsRunning}
use Rattle.cs_model.specs.End as ends
use Rattle.cs_model.specs.End.{Out, given, stop}
use Rattle.cs_model.specs.PrimRun.{Result, result}
use Rattle.cs_model.specs.Return.{back}
use Rattle.cs_model.specs.Step.{call_in, result_counting, do_call, do_return, do_send, shape_fault}
use Rattle.cs_model.specs.Built.{is_built_call, is_built_return, is_built_send}
use Rattle.cs_model.specs.Demand.{words_held}
use Rattle.cs_model.proofs.Building.{is_built_call_same}
use Rattle.cs_model.proofs.Same.{equal}
use Rattle.cs_model.proofs.Stepping.{do_call_alike}
use Rattle.cs_acts.specs.Layout.{Layout}
use Rattle.cs_acts.specs.Names.{NamesOption, Store, name_of}
use Rattle.cs_acts.specs.Primed.{GoesOn}
use Rattle.cs_send.specs.Sent.{message_of}
use Rattle.cs_core.specs.Stepped.{TurnGives, calling, least_of_return, least_of_send, returning, run_at, sending}
use Rattle.cs_core.specs.declared.step.StepEnd.{StepEnd}
use Rattle.cs_core.proofs.Carrying.{IsSame, SameIn, alike_turns, carried, tells_nothing}
use Rattle.cs_core.proofs.Laying.{FillsToo, page_words_kept}
use Rattle.cs_core.proofs.Returning.{Comes, arrives, asks, stops, Pushed, local_comes, nonlocal_comes}
use Rattle.cs_core.proofs.Settling.{Runs}
use Rattle.cs_core.proofs.Stacking.{settled_stacked}

-- ---- a special selector is sent

pub selector_at : (s : Store) (o : Oop) (x : Option Ref) → NamesOption s (Some o) x → x ≡ Some (name_of s o)
selector_at s o x h = sym h.is

pub called_same : (s : Store) (k : Kept) (special args : ℕ) (o : Oop) → special_at k special ≡ Some (name_of s o) → SameIn (sending k (message_of s o args None)) (calling k special args)
called_same s k special args o at output steps =
    let x = name_of s o in
    let built : is_built_call k special args ≡ is_built_send k (record { selector = x; args = args; above = None }) = ap (λ p. given p true (λ selector. is_built_send k (record { selector = selector; args = args; above = None }))) at in
    let is : do_call (run_at output steps) k special args ≡ do_send (run_at output steps) k x args None = ap (λ p. given p (result (stop why.BadSpecial k) (run_at output steps)) (λ selector. do_send (run_at output steps) k selector args None)) at in
    record {
      built = built;
      end = ap (λ (p : Result). p.out.end) is;
      state = λ v keeps. subst (λ (p : Result). Keeps v p.out.state) (sym is) keeps;
      shape = ap (λ (p : Result). shape_fault p.out.state) is;
      words = subst (λ (p : Result). words_held (do_send (run_at output steps) k x args None).out.state ≤ words_held p.out.state) (sym is) (omega arith);
      made = subst (λ (p : Result). (do_send (run_at output steps) k x args None).out.count.objects ≤ p.out.count.objects) (sym is) (omega arith);
      run = ap (λ (p : Result). p.run) is;
      told = tells_nothing None;
    }

pub sends_call : (st : Store) (k : Kept) (special args : ℕ) (o : Oop) (l n : Option Layout) (old new : Option (List ℕ)) (s : Store) (v : Kept) (e : StepEnd) → special_at k special ≡ Some (name_of st o)
    → TurnGives (sending k (message_of st o args None)) k l old new s v n e → TurnGives (calling k special args) k l old new s v n e
sends_call st k special args o l n old new s v e at gives =
    carried (sending k (message_of st o args None)) (calling k special args) k k l n old new s v e (called_same st k special args o at) (λ output steps page apart full. full) (λ stack. stack) gives

-- ---- in a state that is kept

-- ---- a return that asks for it

told_of : (r : Run) (k : Kept) (x : Ref) (local : Bool) (special args : ℕ) → (back k x local).end ≡ ends.Call special args
    → do_return r k x local ≡ result_counting (back k x local).count (do_call r (back k x local).state special args)
unfolding do_return
told_of r k x local special args end = ap (λ e. given (call_in e) (result (back k x local) r) (λ c. result_counting (back k x local).count (do_call r (back k x local).state c.0 c.1))) end

told_built : (k : Kept) (x : Ref) (local : Bool) (special args : ℕ) → (back k x local).end ≡ ends.Call special args → is_built_return k x local ≡ is_built_call (back k x local).state special args
told_built k x local special args end = ap (λ e. given (call_in e) true (λ c. is_built_call (back k x local).state c.0 c.1)) end

told_same : (k v : Kept) (x : Ref) (local : Bool) (special args : ℕ) → (back k x local).end ≡ ends.Call special args → Keeps v (back k x local).state → SameIn (calling v special args) (returning k x local)
told_same k v x local special args end keeps output steps =
    let t : Kept = (back k x local).state in
    let s : IsSame (calling v special args output steps) (calling t special args output steps) =
    alike_turns v (calling v special args output steps) (calling t special args output steps) (equal (is_built_call_same keeps special args)) (do_call_alike keeps (run_at output steps) special args) (tells_nothing None) in
    let is = told_of (run_at output steps) k x local special args end in
    record {
      built = told_built k x local special args end ∙ s.built;
      end = ap (λ (p : Result). p.out.end) is ∙ s.end;
      state = λ w h. subst (λ (p : Result). Keeps w p.out.state) (sym is) (s.state w h);
      shape = ap (λ (p : Result). shape_fault p.out.state) is ∙ s.shape;
      words = subst (λ (p : Result). words_held (calling v special args output steps).result.out.state ≤ words_held p.out.state) (sym is) s.words;
      made = subst (λ (p : Result). (calling v special args output steps).result.out.count.objects ≤ p.out.count.objects) (sym is) (omega (arith, s.made));
      run = ap (λ (p : Result). p.run) is ∙ s.run;
      told = tells_nothing (Some (back k x local));
    }

-- the values are pushed by then
told_pushed : (k : Kept) (x : Ref) (local : Bool) (special args : ℕ) → (back k x local).end ≡ ends.Call special args → Runs k → Pushed 3 k (back k x local).state
told_pushed k x local special args end runs = by local end
  where
    go : {A : Kept → Type 0} {o : Out} → o.end ≡ ends.Call special args → Comes k A o → Pushed 3 k o.state
    go end (arrives e a) = absurd (let no : ends.Done ≡ ends.Call special args = sym e ∙ end in cc)
    go end (asks special args e pushes) = pushes runs
    go end (stops reason e) = absurd (let no : ends.Stopped reason ≡ ends.Call special args = sym e ∙ end in cc)

    by : (local : Bool) → (back k x local).end ≡ ends.Call special args → Pushed 3 k (back k x local).state
    by true end = go end (local_comes k x)
    by false end = go end (nonlocal_comes k x)

told_fills : (k t v : Kept) → Pushed 3 k t → Keeps v t → FillsToo v least_of_send k least_of_return
told_fills k t v pushes keeps page apart full = omega (arith, full, page_words_kept v t keeps page, pushes.words page apart)

pub tells_gives : (k v : Kept) (x : Ref) (local : Bool) (special args : ℕ) (l b n : Option Layout) (old new : Option (List ℕ)) (before mid s : Store) (w : Kept) (e : StepEnd) → IsRunning k → (back k x local).end ≡ ends.Call special args
    → GoesOn before mid v (back k x local) → b ≡ l → TurnGives (calling v special args) v b old new s w n e → TurnGives (returning k x local) k l old new s w n e
tells_gives k v x local special args l b n old new before mid s w e running end goes still gives =
    let pushes = told_pushed k x local special args end (ap context_in running.found) in
    carried (calling v special args) (returning k x local) v k l n old new s w e (told_same k v x local special args end goes.state) (λ output steps. told_fills k (back k x local).state v pushes goes.state)
    (settled_stacked k (back k x local).state v l pushes.stays goes.state goes.ready.running)
    (subst (λ l. TurnGives (calling v special args) v l old new s w n e) still gives)

-- and the next birth is as it was
pub births_told : (k v : Kept) (x : Ref) (local : Bool) (special args : ℕ) (before mid : Store) → IsRunning k → (back k x local).end ≡ ends.Call special args → GoesOn before mid v (back k x local) → k.rest.next ≤ 4611686018427387840
    → v.rest.next ≤ 4611686018427387840
births_told k v x local special args before mid running end goes few =
    let same : v.rest.next ≡ k.rest.next = ap (λ (r : Rest). r.next) goes.state.rest ∙ (told_pushed k x local special args end (ap context_in running.found)).next in
    omega (arith, same, few)
