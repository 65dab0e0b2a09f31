-- What a return comes to in the model.
use Rattle.std.proofs.Common.{◌≡◌, inl, inr, ◌⊎◌, ℕ, suc, ◌+◌, ◌≤◌, Bool, true, false, refl, sym, ap, subst, ◌∙◌, arith, Option, Some, None, List, [], ◌∷◌, ◌++◌, IfSome, length, nat_lt}
use Rattle.std.specs.Prelude.{◌==◌, ◌&&◌, not, if◌then◌else◌}
use Rattle.std.proofs.lemmas.List.{append-nil, length-append}
use Rattle.std.proofs.lemmas.Bool.{eqb-false}
use Rattle.cs_model.specs.declared.stop.Stop.{Stop as Reason}
use Rattle.cs_model.specs.declared.stop.Stop.TheVariants as why
use Rattle.cs_model.specs.Ref.{Ref}
use Rattle.cs_model.specs.Ref as ref
use Rattle.cs_model.specs.Obj.{Ctx, context_in, pushed}
use Rattle.cs_model.specs.State.{Kept, Rest, Run, object_at}
use Rattle.cs_model.specs.Keeps.{Keeps}
use Rattle.cs_model.specs.Read.{IsRunning, active_birth, active_context, depth_of, size_of, stack_of}
use Rattle.cs_model.specs.Operation.{cut_to_of, push_of}
use Rattle.cs_model.specs.End as ends
use Rattle.cs_model.specs.End.{Out, and_then, done, given, looked, out, stop}
use Rattle.cs_model.specs.Exec.{push_all, push_out}
use Rattle.cs_model.specs.PrimRun.{Result, result}
use Rattle.cs_model.specs.Return.{Home, HomeAt, NoHome, HomeTooFar, Search, Met, Ended, TooLong, about_to_return, arrive, back, call_with, cannot_return, cannot_return_out, first_marked, from_home, has_room, is_among, is_live, local_out, nonlocal_out, past_marks, sender_birth, senders_to, to_home, unwind_mark, unwind_out}
use Rattle.cs_model.specs.Return as model
use Rattle.cs_model.specs.Step.{call_in, do_return}
use Rattle.cs_model.specs.Built.{is_built_return}
use Rattle.cs_model.proofs.Objects.{object_at-put_other, object_at-put_same, rest-put}
use Rattle.cs_acts.specs.declared.act.Full.{Full as Why}
use Rattle.cs_acts.specs.declared.act.Full.TheVariants.{Heap}
use Rattle.cs_acts.specs.Full.{CausesFull}
use Rattle.cs_acts.specs.Layout.{IsApart, LaidBy, Layout, cut, depth_if, frame_words, left, page_words}
use Rattle.cs_acts.specs.Names.{Store}
use Rattle.cs_acts.specs.Primed.{GoesOn}
use Rattle.cs_acts.specs.Targets.{CanCut, dying_in, dying_to}
use Rattle.cs_unwind.specs.Back.{Asks, LaidBack, home_birth}
use Rattle.cs_core.specs.Stepped.{DoneIn, EndsBy, IsOver, Lays, Needs, whole, untold, Overfills, TurnGives, stopped, returning, run_at}
use Rattle.cs_core.specs.declared.step.StepEnd.{StepEnd}
use Rattle.cs_core.specs.declared.step.StepEnd.TheVariants.{Stopped as Stop, Full}
use Rattle.cs_core.proofs.Chaining.{apart_from, either_false, page_same}
use Rattle.cs_core.proofs.Cutting.{cut_lays}
use Rattle.cs_core.proofs.Laying.{is_same}
use Rattle.cs_core.proofs.Settling.{Runs, Stays, push_stays, runs_on, stays_itself, stays_on}
use Rattle.cs_core.proofs.Stacking.{left_lays}
use Rattle.cs_core.proofs.Turning.{ends_quietly}

-- ---- values are pushed

-- so many more words stand on a page at most, and senders, other stacks and the next birth are as they were
pub record Pushed (n : ℕ) (k t : Kept) : Type 0 where
  pub stays : Stays k t
  pub next : t.rest.next ≡ k.rest.next
  pub words : (page : List ℕ) → IsApart page → page_words t page ≤ page_words k page + n

-- the active context has a value more
active_words : (k : Kept) (x : Ref) → Runs k → frame_words (push_of k x) (active_birth k) ≤ frame_words k (active_birth k) + 1
unfolding push_of
active_words k x runs =
    let new : frame_words (push_of k x) (active_birth k) ≡ 10 + length (pushed x (active_context k)).stack = ap (λ o. 10 + depth_if (context_in o)) (object_at-put_same k (active_birth k) (Ctx (pushed x (active_context k)))) in
    let old : frame_words k (active_birth k) ≡ 10 + depth_of k = ap (λ o. 10 + depth_if o) runs in
    omega (arith, new, old, length-append (stack_of k) (x ∷ []))

other_words : (k : Kept) (x : Ref) (i : ℕ) → (i ≡ active_birth k → ⊥) → frame_words (push_of k x) i ≡ frame_words k i
unfolding push_of
other_words k x i other = ap (λ o. 10 + depth_if (context_in o)) (object_at-put_other k (active_birth k) i (Ctx (pushed x (active_context k))) other)

push_words : (k : Kept) (x : Ref) → Runs k → (page : List ℕ) → IsApart page → page_words (push_of k x) page ≤ page_words k page + 1
unfolding page_words
push_words k x runs [] apart = omega arith
push_words k x runs (i ∷ is) apart = go (i == active_birth k) refl (push_words k x runs is apart.1)
  where
    go : (b : Bool) → (i == active_birth k) ≡ b → page_words (push_of k x) is ≤ page_words k is + 1 → page_words (push_of k x) is + frame_words (push_of k x) i ≤ page_words k is + frame_words k i + 1
    go true e before =
        let at : i ≡ active_birth k = is_same i (active_birth k) e in
        let rest : page_words (push_of k x) is ≡ page_words k is = page_same (push_of k x) k is (λ j on. other_words k x j (λ q. apart_from i j is apart.0 on (q ∙ sym at))) in
        let one : frame_words (push_of k x) i ≤ frame_words k i + 1 = subst (λ n. frame_words (push_of k x) n ≤ frame_words k n + 1) (sym at) (active_words k x runs) in
        omega (arith, rest, one)
    go false e before =
        let same : frame_words (push_of k x) i ≡ frame_words k i = other_words k x i (eqb-false i (active_birth k) e) in
        omega (arith, before, same)

push_next : (k : Kept) (x : Ref) → (push_of k x).rest.next ≡ k.rest.next
unfolding push_of
push_next k x = ap (λ (r : Rest). r.next) (rest-put k (active_birth k) (Ctx (pushed x (active_context k))))

pushed_on : (n : ℕ) (k : Kept) (x : Ref) (t : Kept) → Runs k → Pushed n (push_of k x) t → Pushed (suc n) k t
pushed_on n k x t runs h = record {
  stays = stays_on k (push_of k x) t (push_stays k x runs) h.stays;
  next = h.next ∙ push_next k x;
  words = λ page apart. omega (arith, h.words page apart, push_words k x runs page apart);
}

-- all of them are pushed, or the stack is over
pub data Fits (n : ℕ) (k : Kept) (o : Out) : Type 0 where
  fits : o.end ≡ ends.Done → (Runs k → Pushed n k o.state) → Fits n k o
  over : o.end ≡ ends.Stopped why.StackOver → Fits n k o

pub all_fit : (k : Kept) (xs : List Ref) → Fits (length xs) k (push_all xs k)
unfolding push_all push_out and_then
all_fit k [] = fits refl (λ runs. record { stays = stays_itself k; next = refl; words = λ page apart. omega arith })
all_fit k (x ∷ xs) = go (nat_lt (depth_of k) (size_of k)) (all_fit (push_of k x) xs)
  where
    go : (b : Bool) → Fits (length xs) (push_of k x) (push_all xs (push_of k x)) → Fits (suc (length xs)) k (and_then (if b then done (push_of k x) else stop why.StackOver k) (λ t. push_all xs t))
    go true (fits end pushes) = fits end (λ runs. pushed_on (length xs) k x (push_all xs (push_of k x)).state runs (pushes (runs_on k (push_of k x) (push_stays k x runs) runs)))
    go true (over end) = over end
    go false h = over refl

-- ---- how a return ends

-- it arrives, and leaves such a state; or a message is asked for, with at most three values; or it stops
pub data Comes (k : Kept) (A : Kept → Type 0) (o : Out) : Type 0 where
  arrives : o.end ≡ ends.Done → A o.state → Comes k A o
  asks : (special args : ℕ) → o.end ≡ ends.Call special args → (Runs k → Pushed 3 k o.state) → Comes k A o
  stops : (reason : Reason) → o.end ≡ ends.Stopped reason → Comes k A o

comes_too : {k : Kept} {A B : Kept → Type 0} {o : Out} → (A o.state → B o.state) → Comes k A o → Comes k B o
comes_too f (arrives end a) = arrives end (f a)
comes_too f (asks special args end pushes) = asks special args end pushes
comes_too f (stops reason end) = stops reason end

call_comes : (k : Kept) (A : Kept → Type 0) (special args : ℕ) (values : List Ref) → length values ≤ 2 → Comes k A (call_with k special args values)
unfolding and_then looked
call_comes k A special args values few = go (push_all (ref.Obj (active_birth k) ∷ values) k) (all_fit k (ref.Obj (active_birth k) ∷ values))
  where
    three : (t : Kept) → Pushed (suc (length values)) k t → Pushed 3 k t
    three t h = record { stays = h.stays; next = h.next; words = λ page apart. omega (arith, few, h.words page apart) }

    asking : Out → Out
    asking o = and_then o (λ t. looked (out (ends.Call special args) t))

    is_call : (o : Out) → o.end ≡ ends.Done → (asking o).end ≡ ends.Call special args
    is_call o end = rw end

    is_state : (o : Out) → o.end ≡ ends.Done → (asking o).state ≡ o.state
    is_state o end = rw end

    is_over : (o : Out) → o.end ≡ ends.Stopped why.StackOver → (asking o).end ≡ ends.Stopped why.StackOver
    is_over o end = let is : (asking o).end ≡ o.end = rw end in is ∙ end

    go : (o : Out) → Fits (suc (length values)) k o → Comes k A (asking o)
    go o (fits end pushes) = asks special args (is_call o end) (λ runs. three _ (subst (Pushed (suc (length values)) k) (sym (is_state o end)) (pushes runs)))
    go o (over end) = stops why.StackOver (is_over o end)

-- the target of a return that arrives
pub record Arrived (k : Kept) (x : Ref) (dying : List ℕ) (o : Option ℕ) (t : Kept) : Type 0 where
  pub target : ℕ
  pub is : o ≡ Some target
  pub live : is_live k target ≡ true
  pub apart : is_among target dying ≡ false
  pub room : has_room (context_in (object_at k target)) ≡ true
  pub state : t ≡ cut_to_of k dying target x

arrive_comes : (k : Kept) (x : Ref) (dying : List ℕ) (o : Option ℕ) → Comes k (Arrived k x dying o) (arrive k x dying o)
arrive_comes k x dying None = call_comes k (Arrived k x dying None) cannot_return 1 (x ∷ []) (omega arith)
arrive_comes k x dying (Some target) = go (is_live k target) (is_among target dying) (has_room (context_in (object_at k target))) refl refl refl
  where
    go : (live among room : Bool) → is_live k target ≡ live → is_among target dying ≡ among → has_room (context_in (object_at k target)) ≡ room
        → Comes k (Arrived k x dying (Some target)) (if live && not among then (if room then done (cut_to_of k dying target x) else stop why.StackOver k) else cannot_return_out k x)
    go true false true p q r = arrives refl (record { target = target; is = refl; live = p; apart = q; room = r; state = refl })
    go true false false p q r = stops why.StackOver refl
    go true true room p q r = call_comes k (Arrived k x dying (Some target)) cannot_return 1 (x ∷ []) (omega arith)
    go false among room p q r = call_comes k (Arrived k x dying (Some target)) cannot_return 1 (x ∷ []) (omega arith)

-- to the sender of the active context
pub record Leaves (k : Kept) (x : Ref) (t : Kept) : Type 0 where
  pub target : ℕ
  pub sender : sender_birth k (active_birth k) ≡ Some target
  pub other : target ≡ active_birth k → ⊥
  pub state : t ≡ cut_to_of k (active_birth k ∷ []) target x

pub local_comes : (k : Kept) (x : Ref) → Comes k (Leaves k x) (back k x true)
unfolding back local_out
local_comes k x = comes_too leaves (arrive_comes k x (active_birth k ∷ []) (sender_birth k (active_birth k)))
  where
    leaves : {t : Kept} → Arrived k x (active_birth k ∷ []) (sender_birth k (active_birth k)) t → Leaves k x t
    leaves h = record { target = h.target; sender = h.is; other = eqb-false h.target (active_birth k) (either_false (h.target == active_birth k) false h.apart).0; state = h.state }

-- to the sender of the home
pub record Cuts (k : Kept) (x : Ref) (t : Kept) : Type 0 where
  pub home : ℕ
  pub at : model.home k (active_birth k) ≡ HomeAt home
  pub target : ℕ
  pub sender : sender_birth k home ≡ Some target
  pub can : CanCut k home target
  pub state : t ≡ cut_to_of k (dying_to k home) target x

pub nonlocal_comes : (k : Kept) (x : Ref) → Comes k (Cuts k x) (back k x false)
unfolding back nonlocal_out
nonlocal_comes k x = from (model.home k (active_birth k)) refl
  where
    past : (i : ℕ) → model.home k (active_birth k) ≡ HomeAt i → (passed : List ℕ) → senders_to k (active_birth k) i ≡ Met passed → Comes k (Cuts k x) (past_marks k x i passed)
    past i at passed met = go (first_marked k unwind_mark passed)
      where
        dies : dying_to k i ≡ active_birth k ∷ passed ++ i ∷ []
        dies = ap (dying_in (active_birth k) i) met

        cuts : {t : Kept} → Arrived k x (active_birth k ∷ passed ++ i ∷ []) (sender_birth k i) t → Cuts k x t
        cuts h = record {
          home = i;
          at = at;
          target = h.target;
          sender = h.is;
          can = record { passed = passed; met = met; live = h.live; apart = ap (is_among h.target) dies ∙ h.apart; room = h.room };
          state = h.state ∙ ap (λ dying. cut_to_of k dying h.target x) (sym dies);
        }

        go : (o : Option ℕ) → Comes k (Cuts k x) (given o (arrive k x (active_birth k ∷ passed ++ i ∷ []) (sender_birth k i)) (λ mark. unwind_out k x mark))
        go None = comes_too cuts (arrive_comes k x (active_birth k ∷ passed ++ i ∷ []) (sender_birth k i))
        go (Some mark) = call_comes k (Cuts k x) about_to_return 2 (x ∷ ref.Obj mark ∷ []) (omega arith)

    along : (i : ℕ) → model.home k (active_birth k) ≡ HomeAt i → (s : Search) → senders_to k (active_birth k) i ≡ s → Comes k (Cuts k x) (from_home k x i s)
    along i at (Met passed) met = past i at passed met
    along i at (Ended passed) met = call_comes k (Cuts k x) cannot_return 1 (x ∷ []) (omega arith)
    along i at TooLong met = stops why.ChainTooLong refl

    from : (h : Home) → model.home k (active_birth k) ≡ h → Comes k (Cuts k x) (to_home k x h)
    from (HomeAt i) at = along i at (senders_to k (active_birth k) i) refl
    from NoHome at = call_comes k (Cuts k x) cannot_return 1 (x ∷ []) (omega arith)
    from HomeTooFar at = stops why.ChainTooLong refl

-- ---- where no message is asked for

quiet : (r : Run) (k : Kept) (x : Ref) (local : Bool) → call_in (back k x local).end ≡ None → do_return r k x local ≡ result (back k x local) r
unfolding do_return
quiet r k x local h = rw h

built_quiet : (k : Kept) (x : Ref) (local : Bool) → call_in (back k x local).end ≡ None → is_built_return k x local ≡ true
built_quiet k x local h = rw h

-- ---- the value arrives

lays_behind : (k v : Kept) (x : Ref) (local : Bool) (l n : Option Layout) (s : Store) → IsRunning k → IsRunning v → (back k x local).end ≡ ends.Done → Keeps v (back k x local).state → LaidBack k local l n → Lays k l s v n
lays_behind k v x true l n s runs running end keeps laid = go (local_comes k x)
  where
    go : Comes k (Leaves k x) (back k x true) → Lays k l s v n
    go (arrives e h) =
        left_lays k v h.target x (subst (Keeps v) h.state keeps) runs h.sender h.other running l n s (subst (λ o. IfSome o (λ target. LaidBy (left target) l n)) h.sender laid)
    go (asks special args e pushes) = absurd (let no : ends.Done ≡ ends.Call special args = sym end ∙ e in cc)
    go (stops reason e) = absurd (let no : ends.Done ≡ ends.Stopped reason = sym end ∙ e in cc)
lays_behind k v x false l n s runs running end keeps laid = go (nonlocal_comes k x)
  where
    go : Comes k (Cuts k x) (back k x false) → Lays k l s v n
    go (arrives e h) =
        let at : IfSome (sender_birth k h.home) (λ target. LaidBy (cut (dying_to k h.home) target) l n) = subst (λ b. IfSome (home_birth b) (λ i. IfSome (sender_birth k i) (λ target. LaidBy (cut (dying_to k i) target) l n))) h.at laid in
        cut_lays k v h.home h.target x (subst (Keeps v) h.state keeps) runs h.sender h.can running l n s (subst (λ o. IfSome o (λ target. LaidBy (cut (dying_to k h.home) target) l n)) h.sender at)
    go (asks special args e pushes) = absurd (let no : ends.Done ≡ ends.Call special args = sym end ∙ e in cc)
    go (stops reason e) = absurd (let no : ends.Done ≡ ends.Stopped reason = sym end ∙ e in cc)

pub arrived_gives : (k v : Kept) (x : Ref) (local : Bool) (l n : Option Layout) (told : Option (List ℕ)) (old s : Store) (e : StepEnd) → IsRunning k → (back k x local).end ≡ ends.Done → GoesOn old s v (back k x local) → LaidBack k local l n
    → EndsBy v e → TurnGives (returning k x local) k l told told s v n e
arrived_gives k v x local l n told old s e runs end goes laid by =
    ends_quietly (returning k x local) k v l n told s e done goes.ready (lays_behind k v x local l n s runs goes.ready.running end goes.state laid) by
  where
    done : DoneIn (returning k x local) v []
    done output steps =
        let is = quiet (run_at output steps) k x local (ap call_in end) in
        record {
          built = built_quiet k x local (ap call_in end);
          over = subst (λ (p : Result). IsOver p.out.end) (sym is) (subst IsOver (sym end) tt);
          state = subst (λ (p : Result). Keeps v p.out.state) (sym is) goes.state;
          run = ap (λ (p : Result). p.run) is ∙ ap (λ o. run_at o steps) (sym (append-nil output));
        }

-- ---- it stops

pub stops_gives : (k v : Kept) (x : Ref) (local : Bool) (l n : Option Layout) (told : Option (List ℕ)) (s : Store) (reason : Reason) → (back k x local).end ≡ ends.Stopped reason → TurnGives (returning k x local) k l told told s v n (Stop reason)
stops_gives k v x local l n told s reason end = (
  refl,
  λ output steps. stopped (built_quiet k x local (ap call_in end)) (ap (λ (p : Result). p.out.end) (quiet (run_at output steps) k x local (ap call_in end)) ∙ end),
)

-- ---- there is no room

pub lacks_gives : (k v : Kept) (x : Ref) (local : Bool) (l n : Option Layout) (told : Option (List ℕ)) (s : Store) (why : Why) → why ≡ Heap → ((back k x local).end ≡ ends.Done) ⊎ Asks (back k x local).end
    → CausesFull s l k (back k x local).count.objects (back k x local).state why → TurnGives (returning k x local) k l told told s v n (Full why)
lacks_gives k v x local l n told s why heap ends_so cause = (
  refl,
  λ output steps. subst (Overfills s l k (returning k x local output steps)) (sym heap) (record {
    out = back k x local;
    needs = needs output steps ends_so;
    cause = subst (CausesFull s l k (back k x local).count.objects (back k x local).state) heap cause;
  }),
)
  where
    needs : (output : List ℕ) (steps : ℕ) → ((back k x local).end ≡ ends.Done) ⊎ Asks (back k x local).end → Needs (returning k x local output steps) Heap (back k x local)
    needs output steps (inl end) =
        let is : (returning k x local output steps).result.out ≡ back k x local = ap (λ (p : Result). p.out) (quiet (run_at output steps) k x local (ap call_in end)) in
        subst (Needs (returning k x local output steps) Heap) is (whole (built_quiet k x local (ap call_in end)) (subst (λ (o : Out). IsOver o.end) (sym is) (subst IsOver (sym end) tt)))
    needs output steps (inr asking) = untold (back k x local) refl asking refl
