-- Whether a value arrives, and what a return comes to.
use Rattle.std.proofs.Common.{◌≡◌, ◌≢◌, ◌∙◌, ℕ, ◌==◌, ◌&&◌, ◌||◌, not, Bool, true, false, inl, refl, sym, ap, subst, arith, Option, Some, None, IsSome, IsSomeAnd, IfSome, List, [], ◌∷◌, ◌++◌, option_and_then, unwrap_or}
use Rattle.std.specs.Prelude.{if◌then◌else◌}
use Rattle.std.proofs.lemmas.Bool.Decides.{nat_tests}
use Rattle.cs_model.specs.declared.stop.Stop.TheVariants as why
use Rattle.cs_model.specs.Ref.{Ref, named_object}
use Rattle.cs_model.specs.Obj.{Context, context_in}
use Rattle.cs_model.specs.State.{Kept, object_at}
use Rattle.cs_model.specs.Keeps.{Keeps, SameKept}
use Rattle.cs_model.specs.Read.{IsRunning, active_birth, active_context}
use Rattle.cs_model.specs.Operation.{cut_to_of, kill_all, kill_of, leave_of, push_of, resume_of}
use Rattle.cs_model.specs.End.{Out, done, given, stop}
use Rattle.cs_model.specs.Return.{Home, HomeAt, NoHome, HomeTooFar, arrive, cannot_return_out, context_at, context_birth, first_marked, from_home, has_room, home, is_among, is_live, local_out, nonlocal_out, sender_birth, senders_to, to_home, unwind_mark, unwind_out}
use Rattle.cs_model.specs.Return as model
use Rattle.cs_acts.specs.declared.act.Act.{Act}
use Rattle.cs_acts.specs.declared.act.Full.{Full as Why}
use Rattle.cs_acts.specs.declared.act.Full.TheVariants.{Heap}
use Rattle.cs_acts.specs.Full.{CausesFull}
use Rattle.cs_acts.specs.Layout.{LaidBy, Layout, cut}
use Rattle.cs_acts.specs.Made.{MakesAtMost}
use Rattle.cs_acts.specs.Names.{KeepsNames, Store}
use Rattle.cs_acts.specs.Ready.{IsReady}
use Rattle.cs_acts.specs.Targets.{CanArrive, CanCut, dying_in, dying_to}
use Rattle.cs_unwind.specs.Back.{LaidBack, home_birth}
use Rattle.cs_unwind.specs.Returned.{Returns, arrival_of}
use Rattle.cs_unwind.specs.Walked.{EndsBefore, HasHome, IsUnmarked, ActStands}
use Rattle.cs_unwind.specs.declared.end.BackEnd.{BackEnd}
use Rattle.cs_unwind.specs.declared.end.BackEnd.TheVariants as back
use Rattle.cs_unwind.specs.declared.returns.Arrival.{Arrival}
use Rattle.cs_unwind.specs.declared.returns.Arrival.TheVariants.{Never, NoRoom, Free}
use Rattle.cs_unwind.proofs.Walking.{among_more, told}

-- ---- whether it arrives

pub record Arrives (k : Kept) (value : Ref) (dying : List ℕ) (target : Option ℕ) : Type 0 where
  pub birth : ℕ
  pub at : target ≡ Some birth
  pub live : is_live k birth ≡ true
  pub apart : is_among birth dying ≡ false
  pub room : has_room (context_in (object_at k birth)) ≡ true
  pub is : arrive k value dying target ≡ done (cut_to_of k dying birth value)

abbrev pub Decided : Kept → Ref → List ℕ → Option ℕ → Arrival → Type 0
Decided k value dying target Never = arrive k value dying target ≡ cannot_return_out k value
Decided k value dying target NoRoom = arrive k value dying target ≡ stop why.StackOver k
Decided k value dying target Free = Arrives k value dying target

decide_at : (k : Kept) (value : Ref) (dying : List ℕ) (t : ℕ) → Decided k value dying (Some t) (arrival_of k (is_among t dying) (Some t))
decide_at k value dying t = go (is_live k t) refl (is_among t dying) refl (has_room (context_in (object_at k t))) refl
  where
    shape : Bool → Bool → Bool → Out
    shape a b r = if a && not b then (if r then done (cut_to_of k dying t value) else stop why.StackOver k) else cannot_return_out k value

    shaped : (a b r : Bool) → is_live k t ≡ a → is_among t dying ≡ b → has_room (context_in (object_at k t)) ≡ r → arrive k value dying (Some t) ≡ shape a b r
    shaped a b r ea eb er = ap (λ x. shape x (is_among t dying) (has_room (context_in (object_at k t)))) ea ∙ ap (λ x. shape a x (has_room (context_in (object_at k t)))) eb ∙ ap (λ x. shape a b x) er

    go : (a : Bool) → is_live k t ≡ a → (b : Bool) → is_among t dying ≡ b → (r : Bool) → has_room (context_in (object_at k t)) ≡ r
        → Decided k value dying (Some t) (if a && not b then (if r then Free else NoRoom) else Never)
    go true ea false eb true er = record { birth = t; at = refl; live = ea; apart = eb; room = er; is = shaped true false true ea eb er }
    go true ea false eb false er = shaped true false false ea eb er
    go true ea true eb r er = shaped true true r ea eb er
    go false ea b eb r er = shaped false b r ea eb er

pub decide : (k : Kept) (value : Ref) (dying : List ℕ) (dies : Bool) (target : Option ℕ) → ((i : ℕ) → target ≡ Some i → dies ≡ is_among i dying) → Decided k value dying target (arrival_of k dies target)
decide k value dying dies None same = refl
decide k value dying dies (Some t) same = subst (λ d. Decided k value dying (Some t) (arrival_of k d (Some t))) (sym (same t refl)) (decide_at k value dying t)

pub some_and : (P : ℕ → Type 0) {o : Option ℕ} {i : ℕ} → o ≡ Some i → P i → IsSomeAnd o P
some_and P {o} {i} e p = let there : IsSomeAnd (Some i) P = p in subst (λ q. IsSomeAnd q P) (sym e) there

-- ---- what is given

pub landed : (a b : Store) (l m : Option Layout) (k v t : Kept) (local : Bool) (o : Out) → o ≡ done t → Keeps v t → (l ≡ None → SameKept v t) → LaidBack k local l m → b.memory.limit ≡ a.memory.limit → MakesAtMost 0 l a b → IsReady b v → KeepsNames a b
    → Returns a b l m k v local back.Done o
landed a b l m k v t local o is state exact laid limit made ready names = record {
  gives = (ap (λ (p : Out). p.end) is, record { state = subst (λ (p : Out). Keeps v p.state) (sym is) state; ready = ready; names = names });
  exact = λ none. subst (λ (p : Out). SameKept v p.state) (sym is) (exact none);
  layout = laid;
  limit = limit;
  contexts = made;
}

pub not_landed : (a b : Store) (l m : Option Layout) (k v t : Kept) (local : Bool) (o : Out) (why : Why) → o ≡ done t → b.memory.limit ≡ a.memory.limit → why ≡ Heap → CausesFull b l k 0 t why → Returns a b l m k v local (back.Full why) o
not_landed a b l m k v t local o why is limit heap cause = record {
  gives = (heap, inl (ap (λ (p : Out). p.end) is), subst (λ (p : Out). CausesFull b l k p.count.objects p.state why) (sym is) cause);
  exact = tt;
  layout = tt;
  limit = limit;
  contexts = tt;
}

pub returns_as : (a b : Store) (l m : Option Layout) (k v : Kept) (local : Bool) (found : BackEnd) (o p : Out) → o ≡ p → Returns a b l m k v local found p → Returns a b l m k v local found o
returns_as a b l m k v local found o p is h = subst (Returns a b l m k v local found) (sym is) h

-- ---- to the sender

alone : (i j : ℕ) → (i == j) ≡ is_among i (j ∷ [])
alone i j = go (i == j)
  where
    go : (b : Bool) → b ≡ (b || false)
    go true = refl
    go false = refl

pub local_decided : (act : Act → Option ℕ) (k : Kept) (value : Ref) (target : Option Act) (dies : Bool) (a : Arrival) → ActStands act target (sender_birth k (active_birth k))
    → ((i : ℕ) → ActStands act target (Some i) → dies ≡ (i == active_birth k)) → ((birth : Option ℕ) → ActStands act target birth → a ≡ arrival_of k dies birth)
    → Decided k value (active_birth k ∷ []) (sender_birth k (active_birth k)) a
local_decided act k value target dies a stands same is =
    subst (Decided k value (active_birth k ∷ []) (sender_birth k (active_birth k))) (sym (is (sender_birth k (active_birth k)) stands))
    (decide k value (active_birth k ∷ []) dies (sender_birth k (active_birth k)) (λ i e. same i (subst (ActStands act target) e stands) ∙ alone i (active_birth k)))

pub local_is : (k : Kept) (value : Ref) → local_out k value ≡ arrive k value (active_birth k ∷ []) (sender_birth k (active_birth k))
unfolding local_out
local_is k value = refl

pub can_arrive : (k : Kept) (value : Ref) → Arrives k value (active_birth k ∷ []) (sender_birth k (active_birth k)) → IsSomeAnd (sender_birth k (active_birth k)) (CanArrive k)
can_arrive k value h =
    let other : h.birth ≢ active_birth k = λ e. differ (h.birth == active_birth k) (alone h.birth (active_birth k) ∙ h.apart) (is_it h.birth (active_birth k) e) in
    some_and (CanArrive k) h.at (record { live = h.live; other = other; room = h.room })
  where
    is_it : (i j : ℕ) → i ≡ j → (i == j) ≡ true
    is_it i j e = grind (arith, nat_tests)

    differ : (b : Bool) → b ≡ false → b ≡ true → ⊥
    differ true e f = absurd (cc)
    differ false e f = absurd (cc)

sender_is : (k : Kept) (t : ℕ) → IsRunning k → sender_birth k (active_birth k) ≡ Some t → named_object (active_context k).sender ≡ Some t
sender_is k t running e = go (context_at k (active_context k).sender) (ap (λ o. option_and_then (λ (c : Context). context_birth k c.sender) (context_in o)) (sym running.found) ∙ e)
  where
    go : (o : Option Context) → option_and_then (λ (c : Context). named_object (active_context k).sender) o ≡ Some t → named_object (active_context k).sender ≡ Some t
    go None h = absurd (cc)
    go (Some c) h = h

-- a local return goes past the active context alone
pub leave_cuts : (k : Kept) (t : ℕ) (value : Ref) → IsRunning k → sender_birth k (active_birth k) ≡ Some t → leave_of k value ≡ cut_to_of k (active_birth k ∷ []) t value
unfolding leave_of cut_to_of kill_all
leave_cuts k t value running e = ap (λ o. push_of (resume_of (kill_of k (active_birth k)) (unwrap_or o k.rest.nil)) value) (sender_is k t running e)

-- ---- from the home

pub nonlocal_nowhere : (k : Kept) (value : Ref) → home k (active_birth k) ≡ NoHome → nonlocal_out k value ≡ cannot_return_out k value
unfolding nonlocal_out
nonlocal_nowhere k value e = ap (to_home k value) e

pub nonlocal_too_far : (k : Kept) (value : Ref) → home k (active_birth k) ≡ HomeTooFar → nonlocal_out k value ≡ stop why.ChainTooLong k
unfolding nonlocal_out
nonlocal_too_far k value e = ap (to_home k value) e

module _ (act : Act → Option ℕ) (k : Kept) (a : Act) (h : HasHome act k a) (value : Ref) where
  nonlocal_is : nonlocal_out k value ≡ from_home k value h.birth (senders_to k (active_birth k) h.birth)
  unfolding nonlocal_out
  nonlocal_is = ap (to_home k value) h.is

  pub nonlocal_ended : EndsBefore k h.birth → nonlocal_out k value ≡ cannot_return_out k value
  nonlocal_ended e = nonlocal_is ∙ ap (from_home k value h.birth) e.is

  pub nonlocal_far : senders_to k (active_birth k) h.birth ≡ model.TooLong → nonlocal_out k value ≡ stop why.ChainTooLong k
  nonlocal_far e = nonlocal_is ∙ ap (from_home k value h.birth) e

  nonlocal_met : (births : List ℕ) (mark : Option ℕ) → senders_to k (active_birth k) h.birth ≡ model.Met births → first_marked k unwind_mark births ≡ mark
      → nonlocal_out k value ≡ given mark (arrive k value (active_birth k ∷ births ++ h.birth ∷ []) (sender_birth k h.birth)) (λ mark. unwind_out k value mark)
  nonlocal_met births mark e f =
      nonlocal_is ∙ ap (from_home k value h.birth) e ∙ ap (λ (o : Option ℕ). given o (arrive k value (active_birth k ∷ births ++ h.birth ∷ []) (sender_birth k h.birth)) (λ mark. unwind_out k value mark)) f

  pub nonlocal_marked : (births : List ℕ) (mark : ℕ) → senders_to k (active_birth k) h.birth ≡ model.Met births → first_marked k unwind_mark births ≡ Some mark → nonlocal_out k value ≡ unwind_out k value mark
  nonlocal_marked births mark e f = nonlocal_met births (Some mark) e f

  pub nonlocal_free : (births : List ℕ) → senders_to k (active_birth k) h.birth ≡ model.Met births → first_marked k unwind_mark births ≡ None
      → nonlocal_out k value ≡ arrive k value (active_birth k ∷ births ++ h.birth ∷ []) (sender_birth k h.birth)
  nonlocal_free births e f = nonlocal_met births None e f

module _ (act : Act → Option ℕ) (k : Kept) (a : Act) (target : Option Act) (dies : Bool) (u : IsUnmarked act k a target dies) (value : Ref) where
  dying_is : dying_to k u.home.birth ≡ active_birth k ∷ u.births ++ u.home.birth ∷ []
  dying_is = ap (dying_in (active_birth k) u.home.birth) u.met

  pub nonlocal_decided : (found : Arrival) → ((birth : Option ℕ) → ActStands act target birth → found ≡ arrival_of k dies birth)
      → Decided k value (active_birth k ∷ u.births ++ u.home.birth ∷ []) (sender_birth k u.home.birth) found
  nonlocal_decided found is =
      subst (Decided k value (active_birth k ∷ u.births ++ u.home.birth ∷ []) (sender_birth k u.home.birth)) (sym (is (sender_birth k u.home.birth) u.leads))
      (decide k value (active_birth k ∷ u.births ++ u.home.birth ∷ []) dies (sender_birth k u.home.birth) u.doomed)

  pub nonlocal_arrives : nonlocal_out k value ≡ arrive k value (active_birth k ∷ u.births ++ u.home.birth ∷ []) (sender_birth k u.home.birth)
  nonlocal_arrives = nonlocal_free act k a u.home value u.births u.met u.unmarked

  pub can_cut : Arrives k value (active_birth k ∷ u.births ++ u.home.birth ∷ []) (sender_birth k u.home.birth) → IsSomeAnd (act a) (λ birth. IsSomeAnd (sender_birth k birth) (CanCut k birth))
  can_cut h =
      some_and (λ birth. IsSomeAnd (sender_birth k birth) (CanCut k birth)) u.home.stands
      (some_and (CanCut k u.home.birth) h.at
      (record { passed = u.births; met = u.met; live = h.live; apart = ap (is_among h.birth) dying_is ∙ h.apart; room = h.room }))

  -- what is told of the state behind a cut
  pub cut_state : (P : Kept → Type 0) → (h : Arrives k value (active_birth k ∷ u.births ++ u.home.birth ∷ []) (sender_birth k u.home.birth))
      → IfSome (act a) (λ birth. IfSome (sender_birth k birth) (λ t. P (cut_to_of k (dying_to k birth) t value))) → P (cut_to_of k (active_birth k ∷ u.births ++ u.home.birth ∷ []) h.birth value)
  cut_state P h all = subst (λ xs. P (cut_to_of k xs h.birth value)) dying_is (told _ (told _ all u.home.stands) h.at)

  pub cut_keeps : (v : Kept) → Keeps k k → (h : Arrives k value (active_birth k ∷ u.births ++ u.home.birth ∷ []) (sender_birth k u.home.birth))
      → IfSome (act a) (λ birth. IfSome (sender_birth k birth) (λ t. (m : Kept) → Keeps k m → Keeps v (cut_to_of m (dying_to k birth) t value))) → Keeps v (cut_to_of k (active_birth k ∷ u.births ++ u.home.birth ∷ []) h.birth value)
  cut_keeps v closed h all = subst (λ xs. Keeps v (cut_to_of k xs h.birth value)) dying_is (told _ (told _ all u.home.stands) h.at k closed)

  pub cut_laid : (l m : Option Layout) → IfSome (act a) (λ birth. IfSome (sender_birth k birth) (λ t. LaidBy (cut (dying_to k birth) t) l m)) → LaidBack k false l m
  cut_laid l m all = subst (λ n. IfSome (home_birth n) (λ i. IfSome (sender_birth k i) (λ t. LaidBy (cut (dying_to k i) t) l m))) (sym u.home.is) (told _ all u.home.stands)

-- ---- whether the target dies

pub dies_is : (act : Act → Option ℕ) (target : Option Act) (active home : ℕ) (births : List ℕ) (passed found : Bool) (i : ℕ) → ActStands act target (Some i)
    → ((j : ℕ) → ActStands act target (Some j) → passed ≡ is_among j births) → found ≡ (passed || (i == active) || (i == home)) → found ≡ is_among i (active ∷ births ++ home ∷ [])
dies_is act target active home births passed found i stands met is =
    is ∙ ap (λ (b : Bool). b || (i == active) || (i == home)) (met i stands) ∙ turn (is_among i births) (i == active) (i == home) ∙ ap (λ (b : Bool). (i == active) || b) (sym (among_more i home births))
  where
    turn : (a b c : Bool) → (a || b || c) ≡ (b || (a || c))
    turn true true c = refl
    turn true false c = refl
    turn false b c = refl

-- ---- the mark that was found

pub unmarked : (act : Act → Option ℕ) (mark : Option Act) (first : Option ℕ) → mark ≡ None → ActStands act mark first → first ≡ None
unmarked act mark first none h = let there : ActStands act None first = subst (λ (o : Option Act). ActStands act o first) none h in there

pub record MarkAt (act : Act → Option ℕ) (a : Act) (first : Option ℕ) : Type 0 where
  pub birth : ℕ
  pub is : first ≡ Some birth
  pub stands : act a ≡ Some birth

pub mark_at : (act : Act → Option ℕ) (mark : Option Act) (a : Act) (first : Option ℕ) → mark ≡ Some a → ActStands act mark first → MarkAt act a first
mark_at act mark a first some h = go first refl (subst (λ (o : Option Act). ActStands act o first) some h)
  where
    go : (o : Option ℕ) → first ≡ o → (act a ≡ o) × IsSome o → MarkAt act a first
    go None e s = absurd (cc)
    go (Some i) e s = record { birth = i; is = e; stands = s.0 }
