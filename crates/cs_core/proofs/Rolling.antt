-- A run of the model, one step behind another.
use Rattle.std.proofs.Common.{◌≡◌, ℕ, zero, suc, ◌+◌, ◌<◌, ◌≤◌, ◌==◌, Bool, true, false, refl, sym, ap, subst, ◌∙◌, IfSome, IsSomeAnd, ◌*◌, Option, Some, None, List, [], ◌++◌, nat_lt, arith, length, take, drop, ◌-◌}
use Rattle.std.specs.Prelude.{if◌then◌else◌, ◌||◌}
use Rattle.std.proofs.lemmas.Bool.{eqb-true, eqb-false, false≢true}
use Rattle.std.proofs.Math.Seq.{take-add}
use Rattle.std.proofs.lemmas.List.{take_at, drop_at, length-append, append-nil, append_assoc}
use Rattle.cs_shelf.specs.Outside.{Appends, AppendsPart, Rose}
use Rattle.cs_shelf.proofs.Appending.{appends_then}
use Rattle.cs_model.specs.declared.stop.Stop.{Stop as Reason}
use Rattle.cs_model.specs.declared.stop.Stop.TheVariants as why
use Rattle.cs_model.specs.State.{Kept, Rest, Run, State}
use Rattle.cs_model.specs.Read.{IsRunning}
use Rattle.cs_model.specs.Keeps.{Keeps}
use Rattle.cs_model.specs.Alike.{AlikeStep}
use Rattle.cs_model.specs.End.{End, Out, given, no_count}
use Rattle.cs_model.specs.End as ends
use Rattle.cs_model.specs.PrimRun.{Result}
use Rattle.cs_model.specs.Due.{Happened, due, due_of, happened, is_idle, without_context}
use Rattle.cs_model.specs.Step.{saved_fault, Ending, Steps, Quit, Idle, Stopped, Step, Ran, go_on, one_more, run_by, stops, step, ready, after_due, stop_in, finish, finish_of, completed, ends_with, add_count, shape_fault, birth_limit, idle, bytecode, with_kept}
use Rattle.cs_model.specs.Built.{built_step, is_built, is_built_bytecode}
use Rattle.cs_model.specs.Report.{no_place, place_of}
use Rattle.cs_model.proofs.Keeping.{Keeps-trans}
use Rattle.cs_model.proofs.Building.{built_step_alike}
use Rattle.cs_model.proofs.Agreeing.{place_of-kept, is_idle-kept}
use Rattle.cs_acts.specs.declared.act.Full.{Full as Why}
use Rattle.cs_acts.specs.declared.act.Full.TheVariants.{Heap, Stack}
use Rattle.cs_acts.specs.Layout.{IsFresh, IsLaidOut, Layout}
use Rattle.cs_acts.specs.Names.{Store}
use Rattle.cs_heap.specs.Object.{used}
use Rattle.cs_acts.specs.Ready.{IsReady, IsSound}
use Rattle.cs_core.specs.declared.step.StepEnd.TheVariants as turn
use Rattle.cs_acts.specs.declared.run.Phase.{Phase}
use Rattle.cs_acts.specs.declared.run.Phase.TheVariants as phase
use Rattle.cs_acts.specs.declared.run.Place.{Place}
use Rattle.cs_acts.specs.declared.run.RunEnd.{RunEnd}
use Rattle.cs_acts.specs.declared.run.RunEnd.TheVariants as how
use Rattle.cs_word.specs.declared.Oop.{Oop}
use Rattle.cs_core.specs.Stepped.{CausesNoRoom, IsNext, Needs, whole, unheld, untold, Overfills, Completes, LeadsToNone, StepGives, Turn, can_begin, least_of_return, next_turn, run_at, state_at, step_at}
use Rattle.cs_core.proofs.Growing.{part_of_more, run_writes}
use Rattle.cs_core.specs.Deep.{AllBegun, IsDeep, most_of, run_of, state_of}
use Rattle.cs_core.specs.Stacked.{IsStacked}
use Rattle.cs_core.specs.Running.{HasNoRoom, InPhase, IsCutShort, IsStackOf, RunGives, RunReaches, StandsAt, StandsFor, WritesSince, as_kept, at_rest, ending_at_rest, ending_of, output_of, phase_behind, place_by}
use Rattle.cs_core.specs.VmParts.{Seen, seen_at}
use Rattle.cs_core.proofs.Carrying.{overfills_too}
use Rattle.cs_core.proofs.Deepening.{begun_at_start, begun_on, is_deep}
use Rattle.cs_core.proofs.Laying.{fills_by_words, page_words_kept}
use Rattle.cs_core.proofs.Stacking.{fresh_stacked}
use Rattle.cs_core.proofs.Nexting.{begin_kept, next_kept, next_same}
use Rattle.cs_core.proofs.Places.{idle_place}
use Rattle.cs_core.proofs.Turning.{idle_stays, next_stays}

-- ---- a run that has ended stays

go_stays : (f : State → Step) (r : Ran) (e : Ending) → (e ≡ Steps → ⊥) → go_on f r e ≡ r
go_stays f r Steps h = absurd (h refl)
go_stays f r Quit h = refl
go_stays f r Idle h = refl
go_stays f r (Stopped reason) h = refl

stays : (f : State → Step) (i j n : ℕ) (s : State) → n ≡ i + j → ((run_by f i s).ending ≡ Steps → ⊥) → run_by f n s ≡ run_by f i s
unfolding run_by
stays f i zero n s e h = let is : n ≡ i = omega arith in ap (λ (m : ℕ). run_by f m s) is
stays f i (suc j) zero s e h = absurd (omega arith)
stays f i (suc j) (suc n) s e h =
    let before : n ≡ i + j = omega arith in
    let r = stays f i j n s before h in
    subst (λ (r : Ran). go_on f r r.ending ≡ run_by f i s) (sym r) (go_stays f (run_by f i s) (run_by f i s).ending h)

more_by : (f : State → Step) (n : ℕ) (s : State) → (run_by f n s).ending ≡ Steps → run_by f (n + 1) s ≡ one_more (run_by f n s) (f (run_by f n s).state)
unfolding run_by
more_by f n s h =
    let one : n + 1 ≡ suc n = omega arith in
    ap (λ (m : ℕ). run_by f m s) one ∙ ap (λ (e : Ending). go_on f (run_by f n s) e) h

-- ---- a step that stops leaves the state

abbrev Back : State → Step → Type 0
Back s t = (reason : Reason) → t.ending ≡ Stopped reason → t.state ≡ s

if_back : (s : State) (c : Bool) (x y : Step) → Back s x → Back s y → Back s (if c then x else y)
if_back s true x y a b = a
if_back s false x y a b = b

given_back : {A : Type 0} (s : State) (o : Option A) (none : Step) (some : A → Step) → Back s none → ((a : A) → Back s (some a)) → Back s (given o none some)
given_back s None none some a b = a
given_back s (Some x) none some a b = b x

completed_back : (s : State) (e : Ending) (r : Result) → ((reason : Reason) → e ≡ Stopped reason → ⊥) → Back s (completed s e r)
completed_back s e r h = given_back s (shape_fault r.out.state) (ends_with e r) (λ reason. stops s r.out.count reason) (λ reason x. absurd (h reason x)) (λ a reason x. refl)

finish_back : (s : State) (r : Result) (e : End) → Back s (finish s r e)
finish_back s r ends.Done = completed_back s Steps r (λ reason x. cc)
finish_back s r (ends.Send selector args above) = completed_back s Steps r (λ reason x. cc)
finish_back s r (ends.Return value local) = completed_back s Steps r (λ reason x. cc)
finish_back s r ends.Entered = completed_back s Steps r (λ reason x. cc)
finish_back s r (ends.Primitive method number) = completed_back s Steps r (λ reason x. cc)
finish_back s r (ends.Call special args) = completed_back s Steps r (λ reason x. cc)
finish_back s r ends.Answer = completed_back s Steps r (λ reason x. cc)
finish_back s r ends.Fail = completed_back s Steps r (λ reason x. cc)
finish_back s r ends.Quit = completed_back s Quit r (λ reason x. cc)
finish_back s r ends.Snapshot = given_back s (saved_fault r.snapshot) (completed s Steps r) (λ reason. stops s r.out.count reason) (completed_back s Steps r (λ reason x. cc)) (λ a reason x. refl)
finish_back s r (ends.Stopped why) = λ reason x. refl

ready_back : (s : State) (h : Happened) → Back s (ready s h)
ready_back s h =
    if_back s (is_idle h.state.kept) (idle h) (add_count h.count (finish_of s (bytecode h.state))) (λ reason x. cc) (finish_back s (bytecode h.state) (bytecode h.state).out.end)

step_back : (s : State) → Back s (step s)
unfolding step
step_back s =
    if_back s (nat_lt birth_limit s.kept.rest.next) (stops s no_count why.BirthLimit) (after_due s (due s)) (λ reason x. refl)
    (given_back s (stop_in (due s).end) (ready s (due s)) (λ reason. stops s (due s).count reason) (ready_back s (due s)) (λ a reason x. refl))

built_back : (s : State) → Back s (built_step s)
unfolding built_step
built_back s = if_back s (is_built s) (step s) (stops s no_count why.NotBuilt) (step_back s) (λ reason x. refl)

-- ---- a step where no process is active

chosen : {A : Type 0} (b i c : Bool) (x y z w : A) → i ≡ true → (if (b || i || c) then (if b then x else (if i then y else z)) else w) ≡ (if b then x else y)
chosen true true true x y z w h = refl
chosen true true false x y z w h = refl
chosen true false true x y z w h = refl
chosen true false false x y z w h = refl
chosen false true true x y z w h = refl
chosen false true false x y z w h = refl
chosen false false true x y z w h = absurd (cc)
chosen false false false x y z w h = absurd (cc)

idle_step : (k : Kept) (output : List ℕ) (steps : ℕ) → is_idle k ≡ true
    → step_at k output steps ≡ (if nat_lt birth_limit k.rest.next then stops (state_at k output steps) no_count why.BirthLimit else idle (happened (state_at k output steps)))
unfolding built_step is_built step due due_of
idle_step k output steps h = chosen (nat_lt birth_limit k.rest.next) (is_idle k) (is_built_bytecode k) _ _ _ _ h

idle_ending : (s : State) (b : Bool) → (if b then stops s no_count why.BirthLimit else idle (happened s)).ending ≡ (if b then Stopped why.BirthLimit else Idle)
idle_ending s true = refl
idle_ending s false = refl

idle_state : (s t : State) (b : Bool) → t ≡ s → (if b then stops s no_count why.BirthLimit else idle (happened t)).state ≡ s
idle_state s t true e = refl
idle_state s t false e = e

not_steps : (b : Bool) → (if b then Stopped why.BirthLimit else Idle) ≡ Steps → ⊥
not_steps true h = cc
not_steps false h = cc

-- a run of n steps that has no active process behind the first i of them
record Rests (k : Kept) (i n : ℕ) : Type 0 where
  pub ending : (run_of k n).ending ≡ ending_at_rest (run_of k i).state.kept.rest.next i n
  pub state : (run_of k n).state ≡ (run_of k i).state

state_is : (s : State) (output : List ℕ) (i : ℕ) → s.run ≡ run_at output i → s ≡ state_at s.kept output i
state_is s output i h = ap (λ (r : Run). with_kept s.kept r) h

rests_at : (k : Kept) (output : List ℕ) (i n : ℕ) (b : Bool) → (i == n) ≡ b → i ≤ n → (run_of k i).ending ≡ Steps → (run_of k i).state.run ≡ run_at output i → is_idle (run_of k i).state.kept ≡ true
    → Rests k i n
rests_at k output i n true e within ended run is_none =
    let same : n ≡ i = sym (eqb-true i n e) in
    record {
      ending = ap (λ (m : ℕ). (run_of k m).ending) same ∙ ended ∙ sym (ap (λ (b : Bool). if b then Steps else (if nat_lt birth_limit (run_of k i).state.kept.rest.next then Stopped why.BirthLimit else Idle)) e);
      state = ap (λ (m : ℕ). (run_of k m).state) same;
    }
rests_at k output i n false e within ended run is_none =
    let r = run_of k i in
    let v : Kept = r.state.kept in
    let s : State = state_at v output i in
    let b : Bool = nat_lt birth_limit v.rest.next in
    let at : r.state ≡ s = state_is r.state output i run in
    let more : run_of k (i + 1) ≡ one_more r (built_step r.state) = more_by built_step i (state_at k [] 0) ended in
    let done : built_step r.state ≡ (if b then stops s no_count why.BirthLimit else idle (happened s)) = ap built_step at ∙ idle_step v output i is_none in
    let ending : (run_of k (i + 1)).ending ≡ (if b then Stopped why.BirthLimit else Idle) = ap (λ (r : Ran). r.ending) more ∙ ap (λ (t : Step). t.ending) done ∙ idle_ending s b in
    let state : (run_of k (i + 1)).state ≡ r.state = ap (λ (r : Ran). r.state) more ∙ ap (λ (t : Step). t.state) done ∙ idle_state s s b refl ∙ sym at in
    let other : i ≡ n → ⊥ = eqb-false i n e in
    let apart : n ≡ (i + 1) + (n - (i + 1)) = omega arith in
    let stay : run_of k n ≡ run_of k (i + 1) = stays built_step (i + 1) (n - (i + 1)) n (state_at k [] 0) apart (λ h. not_steps b (sym ending ∙ h)) in
    record {
      ending = ap (λ (r : Ran). r.ending) stay ∙ ending ∙ sym (ap (λ (c : Bool). if c then Steps else (if b then Stopped why.BirthLimit else Idle)) e);
      state = ap (λ (r : Ran). r.state) stay ∙ state;
    }

-- ---- what is written

appends_none : (old : Option (List ℕ)) → Appends old old []
appends_none None = refl
appends_none (Some bytes) = ap Some (sym (append-nil bytes))

since_by : (k : Kept) (j n : ℕ) (old new : Option (List ℕ)) (since : List ℕ) → output_of k n ≡ output_of k j ++ since → Appends old new since → WritesSince (output_of k j) (output_of k n) old new
since_by k j n old new since more written = record { bytes = since; more = more; written = written }

append_part : (old now new : Option (List ℕ)) (xs ys : List ℕ) → Appends old now xs → AppendsPart now new ys → AppendsPart old new (xs ++ ys)
append_part old now new xs ys h g =
    let long : length (xs ++ ys) ≡ length xs + length ys = length-append xs ys in
    let below : length xs + g.0 < length (xs ++ ys) = omega (arith, g.1) in
    let first : take (length xs) (xs ++ ys) ≡ xs = take_at xs ys (length xs) refl in
    let rest : drop (length xs) (xs ++ ys) ≡ ys = drop_at xs ys (length xs) refl in
    let parts : take (length xs + g.0) (xs ++ ys) ≡ xs ++ take g.0 ys =
    take-add (length xs) g.0 (xs ++ ys) ∙ ap (λ (zs : List ℕ). zs ++ take g.0 (drop (length xs) (xs ++ ys))) first ∙ ap (λ (zs : List ℕ). xs ++ take g.0 zs) rest in
    (length xs + g.0, below, subst (λ (zs : List ℕ). Appends old new zs) (sym parts) (appends_then old now new xs (take g.0 ys) h g.2))

-- ---- at rest

rest_ends : (i n next : ℕ) (e : Ending) → ending_at_rest next i n ≡ e → e ≡ Steps → i ≡ n
rest_ends i n next e is steps = go (i == n) refl (is ∙ steps)
  where
    go : (b : Bool) → (i == n) ≡ b → (if b then Steps else (if nat_lt birth_limit next then Stopped why.BirthLimit else Idle)) ≡ Steps → i ≡ n
    go true same h = eqb-true i n same
    go false other h = absurd (not_steps (nat_lt birth_limit next) h)

rest_not_quit : (i n next : ℕ) → ending_at_rest next i n ≡ Quit → ⊥
rest_not_quit i n next = go (i == n) (nat_lt birth_limit next)
  where
    go : (b c : Bool) → (if b then Steps else (if c then Stopped why.BirthLimit else Idle)) ≡ Quit → ⊥
    go true c h = cc
    go false true h = cc
    go false false h = cc

-- a run on from step j that no process is active in behind i steps, in a world that stands for its state
pub record IsResting (k : Kept) (j i : ℕ) (old new : Option (List ℕ)) (v : Kept) : Type 0 where
  pub since : List ℕ
  pub ending : (run_of k i).ending ≡ Steps
  pub run : (run_of k i).state.run ≡ run_at (output_of k j ++ since) i
  pub written : Appends old new since
  pub none : is_idle v ≡ true
  pub world : StandsFor v (state_of k i)

stands_idle : (v m : Kept) → is_idle v ≡ true → StandsFor v m → is_idle m ≡ true
stands_idle v m none (as_kept keeps) = is_idle-kept v m keeps ∙ none
stands_idle v m none (at_rest idle keeps) = idle

stands_next : (v m : Kept) → StandsFor v m → m.rest.next ≡ v.rest.next
stands_next v m (as_kept keeps) = ap (λ (r : Rest). r.next) (sym keeps.rest)
stands_next v m (at_rest idle keeps) = ap (λ (r : Rest). r.next) (sym keeps.rest) ∙ next_stays v

module _ {k : Kept} {j i : ℕ} {old new : Option (List ℕ)} {v : Kept} (n : ℕ) (a : Seen) (s : Store) (l : Option Layout) (place : Place) (within : i ≤ n) (h : IsResting k j i old new v) (no : place_by place ≡ no_place) where
  rests : Rests k i n
  rests = rests_at k (output_of k j ++ h.since) i n (i == n) refl within h.ending h.run (stands_idle v (state_of k i) h.none h.world)

  resting_run : (run_of k n).state.run ≡ run_at (output_of k j ++ h.since) i
  resting_run = ap (λ (s : State). s.run) rests.state ∙ h.run

  resting_output : output_of k n ≡ output_of k j ++ h.since
  resting_output = ap (λ (q : Run). q.output) resting_run

  resting_world : StandsFor v (state_of k n)
  resting_world = subst (λ (s : State). StandsFor v s.kept) (sym rests.state) h.world

  resting_reaches : (e : Ending) (p : Phase) → ending_at_rest v.rest.next i n ≡ e → RunReaches k j n old new (seen_at s v l i place p) e
  resting_reaches e p is = record {
    ended = rests.ending ∙ ap (λ (b : ℕ). ending_at_rest b i n) (stands_next v (state_of k i) h.world) ∙ is;
    steps = ap (λ (q : Run). q.steps) resting_run;
    place = ap (λ (s : State). place_of s.kept) rests.state ∙ idle_place (state_of k i) (stands_idle v (state_of k i) h.none h.world) ∙ sym no;
    written = since_by k j n old new h.since resting_output h.written;
  }

  resting_stands : (e : Ending) (p : Phase) → ending_at_rest v.rest.next i n ≡ e → (p ≡ phase.Ready → e ≡ Steps) → StandsAt k n (seen_at s v l i place p)
  resting_stands e p is ready = record {
    world = resting_world;
    run = resting_run ∙ ap (λ (bytes : List ℕ). run_at bytes i) (sym resting_output);
    ending = λ at. (resting_reaches e p is).ended ∙ ready at;
    counted = λ at. rest_ends i n v.rest.next e is (ready at);
  }

  rests_give : (end : RunEnd) → ending_of end ≡ Some (ending_at_rest v.rest.next i n) → RunGives k j n old new a (seen_at s v l i place (phase_behind end)) end
  rests_give how.Steps is =
      let e : ending_at_rest v.rest.next i n ≡ Steps = cc in
      (resting_reaches Steps phase.Ready e, resting_stands Steps phase.Ready e (λ at. refl), λ held active. absurd (false≢true (sym active ∙ h.none)))
  rests_give how.Quit is = let e : ending_at_rest v.rest.next i n ≡ Quit = cc in absurd (rest_not_quit i n v.rest.next e)
  rests_give how.Idle is =
      let e : ending_at_rest v.rest.next i n ≡ Idle = cc in
      (resting_reaches Idle phase.Idle e, resting_stands Idle phase.Idle e (λ at. absurd (cc)))
  rests_give how.Snapshot is = absurd (cc)
  rests_give (how.Stopped reason) is =
      let e : ending_at_rest v.rest.next i n ≡ Stopped reason = cc in
      (resting_reaches (Stopped reason) phase.Over e, λ none. resting_world)
  rests_give (how.Full why) is = absurd (cc)
  rests_give how.WriteFault is = absurd (cc)

  pub rests_here : (m : ℕ) (end : RunEnd) → m ≡ i → ending_of end ≡ Some (ending_at_rest v.rest.next i n) → RunGives k j n old new a (seen_at s v l m place (phase_behind end)) end
  rests_here m end same is = subst (λ (m : ℕ). RunGives k j n old new a (seen_at s v l m place (phase_behind end)) end) (sym same) (rests_give end is)

-- what holds of the world then
pub rest_follows : (s : Store) (v : Kept) (i n : ℕ) (end : RunEnd) → IsSound s v → is_idle v ≡ true → ending_of end ≡ Some (ending_at_rest v.rest.next i n) → InPhase (phase_behind end) s v
rest_follows s v i n how.Steps sound none is = (sound, λ active. absurd (false≢true (sym active ∙ none)))
rest_follows s v i n how.Quit sound none is = let e : ending_at_rest v.rest.next i n ≡ Quit = cc in absurd (rest_not_quit i n v.rest.next e)
rest_follows s v i n how.Idle sound none is = sound
rest_follows s v i n how.Snapshot sound none is = absurd (cc)
rest_follows s v i n (how.Stopped reason) sound none is = tt
rest_follows s v i n (how.Full why) sound none is = tt
rest_follows s v i n how.WriteFault sound none is = tt

-- ---- a run so far

-- So many steps of the run from k are done, on from step j, and the world keeps the state behind them. Where the pages were the stack of
-- the run before, they are.
pub record Goes (k : Kept) (j : ℕ) (stack : Type 0) (old now : Option (List ℕ)) (i : ℕ) (s : Store) (v : Kept) (l : Option Layout) : Type 0 where
  pub since : List ℕ
  pub ending : (run_of k i).ending ≡ Steps
  pub run : (run_of k i).state.run ≡ run_at (output_of k j ++ since) i
  pub written : Appends old now since
  pub keeps : Keeps v (state_of k i)
  pub begun : stack → AllBegun k i l
  pub stacked : stack → IsLaidOut s v l → IsStacked v l

started_ending : (k : Kept) → (run_of k 0).ending ≡ Steps
unfolding run_by
started_ending k = refl

started_state : (k : Kept) → (run_of k 0).state ≡ state_at k [] 0
unfolding run_by
started_state k = refl

-- a machine that has done nothing yet
pub starts : (v k : Kept) (s : Store) (l : Option Layout) (place : Place) → Keeps v k → StandsAt k 0 (seen_at s v l 0 place phase.Ready)
starts v k s l place keeps = record {
  world = subst (λ (x : State). StandsFor v x.kept) (sym (started_state k)) (as_kept keeps);
  run = ap (λ (x : State). x.run) (started_state k) ∙ sym (ap (λ (x : State). run_at x.run.output 0) (started_state k));
  ending = λ at. started_ending k;
  counted = λ at. refl;
}

fresh_kept : (v k : Kept) (l : Option Layout) → Keeps v k → IsFresh v l → IsFresh k l
fresh_kept v k None keeps fresh = tt
fresh_kept v k (Some l) keeps fresh = λ birth is. ap (λ (r : Rest). r.active) (sym keeps.rest) ∙ fresh birth is

pub starts_stack : (v k : Kept) (s : Store) (l : Option Layout) (place : Place) → (is_idle v ≡ false → IsRunning v) → Keeps v k → IsFresh v l → IsStackOf k 0 (seen_at s v l 0 place phase.Ready)
starts_stack v k s l place running keeps fresh = λ active. record {
  begun = begun_at_start k l (fresh_kept v k l keeps fresh);
  stacked = λ laid. fresh_stacked s v l (running active) fresh laid;
}

keeps_active : (v m : Kept) → is_idle v ≡ false → StandsFor v m → Keeps v m
keeps_active v m active (as_kept keeps) = keeps
keeps_active v m active (at_rest idle keeps) =
    let is : without_context v ≡ v = rw active in
    subst (λ (x : Kept). Keeps x m) is keeps

pub begins : (k : Kept) (j : ℕ) (old : Option (List ℕ)) (a : Seen) → a.phase ≡ phase.Ready → is_idle a.view ≡ false → StandsAt k j a → Goes k j (IsStackOf k j a) old old a.steps a.stored a.view a.layout
begins k j old a ready active h =
    let at = h.counted ready in
    record {
      since = [];
      ending = ap (λ (n : ℕ). (run_of k n).ending) at ∙ h.ending ready;
      run = ap (λ (n : ℕ). (run_of k n).state.run) at ∙ h.run ∙ ap (λ (bytes : List ℕ). run_at bytes a.steps) (sym (append-nil (output_of k j)));
      written = appends_none old;
      keeps = subst (λ (n : ℕ). Keeps a.view (state_of k n)) (sym at) (keeps_active a.view (state_of k j) active h.world);
      begun = λ held. subst (λ (n : ℕ). AllBegun k n a.layout) (sym at) (held active).begun;
      stacked = λ held. (held active).stacked;
    }

pub begins_idle : (k : Kept) (j : ℕ) (old : Option (List ℕ)) (a : Seen) → a.phase ≡ phase.Ready → is_idle a.view ≡ true → StandsAt k j a → IsResting k j a.steps old old a.view
begins_idle k j old a ready none h =
    let at = h.counted ready in
    record {
      since = [];
      ending = ap (λ (n : ℕ). (run_of k n).ending) at ∙ h.ending ready;
      run = ap (λ (n : ℕ). (run_of k n).state.run) at ∙ h.run ∙ ap (λ (bytes : List ℕ). run_at bytes a.steps) (sym (append-nil (output_of k j)));
      written = appends_none old;
      none = none;
      world = subst (λ (n : ℕ). StandsFor a.view (state_of k n)) (sym at) h.world;
    }

-- the step that follows
record Follows (k : Kept) (i : ℕ) (t : Step) : Type 0 where
  pub ending : (run_of k (i + 1)).ending ≡ t.ending
  pub run : (run_of k (i + 1)).state.run ≡ t.state.run
  pub keeps : Keeps t.state.kept (run_of k (i + 1)).state.kept

idle_without : (w : Kept) → is_idle (without_context w) ≡ is_idle w
idle_without w = go (is_idle w) refl
  where
    go : (b : Bool) → is_idle w ≡ b → is_idle (without_context w) ≡ is_idle w
    go true e = idle_stays w e ∙ sym e
    go false e = let is : without_context w ≡ w = rw e in ap is_idle is

-- a step leaves no process active in the world either
pub left_idle : (v w : Kept) → LeadsToNone v w → is_idle w ≡ true
left_idle v w leads =
    let none = leads [] 0 in
    sym (idle_without w) ∙ sym (is_idle-kept (without_context w) _ none.2) ∙ none.0

module _ {k : Kept} {j : ℕ} {stack : Type 0} {old now : Option (List ℕ)} {i : ℕ} {s : Store} {v : Kept} {l : Option Layout} (h : Goes k j stack old now i s v l) where
  sofar : List ℕ
  sofar = output_of k j ++ h.since

  sofar_is : output_of k i ≡ output_of k j ++ h.since
  sofar_is = ap (λ (q : Run). q.output) h.run

  next_alike : AlikeStep v (step_at v (output_of k j ++ h.since) i) (built_step (run_of k i).state)
  next_alike = built_step_alike (record { kept = h.keeps; run = sym h.run })

  more : run_of k (i + 1) ≡ one_more (run_of k i) (built_step (run_of k i).state)
  more = more_by built_step i (state_at k [] 0) h.ending

  follows : Follows k i (step_at v (output_of k j ++ h.since) i)
  follows =
      let a = next_alike in
      record {
        ending = ap (λ (r : Ran). r.ending) more ∙ sym a.ending;
        run = ap (λ (r : Ran). r.state.run) more ∙ sym a.state.run;
        keeps = subst (λ (r : Ran). Keeps (step_at v (output_of k j ++ h.since) i).state.kept r.state.kept) (sym more) a.state.kept;
      }

  -- the run behind the step that follows, where it is completed
  longer : (bytes : List ℕ) → Completes v bytes → (run_of k (i + 1)).state.run ≡ run_at (output_of k j ++ (h.since ++ bytes)) (i + 1)
  longer bytes done = follows.run ∙ (done (output_of k j ++ h.since) i).1 ∙ ap (λ (out : List ℕ). run_at out (i + 1)) (append_assoc (output_of k j) h.since bytes)

  pub goes_on : {new : Option (List ℕ)} {t : Store} {w : Kept} {n : Option Layout} (p : Oop) → IsLaidOut s v l → StepGives v l now new t w n (turn.Active p) → Goes k j stack old new (i + 1) t w n
  goes_on {new = new} {w = w} {n = n} p laid g =
      let f = follows in
      let keeps = Keeps-trans (g.3 (output_of k j ++ h.since) i) f.keeps in
      record {
        since = h.since ++ g.0;
        ending = f.ending ∙ (g.2 (output_of k j ++ h.since) i).0;
        run = longer g.0 g.2;
        written = appends_then old now new h.since g.0 h.written g.1;
        keeps = keeps;
        begun = λ held. begun_on k w i l n (ap (λ (r : Rest). r.active) (sym keeps.rest)) (h.begun held) g.6.frames;
        stacked = λ held there. g.6.stacked (h.stacked held laid) there;
      }

  pub goes_idle : {new : Option (List ℕ)} {t : Store} {w : Kept} (b : Option Layout) → StepGives v l now new t w b turn.Idle → IsResting k j (i + 1) old new w
  goes_idle {new = new} {w = w} b g =
      let f = follows in
      let none = g.3 (output_of k j ++ h.since) i in
      record {
        since = h.since ++ g.0;
        ending = f.ending ∙ (g.2 (output_of k j ++ h.since) i).0;
        run = longer g.0 g.2;
        written = appends_then old now new h.since g.0 h.written g.1;
        none = left_idle v w g.3;
        world = at_rest (is_idle-kept _ _ f.keeps ∙ none.0) (Keeps-trans none.2 f.keeps);
      }

  pub stops_here : {new : Option (List ℕ)} {t : Store} {w : Kept} {b : Option Layout} (n : ℕ) (a : Seen) (place : Place) (reason : Reason) → i < n → StepGives v l now new t w b (turn.Stopped reason) → place_of v ≡ place_by place → (can_begin v ≡ false → w ≡ v)
      → RunGives k j n old new a (seen_at t w b i place phase.Over) (how.Stopped reason)
  stops_here {new = new} {w = w} n a place reason below g stands untouched =
      let stopped : (run_of k (i + 1)).ending ≡ Stopped reason = follows.ending ∙ g.1 (output_of k j ++ h.since) i in
      let apart : n ≡ (i + 1) + (n - (i + 1)) = omega (arith, below) in
      let stay : run_of k n ≡ run_of k (i + 1) = stays built_step (i + 1) (n - (i + 1)) n (state_at k [] 0) apart (λ e. let no : Stopped reason ≡ Steps = sym stopped ∙ e in cc) in
      let back : (built_step (run_of k i).state).state ≡ (run_of k i).state = built_back (run_of k i).state reason (sym (ap (λ (r : Ran). r.ending) more) ∙ stopped) in
      let state : (run_of k n).state ≡ (run_of k i).state = ap (λ (r : Ran). r.state) stay ∙ ap (λ (r : Ran). r.state) more ∙ back in
      let runs : (run_of k n).state.run ≡ run_at (output_of k j ++ h.since) i = ap (λ (s : State). s.run) state ∙ h.run in (
        record {
          ended = ap (λ (r : Ran). r.ending) stay ∙ stopped;
          steps = ap (λ (q : Run). q.steps) runs;
          place = ap (λ (s : State). place_of s.kept) state ∙ place_of-kept v (state_of k i) h.keeps ∙ stands;
          written = since_by k j n old new h.since (ap (λ (q : Run). q.output) runs) (subst (λ (o : Option (List ℕ)). Appends old o h.since) (sym g.0) h.written);
        },
        λ none.
            let there : can_begin v ≡ false = sym (begin_kept v (state_of k i) h.keeps) ∙ ap (λ (s : State). can_begin s.kept) (sym state) ∙ none in
            subst (λ (s : State). StandsFor w s.kept) (sym state) (subst (λ (u : Kept). StandsFor u (state_of k i)) (sym (untouched there)) (as_kept h.keeps)),
      )

  cut_short : (n : ℕ) (t : Store) (w : Kept) (b : Option Layout) (place : Place) (p : Phase) → i < n → place_of v ≡ place_by place → IsCutShort k n (seen_at t w b i place p)
  cut_short n t w b place p below stands = record {
    fewer = below;
    ending = h.ending;
    steps = ap (λ (q : Run). q.steps) h.run;
    place = place_of-kept v (state_of k i) h.keeps ∙ stands;
  }

  pub breaks_off : {new : Option (List ℕ)} {t : Store} {w : Kept} {b : Option Layout} (n : ℕ) (a : Seen) (place : Place) → i < n → StepGives v l now new t w b turn.WriteFault → place_of v ≡ place_by place
      → RunGives k j n old new a (seen_at t w b i place phase.Over) how.WriteFault
  breaks_off {new = new} {t = t} {w = w} {b = b} n a place below g stands =
      let output : output_of k (i + 1) ≡ output_of k j ++ (h.since ++ g.0) = ap (λ (q : Run). q.output) (longer g.0 g.2) in
      let later = run_writes (i + 1) (n - (i + 1)) n (state_at k [] 0) refl (omega (arith, below)) in
      let part : AppendsPart old new (h.since ++ g.0) = append_part old now new h.since g.0 h.written g.1 in (
        record {
          short = cut_short n t w b place phase.Over below stands;
          since = h.since;
          before = sofar_is;
          bytes = g.0;
          next = output ∙ sym (append_assoc (output_of k j) h.since g.0) ∙ ap (λ (out : List ℕ). out ++ g.0) (sym sofar_is);
          part = g.1.0;
          less = g.1.1;
          written = appends_then old now new h.since (take g.1.0 g.0) h.written g.1.2;
        },
        record {
          bytes = (h.since ++ g.0) ++ later.more;
          more = later.output ∙ ap (λ (out : List ℕ). out ++ later.more) output ∙ append_assoc (output_of k j) (h.since ++ g.0) later.more;
          written = part_of_more old new (h.since ++ g.0) later.more ((h.since ++ g.0) ++ later.more) refl part;
        },
      )

  pub finishes : (n : ℕ) (a : Seen) (place : Place) → i ≡ n → place_of v ≡ place_by place → (IsStackOf k j a → stack) → RunGives k j n old now a (seen_at s v l n place phase.Ready) how.Steps
  finishes n a place all stands held =
      subst (λ (n : ℕ). RunGives k j n old now a (seen_at s v l n place phase.Ready) how.Steps) all (
        record {
          ended = h.ending;
          steps = ap (λ (q : Run). q.steps) h.run;
          place = place_of-kept v (state_of k i) h.keeps ∙ stands;
          written = since_by k j i old now h.since sofar_is h.written;
        },
        record {
          world = as_kept h.keeps;
          run = h.run ∙ ap (λ (out : List ℕ). run_at out i) (sym sofar_is);
          ending = λ at. h.ending;
          counted = λ at. refl;
        },
        λ was active. record { begun = h.begun (held was); stacked = h.stacked (held was) },
      )

-- ---- no room

-- the rule of room speaks of the pages alone that there may be
most_room : (t : Store) (l : Option Layout) (made : ℕ) → IfSome l (λ laid. t.memory.limit < used t.memory.objects + made + 26304 * laid.most) → IfSome (most_of l) (λ n. t.memory.limit < used t.memory.objects + made + 26304 * n)
most_room t None made h = tt
most_room t (Some l) made h = h

by_most : (t : Store) (l : Option Layout) (made : ℕ) → IfSome (most_of l) (λ n. t.memory.limit < used t.memory.objects + made + 26304 * n) → IfSome l (λ laid. t.memory.limit < used t.memory.objects + made + 26304 * laid.most)
by_most t None made h = tt
by_most t (Some l) made h = h

-- and so does the depth of a run
deep_by_most : (k : Kept) (n : ℕ) (l : Option Layout) → IsSomeAnd (most_of l) (λ most. IsDeep most k n) → IsSomeAnd l (λ laid. IsDeep laid.most k n)
deep_by_most k n None h = h
deep_by_most k n (Some l) h = h

abbrev IsBuiltEnd : Turn → Type 0
IsBuiltEnd t = (t.built ≡ true) × (t.result.out.end ≡ ends.Entered)

pub fills : {k : Kept} {j : ℕ} {stack : Type 0} {old now new : Option (List ℕ)} {i : ℕ} {s t : Store} {v w : Kept} {l : Option Layout} (b : Option Layout) (n : ℕ) (a : Seen) (place : Place) (full : Why) → Goes k j stack old now i s v l
    → most_of l ≡ most_of a.layout → i < n → IsReady s v → IsLaidOut s v l → StepGives v l now new t w b (turn.Full full) → place_of v ≡ place_by place → (IsStackOf k j a → stack)
    → RunGives k j n old new a (seen_at t w b i place phase.Over) (how.Full full)
fills {k = k} {j = j} {old = old} {new = new} {i = i} {s = s} {t = t} {v = v} {w = w} {l = l} b n a place full h most below ready laid g stands held = record {
  short = cut_short h n t w b place phase.Over below stands;
  written = since_by k j i old new h.since (sofar_is h) (subst (λ (o : Option (List ℕ)). Appends old o h.since) (sym g.0) h.written);
  room = room full lacks (g.2 output i).cause;
}
  where
    output : List ℕ
    output = output_of k j ++ h.since

    m : State
    m = (run_of k i).state

    next : IsNext m.kept
    next = next_kept v m.kept h.keeps g.1

    -- what v has no room for, the state of the run has none for
    lacks : Overfills t l m.kept (next_turn m) full
    lacks = subst (λ (r : Run). Overfills t l m.kept (next_turn (with_kept m.kept r)) full) (sym h.run)
        (overfills_too t l v m.kept (next_turn (state_at v output i)) (next_turn (state_at m.kept output i)) full (fills_by_words v m.kept least_of_return least_of_return (page_words_kept v m.kept h.keeps) (omega arith)) (next_same v m.kept (run_at output i) h.keeps) (g.2 output i))

    entered : (o : Out) → Needs (next_turn m) Stack o → IsBuiltEnd (next_turn m)
    entered _ (whole built end) = (built, end)
    entered _ (unheld built heap stops) = absurd (cc)
    entered o (untold told is asks heap) = absurd (cc)

    room : (full : Why) → Overfills t l m.kept (next_turn m) full → CausesNoRoom t l v least_of_return (g.2 output i).out full → HasNoRoom k t a.layout (IsStackOf k j a) i full
    room Heap c cause = record {
      next = next;
      out = c.out;
      needs = c.needs;
      words = c.cause.words;
      room = by_most t a.layout c.out.count.objects (subst (λ o. IfSome o (λ n. t.memory.limit < used t.memory.objects + c.out.count.objects + 26304 * n)) most (most_room t l c.out.count.objects c.cause.room));
    }
    room Stack c cause = λ was. record {
      next = next;
      built = (entered c.out c.needs).0;
      entered = (entered c.out c.needs).1;
      deep = deep_by_most k i a.layout (subst (λ o. IsSomeAnd o (λ most. IsDeep most k i)) most (is_deep k s v i l h.keeps ready (h.stacked (held was) laid) (h.begun (held was)) cause));
    }

-- ---- faults

pub rose_before : (a b c : ℕ) → a ≤ b → Rose b c → Rose a c
rose_before a b c h g = omega (arith, h, g)

-- ---- two runs

pub reaches_on : (k : Kept) (i j n : ℕ) (old now new : Option (List ℕ)) (a b : Seen) (e : Ending) → RunReaches k i j old now a Steps → RunReaches k j n now new b e → RunReaches k i n old new b e
reaches_on k i j n old now new a b e g h = record {
  ended = h.ended;
  steps = h.steps;
  place = h.place;
  written = record {
    bytes = g.written.bytes ++ h.written.bytes;
    more = h.written.more ∙ ap (λ (xs : List ℕ). xs ++ h.written.bytes) g.written.more ∙ append_assoc (output_of k i) g.written.bytes h.written.bytes;
    written = appends_then old now new g.written.bytes h.written.bytes g.written.written h.written.written;
  };
}
