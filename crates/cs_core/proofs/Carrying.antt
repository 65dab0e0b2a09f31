-- What a part of a step gives from a state, it gives from one that this keeps.
use Rattle.std.proofs.Common.{◌≡◌, inl, inr, ℕ, ◌≤◌, Bool, true, false, refl, sym, ap, subst, ◌∙◌, arith, Option, Some, None, option_map, unwrap_or, List, [], ◌++◌}
use Rattle.std.specs.Prelude.{◌&&◌}
use Rattle.std.proofs.lemmas.List.{append-nil}
use Rattle.cs_model.specs.declared.stop.Stop.{Stop as Reason}
use Rattle.cs_model.specs.declared.stop.Stop.TheVariants as why
use Rattle.cs_model.specs.declared.instruction.Instr.{Instr}
use Rattle.cs_model.specs.Ref.{Ref}
use Rattle.cs_model.specs.State.{IsHeld, Kept, Run}
use Rattle.cs_model.specs.Keeps.{Keeps}
use Rattle.cs_model.specs.Alike.{Alike, AlikeResult}
use Rattle.cs_model.specs.End as ends
use Rattle.cs_model.specs.End.{Count, End, Out}
use Rattle.cs_model.specs.PrimRun.{Result, result}
use Rattle.cs_model.specs.Step.{Message, followed, message_in, return_in, shape_fault}
use Rattle.cs_model.specs.Return.{back}
use Rattle.cs_model.specs.Built.{is_built_op, is_built_from, is_built_out}
use Rattle.cs_model.proofs.Same.{equal, same}
use Rattle.cs_model.proofs.Keeping.{Keeps-trans}
use Rattle.cs_model.proofs.Reading.{held_if}
use Rattle.cs_model.proofs.Building.{is_built_return_same, is_built_send_same}
use Rattle.cs_model.proofs.Returning.{back_alike}
use Rattle.cs_model.proofs.Stepping.{MessageHeld, do_return_alike, do_send_alike}
use Rattle.cs_acts.specs.declared.act.Full.{Full as Why}
use Rattle.cs_acts.specs.declared.act.Full.TheVariants.{Heap}
use Rattle.cs_acts.specs.Full.{CausesFull}
use Rattle.cs_acts.specs.Layout.{Layout}
use Rattle.cs_acts.specs.Names.{Store}
use Rattle.cs_acts.specs.Ready.{IsReady}
use Rattle.cs_code.specs.Gives.{IsMade}
use Rattle.cs_model.specs.Demand.{words_held}
use Rattle.cs_unwind.specs.Back.{Asks}
use Rattle.cs_core.specs.Stepped.{CausesNoRoom, DoneIn, EndsBy, OverWithout, IsDone, IsOver, IsUnheld, Lays, Needs, whole, unheld, untold, Overfills, Turn, TurnStops, unbuilt, stopped, lost, Turns, TurnGives, returning, run_at, sending, told_by}
use Rattle.cs_core.specs.declared.step.StepEnd.{StepEnd}
use Rattle.cs_core.specs.declared.step.StepEnd.TheVariants.{Active, Idle, Stopped as Stop, Full, WriteFault}
use Rattle.cs_core.specs.Stacked.{IsStacked}
use Rattle.cs_core.proofs.Laying.{FillsToo, causes_too, state_words_kept}
use Rattle.cs_core.proofs.Stacking.{lays_before}
use Rattle.cs_core.proofs.Turning.{effect, ends_quietly, model_turn, past, shape_kept}

-- ---- turns that come to the same

-- what needs room in one out needs as much in another one
pub record IsAsMuch (a b : Out) : Type 0 where
  pub end : b.end ≡ a.end
  pub words : words_held a.state ≤ words_held b.state
  pub made : a.count.objects ≤ b.count.objects

-- where one return is told, one is told that needs as much
pub record ToldIn (b : Option Out) (o : Out) : Type 0 where
  pub out : Out
  pub is : b ≡ Some out
  pub as_much : IsAsMuch o out

abbrev pub TellsToo : Option Out → Option Out → Type 0
TellsToo a b = (o : Out) → a ≡ Some o → ToldIn b o

pub tells_nothing : (b : Option Out) → TellsToo None b
tells_nothing b o is = absurd (cc)

pub record IsSame (a b : Turn) : Type 0 where
  pub built : b.built ≡ a.built
  pub end : b.result.out.end ≡ a.result.out.end
  pub state : (v : Kept) → Keeps v a.result.out.state → Keeps v b.result.out.state
  pub shape : shape_fault b.result.out.state ≡ shape_fault a.result.out.state
  pub words : words_held a.result.out.state ≤ words_held b.result.out.state
  pub made : a.result.out.count.objects ≤ b.result.out.count.objects
  pub run : b.result.run ≡ a.result.run
  pub told : TellsToo a.told b.told

same_done : (a b : Turn) (v : Kept) (r : Run) → IsSame a b → IsDone a v r → IsDone b v r
same_done a b v r s d = record { built = s.built ∙ d.built; over = subst IsOver (sym s.end) d.over; state = s.state v d.state; run = s.run ∙ d.run }

same_stops : (a b : Turn) (reason : Reason) → IsSame a b → TurnStops a reason → TurnStops b reason
same_stops a b reason s (unbuilt built is) = unbuilt (s.built ∙ built) is
same_stops a b reason s (stopped built end) = stopped (s.built ∙ built) (s.end ∙ end)
same_stops a b reason s (lost built over fault) = lost (s.built ∙ built) (subst IsOver (sym s.end) over) (s.shape ∙ fault)

abbrev pub SameIn : Turns → Turns → Type 0
SameIn f g = (output : List ℕ) (steps : ℕ) → IsSame (f output steps) (g output steps)

done_in : (f g : Turns) (v : Kept) (bytes : List ℕ) → SameIn f g → DoneIn f v bytes → DoneIn g v bytes
done_in f g v bytes s d output steps = same_done (f output steps) (g output steps) v (run_at (output ++ bytes) steps) (s output steps) (d output steps)

unheld_too : (a b : Turn) → IsSame a b → IsUnheld a.result.out → IsUnheld b.result.out
unheld_too a b is h = (is.end ∙ h.0, omega (arith, is.made, h.1))

-- from states of which the first fills no page for which the second has room
pub overfills_too : (s : Store) (l : Option Layout) (u k : Kept) (a b : Turn) (why : Why) → FillsToo u a.least k b.least → IsSame a b → Overfills s l u a why → Overfills s l k b why
overfills_too s l u k a b why pages is h = go h.out h.needs h.cause
  where
    go : (o : Out) → Needs a why o → CausesNoRoom s l u a.least o why → Overfills s l k b why
    go _ (whole built end) cause = record {
      out = b.result.out;
      needs = whole (is.built ∙ built) (subst (OverWithout why) (sym is.end) end);
      cause = causes_too s l u k a.result.out b.result.out a.least b.least why pages is.words is.made cause;
    }
    go _ (unheld built heap stops) cause = record {
      out = b.result.out;
      needs = unheld (is.built ∙ built) heap (unheld_too a b is stops);
      cause = causes_too s l u k a.result.out b.result.out a.least b.least why pages is.words is.made cause;
    }
    go o (untold told is_told asks heap) cause =
        let t = is.told told is_told in
        record {
          out = t.out;
          needs = untold t.out t.is (subst Asks (sym t.as_much.end) asks) heap;
          cause = causes_too s l u k told t.out a.least b.least why pages t.as_much.words t.as_much.made cause;
        }

-- and one stack of pages stands where the other has one
pub carried : (f g : Turns) (u k : Kept) (l n : Option Layout) (old new : Option (List ℕ)) (s : Store) (v : Kept) (e : StepEnd) → SameIn f g
    → ((output : List ℕ) (steps : ℕ) → FillsToo u (f output steps).least k (g output steps).least) → (IsStacked k l → IsStacked u l) → TurnGives f u l old new s v n e → TurnGives g k l old new s v n e
carried f g u k l n old new s v (Active process) is pages stack (bytes, told, d, ready, shape, active, lays) = (bytes, told, done_in f g v bytes is d, ready, shape, active, lays_before u k v l n s stack lays)
carried f g u k l n old new s v Idle is pages stack (bytes, told, d, sound, shape, idle) = (bytes, told, done_in f g v bytes is d, sound, shape, idle)
carried f g u k l n old new s v (Stop reason) is pages stack (none, h) = (none, λ output steps. same_stops (f output steps) (g output steps) reason (is output steps) (h output steps))
carried f g u k l n old new s v (Full why) is pages stack (none, h) =
    (none, λ output steps. overfills_too s l u k (f output steps) (g output steps) why (pages output steps) (is output steps) (h output steps))
carried f g u k l n old new s v WriteFault is pages stack (bytes, told, d, shape) = (bytes, told, done_in f g v bytes is d, shape)

-- results that are alike
pub alike_as_much : {w : Kept} {a b : Out} → Alike w a b → IsAsMuch a b
alike_as_much h = record { end = sym h.end; words = state_words_kept _ _ h.keeps; made = omega (arith, ap (λ (c : Count). c.objects) h.count) }

pub alike_turns : (w : Kept) (a b : Turn) → b.built ≡ a.built → AlikeResult w a.result b.result → TellsToo a.told b.told → IsSame a b
alike_turns w a b built h told = record {
  built = built;
  end = sym h.out.end;
  state = λ v k. Keeps-trans k h.out.keeps;
  shape = shape_kept a.result.out.state b.result.out.state h.out.keeps;
  words = (alike_as_much h.out).words;
  made = (alike_as_much h.out).made;
  run = sym h.run;
  told = told;
}

-- the return of a value is told alike
pub tells_return : {u m : Kept} → Keeps u m → (x : Ref) (local : Bool) → IsHeld u x → TellsToo (Some (back u x local)) (Some (back m x local))
tells_return {u} {m} keeps x local held o is =
    let at : o ≡ back u x local = ap (λ p. unwrap_or p o) (sym is) in
    record { out = back m x local; is = refl; as_much = subst (λ o. IsAsMuch o (back m x local)) (sym at) (alike_as_much (back_alike keeps (same x held) local)) }

-- ---- the instruction is done, or stops

built_by : (k : Kept) (i : Instr) → is_built_op i.op (past k i) ≡ true → is_built_from (past k i) i.op ≡ is_built_out (effect k i)
built_by k i h = ap (λ b. b && is_built_out (effect k i)) h

-- an end that asks for nothing more
asks_nothing : (k : Kept) (i : Instr) → is_built_op i.op (past k i) ≡ true → (e : End) → (effect k i).end ≡ e → is_built_out (ends.out e (effect k i).state) ≡ true → is_built_from (past k i) i.op ≡ true
asks_nothing k i op e end h = built_by k i op ∙ ap (λ e. is_built_out (ends.out e (effect k i).state)) end ∙ h

pub done_turn : (k : Kept) (i : Instr) (l n : Option Layout) (told : Option (List ℕ)) (s : Store) (v : Kept) (e : StepEnd) → is_built_op i.op (past k i) ≡ true → (effect k i).end ≡ ends.Done → Keeps v (effect k i).state → IsReady s v
    → Lays k l s v n → EndsBy v e → TurnGives (model_turn k i) k l told told s v n e
done_turn k i l n told s v e op end keeps ready frames by = ends_quietly (model_turn k i) k v l n told s e done ready frames by
  where
    done : DoneIn (model_turn k i) v []
    done output steps =
        let is : followed (run_at output steps) (effect k i) ≡ result (effect k i) (run_at output steps) = rw end in
        record {
          built = asks_nothing k i op ends.Done end refl;
          over = subst (λ (p : Result). IsOver p.out.end) (sym is) (subst IsOver (sym end) tt);
          state = subst (λ (p : Result). Keeps v p.out.state) (sym is) keeps;
          run = ap (λ (p : Result). p.run) is ∙ ap (λ o. run_at o steps) (sym (append-nil output));
        }

-- it would be done, or stop behind what it makes, and the heap has no room for what it makes or looks at
pub full_turn : (k : Kept) (i : Instr) (l n : Option Layout) (told : Option (List ℕ)) (s : Store) (v : Kept) (full : Why) → is_built_op i.op (past k i) ≡ true → IsMade (effect k i) → full ≡ Heap
    → CausesFull s l k (effect k i).count.objects (effect k i).state Heap → TurnGives (model_turn k i) k l told told s v n (Full full)
full_turn k i l n told s v full op made heap cause = (refl, λ output steps. subst (Overfills s l k (model_turn k i output steps)) (sym heap) (overfills output steps made))
  where
    quiet : (output : List ℕ) (steps : ℕ) (e : End) → (effect k i).end ≡ e → message_in e ≡ None → return_in e ≡ None → (model_turn k i output steps).result.out ≡ effect k i
    quiet output steps e end none nowhere =
        let a : message_in (effect k i).end ≡ None = ap message_in end ∙ none in
        let b : return_in (effect k i).end ≡ None = ap return_in end ∙ nowhere in
        rw (a, b)

    overfills : (output : List ℕ) (steps : ℕ) → IsMade (effect k i) → Overfills s l k (model_turn k i output steps) Heap
    overfills output steps (inl end) =
        let is = quiet output steps ends.Done end refl refl in
        record {
          out = effect k i;
          needs = subst (Needs (model_turn k i output steps) Heap) is (whole (asks_nothing k i op ends.Done end refl) (subst (λ (o : Out). IsOver o.end) (sym is) (subst IsOver (sym end) tt)));
          cause = cause;
        }
    overfills output steps (inr stops) =
        let is = quiet output steps (ends.Stopped why.StackOver) stops.0 refl refl in
        record {
          out = effect k i;
          needs = subst (Needs (model_turn k i output steps) Heap) is (unheld (asks_nothing k i op (ends.Stopped why.StackOver) stops.0 refl) refl (subst IsUnheld (sym is) stops));
          cause = cause;
        }

pub stop_turn : (k : Kept) (i : Instr) (l n : Option Layout) (told : Option (List ℕ)) (s : Store) (v : Kept) (reason : Reason) → is_built_op i.op (past k i) ≡ true → (effect k i).end ≡ ends.Stopped reason
    → TurnGives (model_turn k i) k l told told s v n (Stop reason)
stop_turn k i l n told s v reason op end = (
  refl,
  λ output steps.
      let is : followed (run_at output steps) (effect k i) ≡ result (effect k i) (run_at output steps) = rw end in
      stopped (asks_nothing k i op (ends.Stopped reason) end refl) (ap (λ (p : Result). p.out.end) is ∙ end),
)

pub unbuilt_turn : (k : Kept) (i : Instr) (l n : Option Layout) (told : Option (List ℕ)) (s : Store) (v : Kept) → is_built_op i.op (past k i) ≡ false → TurnGives (model_turn k i) k l told told s v n (Stop why.NotBuilt)
unbuilt_turn k i l n told s v op = (refl, λ output steps. unbuilt (ap (λ b. b && is_built_out (effect k i)) op) refl)

-- ---- a message is sent, or a value returned

pub sends_same : (k : Kept) (i : Instr) (u : Kept) (m : Message) → is_built_op i.op (past k i) ≡ true → (effect k i).end ≡ ends.Send m.selector m.args m.above → Keeps u (effect k i).state → MessageHeld u m
    → SameIn (sending u m) (model_turn k i)
sends_same k i u m op end keeps held output steps =
    let a = do_send_alike keeps (run_at output steps) (same m.selector held.0) m.args (held_if keeps m.above held.1) in
    let sent = alike_turns u (sending u m output steps) (sending (effect k i).state m output steps) (equal (is_built_send_same keeps m held)) a (tells_nothing None) in
    let is : followed (run_at output steps) (effect k i) ≡ followed (run_at output steps) (record (effect k i) { end = ends.Send m.selector m.args m.above }) = ap (λ e. followed (run_at output steps) (record (effect k i) { end = e })) end in
    let built : is_built_from (past k i) i.op ≡ (sending (effect k i).state m output steps).built = built_by k i op ∙ ap (λ e. is_built_out (ends.out e (effect k i).state)) end in
    record {
      built = built ∙ sent.built;
      end = ap (λ (p : Result). p.out.end) is ∙ sent.end;
      state = λ v h. subst (λ (p : Result). Keeps v p.out.state) (sym is) (sent.state v h);
      shape = ap (λ (p : Result). shape_fault p.out.state) is ∙ sent.shape;
      words = subst (λ (p : Result). words_held (sending u m output steps).result.out.state ≤ words_held p.out.state) (sym is) sent.words;
      made = subst (λ (p : Result). (sending u m output steps).result.out.count.objects ≤ p.out.count.objects) (sym is) (omega (arith, sent.made));
      run = ap (λ (p : Result). p.run) is ∙ sent.run;
      told = tells_nothing (told_by (effect k i));
    }

pub returns_same : (k : Kept) (i : Instr) (u : Kept) (x : Ref) (local : Bool) → is_built_op i.op (past k i) ≡ true → (effect k i).end ≡ ends.Return x local → Keeps u (effect k i).state → IsHeld u x
    → SameIn (returning u x local) (model_turn k i)
returns_same k i u x local op end keeps held output steps =
    let a = do_return_alike keeps (run_at output steps) (same x held) local in
    let gone = alike_turns u (returning u x local output steps) (returning (effect k i).state x local output steps) (equal (is_built_return_same keeps (same x held) local)) a (tells_return keeps x local held) in
    let is : followed (run_at output steps) (effect k i) ≡ followed (run_at output steps) (record (effect k i) { end = ends.Return x local }) = ap (λ e. followed (run_at output steps) (record (effect k i) { end = e })) end in
    let built : is_built_from (past k i) i.op ≡ (returning (effect k i).state x local output steps).built = built_by k i op ∙ ap (λ e. is_built_out (ends.out e (effect k i).state)) end in
    record {
      built = built ∙ gone.built;
      end = ap (λ (p : Result). p.out.end) is ∙ gone.end;
      state = λ v h. subst (λ (p : Result). Keeps v p.out.state) (sym is) (gone.state v h);
      shape = ap (λ (p : Result). shape_fault p.out.state) is ∙ gone.shape;
      words = subst (λ (p : Result). words_held (returning u x local output steps).result.out.state ≤ words_held p.out.state) (sym is) gone.words;
      made = subst (λ (p : Result). (returning u x local output steps).result.out.count.objects ≤ p.out.count.objects) (sym is) (omega (arith, gone.made));
      run = ap (λ (p : Result). p.run) is ∙ gone.run;
      told = subst (TellsToo (Some (back u x local))) (sym (ap (λ e. option_map (λ p. back (effect k i).state p.0 p.1) (return_in e)) end)) (tells_return keeps x local held);
    }
