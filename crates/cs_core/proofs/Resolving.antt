-- What a send comes to in the model.
use Rattle.std.proofs.Common.{◌≡◌, ℕ, ◌≤◌, arith, Bool, true, false, refl, sym, ap, subst, ◌∙◌, Option, Some, None, List, [], nat_lt}
use Rattle.std.specs.Prelude.{if◌then◌else◌, ◌==◌}
use Rattle.std.proofs.lemmas.List.{append-nil}
use Rattle.cs_word.specs.declared.Oop.{Oop}
use Rattle.cs_model.specs.declared.stop.Stop.{Stop as Reason}
use Rattle.cs_model.specs.declared.stop.Stop.TheVariants as why
use Rattle.cs_model.specs.Ref.{Ref}
use Rattle.cs_model.specs.Obj.{argument_count, bytecodes_in, header_in, primitive_number}
use Rattle.cs_model.specs.State.{Kept, Run, object_of}
use Rattle.cs_model.specs.Keeps.{Keeps}
use Rattle.cs_model.specs.Read.{IsRunning, depth_of}
use Rattle.cs_model.specs.Lookup.{Sought}
use Rattle.cs_model.specs.Lookup as sought
use Rattle.cs_model.specs.End as ends
use Rattle.cs_model.specs.End.{Out, given}
use Rattle.cs_model.specs.Send.{begins_at, look_from}
use Rattle.cs_model.specs.PrimRun.{Result, result}
use Rattle.cs_model.specs.Step.{Message, arguments_of, result_counting, do_send, primitive_in, sent, shape_fault, try_primitive, with_kept}
use Rattle.cs_model.specs.Built.{is_built_found, is_built_number, is_built_send}
use Rattle.cs_acts.specs.declared.act.Full.{Full as Why}
use Rattle.cs_acts.specs.Layout.{LaidBy, Layout, entered}
use Rattle.cs_acts.specs.Names.{Store, name_of}
use Rattle.cs_model.specs.Demand.{words_held}
use Rattle.cs_send.specs.Resolved.{Resolved, Offered, Plain, Missing, Stops, resolve_found, resolve_of}
use Rattle.cs_send.specs.Resolved as resolved
use Rattle.cs_send.specs.Sent.{Enters, Halts, IsPlainMethod, Offers, RefusesSend, found}
use Rattle.cs_send.specs.Sent as send
use Rattle.cs_send.proofs.Sends.{send-plain}
use Rattle.cs_core.specs.Stepped.{DoneIn, EndsBy, IsOver, Lays, TurnGives, unbuilt, stopped, run_at, sending, state_at, trying}
use Rattle.cs_core.specs.declared.step.StepEnd.{StepEnd}
use Rattle.cs_core.specs.declared.step.StepEnd.TheVariants.{Stopped as Stop, Full}
use Rattle.cs_core.proofs.Carrying.{SameIn, tells_nothing}
use Rattle.cs_core.proofs.Laying.{is_same, refused}
use Rattle.cs_core.proofs.Stacking.{few_arguments, method_lays}
use Rattle.cs_core.proofs.Turning.{ends_quietly}

-- ---- whether it is built, by what it finds

abbrev pub is_built_resolved : Kept → ℕ → Resolved → Bool
is_built_resolved k args (Offered method number) = is_built_number k args (Some number)
is_built_resolved k args (Plain method) = true
is_built_resolved k args Missing = false
is_built_resolved k args (Stops reason) = true

built_found : (k : Kept) (m : Message) → is_built_send k m ≡ is_built_resolved k m.args (found k m)
unfolding resolve_of
built_found k m = go (nat_lt m.args (depth_of k)) (look_from k m.selector (begins_at k m.args m.above))
  where
    of_number : (x : Ref) (o : Option ℕ) → is_built_number k m.args o ≡ is_built_resolved k m.args (resolved.resolved_as x o)
    of_number x None = refl
    of_number x (Some n) = refl

    of_method : (x : Ref) (b : Bool) (o : Option ℕ) → (if b then is_built_number k m.args o else true) ≡ is_built_resolved k m.args (if b then resolved.resolved_as x o else Stops why.BadArgs)
    of_method x true o = of_number x o
    of_method x false o = refl

    go : (b : Bool) (l : Sought) → (if b then is_built_found k m.args l else true) ≡ is_built_resolved k m.args (if b then resolve_found k m.args l else Stops why.StackUnder)
    go true (sought.Method x) = of_method x (argument_count (header_in (object_of k x)) == m.args) (primitive_number (header_in (object_of k x)) (bytecodes_in (object_of k x)))
    go true sought.Missing = refl
    go true sought.Loop = refl
    go false l = refl

-- ---- what it comes to where no primitive is offered

sent_over : (r : Run) (o : Out) → primitive_in o.end ≡ None → sent r o ≡ result o r
sent_over r o h = ap (λ p. given p (result o r) (λ q. result_counting o.count (try_primitive (with_kept o.state r) q.0 q.1))) h

does_send : (r : Run) (k : Kept) (m : Message) → primitive_in (send.message_sent k m).end ≡ None → do_send r k m.selector m.args m.above ≡ result (send.message_sent k m) r
unfolding do_send
does_send r k m h = sent_over r (send.message_sent k m) h

-- ---- a method is entered

built_plain : (k : Kept) (args : ℕ) (x : Resolved) → IsPlainMethod x → is_built_resolved k args x ≡ true
built_plain k args (Offered method number) h = absurd h
built_plain k args (Plain method) h = refl
built_plain k args Missing h = absurd h
built_plain k args (Stops reason) h = absurd h

plain_in : (x : Resolved) → IsPlainMethod x → (method : Ref) × (x ≡ Plain method)
plain_in (Offered method number) h = absurd h
plain_in (Plain method) h = (method, refl)
plain_in Missing h = absurd h
plain_in (Stops reason) h = absurd h

-- such a method takes as many arguments as the message has
arguments_found : (k : Kept) (m : Message) (method : Ref) → found k m ≡ Plain method → arguments_of k method ≡ m.args
unfolding resolve_of
arguments_found k m method h = go (nat_lt m.args (depth_of k)) (look_from k m.selector (begins_at k m.args m.above)) h
  where
    plain : (x : Ref) (o : Option ℕ) → resolved.resolved_as x o ≡ Plain method → x ≡ method
    plain x None e = cc
    plain x (Some n) e = absurd (cc)

    counted : (x : Ref) (b : Bool) (o : Option ℕ) → (arguments_of k x == m.args) ≡ b → (if b then resolved.resolved_as x o else Stops why.BadArgs) ≡ Plain method → arguments_of k method ≡ m.args
    counted x true o e p = subst (λ y. arguments_of k y ≡ m.args) (plain x o p) (is_same (arguments_of k x) m.args e)
    counted x false o e p = absurd (cc)

    go : (b : Bool) (l : Sought) → (if b then resolve_found k m.args l else Stops why.StackUnder) ≡ Plain method → arguments_of k method ≡ m.args
    go true (sought.Method x) e = counted x (arguments_of k x == m.args) (primitive_number (header_in (object_of k x)) (bytecodes_in (object_of k x))) refl e
    go true sought.Missing e = absurd (cc)
    go true sought.Loop e = absurd (cc)
    go false l e = absurd (cc)

lays_behind : (k v : Kept) (m : Message) (l n : Option Layout) (s : Store) → IsPlainMethod (found k m) → Keeps v (send.message_sent k m).state → IsRunning k → IsRunning v → LaidBy (entered k k.rest.next) l n → Lays k l s v n
lays_behind k v m l n s plain keeps runs running laid =
    let p = plain_in (found k m) plain in
    method_lays k v p.0 m.args false (subst (λ (o : Out). Keeps v o.state) (send-plain k m.selector m.args m.above p.0 p.1) keeps) runs running (few_arguments k p.0 m.args (arguments_found k m p.0 p.1)) l n s laid

pub entered_gives : (k v : Kept) (m : Message) (l n : Option Layout) (told : Option (List ℕ)) (old s : Store) (e : StepEnd) → IsRunning k → IsPlainMethod (found k m) → Enters old s l n k v (send.message_sent k m) → EndsBy v e
    → TurnGives (sending k m) k l told told s v n e
entered_gives k v m l n told old s e runs plain h by =
    ends_quietly (sending k m) k v l n told s e done h.ready (lays_behind k v m l n s plain h.state runs h.ready.running h.laid) by
  where
    done : DoneIn (sending k m) v []
    done output steps =
        let is = does_send (run_at output steps) k m (ap primitive_in h.end) in
        record {
          built = built_found k m ∙ built_plain k m.args (found k m) plain;
          over = subst (λ (p : Result). IsOver p.out.end) (sym is) (subst IsOver (sym h.end) tt);
          state = subst (λ (p : Result). Keeps v p.out.state) (sym is) h.state;
          run = ap (λ (p : Result). p.run) is ∙ ap (λ o. run_at o steps) (sym (append-nil output));
        }

pub refused_gives : (k v : Kept) (m : Message) (l n : Option Layout) (told : Option (List ℕ)) (s : Store) (why : Why) → IsPlainMethod (found k m) → RefusesSend s l k (send.message_sent k m) why → TurnGives (sending k m) k l told told s v n (Full why)
refused_gives k v m l n told s why plain h = (
  refl,
  λ output steps.
      let is = does_send (run_at output steps) k m (ap primitive_in h.end) in
      refused s l k (sending k m output steps) (send.message_sent k m) why (built_found k m ∙ built_plain k m.args (found k m) plain) (ap (λ (p : Result). p.out) is) (omega arith) h,
)

-- ---- it stops

pub halted_gives : (k v : Kept) (m : Message) (l n : Option Layout) (told : Option (List ℕ)) (s : Store) (reason : Reason) → Halts k m reason → TurnGives (sending k m) k l told told s v n (Stop reason)
halted_gives k v m l n told s reason (send.unbuilt missing is) = (refl, λ output steps. unbuilt (built_found k m ∙ ap (is_built_resolved k m.args) missing) is)
halted_gives k v m l n told s reason (send.stopped stops is) = (
  refl,
  λ output steps.
      let end : (send.message_sent k m).end ≡ ends.Stopped reason = ap (λ (o : Out). o.end) is in
      stopped (built_found k m ∙ ap (is_built_resolved k m.args) stops) (ap (λ (p : Result). p.out.end) (does_send (run_at output steps) k m (ap primitive_in end)) ∙ end),
)

-- ---- a primitive is offered

offered : (r : Run) (k : Kept) (m : Message) (x : Ref) (number : ℕ) → send.message_sent k m ≡ ends.out (ends.Primitive x number) k → do_send r k m.selector m.args m.above ≡ result_counting ends.no_count (try_primitive (with_kept k r) x number)
unfolding do_send
offered r k m x number is = ap (sent r) is

abbrev IsNoLess : Result → Result → Type 0
IsNoLess a b = words_held a.out.state ≤ words_held b.out.state

abbrev MakesNoLess : Result → Result → Type 0
MakesNoLess a b = a.out.count.objects ≤ b.out.count.objects

none_less : (a : Result) → IsNoLess a (result_counting ends.no_count a)
none_less a = omega arith

pub offered_same : (s : Store) (k : Kept) (m : Message) (o : Oop) (number : ℕ) → Offers s k m o number → SameIn (trying k (name_of s o) number) (sending k m)
offered_same s k m o number h output steps =
    let x = name_of s o in
    let is = offered (run_at output steps) k m x number h.is in
    record {
      built = built_found k m ∙ ap (is_built_resolved k m.args) h.found ∙ ap (λ n. is_built_number k n (Some number)) (sym h.enters.count);
      end = ap (λ (p : Result). p.out.end) is;
      state = λ v keeps. subst (λ (p : Result). Keeps v p.out.state) (sym is) keeps;
      shape = ap (λ (p : Result). shape_fault p.out.state) is;
      words = subst (λ (p : Result). IsNoLess (try_primitive (state_at k output steps) x number) p) (sym is) (none_less (try_primitive (state_at k output steps) x number));
      made = subst (λ (p : Result). MakesNoLess (try_primitive (state_at k output steps) x number) p) (sym is) (omega arith);
      run = ap (λ (p : Result). p.run) is;
      told = tells_nothing None;
    }
