-- What a bytecode leads to is what the primitives give that it tries, and only a primitive answers.
use Rattle.std.proofs.Common.{◌≡◌, ◌≤◌, ℕ, Bool, true, false, refl, sym, ap, subst, true≢false, ◌∙◌, Option, Some, None, List, [], ◌∷◌, length, unwrap_or, option_and_then, option_map, arith, if◌then◌else◌}
use Rattle.std.specs.List.{Contains}
use Rattle.std.specs.Option.{option_to_list}
use Rattle.cs_model.specs.declared.stop.Stop.TheVariants as why
use Rattle.cs_model.specs.declared.instruction.Op.{Op}
use Rattle.cs_model.specs.Ref.{Ref}
use Rattle.cs_model.specs.State.{Kept, Run, State, special_at}
use Rattle.cs_model.specs.Exec.{exec}
use Rattle.cs_model.specs.Send.{enter_out, send}
use Rattle.cs_model.specs.Return.{back}
use Rattle.cs_model.specs.PrimRun.{Result, result}
use Rattle.cs_model.specs.PrimTable.{prim, is_perform}
use Rattle.cs_model.specs.Step.{Message, message_in, return_in, primitive_in, call_in, is_fail, with_kept, result_counting, arguments_of, or_enter, try_performed, try_primitive, sent, do_send, do_call, returned, do_return, followed}
use Rattle.cs_model.specs.Shallow.{is_answer, Trial, result_of, trial_in, trials_from, Sending, sending_of_call, sending_from, sent_out, trials}
use Rattle.cs_model.specs.End.{Out, Count, stop, given}
use Rattle.cs_model.specs.Alike.{SameButCount}
use Rattle.cs_model.proofs.Unanswered.{Unanswered, send_un, back_un, exec_un, enter_un}

-- ---- the same but for what was counted

same_itself : (a : Result) → SameButCount a a
same_itself a = record { end = refl; state = refl; run = refl; snapshot = refl }

counting_same : {a b : Result} (n : Count) → SameButCount a b → SameButCount (result_counting n a) b
counting_same n h = record { end = h.end; state = h.state; run = h.run; snapshot = h.snapshot }

same_trans : {a b c : Result} → SameButCount a b → SameButCount b c → SameButCount a c
same_trans h g = record { end = h.end ∙ g.end; state = h.state ∙ g.state; run = h.run ∙ g.run; snapshot = h.snapshot ∙ g.snapshot }

-- ---- the send that an instruction leads to

do_send_is : (r : Run) (k : Kept) (x : Ref) (args : ℕ) (above : Option Ref) → do_send r k x args above ≡ sent r (send k x args above)
unfolding do_send
do_send_is r k x args above = refl

do_return_is : (r : Run) (k : Kept) (x : Ref) (local : Bool) → do_return r k x local ≡ returned r (back k x local)
unfolding do_return
do_return_is r k x local = refl

some_is : {x y : Sending} → Some x ≡ Some y → x ≡ y
some_is {x} e = ap (λ o. unwrap_or o x) e

message_sent : (r : Run) (k : Kept) (m : Message) (a : Sending) → Some (record { state = k; message = m }) ≡ Some a → SameButCount (do_send r k m.selector m.args m.above) (sent r (sent_out a))
message_sent r k m a e =
    subst (λ a. SameButCount (do_send r k m.selector m.args m.above) (sent r (sent_out a))) (some_is e)
    (subst (λ x. SameButCount x (sent r (send k m.selector m.args m.above))) (sym (do_send_is r k m.selector m.args m.above)) (same_itself _))

call_sent : (r : Run) (o : Out) (a : Sending) → sending_of_call o ≡ Some a → SameButCount (returned r o) (sent r (sent_out a))
call_sent r o a e = go (call_in o.end) e where
  to : (args : ℕ) (x : Option Ref) → option_map {U = Sending} (λ selector. record { state = o.state; message = record { selector = selector; args = args; above = None } }) x ≡ Some a → SameButCount (given x (result (stop why.BadSpecial o.state) r) (λ selector. do_send r o.state selector args None)) (sent r (sent_out a))
  to args None f = absurd (cc)
  to args (Some x) f = message_sent r o.state (record { selector = x; args = args; above = None }) a f

  go : (c : Option (ℕ × ℕ)) → option_and_then (λ c. option_map {U = Sending} (λ selector. record { state = o.state; message = record { selector = selector; args = c.1; above = None } }) (special_at o.state c.0)) c ≡ Some a → SameButCount (given c (result o r) (λ c. result_counting o.count (do_call r o.state c.0 c.1))) (sent r (sent_out a))
  go None f = absurd (cc)
  go (Some c) f = counting_same o.count (to c.1 (special_at o.state c.0) f)

return_sent : (r : Run) (k : Kept) (x : Ref) (local : Bool) (a : Sending) → sending_of_call (back k x local) ≡ Some a → SameButCount (do_return r k x local) (sent r (sent_out a))
unfolding do_return
return_sent r k x local a e = call_sent r (back k x local) a e

pub followed_sent : (r : Run) (o : Out) (a : Sending) → sending_from o ≡ Some a → SameButCount (followed r o) (sent r (sent_out a))
followed_sent r o a e = go (message_in o.end) (return_in o.end) e where
  go : (m : Option Message) (p : Option (Ref × Bool)) → given m (option_and_then (λ p. sending_of_call (back o.state p.0 p.1)) p) (λ m. Some (record { state = o.state; message = m })) ≡ Some a → SameButCount (given m (given p (result o r) (λ p. result_counting o.count (do_return r o.state p.0 p.1))) (λ m. result_counting o.count (do_send r o.state m.selector m.args m.above))) (sent r (sent_out a))
  go (Some m) p f = counting_same o.count (message_sent r o.state m a f)
  go None (Some p) f = counting_same o.count (return_sent r o.state p.0 p.1 a f)
  go None None f = absurd (cc)

-- ---- without one, nothing becomes of the run

pub record Untried (r : Run) (a : Result) : Type 0 where
  pub run : a.run ≡ r
  pub snapshot : a.snapshot ≡ None

counting_untried : {r : Run} {a : Result} (n : Count) → Untried r a → Untried r (result_counting n a)
counting_untried n h = record { run = h.run; snapshot = h.snapshot }

result_untried : (o : Out) (r : Run) → Untried r (result o r)
result_untried o r = record { run = refl; snapshot = refl }

call_untried : (r : Run) (o : Out) → sending_of_call o ≡ None → Untried r (returned r o)
call_untried r o e = go (call_in o.end) e where
  to : (args : ℕ) (x : Option Ref) → option_map {U = Sending} (λ selector. record { state = o.state; message = record { selector = selector; args = args; above = None } }) x ≡ None → Untried r (given x (result (stop why.BadSpecial o.state) r) (λ selector. do_send r o.state selector args None))
  to args None f = result_untried _ r
  to args (Some x) f = absurd (cc)

  go : (c : Option (ℕ × ℕ)) → option_and_then (λ c. option_map {U = Sending} (λ selector. record { state = o.state; message = record { selector = selector; args = c.1; above = None } }) (special_at o.state c.0)) c ≡ None → Untried r (given c (result o r) (λ c. result_counting o.count (do_call r o.state c.0 c.1)))
  go None f = result_untried o r
  go (Some c) f = counting_untried o.count (to c.1 (special_at o.state c.0) f)

return_untried : (r : Run) (k : Kept) (x : Ref) (local : Bool) → sending_of_call (back k x local) ≡ None → Untried r (do_return r k x local)
unfolding do_return
return_untried r k x local e = call_untried r (back k x local) e

followed_untried : (r : Run) (o : Out) → sending_from o ≡ None → Untried r (followed r o)
followed_untried r o e = go (message_in o.end) (return_in o.end) e where
  go : (m : Option Message) (p : Option (Ref × Bool)) → given m (option_and_then (λ p. sending_of_call (back o.state p.0 p.1)) p) (λ m. Some (record { state = o.state; message = m })) ≡ None → Untried r (given m (given p (result o r) (λ p. result_counting o.count (do_return r o.state p.0 p.1))) (λ m. result_counting o.count (do_send r o.state m.selector m.args m.above)))
  go (Some m) p f = absurd (cc)
  go None (Some p) f = counting_untried o.count (return_untried r o.state p.0 p.1 f)
  go None None f = result_untried o r

-- ---- what a list of trials gives: what the last one does

abbrev pub GivenBy : Run → Result → List Trial → Type 0
GivenBy r a [] = Untried r a
GivenBy r a (t ∷ []) = SameButCount a (or_enter t.state t.method (result_of t))
GivenBy r a (t ∷ u ∷ []) = SameButCount a (try_performed u.state u.method u.number)
GivenBy r a (t ∷ u ∷ v ∷ ts) = ⊥

given_same : (r : Run) {a b : Result} (ts : List Trial) → SameButCount a b → GivenBy r b ts → GivenBy r a ts
given_same r [] h g = record { run = h.run ∙ g.run; snapshot = h.snapshot ∙ g.snapshot }
given_same r (t ∷ []) h g = same_trans h g
given_same r (t ∷ u ∷ []) h g = same_trans h g
given_same r (t ∷ u ∷ v ∷ ts) h g = g

trial_given : (r : Run) (t : Trial) → GivenBy r (try_primitive t.state t.method t.number) (trials_from t)
unfolding try_primitive
trial_given r t = go (primitive_in (result_of t).out.end) where
  go : (p : Option (Ref × ℕ)) → GivenBy r (given p (or_enter t.state t.method (result_of t)) (λ p. result_counting (result_of t).out.count (try_performed (with_kept (result_of t).out.state (result_of t).run) p.0 p.1))) (t ∷ option_to_list (option_map {U = Trial} (λ p. record { state = with_kept (result_of t).out.state (result_of t).run; method = p.0; number = p.1 }) p))
  go None = same_itself _
  go (Some p) = counting_same (result_of t).out.count (same_itself _)

sent_given : (r : Run) (o : Out) → GivenBy r (sent r o) (given (trial_in r o) [] (λ t. trials_from t))
sent_given r o = go (primitive_in o.end) where
  go : (p : Option (Ref × ℕ)) → GivenBy r (given p (result o r) (λ p. result_counting o.count (try_primitive (with_kept o.state r) p.0 p.1))) (given (option_map {U = Trial} (λ p. record { state = with_kept o.state r; method = p.0; number = p.1 }) p) [] (λ t. trials_from t))
  go None = result_untried o r
  go (Some p) = given_same r (trials_from (record { state = with_kept o.state r; method = p.0; number = p.1 })) (counting_same o.count (same_itself _)) (trial_given r (record { state = with_kept o.state r; method = p.0; number = p.1 }))

pub followed_given : (r : Run) (o : Out) → GivenBy r (followed r o) (trials r o)
unfolding trials
followed_given r o = go (sending_from o) refl where
  go : (a : Option Sending) → sending_from o ≡ a → GivenBy r (followed r o) (given (option_and_then (λ a. trial_in r (sent_out a)) a) [] (λ t. trials_from t))
  go None e = followed_untried r o e
  go (Some a) e = given_same r (given (trial_in r (sent_out a)) [] (λ t. trials_from t)) (followed_sent r o a e) (sent_given r (sent_out a))

-- ---- the clauses of the law

pub none_tried : (r : Run) (o : Out) → trials r o ≡ [] → ((followed r o).run ≡ r) × ((followed r o).snapshot ≡ None)
none_tried r o e = let g = subst (λ ts. GivenBy r (followed r o) ts) e (followed_given r o) in (g.run, g.snapshot)

pub one_tried : (r : Run) (o : Out) (t : Trial) → trials r o ≡ t ∷ [] → SameButCount (followed r o) (or_enter t.state t.method (result_of t))
one_tried r o t e = subst (λ ts. GivenBy r (followed r o) ts) e (followed_given r o)

pub two_tried : (r : Run) (o : Out) (t u : Trial) → trials r o ≡ t ∷ u ∷ [] → SameButCount (followed r o) (try_performed u.state u.method u.number)
two_tried r o t u e = subst (λ ts. GivenBy r (followed r o) ts) e (followed_given r o)

few : (r : Run) (a : Result) (ts : List Trial) → GivenBy r a ts → length ts ≤ 2
few r a [] g = omega arith
few r a (t ∷ []) g = omega arith
few r a (t ∷ u ∷ []) g = omega arith
few r a (t ∷ u ∷ v ∷ ts) g = absurd (g)

pub few_tried : (r : Run) (o : Out) → length (trials r o) ≤ 2
few_tried r o = few r (followed r o) (trials r o) (followed_given r o)

-- ---- an answer is what one of them gives

no_answer : {A : Type 0} {o : Out} → Unanswered o → is_answer o.end ≡ true → A
no_answer h e = absurd (true≢false (sym e ∙ h.none))

-- where no message is sent what was there is left, or what a return gives
unsent_answer : (r : Run) (o : Out) → is_answer o.end ≡ false → sending_from o ≡ None → is_answer (followed r o).out.end ≡ false
unsent_answer r o u e = go (message_in o.end) (return_in o.end) e where
  to : (b : Out) (args : ℕ) (x : Option Ref) → option_map {U = Sending} (λ selector. record { state = b.state; message = record { selector = selector; args = args; above = None } }) x ≡ None → is_answer (given x (result (stop why.BadSpecial b.state) r) (λ selector. do_send r b.state selector args None)).out.end ≡ false
  to b args None f = refl
  to b args (Some x) f = absurd (cc)

  called : (b : Out) → is_answer b.end ≡ false → (c : Option (ℕ × ℕ)) → option_and_then (λ c. option_map {U = Sending} (λ selector. record { state = b.state; message = record { selector = selector; args = c.1; above = None } }) (special_at b.state c.0)) c ≡ None → is_answer (given c (result b r) (λ c. result_counting b.count (do_call r b.state c.0 c.1))).out.end ≡ false
  called b v None f = v
  called b v (Some c) f = to b c.1 (special_at b.state c.0) f

  go : (m : Option Message) (p : Option (Ref × Bool)) → given m (option_and_then (λ p. sending_of_call (back o.state p.0 p.1)) p) (λ m. Some (record { state = o.state; message = m })) ≡ None → is_answer (given m (given p (result o r) (λ p. result_counting o.count (do_return r o.state p.0 p.1))) (λ m. result_counting o.count (do_send r o.state m.selector m.args m.above))).out.end ≡ false
  go (Some m) p f = absurd (cc)
  go None (Some p) f = ap (λ a. is_answer a.out.end) (do_return_is r o.state p.0 p.1) ∙ called (back o.state p.0 p.1) (back_un o.state p.0 p.1).none (call_in (back o.state p.0 p.1).end) f
  go None None f = u

sent_answer : (r : Run) (o : Out) → Unanswered o → given (trial_in r o) [] (λ t. trials_from t) ≡ [] → is_answer (sent r o).out.end ≡ false
sent_answer r o u e = go (primitive_in o.end) e where
  go : (p : Option (Ref × ℕ)) → given (option_map {U = Trial} (λ p. record { state = with_kept o.state r; method = p.0; number = p.1 }) p) [] (λ t. trials_from t) ≡ [] → is_answer (given p (result o r) (λ p. result_counting o.count (try_primitive (with_kept o.state r) p.0 p.1))).out.end ≡ false
  go None f = u.none
  go (Some p) f = absurd (cc)

untried_answer : (r : Run) (o : Out) → is_answer o.end ≡ false → trials r o ≡ [] → is_answer (followed r o).out.end ≡ false
unfolding trials
untried_answer r o u e = go (sending_from o) refl e where
  go : (a : Option Sending) → sending_from o ≡ a → given (option_and_then (λ a. trial_in r (sent_out a)) a) [] (λ t. trials_from t) ≡ [] → is_answer (followed r o).out.end ≡ false
  go None g f = unsent_answer r o u g
  go (Some a) g f = ap is_answer (followed_sent r o a g).end ∙ sent_answer r (sent_out a) (send_un a.state a.message.selector a.message.args a.message.above) f

entered_answer : (s : State) (x : Ref) (a : Result) → is_answer (or_enter s x a).out.end ≡ true → SameButCount (or_enter s x a) a
entered_answer s x a e = go (is_fail a.out.end) e where
  go : (b : Bool) → is_answer (if b then result (enter_out s.kept x (arguments_of s.kept x) true) s.run else a).out.end ≡ true → SameButCount (if b then result (enter_out s.kept x (arguments_of s.kept x) true) s.run else a) a
  go true f = no_answer (enter_un s.kept x (arguments_of s.kept x) true) f
  go false f = same_itself a

performed_answer : (s : State) (x : Ref) (n : ℕ) → is_answer (try_performed s x n).out.end ≡ true → SameButCount (try_performed s x n) (prim n (arguments_of s.kept x) s)
unfolding try_performed
performed_answer s x n e = go (is_perform n) e where
  go : (b : Bool) → is_answer (if b then result (enter_out s.kept x (arguments_of s.kept x) true) s.run else or_enter s x (prim n (arguments_of s.kept x) s)).out.end ≡ true → SameButCount (if b then result (enter_out s.kept x (arguments_of s.kept x) true) s.run else or_enter s x (prim n (arguments_of s.kept x) s)) (prim n (arguments_of s.kept x) s)
  go true f = no_answer (enter_un s.kept x (arguments_of s.kept x) true) f
  go false f = entered_answer s x (prim n (arguments_of s.kept x) s) f

answer_found : (r : Run) (a : Result) (ts : List Trial) → GivenBy r a ts → (ts ≡ [] → is_answer a.out.end ≡ false) → is_answer a.out.end ≡ true → (t : Trial) × Contains ts t × SameButCount a (result_of t)
answer_found r a [] g h e = absurd (true≢false (sym e ∙ h refl))
answer_found r a (t ∷ []) g h e =
    (t, (0, omega arith, refl), same_trans g (entered_answer t.state t.method (result_of t) (ap is_answer (sym g.end) ∙ e)))
answer_found r a (t ∷ u ∷ []) g h e =
    (u, (1, omega arith, refl), same_trans g (performed_answer u.state u.method u.number (ap is_answer (sym g.end) ∙ e)))
answer_found r a (t ∷ u ∷ v ∷ ts) g h e = absurd (g)

pub answer_tried : (r : Run) (i : Op) (k : Kept) → is_answer (followed r (exec i k)).out.end ≡ true → (t : Trial) × Contains (trials r (exec i k)) t × SameButCount (followed r (exec i k)) (result_of t)
answer_tried r i k e = answer_found r (followed r (exec i k)) (trials r (exec i k)) (followed_given r (exec i k)) (untried_answer r (exec i k) (exec_un i k).none) e
