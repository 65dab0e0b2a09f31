-- What 74 and 196 write where they answer is what is said of the contexts that image code changes.
use Rattle.std.proofs.Common.{◌≡◌, ℕ, Bool, true, false, refl, sym, ap, ◌∙◌, Option, Some, None, List, [], option_and_then, unwrap_or, if◌then◌else◌}
use Rattle.cs_model.specs.Ref.{Ref, named_object}
use Rattle.cs_model.specs.Ref as ref
use Rattle.cs_model.specs.Obj.{Obj, Context, Ptr, Raw, Method, Ctx, is_fixed_at, context_in}
use Rattle.cs_model.specs.State.{Kept, object_of, is_nil}
use Rattle.cs_model.specs.Read.{active_birth}
use Rattle.cs_model.specs.Context.{accepts, context_put}
use Rattle.cs_model.specs.Exec.{is_active}
use Rattle.cs_model.specs.Return.{Search, Met, Ended, TooLong, context_birth, senders_to, is_among}
use Rattle.cs_model.specs.PrimAnswer.{fail, answer, receiver, argument}
use Rattle.cs_model.specs.PrimObject.{answer_in, slot_index, context_at_put, slot_put, slot_at_put_prim}
use Rattle.cs_model.specs.PrimUnwind.{is_end, end_between_of, end_if, end_searched, end_up_to, end_between_prim}
use Rattle.cs_model.specs.Shallow.{is_answer, if_met, ended_between}
use Rattle.cs_model.specs.End.{Out, given}

-- ---- 196

ended : Kept → ℕ → Ref → List ℕ → Out
ended k i goal dying = answer (end_between_of k dying i goal) 1 (ref.Obj i)

if_ended : (k : Kept) (i : ℕ) (goal : Ref) (dying : List ℕ) → is_answer (end_if k i goal dying).end ≡ true → end_if k i goal dying ≡ ended k i goal dying
unfolding ended
if_ended k i goal dying e = go (is_among (active_birth k) dying) e where
  go : (b : Bool) → is_answer (if b then fail k else answer (end_between_of k dying i goal) 1 (ref.Obj i)).end ≡ true → (if b then fail k else answer (end_between_of k dying i goal) 1 (ref.Obj i)) ≡ answer (end_between_of k dying i goal) 1 (ref.Obj i)
  go true f = absurd (cc)
  go false f = refl

searched_ended : (k : Kept) (i : ℕ) (goal : Ref) (s : Search) → is_answer (end_searched k i goal s).end ≡ true → end_searched k i goal s ≡ ended k i goal (if_met s)
searched_ended k i goal (Met passed) e = if_ended k i goal passed e
searched_ended k i goal (Ended passed) e = if_ended k i goal [] e
searched_ended k i goal TooLong e = absurd (cc)

pub end_is : (k : Kept) (i : ℕ) → context_birth k (receiver k 1) ≡ Some i → is_answer (end_between_prim k 1).end ≡ true → end_between_prim k 1 ≡ answer (end_between_of k (ended_between k i (argument k 1 0)) i (argument k 1 0)) 1 (ref.Obj i)
unfolding end_between_prim ended
end_is k i e f = at ∙ go (is_end k goal) (named_object goal) (is_nil k goal) (ap (λ o. is_answer o.end) (sym at) ∙ f) where
  goal : Ref
  goal = argument k 1 0

  at : given (context_birth k (receiver k 1)) (fail k) (λ i. if is_end k goal then end_up_to k i goal (named_object goal) else fail k) ≡ (if is_end k goal then end_up_to k i goal (named_object goal) else fail k)
  at = ap (λ o. given o (fail k) (λ i. if is_end k goal then end_up_to k i goal (named_object goal) else fail k)) e

  to : (j : Option ℕ) (n : Bool) → is_answer (given j (fail k) (λ j. if n then end_if k i goal [] else end_searched k i goal (senders_to k i j))).end ≡ true → given j (fail k) (λ j. if n then end_if k i goal [] else end_searched k i goal (senders_to k i j)) ≡ ended k i goal (if n then [] else given j [] (λ j. if_met (senders_to k i j)))
  to None n g = absurd (cc)
  to (Some j) true g = if_ended k i goal [] g
  to (Some j) false g = searched_ended k i goal (senders_to k i j) g

  up_to : (j : Option ℕ) (n : Bool) → n ≡ is_nil k goal → end_up_to k i goal j ≡ given j (fail k) (λ j. if n then end_if k i goal [] else end_searched k i goal (senders_to k i j))
  up_to None n g = refl
  up_to (Some j) n g = ap (λ n. if n then end_if k i goal [] else end_searched k i goal (senders_to k i j)) (sym g)

  go : (b : Bool) (j : Option ℕ) (n : Bool) → is_answer (if b then end_up_to k i goal j else fail k).end ≡ true → (if b then end_up_to k i goal j else fail k) ≡ ended k i goal (if is_nil k goal then [] else given j [] (λ j. if_met (senders_to k i j)))
  go true j n g = up_to j (is_nil k goal) refl ∙ to j (is_nil k goal) (ap (λ o. is_answer o.end) (sym (up_to j (is_nil k goal) refl)) ∙ g)
  go false j n g = absurd (cc)

-- ---- 74

some_is : {x y : ℕ} → Some x ≡ Some y → x ≡ y
some_is {x} e = ap (λ o. unwrap_or o x) e

put_is : (k : Kept) (x v : Ref) (c : Context) (f i : ℕ) (j b : Option ℕ) → j ≡ Some f → b ≡ Some i → is_answer (answer_in (option_and_then (λ n. context_at_put k x n v c b) j) k 2 v).end ≡ true → answer_in (option_and_then (λ n. context_at_put k x n v c b) j) k 2 v ≡ answer (context_put k i f v) 2 v
put_is k x v c f i None b e g h = absurd (cc)
put_is k x v c f i (Some n) None e g h = absurd (cc)
put_is k x v c f i (Some n) (Some m) e g h = go (accepts k (is_active k x) c n v) h where
  go : (a : Bool) → is_answer (answer_in (if a then Some (context_put k m n v) else None) k 2 v).end ≡ true → answer_in (if a then Some (context_put k m n v) else None) k 2 v ≡ answer (context_put k i f v) 2 v
  go true q = ap (λ m. answer (context_put k m n v) 2 v) (some_is g) ∙ ap (λ n. answer (context_put k i n v) 2 v) (some_is e)
  go false q = absurd (cc)

pub slot_is : (k : Kept) (i f : ℕ) → context_birth k (receiver k 2) ≡ Some i → slot_index (argument k 2 0) ≡ Some f → is_answer (slot_at_put_prim k 2).end ≡ true → slot_at_put_prim k 2 ≡ answer (context_put k i f (argument k 2 1)) 2 (argument k 2 1)
unfolding slot_at_put_prim
slot_is k i f e g h = go (object_of k (receiver k 2)) e h where
  go : (o : Option Obj) → option_and_then (λ c. named_object (receiver k 2)) (context_in o) ≡ Some i → is_answer (if is_fixed_at o then fail k else answer_in (option_and_then (λ n. slot_put k (receiver k 2) n (argument k 2 1) o) (slot_index (argument k 2 0))) k 2 (argument k 2 1)).end ≡ true → (if is_fixed_at o then fail k else answer_in (option_and_then (λ n. slot_put k (receiver k 2) n (argument k 2 1) o) (slot_index (argument k 2 0))) k 2 (argument k 2 1)) ≡ answer (context_put k i f (argument k 2 1)) 2 (argument k 2 1)
  go None p q = absurd (cc)
  go (Some (Ptr head slots)) p q = absurd (cc)
  go (Some (Raw head bytes)) p q = absurd (cc)
  go (Some (Method head header literals bytecodes)) p q = absurd (cc)
  go (Some (Ctx c)) p q = put_is k (receiver k 2) (argument k 2 1) c f i (slot_index (argument k 2 0)) (named_object (receiver k 2)) g p q
