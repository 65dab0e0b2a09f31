-- How a closure that is made ends: pushed, and past its block, or without room on the stack.
use Rattle.std.proofs.Common.{◌≡◌, ◌∙◌, ◌+◌, ◌<◌, ◌≤◌, ℕ, Bool, true, false, refl, sym, ap, ap₂, subst, arith, inl, inr, Option, Some, None, pos, nat_lt, nat_le}
use Rattle.std.specs.Prelude.{if◌then◌else◌}
use Rattle.std.proofs.lemmas.Bool.Decides.{nat_tests}
use Rattle.cs_model.specs.declared.stop.Stop.TheVariants as why
use Rattle.cs_model.specs.Ref.{Ref}
use Rattle.cs_model.specs.Obj.{lies_in, popped, pushed, with_pc, words_of_slots}
use Rattle.cs_model.specs.State.{Kept}
use Rattle.cs_model.specs.Keeps.{Keeps, SameKept}
use Rattle.cs_model.specs.Read.{IsRunning, depth_of, method_of, size_of}
use Rattle.cs_model.specs.Operation.{add_of, drop_of, edit_active, next_ref, push_of, set_pc_of}
use Rattle.cs_model.specs.Demand.{words_held}
use Rattle.cs_model.specs.End.{End, Out, and_then, done, given, looked, made, stop}
use Rattle.cs_model.specs.End as ends
use Rattle.cs_model.specs.Exec.{closure_out, new_closure, pc_after, push_out}
use Rattle.cs_model.proofs.Editing.{edit_twice}
use Rattle.cs_model.proofs.Reading.{depth_same, method_same, size_same}
use Rattle.cs_model.proofs.Same.{equal, option_equal}
use Rattle.cs_acts.specs.declared.act.Full.{Full}
use Rattle.cs_acts.specs.declared.act.Full.TheVariants.{Heap}
use Rattle.cs_acts.specs.Full.{CausesFull}
use Rattle.cs_acts.specs.Layout.{Layout}
use Rattle.cs_acts.specs.Led.{Leads}
use Rattle.cs_acts.specs.Names.{Store}
use Rattle.cs_code.specs.declared.end.CodeEnd.{CodeEnd}
use Rattle.cs_code.specs.declared.end.CodeEnd.TheVariants as code
use Rattle.cs_code.specs.Gives.{Gives, IsNamedEnd, Refuses, end_of, is_refused}
use Rattle.cs_code.proofs.Adding.{AreBelow, cause-weighed, pc-added, pc-edited, running-added, words-edited}

-- ---- the end of the model

pub record MakesAs (o : Out) (e : End) (t : Kept) (size : ℕ) : Type 0 where
  pub end : o.end ≡ e
  pub state : o.state ≡ t
  pub objects : o.count.objects ≡ size
  pub looks : o.count.looks ≡ 1

-- the state with the closure, which has taken its copied values
abbrev pub enclosed : Kept → ℕ → ℕ → Kept
enclosed k copied args = drop_of (add_of k (new_closure k copied args)) copied

weighed : (size : ℕ) → 0 + (size + 0) ≡ size
weighed size = omega arith

weighed-twice : (size : ℕ) → 0 + (size + (0 + 0)) ≡ size
weighed-twice size = omega arith

-- all that is done where the jump lies and the values are there
behind-tests : (k : Kept) (copied args size pc : ℕ) (e : End) (t : Kept) (words : ℕ) → pc_after k (pos size) ≡ Some pc → copied ≤ depth_of k
    → MakesAs (looked (made (words_of_slots (3 + copied)) (and_then (push_out (enclosed k copied args) (next_ref k)) (λ (u : Kept). done (set_pc_of u pc))))) e t words
    → MakesAs (closure_out k copied args size) e t words
unfolding closure_out
behind-tests k copied args size pc e t words lies enough makes =
    let few : nat_le copied (depth_of k) ≡ true = grind (arith, nat_tests, enough) in
    subst (λ (q : Option ℕ). MakesAs (given q (stop why.BadCode k) (λ (p : ℕ). tested (nat_le copied (depth_of k)) p)) e t words) (sym lies)
    (subst (λ (b : Bool). MakesAs (tested b pc) e t words) (sym few) makes)
  where
    tested : Bool → ℕ → Out
    tested b p = if b then looked (made (words_of_slots (3 + copied)) (and_then (push_out (enclosed k copied args) (next_ref k)) (λ (u : Kept). done (set_pc_of u p)))) else stop why.StackUnder k

pub closure-pushed : (k : Kept) (copied args size pc : ℕ) → pc_after k (pos size) ≡ Some pc → copied ≤ depth_of k → nat_lt (depth_of (enclosed k copied args)) (size_of (enclosed k copied args)) ≡ true
    → MakesAs (closure_out k copied args size) ends.Done (set_pc_of (push_of (enclosed k copied args) (next_ref k)) pc) (words_of_slots (3 + copied))
unfolding push_out looked made and_then
closure-pushed k copied args size pc lies enough room =
    behind-tests k copied args size pc ends.Done (set_pc_of (push_of t (next_ref k)) pc) (words_of_slots (3 + copied)) lies enough
    (subst (λ (b : Bool). MakesAs (looked (made (words_of_slots (3 + copied)) (and_then (if b then done (push_of t (next_ref k)) else stop why.StackOver t) (λ (u : Kept). done (set_pc_of u pc))))) ends.Done (set_pc_of (push_of t (next_ref k)) pc) (words_of_slots (3 + copied))) (sym room)
    (record { end = refl; state = refl; objects = weighed-twice (words_of_slots (3 + copied)); looks = refl }))
  where
    t : Kept
    t = enclosed k copied args

pub closure-over : (k : Kept) (copied args size pc : ℕ) → pc_after k (pos size) ≡ Some pc → copied ≤ depth_of k → nat_lt (depth_of (enclosed k copied args)) (size_of (enclosed k copied args)) ≡ false
    → MakesAs (closure_out k copied args size) (ends.Stopped why.StackOver) (enclosed k copied args) (words_of_slots (3 + copied))
unfolding push_out looked made and_then
closure-over k copied args size pc lies enough room =
    behind-tests k copied args size pc (ends.Stopped why.StackOver) t (words_of_slots (3 + copied)) lies enough
    (subst (λ (b : Bool). MakesAs (looked (made (words_of_slots (3 + copied)) (and_then (if b then done (push_of t (next_ref k)) else stop why.StackOver t) (λ (u : Kept). done (set_pc_of u pc))))) (ends.Stopped why.StackOver) t (words_of_slots (3 + copied))) (sym room)
    (record { end = refl; state = refl; objects = weighed (words_of_slots (3 + copied)); looks = refl }))
  where
    t : Kept
    t = enclosed k copied args

pub no-code : (k : Kept) (copied args size : ℕ) → pc_after k (pos size) ≡ None → closure_out k copied args size ≡ stop why.BadCode k
unfolding closure_out
no-code k copied args size none = rw none refl

pub too-few : (k : Kept) (copied args size pc : ℕ) → pc_after k (pos size) ≡ Some pc → depth_of k < copied → closure_out k copied args size ≡ stop why.StackUnder k
unfolding closure_out
too-few k copied args size pc lies less = let few : nat_le copied (depth_of k) ≡ false = grind (arith, nat_tests, less) in rw (lies, few) refl

-- ---- what is given

pub led-given : (s0 s1 : Store) (l n : Option Layout) (v t : Kept) (o : Out) (e : CodeEnd) (size made : ℕ) → is_refused e ≡ false → IsNamedEnd s1 e → MakesAs o (end_of s1 e) t size → Leads s0 s1 l n v t made → Gives s0 s1 l v e o
led-given s0 s1 l n v t o e size made granted named makes led = record {
  granted = granted;
  end = sym makes.end;
  named = named;
  state = subst (Keeps v) (sym makes.state) led.state;
  exact = λ none. subst (SameKept v) (sym makes.state) (led.exact none);
  ready = led.ready;
  names = led.names;
}

-- ---- the state behind it

pushed-edit : (k : Kept) (n : ℕ) (x : Ref) → push_of (drop_of k n) x ≡ edit_active k (λ c. pushed x (popped n c))
unfolding push_of drop_of
pushed-edit k n x = edit_twice k (popped n) (pushed x)

moved-edit : (k : Kept) (n pc : ℕ) (x : Ref) → set_pc_of (push_of (drop_of k n) x) pc ≡ edit_active k (λ c. with_pc (Some pc) (pushed x (popped n c)))
unfolding set_pc_of
moved-edit k n pc x = ap (λ (t : Kept). edit_active t (with_pc (Some pc))) (pushed-edit k n x) ∙ edit_twice k (λ c. pushed x (popped n c)) (with_pc (Some pc))

words-moved : (k : Kept) (n pc : ℕ) (x : Ref) → IsRunning k → words_held (set_pc_of (push_of (drop_of k n) x) pc) ≡ words_held k
words-moved k n pc x running = ap (λ (t : Kept). words_held t) (moved-edit k n pc x) ∙ words-edited k (λ c. with_pc (Some pc) (pushed x (popped n c))) running refl

words-dropped : (k : Kept) (n : ℕ) → IsRunning k → words_held (drop_of k n) ≡ words_held k
unfolding drop_of
words-dropped k n running = words-edited k (popped n) running refl

-- the pc past the block lies in the method still
pub pc-stands : (v k : Kept) (copied args pc : ℕ) (x : Ref) → IsRunning k → AreBelow k → Keeps v (push_of (enclosed k copied args) x) → lies_in (method_of k) pc ≡ true → lies_in (method_of v) pc ≡ true
pc-stands v k copied args pc x running below keeps lies =
    let t : Kept = add_of k (new_closure k copied args) in
    ap (λ o. lies_in o pc) (sym (option_equal (method_same keeps))) ∙ ap (λ (u : Kept). lies_in (method_of u) pc) (pushed-edit t copied x)
    ∙ pc-edited t (λ c. pushed x (popped copied c)) pc (running-added k (new_closure k copied args) running below) refl (pc-added k (new_closure k copied args) pc running below lies)

pub room-alike : (v t : Kept) (b : Bool) → Keeps v t → b ≡ nat_lt (depth_of v) (size_of v) → nat_lt (depth_of t) (size_of t) ≡ b
room-alike v t b keeps is = ap₂ nat_lt (equal (depth_same keeps)) (equal (size_same keeps)) ∙ sym is

-- ---- what is refused

some-words : (n : ℕ) → 0 < words_of_slots n
some-words n = omega arith

pub closure-refused : (s : Store) (l : Option Layout) (k : Kept) (copied args size pc : ℕ) (a b : Full) → code.Full a ≡ code.Full b → a ≡ Heap → IsRunning k → AreBelow k → pc_after k (pos size) ≡ Some pc → copied ≤ depth_of k
    → CausesFull s l k (words_of_slots (3 + copied)) (add_of k (new_closure k copied args)) a → Refuses s l k (closure_out k copied args size) b
closure-refused s l k copied args size pc a b same_reason heap running below lies enough cause = go (nat_lt (depth_of (enclosed k copied args)) (size_of (enclosed k copied args))) refl
  where
    t : Kept
    t = add_of k (new_closure k copied args)

    reason : (a b : Full) → code.Full a ≡ code.Full b → a ≡ b
    reason a b e = cc

    there : CausesFull s l k (words_of_slots (3 + copied)) t b
    there = subst (λ w. CausesFull s l k (words_of_slots (3 + copied)) t w) (reason a b same_reason) cause

    caused : (o : Out) (e : End) (u : Kept) → MakesAs o e u (words_of_slots (3 + copied)) → words_held u ≡ words_held t → CausesFull s l k o.count.objects o.state b
    caused o e u makes words =
        subst (λ (n : ℕ). CausesFull s l k n o.state b) (sym makes.objects)
        (subst (λ (w : Kept). CausesFull s l k (words_of_slots (3 + copied)) w b) (sym makes.state) (cause-weighed s l k t u (words_of_slots (3 + copied)) b words there))

    go : (room : Bool) → nat_lt (depth_of (enclosed k copied args)) (size_of (enclosed k copied args)) ≡ room → Refuses s l k (closure_out k copied args size) b
    go true e =
        let makes = closure-pushed k copied args size pc lies enough e in
        record {
          end = inl makes.end;
          heap_alone = sym (reason a b same_reason) ∙ heap;
          cause = caused (closure_out k copied args size) _ _ makes (words-moved t copied pc (next_ref k) (running-added k (new_closure k copied args) running below));
        }
    go false e =
        let makes = closure-over k copied args size pc lies enough e in
        record {
          end = inr (makes.end, subst (λ (n : ℕ). 0 < n) (sym makes.objects) (some-words (3 + copied)));
          heap_alone = sym (reason a b same_reason) ∙ heap;
          cause = caused (closure_out k copied args size) _ _ makes (words-dropped t copied (running-added k (new_closure k copied args) running below));
        }
