-- One call behind another, and what a message to the active context pushes.
use Rattle.std.proofs.Common.{◌≡◌, ◌∙◌, ℕ, zero, suc, ◌+◌, ◌≤◌, ◌<◌, Bool, true, false, inl, inr, refl, sym, ap, ap₂, subst, arith, Option, Some, None, List, [], ◌∷◌, length, nat_le, nat_lt}
use Rattle.std.specs.Prelude.{if◌then◌else◌}
use Rattle.std.proofs.lemmas.Bool.Decides.{eqb_tells, nat_tests}
use Rattle.std.proofs.lemmas.List.{length_push}
use Rattle.cs_word.specs.declared.Oop.{Oop}
use Rattle.cs_model.specs.declared.stop.Stop.{Stop as Reason}
use Rattle.cs_model.specs.declared.stop.Stop.TheVariants as why
use Rattle.cs_model.specs.Ref.{Ref}
use Rattle.cs_model.specs.Ref as ref
use Rattle.cs_model.specs.Obj.{Context, Ctx, pushed}
use Rattle.cs_model.specs.State.{Kept, object_at, put}
use Rattle.cs_model.specs.Keeps.{Keeps, SameKept}
use Rattle.cs_model.specs.Demand.{words_taken, words_below, words_held}
use Rattle.cs_model.specs.Read.{IsRunning, active_birth, active_context, depth_of, pc_of, size_of, stack_of}
use Rattle.cs_model.specs.Operation.{push_of}
use Rattle.cs_model.specs.Exec.{push_all, push_out}
use Rattle.cs_model.specs.End.{End, Out, and_then, counting, done, looked, out, stop}
use Rattle.cs_model.specs.End as ends
use Rattle.cs_model.specs.Return.{call_with}
use Rattle.cs_model.proofs.Objects.{object_at-put_other, object_at-put_same}
use Rattle.cs_model.proofs.Reading.{depth_same, size_same}
use Rattle.cs_model.proofs.Same.{equal}
use Rattle.cs_acts.specs.declared.act.Full.{Full as Why}
use Rattle.cs_acts.specs.declared.act.Full.TheVariants.{Heap, Stack}
use Rattle.cs_acts.specs.Full.{CausesFull}
use Rattle.cs_acts.specs.Layout.{Layout}
use Rattle.cs_acts.specs.Made.{MakesAtMost}
use Rattle.cs_acts.specs.Names.{KeepsNames, Store, name_of}
use Rattle.cs_acts.specs.Ready.{IsReady, IsSound}
use Rattle.cs_acts.specs.Led.{Leads}
use Rattle.cs_acts.proofs.Leading.{along, then}
use Rattle.cs_acts.proofs.Running.{active_context-put_active, running-edit}
use Rattle.cs_unwind.specs.Returned.{Returns}
use Rattle.cs_unwind.proofs.Performing.{same_names}
use Rattle.cs_unwind.specs.declared.end.BackEnd.TheVariants as back

-- ---- one call behind another

pub same_itself : (a : Kept) → SameKept a a
same_itself a = record { objects = λ i. refl; rest = refl }

pub makes_none : (l : Option Layout) (a : Store) (i : ℕ) → MakesAtMost i l a a
makes_none None a i = tt
makes_none (Some l) a i = omega arith

-- a context was made, and the view is the same
pub context_made : (a b : Store) (l m : Option Layout) (k v : Kept) (i : ℕ) → v ≡ k → m ≡ l → b.memory.limit ≡ a.memory.limit → MakesAtMost i l a b → IsSound b v → IsRunning k → KeepsNames a b → Leads a b l m v k i
context_made a b l m k v i same layout limit made sound running names = record {
  state = subst (Keeps v) same sound.closed;
  exact = λ none. subst (SameKept v) same (same_itself v);
  layout = layout;
  limit = limit;
  contexts = made;
  ready = record { sound = sound; running = subst IsRunning (sym same) running };
  names = names;
}

-- and another one
pub contexts_made : (a b c : Store) (l m n : Option Layout) (k v w : Kept) (i j : ℕ) → v ≡ k → Leads a b l m v k i → Leads b c m n w v j → Leads a c l n w k (i + j)
contexts_made a b c l m n k v w i j same first next =
    subst (λ u. Leads a c l n w u (i + j)) same (along a b c l m n v w v i j (subst (λ u. Leads a b l m v u i) (sym same) first) next)

-- a value was pushed
pub value_pushed : (a b c : Store) (l m n : Option Layout) (v w t : Kept) (i : ℕ) (o : Oop) (x : Ref) → Leads a b l m v t i → name_of b o ≡ x
    → ((u : Kept) → Keeps v u → Keeps w (push_of u (name_of b o))) → (m ≡ None → SameKept w (push_of v (name_of b o))) → n ≡ m → c.memory.limit ≡ b.memory.limit → MakesAtMost 0 m b c → IsReady c w → KeepsNames b c
    → Leads a c l n w (push_of t x) i
value_pushed a b c l m n v w t i o x led is state exact layout limit made ready names =
    let count : i + 0 ≡ i = omega arith in
    subst (λ y. Leads a c l n w (push_of t y) i) is
    (subst (λ j. Leads a c l n w (push_of t (name_of b o)) j) count ((then) a b c l m n v w t i 0 (λ u. push_of u (name_of b o)) led state exact layout limit made ready names))

-- ---- room

pub depth_pushed : (k : Kept) (x : Ref) → depth_of (push_of k x) ≡ depth_of k + 1
unfolding push_of
depth_pushed k x = ap (λ (c : Context). length c.stack) (active_context-put_active k (pushed x (active_context k))) ∙ length_push (stack_of k) x

pub size_pushed : (k : Kept) (x : Ref) → size_of (push_of k x) ≡ size_of k
unfolding push_of
size_pushed k x = ap (λ (c : Context). c.size) (active_context-put_active k (pushed x (active_context k)))

pub running_pushed : (k : Kept) (x : Ref) → IsRunning k → IsRunning (push_of k x)
unfolding push_of
running_pushed k x running = running-edit k (pushed x) (pc_of k) running running.live refl running.method

pub depth_kept : (v t : Kept) → Keeps v t → depth_of v ≡ depth_of t
depth_kept v t keeps = sym (equal (depth_same keeps))

pub size_kept : (v t : Kept) → Keeps v t → size_of v ≡ size_of t
size_kept v t keeps = sym (equal (size_same keeps))

-- ---- words

words_put : (k : Kept) (i : ℕ) (c d : Context) (n : ℕ) → object_at k i ≡ Some (Ctx c) → d.size ≡ c.size → words_below n (put k i (Ctx d)) ≡ words_below n k
unfolding words_below
words_put k i c d zero there size = refl
words_put k i c d (suc n) there size = ap₂ (λ (a b : ℕ). a + b) (words_put k i c d n there size) (elim (eqb_tells n i) [
  | inl e ↦ ap (λ j. words_taken (object_at (put k i (Ctx d)) j)) e.1 ∙ ap words_taken (object_at-put_same k i (Ctx d)) ∙ ap (λ s. words_taken (Some (Ctx (record c { size = s })))) size
      ∙ ap words_taken (sym there) ∙ ap (λ j. words_taken (object_at k j)) (sym e.1)
  | inr e ↦ ap words_taken (object_at-put_other k i n (Ctx d) e.1)
])

next_pushed : (k : Kept) (x : Ref) → (push_of k x).rest.next ≡ k.rest.next
unfolding push_of put
next_pushed k x = refl

words_pushed : (k : Kept) (x : Ref) → IsRunning k → words_held (push_of k x) ≡ words_held k
unfolding push_of
words_pushed k x running =
    ap (λ n. words_below n (push_of k x)) (next_pushed k x) ∙ words_put k (active_birth k) (active_context k) (pushed x (active_context k)) k.rest.next running.found refl

-- ---- several values

abbrev pub with_all : List Ref → Kept → Kept
with_all [] k = k
with_all (x ∷ xs) k = with_all xs (push_of k x)

words_all : (xs : List Ref) (k : Kept) → IsRunning k → words_held (with_all xs k) ≡ words_held k
words_all [] k running = refl
words_all (x ∷ xs) k running = words_all xs (push_of k x) (running_pushed k x running) ∙ words_pushed k x running

-- how an operation ends, what it leaves, and that it makes nothing
pub record EndsAs (o : Out) (e : End) (t : Kept) : Type 0 where
  pub end : o.end ≡ e
  pub state : o.state ≡ t
  pub objects : o.count.objects ≡ 0

push_fits : (k : Kept) (x : Ref) → depth_of k < size_of k → push_out k x ≡ done (push_of k x)
unfolding push_out
push_fits k x room =
    let b : nat_lt (depth_of k) (size_of k) ≡ true = grind (arith, nat_tests) in
    ap (λ (c : Bool). if c then done (push_of k x) else stop why.StackOver k) b

push_over : (k : Kept) (x : Ref) → size_of k ≤ depth_of k → push_out k x ≡ stop why.StackOver k
unfolding push_out
push_over k x room =
    let b : nat_lt (depth_of k) (size_of k) ≡ false = grind (arith, nat_tests) in
    ap (λ (c : Bool). if c then done (push_of k x) else stop why.StackOver k) b

then_ends : (k : Kept) (next : Kept → Out) (e : End) (t : Kept) → EndsAs (next k) e t → EndsAs (and_then (done k) next) e t
unfolding and_then
then_ends k next e t h = record { end = h.end; state = h.state; objects = omega (arith, h.objects) }

looked_ends : (o : Out) (e : End) (t : Kept) → EndsAs o e t → EndsAs (looked o) e t
unfolding looked
looked_ends o e t h = record { end = h.end; state = h.state; objects = omega (arith, h.objects) }

-- values that fit are pushed, and what follows is done
all_fit : (xs : List Ref) (k : Kept) → depth_of k + length xs ≤ size_of k → EndsAs (push_all xs k) ends.Done (with_all xs k)
unfolding push_all
all_fit [] k room = record { end = refl; state = refl; objects = refl }
all_fit (x ∷ xs) k room =
    let one : depth_of k < size_of k = omega (arith, room) in
    let rest : depth_of (push_of k x) + length xs ≤ size_of (push_of k x) = omega (arith, room, depth_pushed k x, size_pushed k x) in
    subst (λ o. EndsAs (and_then o (λ t. push_all xs t)) ends.Done (with_all xs (push_of k x))) (sym (push_fits k x one))
    (then_ends (push_of k x) (λ t. push_all xs t) ends.Done (with_all xs (push_of k x)) (all_fit xs (push_of k x) rest))

stops_then : (o : Out) (next : Kept → Out) (r : Reason) → o.end ≡ ends.Stopped r → (and_then o next).end ≡ ends.Stopped r
unfolding and_then
stops_then o next r h = subst (λ e. (if ends.is_done e then counting o.count (next o.state) else o).end ≡ ends.Stopped r) (sym h) h

then_stops : (k : Kept) (next : Kept → Out) (r : Reason) → (next k).end ≡ ends.Stopped r → (and_then (done k) next).end ≡ ends.Stopped r
unfolding and_then
then_stops k next r h = h

all_over : (xs : List Ref) (k : Kept) → depth_of k ≤ size_of k → size_of k < depth_of k + length xs → (push_all xs k).end ≡ ends.Stopped why.StackOver
unfolding push_all
all_over [] k fits over = absurd (omega (arith, fits, over))
all_over (x ∷ xs) k fits over = go (λ t f o. all_over xs t f o) (nat_lt (depth_of k) (size_of k)) refl
  where
    go : ((t : Kept) → depth_of t ≤ size_of t → size_of t < depth_of t + length xs → (push_all xs t).end ≡ ends.Stopped why.StackOver) → (b : Bool) → nat_lt (depth_of k) (size_of k) ≡ b → (and_then (push_out k x) (λ t. push_all xs t)).end ≡ ends.Stopped why.StackOver
    go deeper true e =
        let one : depth_of k < size_of k = grind (arith, nat_tests) in
        let few : depth_of (push_of k x) ≤ size_of (push_of k x) = omega (arith, one, depth_pushed k x, size_pushed k x) in
        let many : size_of (push_of k x) < depth_of (push_of k x) + length xs = omega (arith, over, depth_pushed k x, size_pushed k x) in
        subst (λ o. (and_then o (λ t. push_all xs t)).end ≡ ends.Stopped why.StackOver) (sym (push_fits k x one)) (then_stops (push_of k x) (λ t. push_all xs t) why.StackOver (deeper (push_of k x) few many))
    go deeper false e =
        let none : size_of k ≤ depth_of k = grind (arith, nat_tests) in
        stops_then (push_out k x) (λ t. push_all xs t) why.StackOver (ap (λ (o : Out). o.end) (push_over k x none))

ends_then : (o : Out) (next : Kept → Out) (e : End) (t u : Kept) → EndsAs o ends.Done t → EndsAs (next t) e u → EndsAs (and_then o next) e u
unfolding and_then
ends_then o next e t u h n =
    subst (λ d. EndsAs (if ends.is_done d then counting o.count (next o.state) else o) e u) (sym h.end)
    (let m : EndsAs (next o.state) e u = subst (λ s. EndsAs (next s) e u) (sym h.state) n in
    record { end = m.end; state = m.state; objects = omega (arith, h.objects, m.objects) })

-- ---- a message

module _ (k : Kept) (special args : ℕ) (values : List Ref) where
  pub call_ends : depth_of k + (length values + 1) ≤ size_of k → EndsAs (call_with k special args values) (ends.Call special args) (with_all (ref.Obj (active_birth k) ∷ values) k)
  call_ends room =
      ends_then (push_all (ref.Obj (active_birth k) ∷ values) k) (λ t. looked (out (ends.Call special args) t)) (ends.Call special args) (with_all (ref.Obj (active_birth k) ∷ values) k) (with_all (ref.Obj (active_birth k) ∷ values) k)
      (all_fit (ref.Obj (active_birth k) ∷ values) k (omega (arith, room)))
      (looked_ends _ _ _ (record { end = refl; state = refl; objects = refl }))

  pub call_over : depth_of k ≤ size_of k → size_of k < depth_of k + (length values + 1) → (call_with k special args values).end ≡ ends.Stopped why.StackOver
  call_over fits over = stops_then (push_all (ref.Obj (active_birth k) ∷ values) k) (λ t. looked (out (ends.Call special args) t)) why.StackOver (all_over (ref.Obj (active_birth k) ∷ values) k fits (omega (arith, over)))

pub there_is_room : (depth size n : ℕ) (b : Bool) → b ≡ nat_le (depth + n) size → b ≡ true → depth + n ≤ size
there_is_room depth size n b e h = let f : nat_le (depth + n) size ≡ true = sym e ∙ h in grind (arith, nat_tests)

pub there_is_none : (depth size n : ℕ) (b : Bool) → b ≡ nat_le (depth + n) size → b ≡ false → size < depth + n
there_is_none depth size n b e h = let f : nat_le (depth + n) size ≡ false = sym e ∙ h in grind (arith, nat_tests)

-- ---- what is given

pub stopped : (s : Store) (l : Option Layout) (k : Kept) (local : Bool) (reason : Reason) (o : Out) → IsReady s k → o.end ≡ ends.Stopped reason → Returns s s l l k k local (back.Stop reason) o
stopped s l k local reason o ready end = record { gives = (end, ready, same_names s); exact = refl; layout = refl; limit = refl; contexts = makes_none l s 0 }

module _ (k : Kept) (special args : ℕ) (values : List Ref) (local : Bool) where
  pub called : (a b : Store) (l m : Option Layout) (v : Kept) → depth_of k + (length values + 1) ≤ size_of k → Leads a b l m v (with_all (ref.Obj (active_birth k) ∷ values) k) args
      → Returns a b l m k v local (back.Call special args) (call_with k special args values)
  called a b l m v room led =
      let h = call_ends k special args values room in
      record {
        gives = (h.end, record { state = subst (Keeps v) (sym h.state) led.state; ready = led.ready; names = led.names });
        exact = λ none. subst (SameKept v) (sym h.state) (led.exact none);
        layout = led.layout;
        limit = led.limit;
        contexts = led.contexts;
      }

  -- there is no room for a context that is to be told
  pub call_refused : (a b : Store) (l m : Option Layout) (v : Kept) (why : Why) → depth_of k + (length values + 1) ≤ size_of k → IsRunning k → b.memory.limit ≡ a.memory.limit → why ≡ Heap → CausesFull b l k 0 k why
      → Returns a b l m k v local (back.Full why) (call_with k special args values)
  call_refused a b l m v why room running limit heap cause =
      let h = call_ends k special args values room in
      record {
        gives = (heap, inr (record { special = special; args = args; is = h.end }), go why heap cause);
        exact = tt;
        layout = tt;
        limit = limit;
        contexts = tt;
      }
    where
      words : words_held (call_with k special args values).state ≡ words_held k
      words = ap words_held (call_ends k special args values room).state ∙ words_all (ref.Obj (active_birth k) ∷ values) k running

      go : (why : Why) → why ≡ Heap → CausesFull b l k 0 k why → CausesFull b l k (call_with k special args values).count.objects (call_with k special args values).state why
      go Stack e f = absurd (cc)
      go Heap e f =
          subst (λ n. CausesFull b l k n (call_with k special args values).state Heap) (sym (call_ends k special args values room).objects)
          (record { words = subst (λ n. b.memory.limit < n) (sym words) f.words; room = f.room })

-- a cause at the same view and layout
pub cause_at : (s : Store) (l m : Option Layout) (k v : Kept) (why : Why) → m ≡ l → v ≡ k → CausesFull s m v 0 v why → CausesFull s l k 0 k why
cause_at s l m k v why layout same cause = subst (λ n. CausesFull s n k 0 k why) layout (subst (λ t. CausesFull s m t 0 t why) same cause)
