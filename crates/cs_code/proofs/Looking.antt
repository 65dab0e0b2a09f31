-- What looks at contexts gives, and that a push leaves the words of a state as they are.
use Rattle.std.proofs.Common.{◌≡◌, ◌∙◌, ℕ, ◌+◌, ◌-◌, ◌<◌, pos, zero, suc, Bool, true, false, refl, sym, ap, ap₂, subst, arith, inl, inr, Option, Some, None, is_some, option_and_then, length, nat_lt, List, [], ◌∷◌}
use Rattle.std.specs.Prelude.{slice_get, IfSome, if◌then◌else◌, ◌==◌}
use Rattle.std.proofs.lemmas.Bool.Decides.{eqb_tells, nat_tests}
use Rattle.cs_word.specs.declared.Oop.{Oop}
use Rattle.cs_model.specs.declared.stop.Stop.{Stop}
use Rattle.cs_model.specs.declared.stop.Stop.TheVariants as why
use Rattle.cs_model.specs.Ref.{Ref, Small, small_index}
use Rattle.cs_model.specs.Ref as ref
use Rattle.cs_model.specs.Obj.{Obj, Context, Ptr, Raw, Method, Ctx, context_in, pushed, words_of}
use Rattle.cs_model.specs.State.{Kept, object_at, object_of, put}
use Rattle.cs_model.specs.Keeps.{Keeps, SameKept}
use Rattle.cs_model.specs.Context.{context_get, is_context_ref}
use Rattle.cs_model.specs.Read.{IsRunning, active_birth, active_context, depth_of, receiver_of, size_of}
use Rattle.cs_model.specs.Return.{context_at}
use Rattle.cs_model.specs.Operation.{push_of}
use Rattle.cs_model.specs.Demand.{words_taken, words_below, words_held}
use Rattle.cs_model.specs.End.{End, Out, done, given, looked, stop}
use Rattle.cs_model.specs.End as ends
use Rattle.cs_model.specs.Exec.{push_field, push_out, push_receiver_out, this_context_out}
use Rattle.cs_model.proofs.Objects.{object_at-put_same, object_at-put_other}
use Rattle.cs_acts.specs.declared.act.Full.{Full}
use Rattle.cs_acts.specs.declared.act.Full.TheVariants.{Heap, Stack}
use Rattle.cs_acts.specs.Full.{CausesFull}
use Rattle.cs_acts.specs.Layout.{Layout}
use Rattle.cs_acts.specs.Made.{made_by_reading}
use Rattle.cs_acts.specs.Names.{Store, KeepsNames, name_of}
use Rattle.cs_acts.specs.Ready.{IsReady}
use Rattle.cs_acts.specs.Targets.{field_of}
use Rattle.cs_code.specs.declared.end.CodeEnd.TheVariants as code
use Rattle.cs_code.specs.Gives.{Gives, Refuses}
use Rattle.cs_acts.proofs.Leading.{names-trans}
use Rattle.cs_code.proofs.Through.{same_itself}

-- ---- words

pub words-put : (k : Kept) (i : ℕ) (o p : Obj) → object_at k i ≡ Some o → words_of p ≡ words_of o → (n : ℕ) → words_below n (put k i p) ≡ words_below n k
unfolding words_below
words-put k i o p there size zero = refl
words-put k i o p there size (suc n) = ap₂ (λ (a b : ℕ). a + b) (words-put k i o p there size n) (elim (eqb_tells n i) [
  | inl e ↦ ap (λ j. words_taken (object_at (put k i p) j)) e.1 ∙ ap (λ q. words_taken q) (object_at-put_same k i p) ∙ size
      ∙ sym (ap (λ j. words_taken (object_at k j)) e.1 ∙ ap (λ q. words_taken q) there)
  | inr e ↦ ap (λ q. words_taken q) (object_at-put_other k i n p e.1)
])

next-pushed : (k : Kept) (x : Ref) → (push_of k x).rest.next ≡ k.rest.next
unfolding push_of put
next-pushed k x = refl

pub words-pushed : (k : Kept) (x : Ref) → IsRunning k → words_held (push_of k x) ≡ words_held k
unfolding push_of
words-pushed k x running =
    ap (λ n. words_below n (push_of k x)) (next-pushed k x)
    ∙ words-put k (active_birth k) (Ctx (active_context k)) (Ctx (pushed x (active_context k))) running.found refl k.rest.next

-- what has no room at a state has none at that with a value pushed
cause-pushed : (s : Store) (l : Option Layout) (k : Kept) (x : Ref) (why : Full) → IsRunning k → CausesFull s l k 0 k why → CausesFull s l k 0 (push_of k x) why
cause-pushed s l k x Heap running cause = record { words = subst (λ n. s.memory.limit < n) (sym (words-pushed k x running)) cause.words; room = cause.room }
cause-pushed s l k x Stack running cause = cause

-- ---- how a push that looks at something ends

pub record EndsAs (o : Out) (e : End) (t : Kept) : Type 0 where
  pub end : o.end ≡ e
  pub state : o.state ≡ t
  pub objects : o.count.objects ≡ 0

pushed-as : (k : Kept) (x : Ref) → nat_lt (depth_of k) (size_of k) ≡ true → EndsAs (push_out k x) ends.Done (push_of k x)
unfolding push_out
pushed-as k x room =
    subst (λ b. EndsAs (if b then done (push_of k x) else stop why.StackOver k) ends.Done (push_of k x)) (sym room) (record { end = refl; state = refl; objects = refl })

over-as : (k : Kept) (x : Ref) → nat_lt (depth_of k) (size_of k) ≡ false → EndsAs (push_out k x) (ends.Stopped why.StackOver) k
unfolding push_out
over-as k x room =
    subst (λ b. EndsAs (if b then done (push_of k x) else stop why.StackOver k) (ends.Stopped why.StackOver) k) (sym room) (record { end = refl; state = refl; objects = refl })

looked-as : (o : Out) (e : End) (t : Kept) → EndsAs o e t → EndsAs (looked o) e t
unfolding looked
looked-as o e t ends_as = record { end = ends_as.end; state = ends_as.state; objects = omega (arith, ends_as.objects) }

pub this-as : (k : Kept) → nat_lt (depth_of k) (size_of k) ≡ true → EndsAs (this_context_out k) ends.Done (push_of k (ref.Obj (active_birth k)))
unfolding this_context_out
this-as k room =
    let t = push_of k (ref.Obj (active_birth k)) in
    subst (λ b. EndsAs (if b then looked (done t) else stop why.StackOver k) ends.Done t) (sym room)
    (looked-as (done t) ends.Done t (record { end = refl; state = refl; objects = refl }))

-- a field that is there is pushed
field-as : (k : Kept) (i : ℕ) (o : Option Obj) (x : Ref) (e : End) (t : Kept) → is_some (context_in o) ≡ true → Some x ≡ option_and_then (λ c. context_get k c i) (context_in o)
    → EndsAs (push_out k x) e t → EndsAs (push_field k i o) e t
field-as k i None x e t h there ends_as = absurd (cc)
field-as k i (Some (Ptr head slots)) x e t h there ends_as = absurd (cc)
field-as k i (Some (Raw head bytes)) x e t h there ends_as = absurd (cc)
field-as k i (Some (Method head header literals bytecodes)) x e t h there ends_as = absurd (cc)
field-as k i (Some (Ctx c)) x e t h there ends_as =
    subst (λ f. EndsAs (given f (stop why.BadField k) (λ (y : Ref). if i == 0 then looked (push_out k y) else push_out k y)) e t) there (go (i == 0))
  where
    go : (b : Bool) → EndsAs (if b then looked (push_out k x) else push_out k x) e t
    go true = looked-as (push_out k x) e t ends_as
    go false = ends_as

pub field-pushed-as : (k : Kept) (i : ℕ) (r x : Ref) → is_context_ref k r ≡ true → Some x ≡ field_of k r i → nat_lt (depth_of k) (size_of k) ≡ true → EndsAs (push_field k i (object_of k r)) ends.Done (push_of k x)
field-pushed-as k i r x context there room = field-as k i (object_of k r) x ends.Done (push_of k x) context there (pushed-as k x room)

pub field-over-as : (k : Kept) (i : ℕ) (r : Ref) → is_context_ref k r ≡ true → is_some (field_of k r i) ≡ true → nat_lt (depth_of k) (size_of k) ≡ false
    → EndsAs (push_field k i (object_of k r)) (ends.Stopped why.StackOver) k
field-over-as k i r context there room = go (field_of k r i) refl there
  where
    go : (f : Option Ref) → f ≡ field_of k r i → is_some f ≡ true → EndsAs (push_field k i (object_of k r)) (ends.Stopped why.StackOver) k
    go None is h = absurd (cc)
    go (Some x) is h = field-as k i (object_of k r) x (ends.Stopped why.StackOver) k context is (over-as k x room)

pub receiver-field : (k : Kept) (i j : ℕ) (r : Ref) → r ≡ receiver_of k → j ≡ i → push_field k j (object_of k r) ≡ push_receiver_out k i
unfolding push_receiver_out
receiver-field k i j r is same_index = ap₂ (λ (x : Ref) (n : ℕ). push_field k n (object_of k x)) is same_index

-- ---- how many contexts it asks for

pub this-looks : (k : Kept) → nat_lt (depth_of k) (size_of k) ≡ true → (this_context_out k).count.looks ≡ 1
unfolding this_context_out looked
this-looks k room =
    let t = push_of k (ref.Obj (active_birth k)) in
    subst (λ (b : Bool). (if b then looked (done t) else stop why.StackOver k).count.looks ≡ 1) (sym room) refl

push-looks : (k : Kept) (x : Ref) → (push_out k x).count.looks ≡ 0
unfolding push_out
push-looks k x = go (nat_lt (depth_of k) (size_of k))
  where
    go : (b : Bool) → (if b then done (push_of k x) else stop why.StackOver k).count.looks ≡ 0
    go true = refl
    go false = refl

found-looks : (k : Kept) (i : ℕ) (o : Option Obj) (x : Ref) → is_some (context_in o) ≡ true → Some x ≡ option_and_then (λ c. context_get k c i) (context_in o) → (push_field k i o).count.looks ≡ made_by_reading i
unfolding looked
found-looks k i None x h there = absurd (cc)
found-looks k i (Some (Ptr head slots)) x h there = absurd (cc)
found-looks k i (Some (Raw head bytes)) x h there = absurd (cc)
found-looks k i (Some (Method head header literals bytecodes)) x h there = absurd (cc)
found-looks k i (Some (Ctx c)) x h there =
    subst (λ (f : Option Ref). (given f (stop why.BadField k) (λ (y : Ref). if i == 0 then looked (push_out k y) else push_out k y)).count.looks ≡ made_by_reading i) there (go (i == 0))
  where
    go : (b : Bool) → (if b then looked (push_out k x) else push_out k x).count.looks ≡ (if b then 1 else 0)
    go true = ap (λ (n : ℕ). 1 + n) (push-looks k x)
    go false = push-looks k x

pub field-looks : (k : Kept) (i : ℕ) (r x : Ref) → is_context_ref k r ≡ true → Some x ≡ field_of k r i → (push_field k i (object_of k r)).count.looks ≡ made_by_reading i
field-looks k i r x context there = found-looks k i (object_of k r) x context there

-- ---- what is given

pub stopped-given : (s0 s1 : Store) (l : Option Layout) (k v : Kept) (o : Out) (reason : Stop) → EndsAs o (ends.Stopped reason) k → v ≡ k → IsReady s1 v → KeepsNames s0 s1 → Gives s0 s1 l v (code.Stop reason) o
stopped-given s0 s1 l k v o reason ends_as same ready names = record {
  granted = refl;
  end = sym ends_as.end;
  named = tt;
  state = subst (Keeps v) (same ∙ sym ends_as.state) ready.sound.closed;
  exact = λ _. subst (SameKept v) (same ∙ sym ends_as.state) (same_itself v);
  ready = ready;
  names = names;
}

-- what was looked at is pushed
pub pushed-given : (s0 s1 s2 : Store) (l n : Option Layout) (k v w : Kept) (o : Out) (word : Oop) (x : Ref) → EndsAs o ends.Done (push_of k x) → v ≡ k → n ≡ l → name_of s1 word ≡ x → Keeps v v
    → ((m : Kept) → Keeps v m → Keeps w (push_of m (name_of s1 word))) → (n ≡ None → SameKept w (push_of v (name_of s1 word))) → KeepsNames s0 s1 → IsReady s2 w → KeepsNames s1 s2
    → Gives s0 s2 l w code.Done o
pushed-given s0 s1 s2 l n k v w o word x ends_as same laid is closed state exact before ready after =
    let here = ap₂ (λ (u : Kept) (y : Ref). push_of u y) same is ∙ sym ends_as.state in
    record {
      granted = refl;
      end = sym ends_as.end;
      named = tt;
      state = subst (Keeps w) here (state v closed);
      exact = λ none. subst (SameKept w) here (exact (laid ∙ none));
      ready = ready;
      names = names-trans s0 s1 s2 before after;
    }

pub refused : (s : Store) (l : Option Layout) (k v : Kept) (o : Out) (x : Ref) (a b : Full) → code.Full a ≡ code.Full b → a ≡ Heap → IsRunning k → EndsAs o ends.Done (push_of k x) → v ≡ k → CausesFull s l v 0 v a → Refuses s l k o b
refused s l k v o x a b same_reason heap running ends_as same cause =
    let here : CausesFull s l k 0 k b = subst (λ w. CausesFull s l k 0 k w) (reason a b same_reason) (subst (λ u. CausesFull s l u 0 u a) same cause) in
    record {
      end = inl ends_as.end;
      heap_alone = sym (reason a b same_reason) ∙ heap;
      cause = subst (λ n. CausesFull s l k n o.state b) (sym ends_as.objects) (subst (λ t. CausesFull s l k 0 t b) (sym ends_as.state) (cause-pushed s l k x b running here));
    }
  where
    reason : (a b : Full) → code.Full a ≡ code.Full b → a ≡ b
    reason a b e = cc

pub field-refused : (s : Store) (l : Option Layout) (k v : Kept) (i : ℕ) (r : Ref) (a b : Full) → code.Full a ≡ code.Full b → a ≡ Heap → IsRunning k → is_context_ref k r ≡ true → is_some (field_of k r i) ≡ true
    → nat_lt (depth_of k) (size_of k) ≡ true → v ≡ k → CausesFull s l v 0 v a → Refuses s l k (push_field k i (object_of k r)) b
field-refused s l k v i r a b same_reason heap running context there room same cause = go (field_of k r i) refl there
  where
    go : (f : Option Ref) → f ≡ field_of k r i → is_some f ≡ true → Refuses s l k (push_field k i (object_of k r)) b
    go None is h = absurd (cc)
    go (Some x) is h = refused s l k v (push_field k i (object_of k r)) x a b same_reason heap running (field-pushed-as k i r x context is room) same cause

-- ---- which fields there are

low : (k : Kept) (c : Context) (i : ℕ) → nat_lt i 6 ≡ true → is_some (context_get k c i) ≡ true
unfolding context_get
low k c zero h = refl
low k c (suc zero) h = refl
low k c (suc (suc zero)) h = refl
low k c (suc (suc (suc zero))) h = refl
low k c (suc (suc (suc (suc zero)))) h = refl
low k c (suc (suc (suc (suc (suc zero))))) h = refl
low k c (suc (suc (suc (suc (suc (suc n)))))) h = absurd (grind (arith, nat_tests))

there_below : (xs : List Ref) (n : ℕ) → is_some (slice_get xs n) ≡ nat_lt n (length xs)
there_below [] n = let none : nat_lt n 0 ≡ false = grind (arith, nat_tests) in sym none
there_below (x ∷ xs) zero = let some : nat_lt 0 (length (x ∷ xs)) ≡ true = grind (arith, nat_tests) in sym some
there_below (x ∷ xs) (suc n) = let both : nat_lt (suc n) (length (x ∷ xs)) ≡ nat_lt n (length xs) = grind (arith, nat_tests) in there_below xs n ∙ sym both

high : (k : Kept) (c : Context) (i : ℕ) → nat_lt i 6 ≡ false → is_some (context_get k c i) ≡ nat_lt (i - 6) (length c.stack)
unfolding context_get
high k c i h =
    let e0 : (i == 0) ≡ false = grind (arith, nat_tests) in
    let e1 : (i == 1) ≡ false = grind (arith, nat_tests) in
    let e2 : (i == 2) ≡ false = grind (arith, nat_tests) in
    let e3 : (i == 3) ≡ false = grind (arith, nat_tests) in
    let e4 : (i == 4) ≡ false = grind (arith, nat_tests) in
    let e5 : (i == 5) ≡ false = grind (arith, nat_tests) in
    rw (e0, e1, e2, e3, e4, e5) (there_below c.stack (i - 6))

pub low-field : (k : Kept) (r : Ref) (i : ℕ) → is_context_ref k r ≡ true → nat_lt i 6 ≡ true → is_some (field_of k r i) ≡ true
low-field k r i context below = go (context_at k r) context
  where
    go : (o : Option Context) → is_some o ≡ true → is_some (option_and_then (λ c. context_get k c i) o) ≡ true
    go None h = absurd (cc)
    go (Some c) h = low k c i below

pub high-field : (k : Kept) (r : Ref) (i depth : ℕ) → is_context_ref k r ≡ true → IfSome (context_at k r) (λ c. depth ≡ length c.stack) → nat_lt i 6 ≡ false → nat_lt (i - 6) depth ≡ is_some (field_of k r i)
high-field k r i depth context is above = go (context_at k r) context is
  where
    go : (o : Option Context) → is_some o ≡ true → IfSome o (λ c. depth ≡ length c.stack) → nat_lt (i - 6) depth ≡ is_some (option_and_then (λ c. context_get k c i) o)
    go None h e = absurd (cc)
    go (Some c) h e = ap (nat_lt (i - 6)) e ∙ sym (high k c i above)

-- field 2 is the depth of the stack
stackp-read : (k : Kept) (o : Option Context) (y : Ref) (read : Option ℕ) → is_some o ≡ true → Some y ≡ option_and_then (λ c. context_get k c 2) o → read ≡ small_index y
    → IfSome o (λ c. read ≡ Some (length c.stack))
unfolding context_get
stackp-read k None y read h there is = absurd (cc)
stackp-read k (Some c) y read h there is = let same : y ≡ Small (pos (length c.stack)) = cc in is ∙ ap (λ r. small_index r) same

pub stackp-there : (k : Kept) (r y : Ref) (read : Option ℕ) → is_context_ref k r ≡ true → Some y ≡ field_of k r 2 → read ≡ small_index y → read ≡ None → ⊥
stackp-there k r y read context there is none = go (context_at k r) context (stackp-read k (context_at k r) y read context there is)
  where
    go : (o : Option Context) → is_some o ≡ true → IfSome o (λ c. read ≡ Some (length c.stack)) → ⊥
    go None h e = absurd (cc)
    go (Some c) h e = absurd (cc)

pub stackp-is : (k : Kept) (r y : Ref) (read : Option ℕ) (depth : ℕ) → is_context_ref k r ≡ true → Some y ≡ field_of k r 2 → read ≡ small_index y → read ≡ Some depth → IfSome (context_at k r) (λ c. depth ≡ length c.stack)
stackp-is k r y read depth context there is some = go (context_at k r) context (stackp-read k (context_at k r) y read context there is)
  where
    go : (o : Option Context) → is_some o ≡ true → IfSome o (λ c. read ≡ Some (length c.stack)) → IfSome o (λ c. depth ≡ length c.stack)
    go None h e = absurd (cc)
    go (Some c) h e = let both : Some depth ≡ Some (length c.stack) = sym some ∙ e in cc
