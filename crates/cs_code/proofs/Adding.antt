-- A state to which an object is added: what stands in it, what it weighs, and how its active context may be edited.
use Rattle.std.proofs.Common.{◌≡◌, ◌∙◌, ◌+◌, ◌*◌, ◌<◌, ◌≤◌, ℕ, zero, suc, true, refl, sym, ap, ap₂, subst, arith, inl, inr, Option, Some, None, unwrap_or, List, length, nat_lt}
use Rattle.std.specs.Prelude.{slice_set, IfSome}
use Rattle.std.specs.FinMap.{FinMap}
use Rattle.std.specs.Ordering.{nat_cmp}
use Rattle.std.proofs.lemmas.Bool.Decides.{eqb_tells, nat_tests}
use Rattle.cs_heap.specs.Object.{used}
use Rattle.cs_model.specs.Ref.{Ref, Small, Char}
use Rattle.cs_model.specs.Ref as ref
use Rattle.cs_model.specs.Obj.{Obj, Context, Ptr, Ctx, context_in, lies_in, words_of, Head}
use Rattle.cs_model.specs.State.{Kept, object_at, object_of, put}
use Rattle.cs_model.specs.Keeps.{Keeps}
use Rattle.cs_model.specs.Demand.{words_taken, words_below, words_held}
use Rattle.cs_model.specs.Read.{IsRunning, active_birth, active_context, blank_context, method_of, depth_of, pc_of, size_of, stack_of}
use Rattle.cs_model.specs.Operation.{add_of, edit_active, edit_found, next_ref, store_of, with_next, with_slot}
use Rattle.cs_model.proofs.LeadOperation.{add_below, add_there}
use Rattle.cs_model.proofs.Reading.{stack_same}
use Rattle.cs_model.proofs.Same.{equal}
use Rattle.cs_model.proofs.Objects.{object_at-put_other}
use Rattle.cs_acts.specs.declared.act.Full.{Full}
use Rattle.cs_acts.specs.declared.act.Full.TheVariants.{Heap, Stack}
use Rattle.cs_acts.specs.Full.{CausesFull}
use Rattle.cs_acts.specs.Layout.{Layout}
use Rattle.cs_acts.specs.Names.{Store}
use Rattle.cs_acts.specs.Ready.{is_storable}
use Rattle.cs_acts.proofs.Running.{active_context-put_active}
use Rattle.cs_code.proofs.Looking.{words-put}
use Rattle.cs_code.proofs.Tops.{insert-twice}

-- ---- writes to it

-- what is added and then written is added as it is written
pub stored-added : (k : Kept) (head : Head) (i : ℕ) (slots : List Ref) (x : Ref) → store_of (add_of k (Ptr head slots)) (next_ref k) i x ≡ add_of k (Ptr head (slice_set slots i x))
unfolding store_of add_of put
stored-added k head i slots x =
    let o : Obj = Ptr head slots in
    ap (λ (q : Option Obj). edit_found (with_slot i x) k.rest.next q (add_of k o)) (add_there k o)
    ∙ ap (λ (m : FinMap nat_cmp Obj). let t : Kept = record { objects = m; rest = with_next (k.rest.next + 1) k.rest } in t) (insert-twice k.objects k.rest.next o (Ptr head (slice_set slots i x)))

pub storable-added : (v k : Kept) (head : Head) (i : ℕ) (slots : List Ref) (r : Ref) → Keeps v (add_of k (Ptr head slots)) → r ≡ next_ref k → i < length slots → is_storable (object_of v r) i ≡ true
storable-added v k head i slots r keeps is few =
    let there = keeps.whole k.rest.next (Ptr head slots) (add_there k (Ptr head slots)) refl in
    let below : nat_lt i (length slots) ≡ true = grind (arith, nat_tests, few) in
    ap (λ (q : Ref). is_storable (object_of v q) i) is ∙ ap (λ (o : Option Obj). is_storable o i) there ∙ below

-- ---- the active context

-- each birth is below the next one
abbrev pub AreBelow : Kept → Type 0
AreBelow k = (i : ℕ) (o : Obj) → object_at k i ≡ Some o → i < k.rest.next

pub active-added : (k : Kept) (o : Obj) → IsRunning k → AreBelow k → active_context (add_of k o) ≡ active_context k
unfolding active_context add_of put
active-added k o running below = ap (λ (q : Option Obj). unwrap_or (context_in q) blank_context) (add_below k o (active_birth k) (below (active_birth k) (Ctx (active_context k)) running.found))

-- as a world sees it
pub stack-over : (v k : Kept) (o : Obj) → IsRunning k → AreBelow k → Keeps v (add_of k o) → stack_of v ≡ stack_of k
stack-over v k o running below keeps = sym (equal (stack_same keeps)) ∙ ap (λ (c : Context). c.stack) (active-added k o running below)

pub depth-over : (v k : Kept) (o : Obj) → IsRunning k → AreBelow k → Keeps v (add_of k o) → depth_of v ≡ depth_of k
depth-over v k o running below keeps = ap (λ (xs : List Ref). length xs) (stack-over v k o running below keeps)

lies-added : (k : Kept) (o : Obj) (r : Ref) (pc : ℕ) → AreBelow k → lies_in (object_of k r) pc ≡ true → lies_in (object_of (add_of k o) r) pc ≡ true
lies-added k o (Small z) pc below lies = lies
lies-added k o (Char c) pc below lies = lies
lies-added k o (ref.Obj j) pc below lies = go (object_at k j) refl
  where
    go : (q : Option Obj) → object_at k j ≡ q → lies_in (object_at (add_of k o) j) pc ≡ true
    go None e = let none : lies_in None pc ≡ true = ap (λ (p : Option Obj). lies_in p pc) (sym e) ∙ lies in absurd (cc)
    go (Some p) e = ap (λ (x : Option Obj). lies_in x pc) (add_below k o j (below j p e)) ∙ lies

pub pc-added : (k : Kept) (o : Obj) (pc : ℕ) → IsRunning k → AreBelow k → lies_in (method_of k) pc ≡ true → lies_in (method_of (add_of k o)) pc ≡ true
unfolding method_of
pc-added k o pc running below lies =
    ap (λ (c : Context). lies_in (object_of (add_of k o) c.method) pc) (active-added k o running below) ∙ lies-added k o (active_context k).method pc below lies

birth-added : (k : Kept) (o : Obj) → active_birth (add_of k o) ≡ active_birth k
unfolding add_of put
birth-added k o = refl

known-added : (k : Kept) (o : Obj) → IsRunning k → (add_of k o).rest.active ≡ Some (active_birth (add_of k o))
unfolding add_of put
known-added k o running = running.known

pub running-added : (k : Kept) (o : Obj) → IsRunning k → AreBelow k → IsRunning (add_of k o)
running-added k o running below =
    let same = active-added k o running below in
    let pc_is : pc_of (add_of k o) ≡ pc_of k = ap (λ (c : Context). unwrap_or c.pc 0) same in
    record {
      known = known-added k o running;
      found = ap (object_at (add_of k o)) (birth-added k o) ∙ add_below k o (active_birth k) (below (active_birth k) (Ctx (active_context k)) running.found) ∙ running.found
          ∙ ap (λ (c : Context). Some (Ctx c)) (sym same);
      live = ap (λ (c : Context). c.pc) same ∙ running.live ∙ ap (λ (p : ℕ). Some p) (sym pc_is);
      method = ap (lies_in (method_of (add_of k o))) pc_is ∙ pc-added k o (pc_of k) running below running.method;
    }

lies-put : (k : Kept) (i : ℕ) (c d : Context) (r : Ref) (pc : ℕ) → object_at k i ≡ Some (Ctx c) → lies_in (object_of k r) pc ≡ true → lies_in (object_of (put k i (Ctx d)) r) pc ≡ true
lies-put k i c d (Small z) pc there lies = lies
lies-put k i c d (Char code) pc there lies = lies
lies-put k i c d (ref.Obj j) pc there lies = elim (eqb_tells j i) [
  | inl e ↦ let none : lies_in (Some (Ctx c)) pc ≡ true = ap (λ (o : Option Obj). lies_in o pc) (sym there) ∙ ap (λ (n : ℕ). lies_in (object_at k n) pc) (sym e.1) ∙ lies in absurd (cc)
  | inr e ↦ ap (λ (o : Option Obj). lies_in o pc) (object_at-put_other k i j (Ctx d) e.1) ∙ lies
]

-- an edit of the active context that leaves its method leaves the pcs that lie in it
pub pc-edited : (k : Kept) (f : Context → Context) (pc : ℕ) → IsRunning k → (f (active_context k)).method ≡ (active_context k).method → lies_in (method_of k) pc ≡ true → lies_in (method_of (edit_active k f)) pc ≡ true
unfolding method_of
pc-edited k f pc running same lies =
    let method : (active_context (edit_active k f)).method ≡ (active_context k).method = ap (λ (c : Context). c.method) (active_context-put_active k (f (active_context k))) ∙ same in
    ap (λ (r : Ref). lies_in (object_of (edit_active k f) r) pc) method ∙ lies-put k (active_birth k) (active_context k) (f (active_context k)) (active_context k).method pc running.found lies

-- ---- words

next-edited : (k : Kept) (f : Context → Context) → (edit_active k f).rest.next ≡ k.rest.next
unfolding put
next-edited k f = refl

pub words-edited : (k : Kept) (f : Context → Context) → IsRunning k → (f (active_context k)).size ≡ size_of k → words_held (edit_active k f) ≡ words_held k
words-edited k f running size =
    ap (λ (n : ℕ). words_below n (edit_active k f)) (next-edited k f)
    ∙ words-put k (active_birth k) (Ctx (active_context k)) (Ctx (f (active_context k))) running.found (ap (λ (s : ℕ). words_of (Ctx (record (active_context k) { size = s }))) size) k.rest.next

next-added : (k : Kept) (o : Obj) → (add_of k o).rest.next ≡ suc k.rest.next
unfolding add_of put
next-added k o = omega arith

pub words-added : (k : Kept) (o : Obj) → words_held (add_of k o) ≡ words_held k + words_of o
unfolding words_below
words-added k o =
    ap (λ (n : ℕ). words_below n (add_of k o)) (next-added k o)
    ∙ ap₂ (λ (a b : ℕ). a + b) (old k.rest.next (omega arith)) (ap words_taken (add_there k o))
  where
    old : (n : ℕ) → n ≤ k.rest.next → words_below n (add_of k o) ≡ words_below n k
    old zero l = refl
    old (suc n) l = ap₂ (λ (a b : ℕ). a + b) (old n (omega (arith, l))) (ap words_taken (add_below k o n (omega (arith, l))))

-- what has no room before an object is added has none with it
pub cause-added : (s : Store) (l : Option Layout) (k : Kept) (o : Obj) (size : ℕ) (why : Full) → CausesFull s l k 0 k why → CausesFull s l k size (add_of k o) why
cause-added s l k o size Heap cause = record { words = omega (arith, words-added k o, cause.words); room = more l cause.room }
  where
    more : (l : Option Layout) → IfSome l (λ laid. s.memory.limit < used s.memory.objects + 0 + 26304 * laid.most) → IfSome l (λ laid. s.memory.limit < used s.memory.objects + size + 26304 * laid.most)
    more None h = tt
    more (Some laid) h = omega (arith, h)
cause-added s l k o size Stack cause = cause

-- a cause says of the state behind a call its words alone
pub cause-weighed : (s : Store) (l : Option Layout) (k t u : Kept) (size : ℕ) (why : Full) → words_held u ≡ words_held t → CausesFull s l k size t why → CausesFull s l k size u why
cause-weighed s l k t u size Heap same cause = record { words = subst (λ (n : ℕ). s.memory.limit < n) (sym same) cause.words; room = cause.room }
cause-weighed s l k t u size Stack same cause = cause
