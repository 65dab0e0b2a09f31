-- A closure is the same beside a stack that changes, and what is entered behind a spread of the elements.
use Rattle.std.proofs.Common.{◌≡◌, ◌∙◌, ℕ, ◌+◌, ◌-◌, ◌<◌, Bool, true, false, inl, inr, refl, sym, ap, ap₂, subst, arith, Option, Some, None, IfSome, is_some, length, List, nat_le, ◌++◌, take}
use Rattle.std.specs.Prelude.{◌&&◌, if◌then◌else◌, unwrap_or, slice_get}
use Rattle.std.proofs.lemmas.Bool.Decides.{eqb_tells}
use Rattle.cs_word.specs.declared.Oop.{Oop}
use Rattle.cs_model.specs.Ref.{Ref, Small, Char, small_index}
use Rattle.cs_model.specs.Ref as ref
use Rattle.cs_model.specs.Obj.{Obj, Context, Ctx, context_in, is_method, with_stack}
use Rattle.cs_model.specs.State.{Kept, IsHeld, object_at, object_of, put}
use Rattle.cs_model.specs.Keeps.{Keeps, SameKept}
use Rattle.cs_model.specs.Alike.{Alike}
use Rattle.cs_model.specs.Context.{lies_if_index}
use Rattle.cs_model.specs.Enter.{block_size, can_evaluate, closure_method, closure_slot, closure_slots, context_words, copied_values, enter_block_of, enter_block_out, is_count, method_in_context, outer_context}
use Rattle.cs_model.specs.Operation.{edit_active, nil_of}
use Rattle.cs_model.specs.Read.{IsRunning, active_birth, active_context, depth_of}
use Rattle.cs_model.specs.Send.{elements_fitting, spread_of}
use Rattle.cs_model.specs.declared.stop.Stop.TheVariants as why
use Rattle.cs_model.specs.End.{Out, made_context, out, stop}
use Rattle.cs_model.specs.End as ends
use Rattle.cs_model.proofs.Agreeing.{can_evaluate-kept, object_of-kept}
use Rattle.cs_model.proofs.Entering.{closure_method_same, outer_context_same}
use Rattle.cs_model.proofs.Keeping.{Keeps-trans}
use Rattle.cs_model.proofs.Objects.{object_at-put_other, object_at-put_same}
use Rattle.cs_model.proofs.Same.{equal, option_equal, same}
use Rattle.cs_model.proofs.Surviving.{enter_block_out-alike}
use Rattle.cs_acts.specs.declared.prim.PrimEnd.{PrimEnd}
use Rattle.cs_acts.specs.declared.prim.PrimEnd.TheVariants as prim
use Rattle.cs_acts.specs.Full.{CausesFull}
use Rattle.cs_acts.specs.Layout.{IsLaidOut, LaidBy, Layout, entered}
use Rattle.cs_acts.specs.Led.{Leads}
use Rattle.cs_acts.specs.Made.{MakesAtMost, made_by_entering}
use Rattle.cs_acts.specs.Names.{IsNamed, Names, Store, name_of}
use Rattle.cs_acts.specs.Primed.{EndsWithout}
use Rattle.cs_acts.proofs.Dropping.{same-equal}
use Rattle.cs_acts.proofs.Filling.{SameFirst, causes_same, laid_same, made_same, same_first}
use Rattle.cs_acts.proofs.Held.{named_held}
use Rattle.cs_acts.proofs.Leading.{made-trans, names-trans}
use Rattle.cs_model.specs.End.{given}
use Rattle.cs_model.specs.PrimAnswer.{argument, receiver}
use Rattle.cs_model.specs.PrimUnwind.{evaluate_array_prim}
use Rattle.cs_unwind.specs.Blocks.{Evaluates, Spreads}
use Rattle.cs_unwind.specs.Primitive.{entered_from}
use Rattle.cs_unwind.proofs.BlockRows.{HasElements, array-can}
use Rattle.cs_unwind.proofs.Spreading.{depth_spread}
use Rattle.cs_unwind.specs.Performed.{Performs}

-- ---- where the active context changes its stack

-- the same object, or contexts of the same method
data Beside : Option Obj → Option Obj → Type 0 where
  alike : (o : Option Obj) → Beside o o
  contexts : (c d : Context) → d.method ≡ c.method → Beside (Some (Ctx c)) (Some (Ctx d))

beside : (k : Kept) (f : Context → Context) → IsRunning k → (f (active_context k)).method ≡ (active_context k).method → (x : Ref) → Beside (object_of k x) (object_of (edit_active k f) x)
beside k f running method (Small a) = alike None
beside k f running method (Char a) = alike None
beside k f running method (ref.Obj j) = elim (eqb_tells j (active_birth k)) [
  | inl e ↦ subst (λ n. Beside (object_at k n) (object_at (edit_active k f) n)) (sym e.1)
      (subst (λ o. Beside o (object_at (edit_active k f) (active_birth k))) (sym running.found)
      (subst (Beside (Some (Ctx (active_context k)))) (sym (object_at-put_same k (active_birth k) (Ctx (f (active_context k))))) (contexts (active_context k) (f (active_context k)) method)))
  | inr e ↦ subst (Beside (object_at k j)) (sym (object_at-put_other k (active_birth k) j (Ctx (f (active_context k))) e.1)) (alike (object_at k j))
]

slots_beside : {o p : Option Obj} → Beside o p → closure_slots p ≡ closure_slots o
slots_beside (alike o) = refl
slots_beside (contexts c d e) = refl

is_method_beside : {o p : Option Obj} → Beside o p → is_method p ≡ is_method o
is_method_beside (alike o) = refl
is_method_beside (contexts c d e) = refl

lies_beside : {o p : Option Obj} → Beside o p → (i : Option ℕ) → lies_if_index p i ≡ lies_if_index o i
lies_beside (alike o) i = refl
lies_beside (contexts c d e) None = refl
lies_beside (contexts c d e) (Some pc) = refl

outer_beside : {o p : Option Obj} → Beside o p → is_some (context_in p) ≡ is_some (context_in o)
outer_beside (alike o) = refl
outer_beside (contexts c d e) = refl

method_beside : {o p : Option Obj} → Beside o p → (nil : Ref) → method_in_context nil (context_in p) ≡ method_in_context nil (context_in o)
method_beside (alike o) nil = refl
method_beside (contexts c d e) nil = e

module _ (k : Kept) (f : Context → Context) (running : IsRunning k) (method : (f (active_context k)).method ≡ (active_context k).method) (x : Ref) where
  abbrev t : Kept
  t = edit_active k f

  slot_same : (i : ℕ) → closure_slot t x i ≡ closure_slot k x i
  unfolding put
  slot_same i = ap (λ xs. unwrap_or (slice_get xs i) (nil_of k)) (slots_beside (beside k f running method x))

  pub outer_same : is_some (outer_context t x) ≡ is_some (outer_context k x)
  unfolding outer_context put
  outer_same = outer_beside (beside k f running method (closure_slot t x 0)) ∙ ap (λ y. is_some (context_in (object_of k y))) (slot_same 0)

  pub method_same : closure_method t x ≡ closure_method k x
  unfolding outer_context put
  method_same = method_beside (beside k f running method (closure_slot t x 0)) (nil_of k) ∙ ap (λ y. method_in_context (nil_of k) (context_in (object_of k y))) (slot_same 0)

  pub evaluate_same : (n : ℕ) → can_evaluate t x n ≡ can_evaluate k x n
  unfolding can_evaluate put
  evaluate_same n =
      ap (λ xs. nat_le 3 (length xs) && is_some (outer_context t x) && is_method (object_of t (closure_method t x)) && lies_if_index (object_of t (closure_method t x)) (small_index (closure_slot t x 1)) && is_count n (small_index (closure_slot t x 2))) (slots_beside (beside k f running method x))
      ∙ ap (λ b. nat_le 3 (length (closure_slots (object_of k x))) && b && is_method (object_of t (closure_method t x)) && lies_if_index (object_of t (closure_method t x)) (small_index (closure_slot t x 1)) && is_count n (small_index (closure_slot t x 2))) outer_same
      ∙ ap (λ b. nat_le 3 (length (closure_slots (object_of k x))) && is_some (outer_context k x) && b && lies_if_index (object_of t (closure_method t x)) (small_index (closure_slot t x 1)) && is_count n (small_index (closure_slot t x 2)))
      (is_method_beside (beside k f running method (closure_method t x)) ∙ ap (λ y. is_method (object_of k y)) method_same)
      ∙ ap (λ b. nat_le 3 (length (closure_slots (object_of k x))) && is_some (outer_context k x) && is_method (object_of k (closure_method k x)) && b && is_count n (small_index (closure_slot t x 2)))
      (lies_beside (beside k f running method (closure_method t x)) (small_index (closure_slot t x 1)) ∙ ap₂ (λ y z. lies_if_index (object_of k y) (small_index z)) method_same (slot_same 1))
      ∙ ap (λ z. nat_le 3 (length (closure_slots (object_of k x))) && is_some (outer_context k x) && is_method (object_of k (closure_method k x)) && lies_if_index (object_of k (closure_method k x)) (small_index (closure_slot k x 1)) && is_count n (small_index z)) (slot_same 2)

-- ---- the block behind the spread

-- what was found of the closure holds behind the spread
pub evaluates_behind : (a b : Store) (l m : Option Layout) (k v : Kept) (values : List Ref) (o method : Oop) (n : ℕ) → IsRunning k → Leads a b l m v (spread_of k 1 values) 0 → IsNamed a o → Evaluates a k (name_of a o) n method → Evaluates b v (name_of b o) n method
evaluates_behind a b l m k v values o method n running led named block =
    let x : Ref = name_of a o in
    let t : Kept = spread_of k 1 values in
    let edit : Context → Context = λ c. with_stack (take (length c.stack - 1) c.stack ++ values) c in
    let there : Names b o x = led.names o named in
    let word : Names b method (name_of a method) = led.names method block.method.method.named in
    let held : IsHeld v x = subst (IsHeld v) there.is (named_held b v o led.ready.sound.holds there.sound) in
    let method_held : IsHeld v (name_of a method) = subst (IsHeld v) word.is (named_held b v method led.ready.sound.holds word.sound) in
    let is : name_of a method ≡ closure_method v x = block.method.is ∙ sym (method_same k edit running refl x) ∙ equal (closure_method_same led.state (same x held)) in
    let can : can_evaluate v x n ≡ true = sym (can_evaluate-kept v t x n led.state held) ∙ evaluate_same k edit running refl x n ∙ block.can in
    let outer : is_some (outer_context v x) ≡ true = sym (ap is_some (option_equal (outer_context_same led.state (same x held)))) ∙ outer_same k edit running refl x ∙ block.method.outer in
    let is_one : is_method (object_of v (name_of a method)) ≡ true = sym (ap is_method (object_of-kept v t (name_of a method) led.state method_held)) ∙ is_method_beside (beside k edit running refl (name_of a method)) ∙ block.method.method.method in
    subst (λ y. Evaluates b v y n method) (sym there.is) (record {
      can = can;
      method = record {
        method = record { named = word.sound; method = ap (λ y. is_method (object_of v y)) word.is ∙ is_one };
        is = word.is ∙ is;
        outer = outer;
      };
    })

none_more : (l : Option Layout) (a c : Store) (n : ℕ) → MakesAtMost (0 + n) l a c → MakesAtMost n l a c
none_more None a c n h = tt
none_more (Some l) a c n h = omega (arith, h)

-- a block is entered, or the step stops
abbrev is_block_end : ends.End → Bool
is_block_end ends.Done = false
is_block_end (ends.Send selector args above) = false
is_block_end (ends.Return value local) = false
is_block_end ends.Entered = true
is_block_end (ends.Primitive method number) = false
is_block_end (ends.Call special args) = false
is_block_end ends.Answer = false
is_block_end ends.Fail = false
is_block_end ends.Quit = false
is_block_end ends.Snapshot = false
is_block_end (ends.Stopped reason) = true

block_ends : (k : Kept) (x : Ref) (args : ℕ) → is_block_end (enter_block_out k x args).end ≡ true
unfolding enter_block_out made_context
block_ends k x args = go (nat_le (args + length (copied_values k x)) (block_size k x))
  where
    go : (b : Bool) → is_block_end (if b then made_context (context_words (block_size k x)) (out ends.Entered (enter_block_of k x args)) else stop why.StackOver k).end ≡ true
    go true = refl
    go false = refl

-- what is done behind a part that led to a state is done from there
pub behind : (a b c : Store) (l m n : Option Layout) (k v u w : Kept) (x : Ref) (args : ℕ) (found : PrimEnd) → Leads a b l m v u 0 → IsLaidOut b v m → IsHeld v x → Performs b c m n v v w found (enter_block_out v x args) → Performs a c l n k u w found (enter_block_out u x args)
behind a b c l m n k v u w x args found led laid held done = go found done
  where
    alike_out : Alike v (enter_block_out v x args) (enter_block_out u x args)
    alike_out = enter_block_out-alike v u x args led.state held

    first : SameFirst v u m
    first = same_first b v u m led.state laid

    end : (e : _) → (enter_block_out v x args).end ≡ e → (enter_block_out u x args).end ≡ e
    end e h = sym alike_out.end ∙ h

    go : (found : PrimEnd) → Performs b c m n v v w found (enter_block_out v x args) → Performs a c l n k u w found (enter_block_out u x args)
    go prim.Answer p = absurd (let e : is_block_end ends.Answer ≡ true = ap is_block_end (sym p.gives.0) ∙ block_ends v x args in cc)
    go prim.Entered p = record {
      gives = (end _ p.gives.0, record { state = Keeps-trans p.gives.1.state alike_out.keeps; ready = p.gives.1.ready; names = names-trans a b c led.names p.gives.1.names });
      exact = λ none. subst (λ z. SameKept w (enter_block_out z x args).state) (same-equal v u (led.exact none)) (p.exact (led.layout ∙ none));
      layout = subst (λ o. LaidBy (entered u u.rest.next) o n) led.layout (subst (λ i. LaidBy (entered u i) m n) (ap (λ r. r.next) led.state.rest) (laid_same v u v.rest.next m n first p.layout));
      limit = p.limit ∙ led.limit;
      contexts = none_more l a c (made_by_entering u l) (made-trans l m a b c 0 (made_by_entering u l) led.layout led.contexts (subst (λ i. MakesAtMost i m b c) (made_same v u m first ∙ ap (made_by_entering u) led.layout) p.contexts));
    }
    go prim.Fail p = absurd (let e : is_block_end ends.Fail ≡ true = ap is_block_end (sym p.gives.0) ∙ block_ends v x args in cc)
    go (prim.Stop reason) p = record {
      gives = (end _ p.gives.0, record { state = Keeps-trans p.gives.1.state alike_out.keeps; ready = p.gives.1.ready; names = names-trans a b c led.names p.gives.1.names });
      exact = λ none. subst (λ z. SameKept w (enter_block_out z x args).state) (same-equal v u (led.exact none)) (p.exact (led.layout ∙ none));
      layout = p.layout ∙ led.layout;
      limit = p.limit ∙ led.limit;
      contexts = made-trans l m a b c 0 0 led.layout led.contexts p.contexts;
    }
    go (prim.Full why) p = record {
      gives = (
        subst (EndsWithout why) alike_out.end p.gives.0,
        subst (λ o. CausesFull c o u (enter_block_out u x args).count.objects (enter_block_out u x args).state why) led.layout
            (subst (λ j. CausesFull c m u j (enter_block_out u x args).state why) (ap (λ q. q.objects) alike_out.count) (causes_same c m v u (enter_block_out v x args).state (enter_block_out u x args).state (enter_block_out v x args).count.objects why first alike_out.keeps p.gives.1)),
      );
      exact = tt;
      layout = tt;
      limit = p.limit ∙ led.limit;
      contexts = tt;
    }

-- the elements stand on the stack
pub entered_is : (k : Kept) (x : Ref) (n : ℕ) → x ≡ argument k 1 0 → (h : HasElements k x n) → entered_from k 206 ≡ spread_of k 1 h.values
entered_is k x n is h = ap (λ o. given o k (λ values. spread_of k 1 values)) (ap (elements_fitting k 1) (sym is) ∙ h.fitting)

pub spread_led : (a b : Store) (l m : Option Layout) (k v : Kept) (x : Ref) (n : ℕ) → (h : HasElements k x n) → Spreads a b l m k v x → Leads a b l m v (spread_of k 1 h.values) 0
spread_led a b l m k v x n h s = subst (λ o. IfSome o (λ values. Leads a b l m v (spread_of k 1 values) 0)) h.fitting s

-- and the receiver stands below them
pub enough_there : (v k : Kept) (x : Ref) (n args : ℕ) → (h : HasElements k x n) → Keeps v (spread_of k 1 h.values) → args ≡ 1 → args < depth_of k → n < depth_of v
enough_there v k x n args h keeps one there = omega (arith, depth_spread v k h.values keeps, h.count, one, there)

pub all_behind : (a b c : Store) (l m n : Option Layout) (k v w : Kept) (x : Ref) (o : Oop) (count args : ℕ) (found : PrimEnd) → args ≡ 1 → x ≡ argument k 1 0 → name_of a o ≡ receiver k 1 → (h : HasElements k x count) → IsNamed a o
    → can_evaluate k (name_of a o) count ≡ true → Leads a b l m v (spread_of k 1 h.values) 0 → IsLaidOut b v m → Performs b c m n v v w found (enter_block_out v (name_of b o) count)
    → Performs a c l n k (entered_from k 206) w found (evaluate_array_prim k args)
all_behind a b c l m n k v w x o count args found one is also h named can led laid done =
    let there : Names b o (name_of a o) = led.names o named in
    let held : IsHeld v (name_of a o) = subst (IsHeld v) there.is (named_held b v o led.ready.sound.holds there.sound) in
    let here : Performs b c m n v v w found (enter_block_out v (name_of a o) count) = subst (λ z. Performs b c m n v v w found (enter_block_out v z count)) there.is done in
    subst (Performs a c l n k (entered_from k 206) w found) (array-can k args count x (name_of a o) one is also h can)
    (subst (λ f. Performs a c l n k f w found (enter_block_out (spread_of k 1 h.values) (name_of a o) count)) (sym (entered_is k x count is h))
    (behind a b c l m n k v (spread_of k 1 h.values) w (name_of a o) count found led laid held here))

pub next_behind : (v k : Kept) (values : List Ref) → Keeps v (spread_of k 1 values) → v.rest.next ≡ k.rest.next
unfolding put
next_behind v k values keeps = ap (λ r. r.next) keeps.rest
