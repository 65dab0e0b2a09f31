-- A closure as it is made: added with nil, and written slot by slot.
use Rattle.std.proofs.Common.{◌≡◌, ◌∙◌, ◌+◌, ◌-◌, ◌<◌, ◌≤◌, ◌^◌, ℕ, zero, suc, true, refl, sym, ap, ap₂, subst, arith, inl, inr, Option, Some, None, unwrap_or, List, [], ◌∷◌, ◌++◌, length, take, drop, replicate, is_some, option_map, length-append, length-take, length-drop}
use Rattle.std.specs.Prelude.{slice_get, slice_set}
use Rattle.std.specs.FinMap.{get}
use Rattle.std.proofs.lemmas.List.{length-replicate, take-take, take_all}
use Rattle.std.proofs.lemmas.Bool.Decides.{eqb_tells}
use Rattle.cs_word.specs.declared.Oop.{Oop}
use Rattle.cs_model.specs.Ref.{Ref}
use Rattle.cs_model.specs.Obj.{Obj, Context, Ptr, Ctx, lies_in, popped, with_stack, words_of, words_of_slots, Head, new_head}
use Rattle.cs_heap.specs.Object.{birth_at, size}
use Rattle.cs_classes.proofs.Wholes.{get-classes_of}
use Rattle.cs_model.specs.Context.{closure_class}
use Rattle.cs_acts.specs.Led.{Leads}
use Rattle.cs_acts.specs.Made.{CanAllocate, MakesAtMost, blank_of}
use Rattle.cs_acts.proofs.Leading.{made-trans, names-trans, then}
use Rattle.cs_model.specs.State.{Rest, Kept, object_at, object_of, put}
use Rattle.cs_model.specs.Keeps.{Keeps, SameKept}
use Rattle.cs_model.specs.Read.{IsRunning, active_birth, active_context, depth_of, method_of, pc_of, stack_of}
use Rattle.cs_model.specs.Operation.{add_of, drop_of, last_values, next_ref, nil_of, pop_of, put_active, store_of}
use Rattle.cs_model.specs.Demand.{words_held}
use Rattle.cs_model.specs.Exec.{new_closure}
use Rattle.cs_model.proofs.Editing.{edit_twice}
use Rattle.cs_model.proofs.Objects.{object_at-put_same, object_at-put_other, rest-put}
use Rattle.cs_model.proofs.Keeping.{Keeps-trans}
use Rattle.cs_model.proofs.Operating.{drop_moved}
use Rattle.cs_model.proofs.Reading.{depth_same}
use Rattle.cs_model.proofs.Same.{equal}
use Rattle.cs_acts.specs.declared.act.Full.{Full}
use Rattle.cs_acts.specs.Full.{CausesFull}
use Rattle.cs_acts.specs.Layout.{Layout}
use Rattle.cs_acts.specs.Names.{Store, KeepsNames, Names, name_of}
use Rattle.cs_acts.specs.Ready.{IsReady, IsSound}
use Rattle.cs_acts.proofs.Running.{active_context-put_active}
use Rattle.cs_acts.proofs.Sizes.{pc_small}
use Rattle.cs_code.specs.Closures.{bare_closure, closure_with, copied_so_far, slots_with}
use Rattle.cs_code.proofs.Adding.{cause-weighed, stored-added, words-added}
use Rattle.cs_code.proofs.Through.{equal_kept, same_itself}

-- ---- one call behind another

pub made-none : (l : Option Layout) (n : ℕ) (s : Store) → MakesAtMost n l s s
made-none None n s = tt
made-none (Some l) n s = omega arith

pub here : (s : Store) (l : Option Layout) (k : Kept) → IsReady s k → Leads s s l l k k 0
here s l k ready = record {
  state = ready.sound.closed;
  exact = λ _. same_itself k;
  layout = refl;
  limit = refl;
  contexts = made-none l 0 s;
  ready = ready;
  names = λ w named. record { sound = named; is = refl };
}

-- slot i of the object that was added is written
pub written : (a b c : Store) (l m n : Option Layout) (v w k : Kept) (head : Head) (i : ℕ) (slots : List Ref) (o x : Oop) (y : Ref) → Leads a b l m v (add_of k (Ptr head slots)) 1
    → name_of b o ≡ next_ref k → name_of b x ≡ y
    → ((u : Kept) → Keeps v u → Keeps w (store_of u (name_of b o) i (name_of b x))) → (m ≡ None → SameKept w (store_of v (name_of b o) i (name_of b x))) → n ≡ m
    → c.memory.limit ≡ b.memory.limit → MakesAtMost 0 m b c → IsReady c w → KeepsNames b c → Leads a c l n w (add_of k (Ptr head (slice_set slots i y))) 1
written a b c l m n v w k head i slots o x y led object value state exact layout limit contexts ready names =
    subst (λ (t : Kept). Leads a c l n w t 1)
    (ap₂ (λ (p q : Ref). store_of (add_of k (Ptr head slots)) p i q) object value ∙ stored-added k head i slots y)
    (then a b c l m n v w (add_of k (Ptr head slots)) 1 0 (λ (t : Kept). store_of t (name_of b o) i (name_of b x)) led state exact layout limit contexts ready names)

-- a pc of a method in the heap is a SmallInteger
pub pc-fits : (s : Store) (k : Kept) (o : Oop) → IsReady s k → Names s o (active_context k).method → pc_of k < 2 ^ 29
unfolding method_of
pc-fits s k o ready named = pc_small s k o (pc_of k) ready.sound.holds named.sound (ap (λ (r : Ref). lies_in (object_of k r) (pc_of k)) named.is ∙ ready.running.method)

-- ---- copied values

length-last : (xs : List Ref) (n : ℕ) → n ≤ length xs → length (last_values n xs) ≡ n
length-last xs n few = omega (arith, length-drop (length xs - n) xs, few)

drop-at : (xs : List Ref) (d i : ℕ) → slice_get (drop d xs) i ≡ slice_get xs (d + i)
drop-at xs zero i = let e : i ≡ 0 + i = omega arith in ap (slice_get xs) e
drop-at [] (suc d) i = refl
drop-at (x ∷ xs) (suc d) i = let e : suc (d + i) ≡ suc d + i = omega arith in drop-at xs d i ∙ ap (slice_get (x ∷ xs)) e

at-there : (xs : List Ref) (i : ℕ) (z : Ref) → i < length xs → slice_get xs i ≡ Some (unwrap_or (slice_get xs i) z)
at-there [] i z h = absurd (omega (arith, h))
at-there (x ∷ xs) zero z h = refl
at-there (x ∷ xs) (suc i) z h = at-there xs i z (omega (arith, h))

one-more : (xs : List Ref) (n i : ℕ) (x z : Ref) → slice_get xs i ≡ Some x → i < n → slice_set (take i xs ++ replicate (n - i) z) i x ≡ take (suc i) xs ++ replicate (n - suc i) z
one-more [] n i x z there few = absurd (cc)
one-more (y ∷ xs) zero i x z there few = absurd (omega (arith, few))
one-more (y ∷ xs) (suc n) zero x z there few =
    let same : x ≡ y = cc in
    let before : suc n - 0 ≡ suc n = omega arith in
    let after : n ≡ suc n - 1 = omega arith in
    ap (λ (m : ℕ). slice_set (replicate m z) 0 x) before ∙ ap₂ (λ (w : Ref) (m : ℕ). w ∷ replicate m z) same after
one-more (y ∷ xs) (suc n) (suc i) x z there few =
    let before : suc n - suc i ≡ n - i = omega arith in
    let after : n - suc i ≡ suc n - suc (suc i) = omega arith in
    ap (λ (m : ℕ). y ∷ slice_set (take i xs ++ replicate m z) i x) before
    ∙ ap (λ (ws : List Ref). y ∷ ws) (one-more xs n i x z there (omega (arith, few)))
    ∙ ap (λ (m : ℕ). y ∷ (take (suc i) xs ++ replicate m z)) after

pub copied-more : (k : Kept) (copied i j : ℕ) (x z : Ref) → copied ≤ depth_of k → i < copied → j ≡ depth_of k - copied + i → x ≡ unwrap_or (slice_get (stack_of k) j) z
    → slice_set (copied_so_far k copied i) i x ≡ copied_so_far k copied (i + 1)
copied-more k copied i j x z enough few place is =
    let xs : List Ref = stack_of k in
    let value : slice_get (last_values copied xs) i ≡ Some x = drop-at xs (length xs - copied) i ∙ ap (slice_get xs) (sym place) ∙ at-there xs j z (omega (arith, place, few, enough)) ∙ ap (λ (y : Ref). Some y) (sym is) in
    let next : suc i ≡ i + 1 = omega arith in
    one-more (last_values copied xs) copied i x (nil_of k) value few ∙ ap (λ (n : ℕ). copied_so_far k copied n) next

pub set-copied : (k : Kept) (args i : ℕ) (x : Ref) (values more : List Ref) → slice_set values i x ≡ more → Ptr (new_head closure_class 3) (slice_set (slots_with k args values) (3 + i) x) ≡ closure_with k args more
set-copied k args i x values more e =
    let place : 3 + i ≡ suc (suc (suc i)) = omega arith in
    ap (λ (j : ℕ). Ptr (new_head closure_class 3) (slice_set (slots_with k args values) j x)) place ∙ ap (λ (ws : List Ref). closure_with k args ws) e

pub none-copied : (k : Kept) (copied : ℕ) → copied_so_far k copied 0 ≡ replicate copied (nil_of k)
none-copied k copied = let all : copied - 0 ≡ copied = omega arith in ap (λ (n : ℕ). replicate n (nil_of k)) all

pub all-copied : (k : Kept) (copied i : ℕ) → copied ≤ depth_of k → i ≡ copied → copied_so_far k copied i ≡ last_values copied (stack_of k)
all-copied k copied i enough all =
    let left : copied - i ≡ 0 = omega (arith, all) in
    ap₂ (λ (ws zs : List Ref). ws ++ zs) (take_all i (last_values copied (stack_of k)) (omega (arith, length-last (stack_of k) copied enough, all))) (ap (λ (n : ℕ). replicate n (nil_of k)) left)
    ∙ ended (last_values copied (stack_of k))
  where
    ended : (xs : List Ref) → xs ++ [] ≡ xs
    ended [] = refl
    ended (x ∷ xs) = ap (λ (ys : List Ref). x ∷ ys) (ended xs)

pub length-so_far : (k : Kept) (copied i : ℕ) → copied ≤ depth_of k → i ≤ copied → length (copied_so_far k copied i) ≡ copied
length-so_far k copied i enough few =
    let parts = length-append (take i (last_values copied (stack_of k))) (replicate (copied - i) (nil_of k)) in
    let first = length-take i (last_values copied (stack_of k)) in
    let rest = length-replicate (copied - i) (nil_of k) in
    omega (arith, parts, first, rest, length-last (stack_of k) copied enough, few)

-- ---- drops

put-itself : (k : Kept) (i : ℕ) (o : Obj) → object_at k i ≡ Some o → put k i o ≡ k
put-itself k i o there = equal_kept (put k i o) k (record {
  objects = λ j. elim (eqb_tells j i) [
    | inl e ↦ ap (object_at (put k i o)) e.1 ∙ object_at-put_same k i o ∙ sym there ∙ ap (object_at k) (sym e.1)
    | inr e ↦ object_at-put_other k i j o e.1
  ];
  rest = rest-put k i o;
})

pub dropped-none : (k : Kept) → IsRunning k → drop_of k 0 ≡ k
unfolding drop_of
dropped-none k running =
    ap (λ (xs : List Ref). put_active k (with_stack xs (active_context k))) (take_all (depth_of k - 0) (stack_of k) (omega arith))
    ∙ put-itself k (active_birth k) (Ctx (active_context k)) running.found

pub dropped-more : (k : Kept) (n : ℕ) → pop_of (drop_of k n) ≡ drop_of k (n + 1)
unfolding drop_of
dropped-more k n = edit_twice k (popped n) (popped 1) ∙ ap (λ (xs : List Ref). put_active k (with_stack xs (active_context k))) (fewer (stack_of k))
  where
    fewer : (xs : List Ref) → take (length (take (length xs - n) xs) - 1) (take (length xs - n) xs) ≡ take (length xs - (n + 1)) xs
    fewer xs =
        take-take (length (take (length xs - n) xs) - 1) (length xs - n) xs (omega (arith, length-take (length xs - n) xs))
        ∙ ap (λ (m : ℕ). take m xs) (omega (arith, length-take (length xs - n) xs))

pub depth-dropped : (v k : Kept) (n : ℕ) → Keeps v (drop_of k n) → depth_of v ≡ depth_of k - n
unfolding drop_of
depth-dropped v k n keeps =
    sym (equal (depth_same keeps)) ∙ ap (λ (c : Context). length c.stack) (active_context-put_active k (popped n (active_context k)))
    ∙ omega (arith, length-take (depth_of k - n) (stack_of k))

pub dropped : (a b c : Store) (l m n : Option Layout) (v w t : Kept) (count i j : ℕ) → Leads a b l m v t i → Leads b c m n w (drop_of v count) j → Leads a c l n w (drop_of t count) (i + j)
dropped a b c l m n v w t count i j first led = record {
  state = Keeps-trans led.state (drop_moved first.state count).keeps;
  exact = λ none. subst (λ (u : Kept). SameKept w (drop_of u count)) (equal_kept v t (first.exact none)) (led.exact (first.layout ∙ none));
  layout = led.layout ∙ first.layout;
  limit = led.limit ∙ first.limit;
  contexts = made-trans l m a b c i j first.layout first.contexts led.contexts;
  ready = led.ready;
  names = names-trans a b c first.names led.names;
}

-- ---- the object that is made

-- a closure has a class
pub can-make : (s : Store) (k : Kept) (slots : ℕ) → IsSound s k → k.rest.next < 4611686018427387904 → CanAllocate k 37 3 slots
can-make s k slots sound births = record {
  shape = refl;
  plain = refl;
  entry = ap (λ (r : Rest). is_some (get r.classes closure_class)) (sym sound.holds.rest) ∙ ap is_some (get-classes_of s.memory.objects s.table closure_class)
      ∙ there (get s.table closure_class) sound.holds.whole.entries.closures;
  common = refl;
  births = births;
}
  where
    there : (o : Option ℕ) → is_some o ≡ true → is_some (option_map (birth_at s.memory.objects) o) ≡ true
    there None h = absurd (cc)
    there (Some a) h = refl

-- it is made with nil behind a look at the active context
pub made-bare : (a b c : Store) (l m n : Option Layout) (k v w : Kept) (copied slots : ℕ) → slots ≡ copied → IsReady a k → v ≡ k → m ≡ l → b.memory.limit ≡ a.memory.limit → MakesAtMost 1 l a b → IsSound b v → KeepsNames a b
    → ((u : Kept) → Keeps v u → Keeps w (add_of u (blank_of u 37 3 (3 + slots)))) → (m ≡ None → SameKept w (add_of v (blank_of v 37 3 (3 + slots)))) → n ≡ m → c.memory.limit ≡ b.memory.limit
    → MakesAtMost 0 m b c → (IsReady b v → IsReady c w) → KeepsNames b c → Leads a c l n w (add_of k (Ptr (new_head 37 3) (replicate (suc (suc (suc copied))) (nil_of k)))) 1
made-bare a b c l m n k v w copied slots size ready same laid limit contexts sound names state exact layout limit_after contexts_after after names_after =
    let ready_there : IsReady b v = record { sound = sound; running = subst IsRunning (sym same) ready.running } in
    let looked_at : Leads a b l m v k 1 = record {
      state = subst (Keeps v) same sound.closed;
      exact = λ _. subst (SameKept v) same (same_itself v);
      layout = laid;
      limit = limit;
      contexts = contexts;
      ready = ready_there;
      names = names;
    } in
    let count : 3 + slots ≡ suc (suc (suc copied)) = omega (arith, size) in
    subst (λ (i : ℕ). Leads a c l n w (add_of k (Ptr (new_head 37 3) (replicate i (nil_of k)))) 1) count
    (then a b c l m n v w k 1 0 (λ (u : Kept). add_of u (blank_of u 37 3 (3 + slots))) looked_at state exact layout limit_after contexts_after (after ready_there) names_after)

-- ---- words

words-closure : (k : Kept) (copied args : ℕ) (values : List Ref) → length values ≡ copied → words_of (closure_with k args values) ≡ words_of_slots (3 + copied)
words-closure k copied args values size = let slots : suc (suc (suc (length values))) ≡ 3 + copied = omega (arith, size) in ap (λ (n : ℕ). words_of_slots n) slots

pub words-alike : (k : Kept) (copied args : ℕ) → copied ≤ depth_of k → words_held (add_of k (new_closure k copied args)) ≡ words_held (add_of k (bare_closure k copied args))
words-alike k copied args enough =
    words-added k (new_closure k copied args)
    ∙ ap (λ (n : ℕ). words_held k + n) (words-closure k copied args (last_values copied (stack_of k)) (length-last (stack_of k) copied enough)
    ∙ sym (words-closure k copied args (replicate copied (nil_of k)) (length-replicate copied (nil_of k))))
    ∙ sym (words-added k (bare_closure k copied args))

-- a closure for which the heap has no room
pub bare-refused : (s : Store) (l : Option Layout) (k v : Kept) (copied args slots : ℕ) (why : Full) → slots ≡ copied → v ≡ k → CausesFull s l v (size (3 + slots)) (add_of v (blank_of v 37 3 (3 + slots))) why
    → CausesFull s l k (words_of_slots (3 + copied)) (add_of k (bare_closure k copied args)) why
bare-refused s l k v copied args slots why equal_slots same cause =
    let count : 3 + slots ≡ suc (suc (suc copied)) = omega (arith, equal_slots) in
    let there : CausesFull s l k (words_of_slots (3 + slots)) (add_of k (Ptr (new_head 37 3) (replicate (3 + slots) (nil_of k)))) why =
    subst (λ (u : Kept). CausesFull s l u (words_of_slots (3 + slots)) (add_of u (Ptr (new_head 37 3) (replicate (3 + slots) (nil_of u)))) why) same cause in
    let same_words : words_held (add_of k (bare_closure k copied args)) ≡ words_held (add_of k (Ptr (new_head 37 3) (replicate (3 + slots) (nil_of k)))) =
    words-added k (bare_closure k copied args)
    ∙ ap (λ (n : ℕ). words_held k + n) (words-closure k copied args (replicate copied (nil_of k)) (length-replicate copied (nil_of k))
    ∙ ap (λ (n : ℕ). words_of_slots (3 + n)) (sym equal_slots) ∙ ap (λ (n : ℕ). words_of_slots n) (sym (length-replicate (3 + slots) (nil_of k))))
    ∙ sym (words-added k (Ptr (new_head 37 3) (replicate (3 + slots) (nil_of k)))) in
    subst (λ (n : ℕ). CausesFull s l k (words_of_slots (3 + n)) (add_of k (bare_closure k copied args)) why) equal_slots
    (cause-weighed s l k (add_of k (Ptr (new_head 37 3) (replicate (3 + slots) (nil_of k)))) (add_of k (bare_closure k copied args)) (words_of_slots (3 + slots)) why same_words there)
