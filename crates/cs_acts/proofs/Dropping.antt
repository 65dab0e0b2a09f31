-- Values that are dropped one by one, and the words of a state whose active stack changes.
use Rattle.std.proofs.Common.{◌≡◌, ◌∙◌, ℕ, zero, suc, ◌+◌, ◌-◌, ◌≤◌, Bool, true, false, cond, inl, inr, refl, sym, ap, ap₂, arith, Option, Some, List, [], ◌∷◌, length, take, length-take}
use Rattle.std.proofs.lemmas.Bool.Decides.{eqb_tells}
use Rattle.std.specs.Ordering.{nat_cmp, eq_by_cmp}
use Rattle.std.specs.Cmp.{nat_cmp_total}
use Rattle.std.specs.FinMap.{FinMap, get, get-insert, insert, nat_cmp-IsAntisymmetric, same_map}
use Rattle.cs_model.specs.Ref.{Ref}
use Rattle.cs_model.specs.Obj.{Obj, Context, Ctx, popped, pushed, with_stack}
use Rattle.cs_model.specs.State.{Kept, Rest, object_at, put}
use Rattle.cs_model.specs.Keeps.{Keeps, SameKept}
use Rattle.cs_model.specs.Demand.{words_taken, words_below, words_held}
use Rattle.cs_model.specs.Read.{IsRunning, active_birth, active_context, depth_of, size_of, stack_of}
use Rattle.cs_model.specs.Operation.{drop_of, edit_active, pop_of, push_of, put_active}
use Rattle.cs_model.proofs.Objects.{object_at-put_other, object_at-put_same}
use Rattle.cs_model.proofs.Reading.{depth_same, size_same}
use Rattle.cs_model.proofs.Same.{equal}
use Rattle.cs_acts.proofs.Running.{active_context-put_active}

-- ---- one edit behind another

-- what is put twice at a birth is the last one
insert-twice : (m : FinMap nat_cmp Obj) (i : ℕ) (o p : Obj) → insert (insert m i o) i p ≡ insert m i p
insert-twice m i o p = same_map nat_cmp_total nat_cmp-IsAntisymmetric _ _ alike
  where
    once : (b : Bool) (q : Option Obj) → cond b (Some p) (cond b (Some o) q) ≡ cond b (Some p) q
    once true q = refl
    once false q = refl

    alike : (q : ℕ) → get {R = nat_cmp} (insert (insert m i o) i p) q ≡ get {R = nat_cmp} (insert m i p) q
    alike q =
        get-insert nat_cmp_total (insert m i o) i p q ∙ ap (cond (eq_by_cmp nat_cmp q i) (Some p)) (get-insert nat_cmp_total m i o q)
        ∙ once (eq_by_cmp nat_cmp q i) (get m q) ∙ sym (get-insert nat_cmp_total m i p q)

active-twice : (k : Kept) (c d : Context) → put_active (put_active k c) d ≡ put_active k d
unfolding put
active-twice k c d = ap (λ (m : FinMap nat_cmp Obj). record k { objects = m }) (insert-twice k.objects (active_birth k) (Ctx c) (Ctx d))

pub edit-twice : (k : Kept) (f h : Context → Context) → edit_active (edit_active k f) h ≡ put_active k (h (f (active_context k)))
edit-twice k f h = ap (λ (c : Context). put_active (edit_active k f) (h c)) (active_context-put_active k (f (active_context k))) ∙ active-twice k (f (active_context k)) (h (f (active_context k)))

-- ---- drops

fewer : (xs : List Ref) (n : ℕ) → take (length (take (length xs - n) xs) - 1) (take (length xs - n) xs) ≡ take (length xs - (n + 1)) xs
fewer xs n =
    ap (λ i. take i (take (length xs - n) xs)) (omega (arith, length-take (length xs - n) xs)) ∙ within (length xs - (n + 1)) (length xs - n) xs (omega arith)
  where
    within : (i j : ℕ) (ys : List Ref) → i ≤ j → take i (take j ys) ≡ take i ys
    within zero j ys l = refl
    within (suc i) zero ys l = absurd (omega (arith, l))
    within (suc i) (suc j) [] l = refl
    within (suc i) (suc j) (y ∷ ys) l = ap (λ (zs : List Ref). y ∷ zs) (within i j ys (omega (arith, l)))

pub dropped-more : (k : Kept) (n : ℕ) → pop_of (drop_of k n) ≡ drop_of k (n + 1)
unfolding drop_of
dropped-more k n = edit-twice k (popped n) (popped 1) ∙ ap (λ (xs : List Ref). put_active k (with_stack xs (active_context k))) (fewer (stack_of k) n)

pub depth-dropped : (v k : Kept) (n : ℕ) → Keeps v (drop_of k n) → depth_of v ≡ depth_of k - n
unfolding drop_of
depth-dropped v k n keeps =
    sym (equal (depth_same keeps)) ∙ ap (λ (c : Context). length c.stack) (active_context-put_active k (popped n (active_context k)))
    ∙ omega (arith, length-take (depth_of k - n) (stack_of k))

pub size-dropped : (v k : Kept) (n : ℕ) → Keeps v (drop_of k n) → size_of v ≡ size_of k
unfolding drop_of
size-dropped v k n keeps = sym (equal (size_same keeps)) ∙ ap (λ (c : Context). c.size) (active_context-put_active k (popped n (active_context k)))

-- ---- equal states

pub same-equal : (a b : Kept) → SameKept a b → a ≡ b
same-equal a b s = ap₂ (λ (m : FinMap nat_cmp Obj) (r : Rest). let k : Kept = record { objects = m; rest = r } in k) (same_map nat_cmp_total nat_cmp-IsAntisymmetric a.objects b.objects s.objects) s.rest

-- ---- words

words-put : (k : Kept) (i : ℕ) (c d : Context) (n : ℕ) → object_at k i ≡ Some (Ctx c) → d.size ≡ c.size → words_below n (put k i (Ctx d)) ≡ words_below n k
unfolding words_below
words-put k i c d zero there size = refl
words-put k i c d (suc n) there size = ap₂ (λ (a b : ℕ). a + b) (words-put k i c d n there size) (elim (eqb_tells n i) [
  | inl e ↦ ap (λ j. words_taken (object_at (put k i (Ctx d)) j)) e.1 ∙ ap words_taken (object_at-put_same k i (Ctx d)) ∙ ap (λ s. words_taken (Some (Ctx (record c { size = s })))) size
      ∙ ap words_taken (sym there) ∙ ap (λ j. words_taken (object_at k j)) (sym e.1)
  | inr e ↦ ap words_taken (object_at-put_other k i n (Ctx d) e.1)
])

-- the active context changes its stack alone
words-active : (k : Kept) (d : Context) → IsRunning k → d.size ≡ size_of k → words_held (put_active k d) ≡ words_held k
unfolding put
words-active k d running size = words-put k (active_birth k) (active_context k) d k.rest.next running.found size

pub words-answered : (k : Kept) (n : ℕ) (x : Ref) → IsRunning k → words_held (push_of (drop_of k n) x) ≡ words_held k
unfolding drop_of push_of
words-answered k n x running = ap words_held (edit-twice k (popped n) (pushed x)) ∙ words-active k (pushed x (popped n (active_context k))) running refl
