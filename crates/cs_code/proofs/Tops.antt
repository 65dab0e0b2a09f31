-- A value in the place of the topmost ones: written there, or pushed behind their drop.
use Rattle.std.proofs.Common.{◌≡◌, ◌∙◌, ℕ, zero, suc, ◌-◌, ◌<◌, ◌≤◌, Bool, true, false, cond, refl, sym, ap, arith, Option, Some, List, [], ◌∷◌, ◌++◌, length, take}
use Rattle.std.specs.Prelude.{slice_set, unwrap_or}
use Rattle.std.proofs.lemmas.List.{length-set}
use Rattle.std.specs.Ordering.{nat_cmp, eq_by_cmp}
use Rattle.std.specs.Cmp.{nat_cmp_total}
use Rattle.std.specs.FinMap.{FinMap, get, get-insert, insert, nat_cmp-IsAntisymmetric, same_map}
use Rattle.cs_model.specs.Ref.{Ref}
use Rattle.cs_model.specs.Obj.{Obj, Context, Ctx, popped, pushed, stored, with_stack}
use Rattle.cs_model.specs.State.{Kept, put}
use Rattle.cs_model.specs.Keeps.{Keeps}
use Rattle.cs_model.specs.Read.{active_birth, active_context, class_of, depth_of, from_top, stack_of}
use Rattle.cs_model.specs.declared.stop.Stop.TheVariants as why
use Rattle.cs_model.specs.End.{done, given, stop}
use Rattle.cs_model.specs.Exec.{class_out}
use Rattle.cs_model.specs.Operation.{drop_of, nil_of, pop_of, push_of, put_active, set_stack_of}
use Rattle.cs_model.proofs.Reading.{depth_same}
use Rattle.cs_model.proofs.Same.{Any, Same, same}
use Rattle.cs_acts.proofs.Running.{active_context-put_active}

-- what is put twice at a birth is the last one
pub insert-twice : (m : FinMap nat_cmp Obj) (i : ℕ) (o p : Obj) → insert (insert m i o) i p ≡ insert m i p
insert-twice m i o p = same_map nat_cmp_total nat_cmp-IsAntisymmetric _ _ alike
  where
    once : (b : Bool) (q : Option Obj) → cond b (Some p) (cond b (Some o) q) ≡ cond b (Some p) q
    once true q = refl
    once false q = refl

    alike : (q : ℕ) → get {R = nat_cmp} (insert (insert m i o) i p) q ≡ get {R = nat_cmp} (insert m i p) q
    alike q =
        get-insert nat_cmp_total (insert m i o) i p q ∙ ap (cond (eq_by_cmp nat_cmp q i) (Some p)) (get-insert nat_cmp_total m i o q)
        ∙ once (eq_by_cmp nat_cmp q i) (get m q) ∙ sym (get-insert nat_cmp_total m i p q)

active-twice : (k : Kept) (c d : Context) → put_active (put_active k c) d ≡ put_active k d
unfolding put
active-twice k c d = ap (λ (m : FinMap nat_cmp Obj). record k { objects = m }) (insert-twice k.objects (active_birth k) (Ctx c) (Ctx d))

-- one edit behind another is one edit
edit-twice : (k : Kept) (f h : Context → Context) → put_active (put_active k (f (active_context k))) (h (active_context (put_active k (f (active_context k))))) ≡ put_active k (h (f (active_context k)))
edit-twice k f h = ap (λ (c : Context). put_active (put_active k (f (active_context k))) (h c)) (active_context-put_active k (f (active_context k))) ∙ active-twice k (f (active_context k)) (h (f (active_context k)))

set-last : (xs : List Ref) (i : ℕ) (x : Ref) → i < length xs → take (suc i) (slice_set xs i x) ≡ take i xs ++ x ∷ []
set-last [] i x h = absurd (omega (arith, h))
set-last (y ∷ ys) zero x h = refl
set-last (y ∷ ys) (suc i) x h = ap (λ (zs : List Ref). y ∷ zs) (set-last ys i x (omega (arith, h)))

set-end : (xs : List Ref) (i : ℕ) (x : Ref) → suc i ≡ length xs → slice_set xs i x ≡ take i xs ++ x ∷ []
set-end [] i x h = absurd (omega (arith, h))
set-end (y ∷ []) zero x h = refl
set-end (y ∷ z ∷ ys) zero x h = absurd (omega (arith, h))
set-end (y ∷ ys) (suc i) x h = ap (λ (zs : List Ref). y ∷ zs) (set-end ys i x (omega (arith, h)))

pub two-replaced : (k : Kept) (x : Ref) → 2 ≤ depth_of k → pop_of (set_stack_of k (depth_of k - 2) x) ≡ push_of (drop_of k 2) x
unfolding drop_of push_of set_stack_of
two-replaced k x enough =
    edit-twice k (stored (depth_of k - 2) x) (popped 1)
    ∙ ap (λ (xs : List Ref). put_active k (with_stack xs (active_context k))) (stacks (stack_of k) enough)
    ∙ sym (edit-twice k (popped 2) (pushed x))
  where
    stacks : (xs : List Ref) → 2 ≤ length xs → take (length (slice_set xs (length xs - 2) x) - 1) (slice_set xs (length xs - 2) x) ≡ take (length xs - 2) xs ++ x ∷ []
    stacks xs h = ap (λ n. take n (slice_set xs (length xs - 2) x)) (count xs h) ∙ set-last xs (length xs - 2) x (omega (arith, h))
      where
        count : (xs : List Ref) → 2 ≤ length xs → length (slice_set xs (length xs - 2) x) - 1 ≡ suc (length xs - 2)
        count xs h = omega (arith, h, length-set xs (length xs - 2) x)

pub one-replaced : (k : Kept) (x : Ref) → 1 ≤ depth_of k → set_stack_of k (depth_of k - 1) x ≡ push_of (pop_of k) x
unfolding drop_of push_of set_stack_of
one-replaced k x enough =
    ap (λ (xs : List Ref). put_active k (with_stack xs (active_context k))) (set-end (stack_of k) (depth_of k - 1) x (omega (arith, enough)))
    ∙ sym (edit-twice k (popped 1) (pushed x))

-- a write keeps the depth
pub depth-stored : (v k : Kept) (i : ℕ) (x : Ref) → Keeps v (set_stack_of k i x) → depth_of v ≡ depth_of k
unfolding set_stack_of
depth-stored v k i x keeps =
    equal (depth_same keeps) ∙ ap (λ (c : Context). length c.stack) (active_context-put_active k (stored i x (active_context k))) ∙ length-set (stack_of k) i x
  where
    equal : {a b : ℕ} → Same Any a b → a ≡ b
    equal (same a p) = refl

pub class-pushed : (k : Kept) (x : Ref) → Some x ≡ from_top 0 (stack_of k) → class_out k ≡ done (push_of (pop_of k) (unwrap_or (class_of k x) (nil_of k)))
unfolding class_out
class-pushed k x top = ap (λ o. given o (stop why.StackUnder k) (λ (y : Ref). done (push_of (pop_of k) (unwrap_or (class_of k y) (nil_of k))))) (sym top)
