-- Edits of the active context, one behind another.
use Rattle.std.proofs.Common.{◌≡◌, ℕ, ◌-◌, Bool, true, false, refl, sym, ap, ◌∙◌, Option, Some, List, length, take, unwrap_or, length-take, arith, cond}
use Rattle.std.proofs.lemmas.List.{take-take}
use Rattle.std.specs.FinMap.{FinMap, get, get-insert, insert, nat_cmp-IsAntisymmetric, same_map}
use Rattle.std.specs.Cmp.{nat_cmp_total}
use Rattle.std.specs.Ordering.{eq_by_cmp, nat_cmp}
use Rattle.cs_model.specs.Ref.{Ref}
use Rattle.cs_model.specs.Obj.{Context, Ctx, Obj, context_in, popped, with_stack}
use Rattle.cs_model.specs.State.{Kept, put}
use Rattle.cs_model.specs.Read.{active_birth, active_context, blank_context}
use Rattle.cs_model.specs.Operation.{drop_of, edit_active, put_active}
use Rattle.cs_model.proofs.Objects.{object_at-put_same}

later_stays : (t : Bool) (a b : Obj) (o p : Option Obj) → o ≡ cond t (Some a) p → cond t (Some b) o ≡ cond t (Some b) p
later_stays true a b o p e = refl
later_stays false a b o p e = e

-- of two objects that are put at one birth the later one stays
insert_twice : (m : FinMap nat_cmp Obj) (i : ℕ) (a b : Obj) → insert (insert m i a) i b ≡ insert m i b
insert_twice m i a b = same_map nat_cmp_total nat_cmp-IsAntisymmetric _ _ (λ q.
    get-insert nat_cmp_total (insert m i a) i b q
    ∙ later_stays (eq_by_cmp nat_cmp q i) a b (get (insert m i a) q) (get m q) (get-insert nat_cmp_total m i a q)
    ∙ sym (get-insert nat_cmp_total m i b q))

pub active_context-put : (k : Kept) (c : Context) → active_context (put_active k c) ≡ c
unfolding active_context put
active_context-put k c = ap (λ o. unwrap_or (context_in o) blank_context) (object_at-put_same k (active_birth k) (Ctx c))

pub edit_twice : (k : Kept) (f g : Context → Context) → edit_active (edit_active k f) g ≡ edit_active k (λ c. g (f c))
unfolding put
edit_twice k f g =
    ap (λ c. put (edit_active k f) (active_birth k) (Ctx (g c))) (active_context-put k (f (active_context k)))
    ∙ ap (λ m. record k { objects = m }) (insert_twice k.objects (active_birth k) (Ctx (f (active_context k))) (Ctx (g (f (active_context k)))))

popped_twice : (c : Context) → popped 1 (popped 1 c) ≡ popped 2 c
popped_twice c = ap (λ xs. with_stack xs c) (shorter c.stack)
  where
    shorter : (xs : List Ref) → take (length (take (length xs - 1) xs) - 1) (take (length xs - 1) xs) ≡ take (length xs - 2) xs
    shorter xs = take-take (length (take (length xs - 1) xs) - 1) (length xs - 1) xs (omega (arith, length-take (length xs - 1) xs)) ∙ ap (λ n. take n xs) (omega (arith, length-take (length xs - 1) xs))

-- two values leave one by one
pub drop_twice : (k : Kept) → drop_of (drop_of k 1) 1 ≡ drop_of k 2
unfolding drop_of
drop_twice k = edit_twice k (popped 1) (popped 1) ∙ ap (λ f. edit_active k f) (λ i c. popped_twice c i)
