-- What is given where values are pushed one behind another, and where a store is refused.
use Rattle.std.proofs.Common.{◌≡◌, ◌∙◌, ℕ, Bool, true, false, refl, sym, subst, ap, ap₂, Option, None, List, [], ◌∷◌, map}
use Rattle.std.specs.Prelude.{if◌then◌else◌}
use Rattle.std.specs.List.{AllByRecursion}
use Rattle.cs_word.specs.declared.Oop.{Oop}
use Rattle.cs_model.specs.Ref.{Ref}
use Rattle.cs_model.specs.State.{Kept, IsHeld}
use Rattle.cs_model.specs.Keeps.{Keeps, SameKept}
use Rattle.cs_model.specs.Alike.{Alike}
use Rattle.cs_model.specs.Operation.{pop_of}
use Rattle.cs_model.specs.End.{Count, End, Out, and_then, counting, done, is_done}
use Rattle.cs_model.specs.End as ends
use Rattle.cs_model.specs.Exec.{push_all, push_out, refuse_store}
use Rattle.cs_model.proofs.Same.{same}
use Rattle.cs_model.proofs.Reading.{listed}
use Rattle.cs_model.proofs.Executing.{push_all_alike, refuse_store_alike}
use Rattle.cs_acts.specs.Layout.{Layout}
use Rattle.cs_acts.specs.Names.{Store, IsNamed, KeepsNames, name_of}
use Rattle.cs_acts.specs.Ready.{IsReady}
use Rattle.cs_acts.proofs.Held.{named_held}
use Rattle.cs_code.specs.declared.end.CodeEnd.{CodeEnd}
use Rattle.cs_code.specs.declared.end.CodeEnd.TheVariants as code
use Rattle.cs_code.specs.Gives.{Gives, end_of, is_refused}
use Rattle.cs_code.proofs.Through.{equal_kept, gives-along}

counted : (s0 s1 : Store) (l : Option Layout) (v : Kept) (e : CodeEnd) (n : Count) (o : Out) → Gives s0 s1 l v e o → Gives s0 s1 l v e (counting n o)
counted s0 s1 l v e n o g = record { granted = g.granted; end = g.end; named = g.named; state = g.state; exact = g.exact; ready = g.ready; names = g.names }

-- what comes behind something that is done
pub then-given : (s0 s1 s2 : Store) (l n : Option Layout) (v1 v2 : Kept) (e : CodeEnd) (o : Out) (next : Kept → Out) → ((t : Kept) → Keeps v1 t → Alike v1 (next v1) (next t))
    → Gives s0 s1 l v1 code.Done o → n ≡ l → Gives s1 s2 n v2 e (next v1) → Gives s0 s2 l v2 e (and_then o next)
unfolding and_then
then-given s0 s1 s2 l n v1 v2 e o next alike g laid h =
    let all = gives-along s0 s1 s2 l n v2 v1 e (next v1) (next o.state) g.names (alike o.state g.state) laid (λ none. ap next (equal_kept v1 o.state (g.exact none))) h in
    subst (λ (end : End). Gives s0 s2 l v2 e (if is_done end then counting o.count (next o.state) else o)) g.end (counted s0 s2 l v2 e o.count (next o.state) all)

-- and nothing comes behind what isn't
pub ends-given : (s0 s1 : Store) (l : Option Layout) (v : Kept) (e : CodeEnd) (o : Out) (next : Kept → Out) → (e ≡ code.Done → ⊥) → Gives s0 s1 l v e o → Gives s0 s1 l v e (and_then o next)
unfolding and_then
ends-given s0 s1 l v e o next other g =
    subst (λ b. Gives s0 s1 l v e (if b then counting o.count (next o.state) else o)) (sym (ap is_done (sym g.end) ∙ over e other g.granted)) g
  where
    over : (e : CodeEnd) → (e ≡ code.Done → ⊥) → is_refused e ≡ false → is_done (end_of s1 e) ≡ false
    over code.Done h r = absurd (h refl)
    over (code.Send selector args above) h r = refl
    over (code.Return value local) h r = refl
    over (code.Stop reason) h r = refl
    over (code.Full why) h r = absurd (cc)

-- ---- pushes

-- what was named is named alike, and there
same_names : (s0 s1 : Store) → KeepsNames s0 s1 → (xs : List Oop) → AllByRecursion (IsNamed s0) xs → map (name_of s1) xs ≡ map (name_of s0) xs
same_names s0 s1 names [] all = refl
same_names s0 s1 names (x ∷ xs) all = ap₂ (λ (y : Ref) (ys : List Ref). y ∷ ys) (names x all.0).is (same_names s0 s1 names xs all.1)

all_held : (s0 s1 : Store) (v : Kept) → IsReady s1 v → KeepsNames s0 s1 → (xs : List Oop) → AllByRecursion (IsNamed s0) xs → AllByRecursion (IsHeld v) (map (name_of s0) xs)
all_held s0 s1 v ready names [] all = tt
all_held s0 s1 v ready names (x ∷ xs) all =
    (subst (IsHeld v) (names x all.0).is (named_held s1 v x ready.sound.holds (names x all.0).sound), all_held s0 s1 v ready names xs all.1)

-- one value is pushed, and then the others
pub pushed-on : (s0 s1 s2 : Store) (l n : Option Layout) (k v1 v2 : Kept) (e : CodeEnd) (a : Ref) (xs : List Oop) → AllByRecursion (IsNamed s0) xs → Gives s0 s1 l v1 code.Done (push_out k a) → n ≡ l
    → Gives s1 s2 n v2 e (push_all (map (name_of s1) xs) v1) → Gives s0 s2 l v2 e (push_all (a ∷ map (name_of s0) xs) k)
unfolding push_all
pushed-on s0 s1 s2 l n k v1 v2 e a xs all g laid h =
    let rest = subst (λ (ys : List Ref). Gives s1 s2 n v2 e (push_all ys v1)) (same_names s0 s1 g.names xs all) h in
    then-given s0 s1 s2 l n v1 v2 e (push_out k a) (λ t. push_all (map (name_of s0) xs) t) (λ t keeps. push_all_alike keeps (listed v1 (map (name_of s0) xs) (all_held s0 s1 v1 g.ready g.names xs all))) g laid rest

-- the last one
pub last-given : (s0 s1 : Store) (l : Option Layout) (v k : Kept) (e : CodeEnd) (a : Ref) → Gives s0 s1 l v e (push_out k a) → Gives s0 s1 l v e (push_all (a ∷ []) k)
unfolding push_all and_then
last-given s0 s1 l v k e a g = go (is_done (push_out k a).end) refl
  where
    is_end : (end : End) → is_done end ≡ true → end ≡ ends.Done
    is_end ends.Done h = refl
    is_end end h = absurd (cc)

    go : (b : Bool) → is_done (push_out k a).end ≡ b → Gives s0 s1 l v e (if b then counting (push_out k a).count (done (push_out k a).state) else push_out k a)
    go true h = record { granted = g.granted; end = g.end ∙ is_end (push_out k a).end h; named = g.named; state = g.state; exact = g.exact; ready = g.ready; names = g.names }
    go false h = g

-- ---- refusals

-- the value is popped before
pub refused-behind : (s0 s1 s2 : Store) (l n : Option Layout) (k v1 v2 : Kept) (e : CodeEnd) (o x : Oop) (i : ℕ) → IsNamed s0 o → IsNamed s0 x
    → IsReady s1 v1 → Keeps v1 (pop_of k) → (l ≡ None → SameKept v1 (pop_of k)) → n ≡ l → KeepsNames s0 s1
    → Gives s1 s2 n v2 e (refuse_store v1 (name_of s1 o) i (name_of s1 x)) → Gives s0 s2 l v2 e (refuse_store (pop_of k) (name_of s0 o) i (name_of s0 x))
refused-behind s0 s1 s2 l n k v1 v2 e o x i target value ready keeps exact laid names g =
    let t = names o target in
    let y = names x value in
    let here = subst (λ r. Gives s1 s2 n v2 e (refuse_store v1 (name_of s0 o) i r)) y.is (subst (λ r. Gives s1 s2 n v2 e (refuse_store v1 r i (name_of s1 x))) t.is g) in
    let held_target : IsHeld v1 (name_of s0 o) = subst (IsHeld v1) t.is (named_held s1 v1 o ready.sound.holds t.sound) in
    let held_value : IsHeld v1 (name_of s0 x) = subst (IsHeld v1) y.is (named_held s1 v1 x ready.sound.holds y.sound) in
    gives-along s0 s1 s2 l n v2 v1 e (refuse_store v1 (name_of s0 o) i (name_of s0 x)) (refuse_store (pop_of k) (name_of s0 o) i (name_of s0 x)) names
    (refuse_store_alike keeps (same (name_of s0 o) held_target) i (same (name_of s0 x) held_value)) laid
    (λ none. ap (λ (t : Kept). refuse_store t (name_of s0 o) i (name_of s0 x)) (equal_kept v1 (pop_of k) (exact none))) here
