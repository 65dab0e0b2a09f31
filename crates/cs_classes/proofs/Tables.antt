-- What the class table has at an index, and how that changes.
use Rattle.std.proofs.Common.{◌≡◌, ℕ, zero, suc, ◌+◌, ◌<◌, true, false, cond, List, [], ◌∷◌, length, replicate, Option, Some, None, option_map, refl, ap, sym, ◌∙◌, arith, get_or, set, inl, inr, take, ◌++◌}
use Rattle.std.proofs.lemmas.List.{get_or-set_same, get_or-set_other}
use Rattle.std.proofs.lemmas.Bool.{cases_eq}
use Rattle.std.proofs.lemmas.Bool.Decides.{nat_tests}
use Rattle.std.specs.Ordering.{nat_cmp, eq_by_cmp}
use Rattle.std.specs.Cmp.{nat_cmp_total}
use Rattle.std.specs.FinMap.{find, from_entries, get, get-from_entries, get-insert, insert, nat_cmp-IsAntisymmetric, same_map}
use Rattle.cs_word.specs.declared.Oop.{Oop}
use Rattle.cs_classes.specs.Table.{filled}

-- whether two numbers tie in their order
pub ties_same : (a : ℕ) → eq_by_cmp nat_cmp a a ≡ true
ties_same a = grind (arith, nat_tests)

pub ties_other : (a b : ℕ) → (a ≡ b → ⊥) → eq_by_cmp nat_cmp a b ≡ false
ties_other a b h = grind (arith, nat_tests)

-- the entries count from i
find_below : (i q : ℕ) (es : List (Option Oop)) → q < i → find nat_cmp q (filled i es) ≡ None
unfolding filled
find_below i q [] h = refl
find_below i q (None ∷ es) h = find_below (suc i) q es (omega (arith, h))
find_below i q (Some o ∷ es) h =
    let other = ties_other q i (omega (arith, h)) in
    rw other (find_below (suc i) q es (omega (arith, h)))

find_from : (i j : ℕ) (es : List (Option Oop)) → find nat_cmp (i + j) (filled i es) ≡ option_map (λ (o : Oop). o.0) (get_or es j None)
unfolding filled
find_from i j [] = refl
find_from i zero (None ∷ es) = find_below (suc i) (i + zero) es (omega arith)
find_from i zero (Some o ∷ es) =
    let same : eq_by_cmp nat_cmp (i + zero) i ≡ true = ap (λ (n : ℕ). eq_by_cmp nat_cmp n i) (omega arith) ∙ ties_same i in
    rw same refl
find_from i (suc j) (None ∷ es) = ap (λ (n : ℕ). find nat_cmp n (filled (suc i) es)) (omega arith) ∙ find_from (suc i) j es
find_from i (suc j) (Some o ∷ es) =
    let other : eq_by_cmp nat_cmp (i + suc j) i ≡ false = ties_other (i + suc j) i (λ e. omega (arith, e)) in
    rw other (ap (λ (n : ℕ). find nat_cmp n (filled (suc i) es)) (omega arith) ∙ find_from (suc i) j es)

-- the class at an index
pub get-filled : (es : List (Option Oop)) (q : ℕ) → get (from_entries {R = nat_cmp} (filled 0 es)) q ≡ option_map (λ (o : Oop). o.0) (get_or es q None)
get-filled es q = get-from_entries nat_cmp_total (filled 0 es) q ∙ ap (λ (n : ℕ). find nat_cmp n (filled 0 es)) (omega arith) ∙ find_from 0 q es

-- empty entries alone are the empty table
pub filled_none : (i n : ℕ) → filled i (replicate n None) ≡ []
unfolding filled
filled_none i zero = refl
filled_none i (suc n) = filled_none (suc i) n

pub filled_new : (n m : ℕ) (old new : List (Option Oop)) → old ≡ [] → new ≡ take n old ++ replicate m None → filled 0 new ≡ []
filled_new n m old new e f = ap (filled 0) (f ∙ ap (λ (xs : List (Option Oop)). take n xs ++ replicate m None) e ∙ ap (λ (xs : List (Option Oop)). xs ++ replicate m None) (nothing n)) ∙ filled_none 0 m
  where
    nothing : (k : ℕ) → take {A = Option Oop} k [] ≡ []
    nothing zero = refl
    nothing (suc k) = refl

pub filled_set : (es : List (Option Oop)) (i : ℕ) (o : Oop) → i < length es
    → from_entries {R = nat_cmp} (filled 0 (set es i (Some o))) ≡ insert (from_entries (filled 0 es)) i o.0
filled_set es i o h = same_map nat_cmp_total nat_cmp-IsAntisymmetric _ _ alike
  where
    alike : (q : ℕ) → get (from_entries {R = nat_cmp} (filled 0 (set es i (Some o)))) q ≡ get {R = nat_cmp} (insert (from_entries (filled 0 es)) i o.0) q
    alike q = get-filled (set es i (Some o)) q ∙ elim (cases_eq q i) as (λ _. option_map (λ (p : Oop). p.0) (get_or (set es i (Some o)) q None) ≡ cond (eq_by_cmp nat_cmp q i) (Some o.0) (get (from_entries {R = nat_cmp} (filled 0 es)) q)) [
      | inl e ↦ same e
      | inr other ↦ rw (ties_other q i other, get_or-set_other es i q (Some o) None other) (sym (get-filled es q))
    ] ∙ sym (get-insert nat_cmp_total (from_entries (filled 0 es)) i o.0 q)
      where
        same : q ≡ i → option_map (λ (p : Oop). p.0) (get_or (set es i (Some o)) q None) ≡ cond (eq_by_cmp nat_cmp q i) (Some o.0) (get (from_entries {R = nat_cmp} (filled 0 es)) q)
        same e = rw e (rw (ties_same i, get_or-set_same es i (Some o) None h) refl)
