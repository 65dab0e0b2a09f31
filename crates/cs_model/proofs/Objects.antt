-- What stands where after a write.
use Rattle.std.proofs.Common.{◌≡◌, ◌≢◌, ℕ, refl, sym, ap, ◌∙◌, Some, IsSome, is_some, rules, arith, ◌⊎◌, inl, inr}
use Rattle.std.specs.FinMap.{gets}
use Rattle.std.proofs.lemmas.Bool.Decides.{eqb_tells}
use Rattle.cs_model.specs.Obj.{Obj}
use Rattle.cs_model.specs.State.{Kept, object_at, put}

pub object_at-put_same : (k : Kept) (i : ℕ) (o : Obj) → object_at (put k i o) i ≡ Some o
unfolding put
object_at-put_same k i o = grind (gets, rules)

pub object_at-put_other : (k : Kept) (i j : ℕ) (o : Obj) → (j ≡ i → ⊥) → object_at (put k i o) j ≡ object_at k j
unfolding put
object_at-put_other k i j o apart = grind (gets, rules)

pub rest-put : (k : Kept) (i : ℕ) (o : Obj) → (put k i o).rest ≡ k.rest
unfolding put
rest-put k i o = refl

-- a birth is the one that was written, or another
pub at_put : (k : Kept) (i j : ℕ) (o p : Obj) → object_at (put k i o) j ≡ Some p → ((j ≡ i) × (p ≡ o)) ⊎ ((j ≢ i) × (object_at k j ≡ Some p))
at_put k i j o p h = elim (eqb_tells j i) [
  | inl e ↦ inl (e.1, grind (arith, object_at-put_same k i o, e.1, h))
  | inr e ↦ inr (e.1, sym (object_at-put_other k i j o e.1) ∙ h)
]

pub held-put : (k : Kept) (i j : ℕ) (o : Obj) → IsSome (object_at k j) → IsSome (object_at (put k i o) j)
held-put k i j o h = elim (eqb_tells j i) [
  | inl e ↦ ap is_some (ap (object_at (put k i o)) e.1 ∙ object_at-put_same k i o)
  | inr e ↦ ap is_some (object_at-put_other k i j o e.1) ∙ h
]
