-- Maps of objects.
use Rattle.std.proofs.Common.{◌≡◌, ◌≢◌, ℕ, sym, ap, ◌∙◌, Some, IsSome, is_some, rules, inl, inr}
use Rattle.std.specs.FinMap.{FinMap, get, insert, gets, same_map, nat_cmp-IsAntisymmetric}
use Rattle.std.specs.Ordering.{nat_cmp}
use Rattle.std.specs.Cmp.{nat_cmp_total}
use Rattle.std.proofs.lemmas.Bool.Decides.{eqb_tells}
use Rattle.cs_model.specs.Obj.{Obj}

abbrev pub Objects : Type 0
Objects = FinMap nat_cmp Obj

pub get_here : (m : Objects) (i : ℕ) (o : Obj) → get (insert m i o) i ≡ Some o
get_here m i o = grind (gets, rules)

pub get_apart : (m : Objects) (i j : ℕ) (o : Obj) → j ≢ i → get (insert m i o) j ≡ get m j
get_apart m i j o apart = grind (gets, rules)

pub get_some : (m : Objects) (i j : ℕ) (o : Obj) → IsSome (get m j) → IsSome (get (insert m i o) j)
get_some m i j o h = elim (eqb_tells j i) [
  | inl e ↦ ap is_some (ap (get (insert m i o)) e.1 ∙ get_here m i o)
  | inr e ↦ ap is_some (get_apart m i j o e.1) ∙ h
]

-- two maps are the same where they are at one number and at each other
pub same_at : (m n : Objects) (i : ℕ) → get m i ≡ get n i → ((q : ℕ) → q ≢ i → get m q ≡ get n q) → m ≡ n
same_at m n i here apart = same_map nat_cmp_total nat_cmp-IsAntisymmetric m n (λ q. elim (eqb_tells q i) [
  | inl e ↦ ap (get m) e.1 ∙ here ∙ ap (get n) (sym e.1)
  | inr e ↦ apart q e.1
])

pub insert_twice : (m : Objects) (i : ℕ) (o p : Obj) → insert (insert m i o) i p ≡ insert m i p
insert_twice m i o p = same_at _ _ i (get_here _ i p ∙ sym (get_here _ i p))
    (λ q apart. get_apart _ i q p apart ∙ get_apart _ i q o apart ∙ sym (get_apart _ i q p apart))

pub insert_swap : (m : Objects) (i j : ℕ) (o p : Obj) → i ≢ j → insert (insert m i o) j p ≡ insert (insert m j p) i o
insert_swap m i j o p apart = same_at _ _ i
    (get_apart _ j i p apart ∙ get_here _ i o ∙ sym (get_here _ i o))
    (λ q off. elim (eqb_tells q j) [
      | inl e ↦ ap (get (insert (insert m i o) j p)) e.1 ∙ get_here _ j p ∙ sym (ap (get (insert (insert m j p) i o)) e.1 ∙ get_apart _ i j o (λ h. apart (sym h)) ∙ get_here _ j p)
      | inr e ↦ get_apart _ j q p e.1 ∙ get_apart _ i q o off ∙ sym (get_apart _ i q o off ∙ get_apart _ j q p e.1)
    ])
