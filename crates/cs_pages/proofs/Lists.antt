-- Lists of pages: one that a list lacks, and a list on both sides of one of its pages.
use Rattle.std.proofs.Common.{◌≡◌, ◌≢◌, ◌↔◌, ℕ, zero, suc, ◌+◌, ◌<◌, ◌≤◌, ◌⊎◌, List, [], ◌∷◌, ◌++◌, length, take, drop, true, false, not, eqb, refl, sym, ◌∙◌, ap, subst, inl, inr, arith}
use Rattle.std.specs.List.{IsDistinct, AllByRecursion, All, Contains, list_any}
use Rattle.std.specs.Cmp.{nat_eq_equiv}
use Rattle.std.proofs.Math.Seq.{drop-cons}
use Rattle.std.proofs.lemmas.Bool.{cases_eq, eqb-false, eqb-true, eq-eqb, ne_eqb, not_from_false}
use Rattle.std.proofs.lemmas.List.{take-append-drop, length-append}
use Rattle.std.proofs.lemmas.List.Elements.{All-contains, All-cons}
use Rattle.std.proofs.lemmas.Map.Keys.{IsDistinct-head, IsDistinct-tail, IsDistinct-cons}
use Rattle.std.proofs.lemmas.Map.Steps.{length-le_from_distinct_below, le-length_from_below}
use Rattle.std.proofs.lemmas.Map.Views.{Contains-from_any, list_any-from_Contains, any-filter_same}
use Rattle.cs_pages.specs.Order.{Order, without, IsSoundOrder, IsFree}

-- p is none of xs
abbrev pub Lacks : ℕ → List ℕ → Type 0
Lacks p xs = AllByRecursion (λ x. eqb p x ≡ false) xs

pub eqb-flip : (a b : ℕ) → eqb a b ≡ false → eqb b a ≡ false
eqb-flip a b differ = ne_eqb b a (λ same. eqb-false a b differ (sym same))

pub lacks_not : (p : ℕ) (xs : List ℕ) → Lacks p xs → Contains xs p → ⊥
lacks_not p [] lacks (k, within, same) = omega arith
lacks_not p (x ∷ xs) lacks (zero, within, same) = eqb-false p x lacks.0 (sym same)
lacks_not p (x ∷ xs) lacks (suc k, within, same) = lacks_not p xs lacks.1 (k, omega arith, same)

pub contains_cases : (p : ℕ) (xs : List ℕ) → Contains xs p ⊎ Lacks p xs
contains_cases p [] = inr tt
contains_cases p (x ∷ xs) = elim (cases_eq p x) [
  | inl same ↦ inl (0, omega arith, sym same)
  | inr differ ↦ elim (contains_cases p xs) [
    | inl (k, within, same) ↦ inl (suc k, omega arith, same)
    | inr lacks ↦ inr (ne_eqb p x differ, lacks)
  ]
]

pub lacks_from_not : (p : ℕ) (xs : List ℕ) → (Contains xs p → ⊥) → Lacks p xs
lacks_from_not p xs free = elim (contains_cases p xs) [ inl used ↦ absurd (free used) | inr lacks ↦ lacks ]

-- a list with p is what stands before p, p itself, and what stands behind
pub around : (p : ℕ) (xs : List ℕ) → Contains xs p → (front : List ℕ) × (back : List ℕ) × (xs ≡ front ++ p ∷ back)
around p xs (k, within, same) = (
  take k xs,
  drop (suc k) xs,
  sym (take-append-drop k xs) ∙ ap (λ ys. take k xs ++ ys) (drop-cons xs k p within ∙ ap (λ y. y ∷ drop (suc k) xs) same),
)

pub all_split : (P : ℕ → Type 0) (xs ys : List ℕ) → AllByRecursion P (xs ++ ys) → AllByRecursion P xs × AllByRecursion P ys
all_split P [] ys all = (tt, all)
all_split P (x ∷ xs) ys all = let rest = all_split P xs ys all.1 in ((all.0, rest.0), rest.1)

pub all_join : (P : ℕ → Type 0) (xs ys : List ℕ) → AllByRecursion P xs → AllByRecursion P ys → AllByRecursion P (xs ++ ys)
all_join P [] ys front back = back
all_join P (x ∷ xs) ys front back = (front.0, all_join P xs ys front.1 back)

-- what is left when p goes
pub all_rest : (P : ℕ → Type 0) (p : ℕ) (front back : List ℕ) → AllByRecursion P (front ++ p ∷ back) → AllByRecursion P (front ++ back)
all_rest P p front back all = let parts = all_split P front (p ∷ back) all in all_join P front back parts.0 parts.1.1

pub distinct_rest : (p : ℕ) (front back : List ℕ) → IsDistinct eqb (front ++ p ∷ back) → IsDistinct eqb (front ++ back)
distinct_rest p [] back distinct = IsDistinct-tail eqb p back distinct
distinct_rest p (x ∷ front) back distinct =
    IsDistinct-cons eqb x (front ++ back)
    (all_rest (λ y. eqb x y ≡ false) p front back (IsDistinct-head eqb x (front ++ p ∷ back) distinct))
    (distinct_rest p front back (IsDistinct-tail eqb x (front ++ p ∷ back) distinct))

pub rest-lacks : (p : ℕ) (front back : List ℕ) → IsDistinct eqb (front ++ p ∷ back) → Lacks p (front ++ back)
rest-lacks p [] back distinct = IsDistinct-head eqb p back distinct
rest-lacks p (x ∷ front) back distinct =
    let apart = all_split (λ y. eqb x y ≡ false) front (p ∷ back) (IsDistinct-head eqb x (front ++ p ∷ back) distinct) in
    (eqb-flip x p apart.1.0, rest-lacks p front back (IsDistinct-tail eqb x (front ++ p ∷ back) distinct))

pub without-lacking : (p : ℕ) (xs : List ℕ) → Lacks p xs → without p xs ≡ xs
without-lacking p [] lacks = refl
without-lacking p (x ∷ xs) lacks = rw lacks.0 (ap (λ (ys : List ℕ). x ∷ ys) (without-lacking p xs lacks.1))

pub without-around : (p : ℕ) (front back : List ℕ) → Lacks p (front ++ back) → without p (front ++ p ∷ back) ≡ front ++ back
without-around p [] back lacks = rw (eq-eqb p p refl) (without-lacking p back lacks)
without-around p (x ∷ front) back lacks = rw lacks.0 (ap (λ (ys : List ℕ). x ∷ ys) (without-around p front back lacks.1))

pub length-without : (p : ℕ) (xs : List ℕ) → IsDistinct eqb xs → Contains xs p → length (without p xs) + 1 ≡ length xs
length-without p xs distinct used =
    let at = around p xs used in
    let lacks : Lacks p (at.0 ++ at.1) = rest-lacks p at.0 at.1 (subst (λ ys. IsDistinct eqb ys) at.2 distinct) in
    omega (
      arith,
      ap length at.2,
      ap length (ap (without p) at.2 ∙ without-around p at.0 at.1 lacks),
      length-append at.0 (p ∷ at.1),
      length-append at.0 at.1,
    )

pub without-lacks : (p : ℕ) (xs : List ℕ) → IsDistinct eqb xs → Contains xs p → Lacks p (without p xs)
without-lacks p xs distinct used =
    let at = around p xs used in
    let lacks : Lacks p (at.0 ++ at.1) = rest-lacks p at.0 at.1 (subst (λ ys. IsDistinct eqb ys) at.2 distinct) in
    subst (λ ys. Lacks p ys) (sym (ap (without p) at.2 ∙ without-around p at.0 at.1 lacks)) lacks

-- all others stay
pub without-others : (p : ℕ) (xs : List ℕ) (q : ℕ) → q ≢ p → Contains (without p xs) q ↔ Contains xs q
without-others p xs q differ =
    let found : list_any (eqb q) (without p xs) ≡ list_any (eqb q) xs =
    any-filter_same (eqb q) (λ r. not (eqb p r)) true
    (λ r same. not_from_false (eqb p r) (ne_eqb p r (λ e. differ (eqb-true q r same ∙ sym e)))) xs in (
      λ here. Contains-from_any eqb-true q xs (sym found ∙ list_any-from_Contains nat_eq_equiv q (without p xs) here),
      λ here. Contains-from_any eqb-true q (without p xs) (found ∙ list_any-from_Contains nat_eq_equiv q xs here),
    )

contains_behind : (p : ℕ) (xs : List ℕ) (q : ℕ) → q ≢ p → Contains (p ∷ xs) q → Contains xs q
contains_behind p xs q differ (zero, within, same) = absurd (differ (sym same))
contains_behind p xs q differ (suc k, within, same) = (k, omega arith, same)

-- a page that is brought to the front
pub front-same : (p : ℕ) (xs : List ℕ) (q : ℕ) → Contains xs p → Contains (p ∷ without p xs) q ↔ Contains xs q
front-same p xs q used = elim (cases_eq q p) [
  | inl same ↦ (λ _. subst (λ r. Contains xs r) (sym same) used, λ _. (0, omega arith, sym same))
  | inr differ ↦ let others = without-others p xs q differ in (
    λ here. others.0 (contains_behind p (without p xs) q differ here),
    λ here. let at = others.1 here in (suc at.0, omega (arith, at.1), at.2),
  )
]

pub length-le_total : (total : ℕ) (xs : List ℕ) → IsDistinct eqb xs → All (λ p. p < total) xs → length xs ≤ total
length-le_total total xs distinct in_range =
    length-le_from_distinct_below xs total distinct
    (λ q found. All-contains (λ p. p < total) xs q in_range (Contains-from_any eqb-true q xs found))

-- where every page is used, as many are used as there are
pub total-le_length : (total : ℕ) (xs : List ℕ) → ((q : ℕ) → q < total → Contains xs q) → total ≤ length xs
total-le_length total xs used =
    le-length_from_below xs total (λ q within. list_any-from_Contains nat_eq_equiv q xs (used q within))

-- as many pages are used as there are exactly where none is free
pub free_room : (order : Order) (p : ℕ) → IsSoundOrder order → IsFree order p → length order.recent < order.total
free_room order p sound free =
    let longer : length (p ∷ order.recent) ≤ order.total = length-le_total order.total (p ∷ order.recent)
    (IsDistinct-cons eqb p order.recent (lacks_from_not p order.recent free.1) sound.distinct)
    (All-cons (λ q. q < order.total) p order.recent free.0 sound.in_range) in
    omega arith

pub none_free : (order : Order) → IsSoundOrder order → ((q : ℕ) → q < order.total → Contains order.recent q) → length order.recent ≡ order.total
none_free order sound used =
    omega (arith, length-le_total order.total order.recent sound.distinct sound.in_range, total-le_length order.total order.recent used)
