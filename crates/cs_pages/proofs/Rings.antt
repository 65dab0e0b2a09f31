-- The ring of the used pages, and what the calls of `Pages` make of it.
use Rattle.std.proofs.Common.{◌≡◌, ◌≢◌, ℕ, ◌+◌, ◌-◌, ◌<◌, ◌≤◌, List, [], ◌∷◌, ◌++◌, length, get_or, set, false, eqb, refl, sym, ◌∙◌, ap, subst, inl, inr, arith, get_or-set_other, get_or-set_same}
use Rattle.std.specs.List.{IsDistinct, AllByRecursion, All, Contains}
use Rattle.std.proofs.lemmas.Bool.{cases_eq, eqb-false, ne_eqb}
use Rattle.std.proofs.lemmas.List.{length-set}
use Rattle.std.proofs.lemmas.List.Elements.{All-contains, All-cons, All-from_recursion, recursion_from_All}
use Rattle.std.proofs.lemmas.Map.Keys.{IsDistinct-cons}
use Rattle.cs_pages.specs.Order.{Order, without, IsFree}
use Rattle.cs_pages.specs.Ring.{page_chain, order_by_ring, Linked, IsRing}
use Rattle.cs_pages.proofs.Lists.{Lacks, lacks_not, contains_cases, lacks_from_not, around, all_split, all_join, all_rest, distinct_rest, rest-lacks, without-around, length-le_total}
use Rattle.cs_pages.proofs.Links.{first_of, last_of, all_first, all_last, chain-linked, linked_first, linked_last, linked_split, older_kept, left_out, put_in_front}

-- the order of a list of used pages
abbrev pub pages_in : ℕ → List ℕ → Order
pages_in total recent = record { total = total; recent = recent }

-- the pages stand below their total, and the total is none of them
pub all_below : (total bound : ℕ) (xs : List ℕ) → total ≤ bound → All (λ p. p < total) xs → AllByRecursion (λ p. p < bound) xs
all_below total bound xs le all = recursion_from_All (λ p. p < bound) xs (λ k d within. let below : get_or xs k d < total = all k d within in omega arith)

pub total_lacks : (total : ℕ) (xs : List ℕ) → All (λ p. p < total) xs → Lacks total xs
total_lacks total xs all = recursion_from_All (λ p. eqb total p ≡ false) xs
    (λ k d within. let below : get_or xs k d < total = all k d within in ne_eqb total (get_or xs k d) (λ same. omega arith))

-- facts of one ring
module _ (older newer : List ℕ) (total : ℕ) (xs : List ℕ) (ring : IsRing older newer (pages_in total xs)) where
  pub ring_order : (used : ℕ) → length xs ≡ used → order_by_ring older total used ≡ pages_in total xs
  ring_order used same = ap (pages_in total) (subst (λ n. page_chain older total n ≡ xs) same (chain-linked older newer total xs total ring.linked))

  pub ring_within : length xs ≤ total
  ring_within = length-le_total total xs ring.sound.distinct ring.sound.in_range

  pub ring_start : get_or older total 0 < total + 1
  ring_start = subst (λ p. p < total + 1) (sym (linked_first older newer total xs total ring.linked))
      (all_first (λ p. p < total + 1) xs total (all_below total (total + 1) xs (omega arith) ring.sound.in_range) (omega arith))

  -- where a used page's links lead
  module _ (p : ℕ) (front back : List ℕ) (here : xs ≡ front ++ p ∷ back) where
    pub around_linked : Linked older newer total (front ++ p ∷ back) total
    around_linked = subst (λ ys. Linked older newer total ys total) here ring.linked

    pub around_older : get_or older p 0 ≡ first_of back total
    around_older = linked_first older newer p back total (linked_split older newer total front p back total around_linked).1

    pub around_newer : get_or newer p 0 ≡ last_of total front
    around_newer = linked_last older newer total front p (linked_split older newer total front p back total around_linked).0

    pub around_in_range : AllByRecursion (λ q. q < total + 1) front × AllByRecursion (λ q. q < total + 1) (p ∷ back)
    around_in_range = all_split (λ q. q < total + 1) front (p ∷ back)
        (subst (λ ys. AllByRecursion (λ q. q < total + 1) ys) here (all_below total (total + 1) xs (omega arith) ring.sound.in_range))

  pub page_in_range : (p : ℕ) → Contains xs p → p < total
  page_in_range p used = All-contains (λ q. q < total) xs p ring.sound.in_range used

  pub older_in_range : (p : ℕ) → Contains xs p → get_or older p 0 < total + 1
  older_in_range p used =
      let at = around p xs used in
      subst (λ q. q < total + 1) (sym (around_older p at.0 at.1 at.2))
      (all_first (λ q. q < total + 1) at.1 total (around_in_range p at.0 at.1 at.2).1.1 (omega arith))

  pub newer_in_range : (p : ℕ) → Contains xs p → get_or newer p 0 < total + 1
  newer_in_range p used =
      let at = around p xs used in
      subst (λ q. q < total + 1) (sym (around_newer p at.0 at.1 at.2))
      (all_last (λ q. q < total + 1) total at.0 (omega arith) (around_in_range p at.0 at.1 at.2).0)

  -- a used page leads to another place, so its link tells it from a free one
  pub used_link : (p : ℕ) → Contains xs p → get_or older p 0 ≢ p
  used_link p used same =
      let at = around p xs used in
      let distinct : IsDistinct eqb (at.0 ++ p ∷ at.1) = subst (λ ys. IsDistinct eqb ys) at.2 ring.sound.distinct in
      let apart = all_split (λ q. eqb p q ≡ false) at.0 at.1 (rest-lacks p at.0 at.1 distinct) in
      let below : p < total = page_in_range p used in
      let first : eqb p (first_of at.1 total) ≡ false =
      all_first (λ q. eqb p q ≡ false) at.1 total apart.1 (ne_eqb p total (λ e. omega arith)) in
      eqb-false p (first_of at.1 total) first (sym same ∙ around_older p at.0 at.1 at.2)

  pub linked_use : (p : ℕ) → p < total → get_or older p 0 ≢ p → Contains xs p
  linked_use p within moved = elim (contains_cases p xs) [
    | inl used ↦ used
    | inr lacks ↦ absurd (moved (ring.idle p (within, lacks_not p xs lacks)))
  ]

  -- a page is taken out
  pub ring_without : (p : ℕ) → Contains xs p →
      IsRing (set (set older (get_or newer p 0) (get_or older p 0)) p p) (set newer (get_or older p 0) (get_or newer p 0))
      (pages_in total (without p xs))
  ring_without p used =
      let at = around p xs used in let front = at.0 in let back = at.1 in
      let f = get_or older p 0 in let b = get_or newer p 0 in
      let o1 = set older b f in let n1 = set newer f b in
      let distinct : IsDistinct eqb (front ++ p ∷ back) = subst (λ ys. IsDistinct eqb ys) at.2 ring.sound.distinct in
      let lacks : Lacks p (front ++ back) = rest-lacks p front back distinct in
      let below : p < total = page_in_range p used in
      let rest : without p xs ≡ front ++ back = ap (without p) at.2 ∙ without-around p front back lacks in
      let all_in : All (λ q. q < total) (front ++ p ∷ back) = subst (λ ys. All (λ q. q < total) ys) at.2 ring.sound.in_range in
      let in_range : AllByRecursion (λ q. (q < length older) × (q < length newer)) (front ++ p ∷ back) =
      recursion_from_All (λ q. (q < length older) × (q < length newer)) (front ++ p ∷ back)
      (λ k d within. let small : get_or (front ++ p ∷ back) k d < total = all_in k d within in
      (omega (arith, ring.older_len), omega (arith, ring.newer_len))) in
      let end_lacks : Lacks total (front ++ p ∷ back) = total_lacks total (front ++ p ∷ back) all_in in
      let skipped : Linked o1 n1 total (front ++ back) total =
      subst (λ a. Linked (set older a f) (set newer f a) total (front ++ back) total) (sym (around_newer p front back at.2))
      (subst (λ a. Linked (set older (last_of total front) a) (set newer a (last_of total front)) total (front ++ back) total)
      (sym (around_older p front back at.2))
      (left_out older newer total front p back total (around_linked p front back at.2)
      (omega (arith, ring.older_len)) (omega (arith, ring.newer_len)) in_range
      (IsDistinct-cons eqb total (front ++ p ∷ back) end_lacks distinct) end_lacks)) in
      subst (λ ys. IsRing (set o1 p p) n1 (pages_in total ys)) (sym rest) (record {
        older_len = length-set o1 p p ∙ (length-set older b f ∙ ring.older_len);
        newer_len = length-set newer f b ∙ ring.newer_len;
        linked = older_kept o1 n1 p p total (front ++ back) total skipped (ne_eqb p total (λ e. omega arith), lacks);
        sound = record {
          distinct = distinct_rest p front back distinct;
          in_range = All-from_recursion (λ q. q < total) (front ++ back)
              (all_rest (λ q. q < total) p front back (recursion_from_All (λ q. q < total) (front ++ p ∷ back) all_in));
        };
        idle = λ q free. elim (cases_eq q p) [
          | inl same ↦ subst (λ r. get_or (set o1 p p) r 0 ≡ r) (sym same)
              (get_or-set_same o1 p p 0 (omega (arith, length-set older b f, ring.older_len)))
          | inr differ ↦
              let q_rest = all_split (λ r. eqb q r ≡ false) front back (lacks_from_not q (front ++ back) free.1) in
              let q_lacks : Lacks q (front ++ p ∷ back) = all_join (λ r. eqb q r ≡ false) front (p ∷ back) q_rest.0 (ne_eqb q p differ, q_rest.1) in
              let q_last : eqb q (last_of total front) ≡ false =
              all_last (λ r. eqb q r ≡ false) total front (ne_eqb q total (λ e. omega (arith, free.0))) q_rest.0 in
              let q_newer : q ≢ b = λ e. eqb-false q (last_of total front) q_last (e ∙ around_newer p front back at.2) in
              let q_free : Contains xs q → ⊥ = subst (λ ys. Contains ys q → ⊥) (sym at.2) (lacks_not q (front ++ p ∷ back) q_lacks) in
              get_or-set_other o1 p q p 0 differ ∙ (get_or-set_other older b q f 0 q_newer ∙ ring.idle q (free.0, q_free))
        ];
      })

  -- a free page is put in front
  pub ring_with : (p : ℕ) → IsFree (pages_in total xs) p →
      let second = get_or older total 0 in
      IsRing (set (set older p second) total p) (set (set newer second p) p total) (pages_in total (p ∷ xs))
  ring_with p free =
      let second = get_or older total 0 in
      let o1 = set older p second in let n1 = set newer second p in
      let lacks : Lacks p xs = lacks_from_not p xs free.1 in
      let below : p < total = free.0 in
      record {
        older_len = length-set o1 total p ∙ (length-set older p second ∙ ring.older_len);
        newer_len = length-set n1 p total ∙ (length-set newer second p ∙ ring.newer_len);
        linked = put_in_front older newer total p xs ring.linked
            (omega (arith, ring.older_len)) (omega (arith, ring.older_len)) (omega (arith, ring.newer_len)) (omega (arith, ring.newer_len))
            (all_below total (length newer) xs (omega (arith, ring.newer_len)) ring.sound.in_range)
            (ne_eqb total p (λ e. omega arith), total_lacks total xs ring.sound.in_range) lacks ring.sound.distinct;
        sound = record {
          distinct = IsDistinct-cons eqb p xs lacks ring.sound.distinct;
          in_range = All-cons (λ q. q < total) p xs below ring.sound.in_range;
        };
        idle = λ q still.
            let q_lacks : Lacks q (p ∷ xs) = lacks_from_not q (p ∷ xs) still.1 in
            get_or-set_other o1 total q p 0 (λ e. omega (arith, still.0))
            ∙ (get_or-set_other older p q second 0 (eqb-false q p q_lacks.0) ∙ ring.idle q (still.0, lacks_not q xs q_lacks.1));
      }

-- the least recent page is the last one
least_at : (x : ℕ) (xs : List ℕ) → last_of x xs ≡ get_or (x ∷ xs) (length xs) 0
least_at x [] = refl
least_at x (y ∷ ys) = least_at y ys

pub least_none : (total : ℕ) (xs : List ℕ) → Lacks total xs → last_of total xs ≡ total → xs ≡ []
least_none total [] lacks same = refl
least_none total (x ∷ xs) lacks same =
    absurd (eqb-false total (last_of x xs) (all_last (λ p. eqb total p ≡ false) x xs lacks.0 lacks.1) (sym same))

pub least_some : (total : ℕ) (xs : List ℕ) → last_of total xs ≢ total
    → (0 < length xs) × (last_of total xs ≡ get_or xs (length xs - 1) 0)
least_some total [] moved = absurd (moved refl)
least_some total (x ∷ xs) moved =
    let last : length (x ∷ xs) - 1 ≡ length xs = omega arith in (omega arith, rw last (least_at x xs))

-- where each place leads to itself, no page is used
pub ring_of_none : (older newer : List ℕ) (total : ℕ) → length older ≡ total + 1 → length newer ≡ total + 1
    → ((q : ℕ) → q ≤ total → get_or older q 0 ≡ q) → ((q : ℕ) → q ≤ total → get_or newer q 0 ≡ q)
    → IsRing older newer (pages_in total [])
unfolding IsDistinct
ring_of_none older newer total older_len newer_len older_same newer_same = record {
  older_len = older_len;
  newer_len = newer_len;
  linked = (older_same total (omega arith), newer_same total (omega arith));
  sound = record { distinct = tt; in_range = λ k d within. absurd (omega arith) };
  idle = λ q free. older_same q (omega (arith, free.0));
}
