-- What a write to the links does to the places that they lead through.
use Rattle.std.proofs.Common.{◌≡◌, ℕ, zero, suc, ◌+◌, ◌<◌, List, [], ◌∷◌, ◌++◌, length, get_or, set, false, eqb, refl, sym, ◌∙◌, ap, subst, arith, get_or-set_other, get_or-set_same}
use Rattle.std.specs.List.{IsDistinct, AllByRecursion}
use Rattle.std.proofs.lemmas.Bool.{eqb-false}
use Rattle.std.proofs.lemmas.List.{length-set}
use Rattle.std.proofs.lemmas.Map.Keys.{IsDistinct-head, IsDistinct-tail}
use Rattle.cs_pages.specs.Ring.{page_chain, Linked}
use Rattle.cs_pages.proofs.Lists.{Lacks, eqb-flip, all_split}

-- the first of the places xs and b, and the last of a and the places xs
abbrev pub first_of : List ℕ → ℕ → ℕ
first_of [] b = b
first_of (x ∷ xs) b = x

abbrev pub last_of : ℕ → List ℕ → ℕ
last_of a [] = a
last_of a (x ∷ xs) = last_of x xs

pub all_first : (P : ℕ → Type 0) (xs : List ℕ) (b : ℕ) → AllByRecursion P xs → P b → P (first_of xs b)
all_first P [] b all here = here
all_first P (x ∷ xs) b all here = all.0

pub all_last : (P : ℕ → Type 0) (a : ℕ) (xs : List ℕ) → P a → AllByRecursion P xs → P (last_of a xs)
all_last P a [] here all = here
all_last P a (x ∷ xs) here all = all_last P x xs all.0 all.1

pub chain-linked : (older newer : List ℕ) (a : ℕ) (xs : List ℕ) (b : ℕ) → Linked older newer a xs b → page_chain older a (length xs) ≡ xs
chain-linked older newer a [] b linked = refl
chain-linked older newer a (x ∷ xs) b linked =
    rw linked.0.0 (ap (λ (ys : List ℕ). x ∷ ys) (chain-linked older newer x xs b linked.1))

pub length-chain : (older : List ℕ) (a n : ℕ) → length (page_chain older a n) ≡ n
length-chain older a zero = refl
length-chain older a (suc n) = ap suc (length-chain older (get_or older a 0) n)

pub chain-next : (older : List ℕ) (a n k : ℕ) → k + 1 < n → get_or older (get_or (page_chain older a n) k 0) 0 ≡ get_or (page_chain older a n) (k + 1) 0
chain-next older a zero k more = absurd (omega arith)
chain-next older a (suc zero) k more = absurd (omega arith)
chain-next older a (suc (suc n)) zero more = refl
chain-next older a (suc (suc n)) (suc k) more =
    let next : suc k + 1 ≡ suc (k + 1) = omega arith in
    rw next (chain-next older (get_or older a 0) (suc n) k (omega arith))

pub linked_first : (older newer : List ℕ) (a : ℕ) (xs : List ℕ) (b : ℕ) → Linked older newer a xs b → get_or older a 0 ≡ first_of xs b
linked_first older newer a [] b linked = linked.0
linked_first older newer a (x ∷ xs) b linked = linked.0.0

pub linked_last : (older newer : List ℕ) (a : ℕ) (xs : List ℕ) (b : ℕ) → Linked older newer a xs b → get_or newer b 0 ≡ last_of a xs
linked_last older newer a [] b linked = linked.1
linked_last older newer a (x ∷ xs) b linked = linked_last older newer x xs b linked.1

pub linked_split : (older newer : List ℕ) (a : ℕ) (front : List ℕ) (p : ℕ) (back : List ℕ) (b : ℕ) → Linked older newer a (front ++ p ∷ back) b
    → Linked older newer a front p × Linked older newer p back b
linked_split older newer a [] p back b linked = linked
linked_split older newer a (x ∷ front) p back b linked =
    let rest = linked_split older newer x front p back b linked.1 in ((linked.0, rest.0), rest.1)

-- a write beside the places changes nothing
pub older_kept : (older newer : List ℕ) (i v a : ℕ) (xs : List ℕ) (b : ℕ) → Linked older newer a xs b → Lacks i (a ∷ xs)
    → Linked (set older i v) newer a xs b
older_kept older newer i v a [] b linked lacks =
    (get_or-set_other older i a v 0 (eqb-false a i (eqb-flip i a lacks.0)) ∙ linked.0, linked.1)
older_kept older newer i v a (x ∷ xs) b linked lacks = (
  (get_or-set_other older i a v 0 (eqb-false a i (eqb-flip i a lacks.0)) ∙ linked.0.0, linked.0.1),
  older_kept older newer i v x xs b linked.1 lacks.1,
)

pub newer_kept : (older newer : List ℕ) (i v a : ℕ) (xs : List ℕ) (b : ℕ) → Linked older newer a xs b → Lacks i (b ∷ xs)
    → Linked older (set newer i v) a xs b
newer_kept older newer i v a [] b linked lacks =
    (linked.0, get_or-set_other newer i b v 0 (eqb-false b i (eqb-flip i b lacks.0)) ∙ linked.1)
newer_kept older newer i v a (x ∷ xs) b linked lacks = (
  (linked.0.0, get_or-set_other newer i x v 0 (eqb-false x i (eqb-flip i x lacks.1.0)) ∙ linked.0.1),
  newer_kept older newer i v x xs b linked.1 (lacks.0, lacks.1.1),
)

-- the same places, led to from another one
pub moved_start : (older newer : List ℕ) (a c : ℕ) (xs : List ℕ) (b : ℕ) → Linked older newer a xs b
    → c < length older → b < length newer → AllByRecursion (λ x. x < length newer) xs
    → Lacks c xs → Lacks b xs → IsDistinct eqb xs
    → Linked (set older c (first_of xs b)) (set newer (first_of xs b) c) c xs b
moved_start older newer a c [] b linked c_in b_in in_range c_out b_out distinct =
    (get_or-set_same older c b 0 c_in, get_or-set_same newer b c 0 b_in)
moved_start older newer a c (x ∷ xs) b linked c_in b_in in_range c_out b_out distinct = (
  (get_or-set_same older c x 0 c_in, get_or-set_same newer x c 0 in_range.0),
  newer_kept (set older c x) newer x c x xs b (older_kept older newer c x x xs b linked.1 c_out)
      (eqb-flip b x b_out.0, IsDistinct-head eqb x xs distinct),
)

-- a place is left out
pub left_out : (older newer : List ℕ) (a : ℕ) (front : List ℕ) (p : ℕ) (back : List ℕ) (b : ℕ) → Linked older newer a (front ++ p ∷ back) b
    → a < length older → b < length newer → AllByRecursion (λ x. (x < length older) × (x < length newer)) (front ++ p ∷ back)
    → IsDistinct eqb (a ∷ front ++ p ∷ back) → Lacks b (front ++ p ∷ back)
    → Linked (set older (last_of a front) (first_of back b)) (set newer (first_of back b) (last_of a front)) a (front ++ back) b
left_out older newer a [] p back b linked a_in b_in in_range distinct b_out =
    let apart : Lacks a (p ∷ back) = IsDistinct-head eqb a (p ∷ back) distinct in
    moved_start older newer p a back b linked.1 a_in b_in (seconds back in_range.1) apart.1 b_out.1
    (IsDistinct-tail eqb p back (IsDistinct-tail eqb a (p ∷ back) distinct))
  where
    seconds : (xs : List ℕ) → AllByRecursion (λ x. (x < length older) × (x < length newer)) xs → AllByRecursion (λ x. x < length newer) xs
    seconds [] all = tt
    seconds (x ∷ xs) all = (all.0.1, seconds xs all.1)
left_out older newer a (x ∷ front) p back b linked a_in b_in in_range distinct b_out =
    let last = last_of x front in
    let first = first_of back b in
    let a_apart = all_split (λ y. eqb a y ≡ false) (x ∷ front) (p ∷ back) (IsDistinct-head eqb a (x ∷ front ++ p ∷ back) distinct) in
    let distinct_tail = IsDistinct-tail eqb a (x ∷ front ++ p ∷ back) distinct in
    let x_apart = all_split (λ y. eqb x y ≡ false) front (p ∷ back) (IsDistinct-head eqb x (front ++ p ∷ back) distinct_tail) in
    let a_last : eqb a last ≡ false = all_last (λ y. eqb a y ≡ false) x front a_apart.0.0 a_apart.0.1 in
    let x_first : eqb x first ≡ false = all_first (λ y. eqb x y ≡ false) back b x_apart.1.1 (eqb-flip b x b_out.0) in (
      (
        get_or-set_other older last a first 0 (eqb-false a last a_last) ∙ linked.0.0,
        get_or-set_other newer first x last 0 (eqb-false x first x_first) ∙ linked.0.1,
      ),
      left_out older newer x front p back b linked.1 in_range.0.0 b_in in_range.1 distinct_tail b_out.1,
    )

-- a place is put in front of all others, behind the place e that closes the ring
pub put_in_front : (older newer : List ℕ) (e p : ℕ) (xs : List ℕ) → Linked older newer e xs e
    → p < length older → e < length older → p < length newer → e < length newer → AllByRecursion (λ x. x < length newer) xs
    → Lacks e (p ∷ xs) → Lacks p xs → IsDistinct eqb xs
    → let second = get_or older e 0 in
    Linked (set (set older p second) e p) (set (set newer second p) p e) e (p ∷ xs) e
put_in_front older newer e p xs linked p_older e_older p_newer e_newer in_range e_out p_out distinct =
    let second = get_or older e 0 in
    let moved : Linked (set older p second) (set newer second p) p xs e =
    subst (λ (s : ℕ). Linked (set older p s) (set newer s p) p xs e) (sym (linked_first older newer e xs e linked))
    (moved_start older newer e p xs e linked p_older e_newer in_range p_out e_out.1 distinct) in (
      (
        get_or-set_same (set older p second) e p 0 (omega (arith, length-set older p second)),
        get_or-set_same (set newer second p) p e 0 (omega (arith, length-set newer second p)),
      ),
      newer_kept (set (set older p second) e p) (set newer second p) p e p xs e
          (older_kept (set older p second) (set newer second p) e p p xs e moved e_out)
          (eqb-flip e p e_out.0, p_out),
    )
