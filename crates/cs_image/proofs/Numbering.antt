-- The births of a file's objects: each has its own, below the next one.
use Rattle.std.proofs.Common.{◌≡◌, ◌≢◌, ℕ, zero, suc, ◌+◌, ◌^◌, ◌<◌, ◌≤◌, ◌==◌, ◌&&◌, ◌||◌, inl, inr, ltb, leb, not, Bool, true, false, List, [], ◌∷◌, ◌++◌, length, refl, ap, sym, subst, ◌∙◌, arith, slice_index, add-one}
use Rattle.std.specs.List.{list_any, range_with_len, AllByRecursion, IsDistinct}
use Rattle.std.specs.List.Sorted.{IsPermutation, IsStrictlyIncreasing}
use Rattle.std.proofs.lemmas.Bool.Decides.{nat_tests, eqb_tells}
use Rattle.std.proofs.lemmas.Grind.{get_or_default_zero}
use Rattle.std.proofs.lemmas.List.Kept.{AllPairs-from_increasing}
use Rattle.std.proofs.lemmas.List.Sorted.{IsPermutation-sym}
use Rattle.std.proofs.lemmas.List.FromFn.{get_or-range_with_len, length-range_with_len}
use Rattle.std.proofs.lemmas.Map.Keys.{IsDistinct-from_apart, IsDistinct-head, IsDistinct-tail, IsDistinct-IsPermutation}
use Rattle.cs_image.proofs.Bytes.{length-u64s_at}
use Rattle.cs_model.specs.ImageFile.{birth_count, births_in, has_births, heap_size, next_birth_in}
use Rattle.cs_model.specs.ImageFault.{has_repeats, is_bad_births}

-- the births of n objects
pub record AreBirths (births : List ℕ) (n next : ℕ) : Type 0 where
  pub long : length births ≡ n
  pub apart : (j k : ℕ) → j < n → k < n → slice_index births j ≡ slice_index births k → j ≡ k
  pub below : (k : ℕ) → k < n → slice_index births k < next

-- ---- numbers none of which stands twice

or_false : (a b : Bool) → (a || b) ≡ false → (a ≡ false) × (b ≡ false)
or_false true b e = absurd (cc)
or_false false b e = (refl, e)

pub none_passes : (p : ℕ → Bool) (xs : List ℕ) (k : ℕ) → list_any p xs ≡ false → k < length xs → p (slice_index xs k) ≡ false
none_passes p [] k none h = absurd (omega (arith, h))
none_passes p (x ∷ xs) zero none h = (or_false (p x) (list_any p xs) none).0
none_passes p (x ∷ xs) (suc k) none h = none_passes p xs k (or_false (p x) (list_any p xs) none).1 (omega (arith, h))

abbrev pub AreApart : List ℕ → Type 0
AreApart xs = (j k : ℕ) → j < length xs → k < length xs → slice_index xs j ≡ slice_index xs k → j ≡ k

other_test : (a b : ℕ) → (a == b) ≡ false → a ≢ b
other_test a b h = grind (arith, nat_tests, h)

pub apart_by : (xs : List ℕ) → has_repeats xs ≡ false → AreApart xs
apart_by [] none j k hj hk e = absurd (omega (arith, hj))
apart_by (x ∷ xs) none zero zero hj hk e = refl
apart_by (x ∷ xs) none zero (suc k) hj hk e =
    let first = none_passes (λ y. y == x) xs k (or_false (list_any (λ y. y == x) xs) (has_repeats xs) none).0 (omega (arith, hk)) in
    absurd (other_test (slice_index xs k) x first (sym e))
apart_by (x ∷ xs) none (suc j) zero hj hk e =
    let first = none_passes (λ y. y == x) xs j (or_false (list_any (λ y. y == x) xs) (has_repeats xs) none).0 (omega (arith, hj)) in
    absurd (other_test (slice_index xs j) x first e)
apart_by (x ∷ xs) none (suc j) (suc k) hj hk e =
    ap suc (apart_by xs (or_false (list_any (λ y. y == x) xs) (has_repeats xs) none).1 j k (omega (arith, hj)) (omega (arith, hk)) e)

-- ---- numbers in another order

same_test : (a b : ℕ) → a ≡ b → (a == b) ≡ true
same_test a b e = grind (arith, nat_tests, e)

no_test : (a b : ℕ) → a ≢ b → (a == b) ≡ false
no_test a b ne = grind (arith, nat_tests, ne)

distinct_by : (xs : List ℕ) → has_repeats xs ≡ false → IsDistinct (λ x y. x == y) xs
distinct_by xs none = IsDistinct-from_apart (λ x y. x == y) xs (λ i j d below inside.
    no_test _ _ (λ same.
    let zero_i = get_or_default_zero xs i d (omega (arith, below, inside)) in
    let zero_j = get_or_default_zero xs j d inside in
    let one : i ≡ j = apart_by xs none i j (omega (arith, below, inside)) inside (sym zero_i ∙ same ∙ zero_j) in
    absurd (omega (arith, below, one))))

none_by : (x : ℕ) (xs : List ℕ) → AllByRecursion (λ y. (x == y) ≡ false) xs → list_any (λ y. y == x) xs ≡ false
none_by x [] all = refl
none_by x (y ∷ xs) all =
    let here : (y == x) ≡ false = no_test y x (λ same. other_test x y all.0 (sym same)) in
    rw here (none_by x xs all.1)

pub no_repeats : (xs : List ℕ) → IsDistinct (λ x y. x == y) xs → has_repeats xs ≡ false
no_repeats [] d = refl
no_repeats (x ∷ xs) d =
    let first = none_by x xs (IsDistinct-head (λ x y. x == y) x xs d) in
    rw first (no_repeats xs (IsDistinct-tail (λ x y. x == y) x xs d))

flips : (x y : ℕ) → (x == y) ≡ (y == x)
flips x y = elim (eqb_tells x y) [
  | inl e ↦ e.0 ∙ sym (same_test y x (sym e.1))
  | inr n ↦ n.0 ∙ sym (no_test y x (λ e. n.1 (sym e)))
]

pub repeats_alike : (xs ys : List ℕ) → IsPermutation xs ys → has_repeats ys ≡ has_repeats xs
repeats_alike xs ys p = go (has_repeats xs) (has_repeats ys) refl refl
  where
    go : (a b : Bool) → has_repeats xs ≡ a → has_repeats ys ≡ b → b ≡ a
    go true true ea eb = refl
    go false false ea eb = refl
    go true false ea eb =
        let none = no_repeats xs (IsDistinct-IsPermutation (λ x y. x == y) flips ys xs (IsPermutation-sym xs ys p) (distinct_by ys eb)) in
        sym none ∙ ea
    go false true ea eb =
        let none = no_repeats ys (IsDistinct-IsPermutation (λ x y. x == y) flips xs ys p (distinct_by xs ea)) in
        sym eb ∙ none

-- numbers that rise have no repeats, and equal neighbours are one
pub rising_apart : (xs : List ℕ) → IsStrictlyIncreasing xs → has_repeats xs ≡ false
rising_apart xs up = no_repeats xs (IsDistinct-from_apart (λ x y. x == y) xs (λ i j d below inside.
    let less = AllPairs-from_increasing xs up i j d below inside in
    no_test _ _ (λ same. absurd (omega (arith, less, same)))))

pub repeats_here : (xs : List ℕ) (i : ℕ) → i + 1 < length xs → slice_index xs i ≡ slice_index xs (i + 1) → has_repeats xs ≡ true
repeats_here xs i inside same = go (has_repeats xs) refl
  where
    go : (b : Bool) → has_repeats xs ≡ b → has_repeats xs ≡ true
    go true e = e
    go false e = let one : i ≡ i + 1 = apart_by xs e i (i + 1) (omega (arith, inside)) inside same in absurd (omega (arith, one))

-- ---- from a file

not_none : (b : Bool) → not b ≡ false → b ≡ true
not_none true e = refl
not_none false e = absurd (cc)

second : (a b : Bool) → a ≡ true → (a && b) ≡ false → b ≡ false
second true b h e = e
second false b h e = absurd (cc)

above_test : (a b : ℕ) → leb a b ≡ false → b < a
above_test a b h = grind (arith, nat_tests, h)

section_long : (bytes : List ℕ) (n : ℕ) → has_births bytes ≡ true → length (births_in bytes n) ≡ birth_count bytes
unfolding births_in
section_long bytes n has = rw has (length-u64s_at (birth_count bytes) bytes (80 + heap_size bytes))

section_births : (bytes : List ℕ) (n : ℕ) → has_births bytes ≡ true → is_bad_births bytes n ≡ false → AreBirths (births_in bytes n) n (next_birth_in bytes n)
unfolding is_bad_births
section_births bytes n has fine =
    let all : (not (birth_count bytes == n) || has_repeats births || list_any (λ birth. leb next birth) births || ltb (2 ^ 62) next) ≡ false =
    second (has_births bytes) (not (birth_count bytes == n) || has_repeats births || list_any (λ birth. leb next birth) births || ltb (2 ^ 62) next) has fine in
    let a = or_false (not (birth_count bytes == n) || has_repeats births || list_any (λ birth. leb next birth) births) (ltb (2 ^ 62) next) all in
    let b = or_false (not (birth_count bytes == n) || has_repeats births) (list_any (λ birth. leb next birth) births) a.0 in
    let c = or_false (not (birth_count bytes == n)) (has_repeats births) b.0 in
    let count : birth_count bytes ≡ n = (let e = not_none (birth_count bytes == n) c.0 in grind (arith, nat_tests, e)) in
    let long : length births ≡ n = long_is ∙ count in
    record {
      long = long;
      apart = λ j k hj hk e. apart_by births c.1 j k (omega (arith, hj, long)) (omega (arith, hk, long)) e;
      below = λ k h. above_test next (slice_index births k) (none_passes (λ birth. leb next birth) births k b.1 (omega (arith, h, long)));
    }
  where
    births : List ℕ
    births = births_in bytes n

    next : ℕ
    next = next_birth_in bytes n

    long_is : length births ≡ birth_count bytes
    long_is = section_long bytes n has

by_place : (bytes : List ℕ) (n : ℕ) → has_births bytes ≡ false → AreBirths (births_in bytes n) n (next_birth_in bytes n)
unfolding births_in
by_place bytes n none = rw none (record {
  long = length-range_with_len 0 n;
  apart = λ j k hj hk e.
      let a = get_or-range_with_len 0 n j 0 hj in
      let b = get_or-range_with_len 0 n k 0 hk in
      omega (arith, a, b, e);
  below = λ k h. let a = get_or-range_with_len 0 n k 0 h in omega (arith, a, h);
})

pub births_known : (bytes : List ℕ) (n : ℕ) → is_bad_births bytes n ≡ false → AreBirths (births_in bytes n) n (next_birth_in bytes n)
births_known bytes n fine = go (has_births bytes) refl
  where
    go : (b : Bool) → has_births bytes ≡ b → AreBirths (births_in bytes n) n (next_birth_in bytes n)
    go true e = section_births bytes n e fine
    go false e = by_place bytes n e

-- what was read of so many births
pub births_read : (bytes births : List ℕ) (next count n : ℕ) → is_bad_births bytes count ≡ false → births ≡ births_in bytes count → next ≡ next_birth_in bytes count → count ≡ n
    → AreBirths births n next
births_read bytes births next count n fine is next_is few =
    let P : List ℕ → Type 0 = λ bs. AreBirths bs count (next_birth_in bytes count) in
    let Q : ℕ → Type 0 = λ m. AreBirths births count m in
    let R : ℕ → Type 0 = λ m. AreBirths births m next in
    subst R few (subst Q (sym next_is) (subst P (sym is) (births_known bytes count fine)))

-- the next birth isn't too great
pub next_small : (bytes : List ℕ) (n : ℕ) → is_bad_births bytes n ≡ false → n ≤ 2 ^ 62 → next_birth_in bytes n ≤ 2 ^ 62
unfolding is_bad_births
next_small bytes n fine few = go (has_births bytes) refl
  where
    within : (m : ℕ) → ltb (2 ^ 62) m ≡ false → m ≤ 2 ^ 62
    within m h = grind (arith, nat_tests, h)

    go : (b : Bool) → has_births bytes ≡ b → next_birth_in bytes n ≤ 2 ^ 62
    go true e = within (next_birth_in bytes n)
        (or_false (not (birth_count bytes == n) || has_repeats (births_in bytes n) || list_any (λ birth. leb (next_birth_in bytes n) birth) (births_in bytes n))
        (ltb (2 ^ 62) (next_birth_in bytes n))
        (second (has_births bytes) (not (birth_count bytes == n) || has_repeats (births_in bytes n) || list_any (λ birth. leb (next_birth_in bytes n) birth) (births_in bytes n)
        || ltb (2 ^ 62) (next_birth_in bytes n)) e fine)).1
    go false e = rw e few

-- one more birth by place
pub range_more : (a n : ℕ) → range_with_len a (n + 1) ≡ range_with_len a n ++ (a + n) ∷ []
range_more a n = ap (range_with_len a) (add-one n) ∙ go a n
  where
    go : (a n : ℕ) → range_with_len a (suc n) ≡ range_with_len a n ++ (a + n) ∷ []
    go a zero = let same : a ≡ a + 0 = omega arith in ap (λ k. k ∷ []) same
    go a (suc n) =
        let same : a + 1 + n ≡ a + suc n = omega arith in
        ap (λ (xs : List ℕ). a ∷ xs) (go (a + 1) n) ∙ ap (λ k. a ∷ range_with_len (a + 1) n ++ k ∷ []) same
