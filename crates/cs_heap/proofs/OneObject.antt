-- The words of one object: where its header, its count and its slots stand among them.
use Rattle.std.proofs.Common.{◌≡◌, ℕ, suc, ◌+◌, ◌*◌, ◌/◌, ◌%◌, ◌^◌, ◌-◌, ◌<◌, ◌≤◌, Bool, true, false, cond, List, [], ◌∷◌, ◌++◌, length, get_or, replicate, refl, ap, sym, ◌∙◌, arith, leb, length-append}
use Rattle.std.proofs.Math.ListN.{set}
use Rattle.std.proofs.lemmas.List.{length-replicate, length-set, get_or_append_left, set-append_left}
use Rattle.std.proofs.lemmas.Bool.Decides.{nat_tests}
use Rattle.cs_heap.specs.Object.{Object, body_units, size, units, units_before}
use Rattle.cs_heap.specs.Layout.{unit_births, header, marked, marks_of, overflow, padding, row, object_words}
use Rattle.cs_word.specs.Header.{header_bits}

pub length-copies : {X : Type 0} (n : ℕ) (x : X) → length (replicate n x) ≡ n
length-copies n x = length-replicate n x

pub length-overflow : (n : ℕ) → length (overflow n) ≡ 2 * units_before n
unfolding overflow
length-overflow n = go (leb 255 n)
  where
    go : (b : Bool) → length (cond b (n ∷ 255 * 2 ^ 24 ∷ []) []) ≡ 2 * cond b 1 0
    go true = refl
    go false = refl

pub fits_body : (n : ℕ) → n ≤ 2 * body_units n
fits_body n = omega arith

pub length-row : (bits : ℕ) (ws : List ℕ) → length (row bits ws) ≡ size (length ws)
length-row bits ws = let n = length ws in
    omega (arith, length-append (overflow n ++ bits % 2 ^ 32 ∷ bits / 2 ^ 32 ∷ ws) (padding n), length-append (overflow n) (bits % 2 ^ 32 ∷ bits / 2 ^ 32 ∷ ws), length-overflow n, length-copies {X = ℕ} (2 * body_units n - n) 0, fits_body n)

pub words_of_is : (x : Object) → object_words x ≡ row (header_bits (header x)) x.words
unfolding object_words
words_of_is x = refl

pub length-words_of : (x : Object) → length (object_words x) ≡ size (length x.words)
length-words_of x = ap length (words_of_is x) ∙ length-row (header_bits (header x)) x.words

-- ---- reading

pub low_in_row : (bits : ℕ) (ws : List ℕ) → get_or (row bits ws) (2 * units_before (length ws)) 0 ≡ bits % 2 ^ 32
unfolding overflow
low_in_row bits ws = go (leb 255 (length ws))
  where
    go : (b : Bool) → get_or ((cond b (length ws ∷ 255 * 2 ^ 24 ∷ []) [] ++ bits % 2 ^ 32 ∷ bits / 2 ^ 32 ∷ ws) ++ padding (length ws)) (2 * cond b 1 0) 0 ≡ bits % 2 ^ 32
    go true = refl
    go false = refl

pub high_in_row : (bits : ℕ) (ws : List ℕ) → get_or (row bits ws) (2 * units_before (length ws) + 1) 0 ≡ bits / 2 ^ 32
unfolding overflow
high_in_row bits ws = go (leb 255 (length ws))
  where
    go : (b : Bool) → get_or ((cond b (length ws ∷ 255 * 2 ^ 24 ∷ []) [] ++ bits % 2 ^ 32 ∷ bits / 2 ^ 32 ∷ ws) ++ padding (length ws)) (2 * cond b 1 0 + 1) 0 ≡ bits / 2 ^ 32
    go true = refl
    go false = refl

pub slot_in_row : (bits : ℕ) (ws : List ℕ) (i : ℕ) → i < length ws → get_or (row bits ws) (2 * units_before (length ws) + 2 + i) 0 ≡ get_or ws i 0
unfolding overflow
slot_in_row bits ws i h = go (leb 255 (length ws))
  where
    two : (i : ℕ) → 2 * 0 + 2 + i ≡ suc (suc i)
    two i = omega arith

    four : (i : ℕ) → 2 * 1 + 2 + i ≡ suc (suc (suc (suc i)))
    four i = omega arith

    go : (b : Bool) → get_or ((cond b (length ws ∷ 255 * 2 ^ 24 ∷ []) [] ++ bits % 2 ^ 32 ∷ bits / 2 ^ 32 ∷ ws) ++ padding (length ws)) (2 * cond b 1 0 + 2 + i) 0 ≡ get_or ws i 0
    go true = rw (four i) (get_or_append_left ws (padding (length ws)) 0 i h)
    go false = rw (two i) (get_or_append_left ws (padding (length ws)) 0 i h)

-- the first two words: the count and 255, or the header
pub count_in_row : (bits : ℕ) (ws : List ℕ) → 255 ≤ length ws → get_or (row bits ws) 0 0 ≡ length ws
unfolding overflow
count_in_row bits ws h = let long : leb 255 (length ws) ≡ true = grind (arith, nat_tests) in rw long refl

pub mark_in_row : (bits : ℕ) (ws : List ℕ) → 255 ≤ length ws → get_or (row bits ws) 1 0 ≡ 255 * 2 ^ 24
unfolding overflow
mark_in_row bits ws h = let long : leb 255 (length ws) ≡ true = grind (arith, nat_tests) in rw long refl

-- ---- writing

pub row-set_slot : (bits : ℕ) (ws : List ℕ) (i v : ℕ) → i < length ws → set (row bits ws) (2 * units_before (length ws) + 2 + i) v ≡ row bits (set ws i v)
unfolding overflow
row-set_slot bits ws i v h =
    go (leb 255 (length ws)) ∙ ap (λ (n : ℕ). (overflow n ++ bits % 2 ^ 32 ∷ bits / 2 ^ 32 ∷ set ws i v) ++ padding n) (sym (length-set ws i v))
  where
    two : (i : ℕ) → 2 * 0 + 2 + i ≡ suc (suc i)
    two i = omega arith

    four : (i : ℕ) → 2 * 1 + 2 + i ≡ suc (suc (suc (suc i)))
    four i = omega arith

    go : (b : Bool) → set ((cond b (length ws ∷ 255 * 2 ^ 24 ∷ []) [] ++ bits % 2 ^ 32 ∷ bits / 2 ^ 32 ∷ ws) ++ padding (length ws)) (2 * cond b 1 0 + 2 + i) v
        ≡ (cond b (length ws ∷ 255 * 2 ^ 24 ∷ []) [] ++ bits % 2 ^ 32 ∷ bits / 2 ^ 32 ∷ set ws i v) ++ padding (length ws)
    go true = rw (four i) (ap (λ (zs : List ℕ). length ws ∷ 255 * 2 ^ 24 ∷ bits % 2 ^ 32 ∷ bits / 2 ^ 32 ∷ zs) (set-append_left ws (padding (length ws)) i v h))
    go false = rw (two i) (ap (λ (zs : List ℕ). bits % 2 ^ 32 ∷ bits / 2 ^ 32 ∷ zs) (set-append_left ws (padding (length ws)) i v h))

pub row-set_header : (bits new : ℕ) (ws : List ℕ)
    → set (set (row bits ws) (2 * units_before (length ws)) (new % 2 ^ 32)) (2 * units_before (length ws) + 1) (new / 2 ^ 32) ≡ row new ws
unfolding overflow
row-set_header bits new ws = go (leb 255 (length ws))
  where
    go : (b : Bool) → set (set ((cond b (length ws ∷ 255 * 2 ^ 24 ∷ []) [] ++ bits % 2 ^ 32 ∷ bits / 2 ^ 32 ∷ ws) ++ padding (length ws)) (2 * cond b 1 0) (new % 2 ^ 32)) (2 * cond b 1 0 + 1) (new / 2 ^ 32)
        ≡ (cond b (length ws ∷ 255 * 2 ^ 24 ∷ []) [] ++ new % 2 ^ 32 ∷ new / 2 ^ 32 ∷ ws) ++ padding (length ws)
    go true = refl
    go false = refl

-- ---- births and marks

pub length-marked : (v n : ℕ) → length (marked 0 v n) ≡ units n
length-marked v n =
    omega (arith, length-append (replicate (units_before n) 0) (v ∷ replicate (body_units n) 0), length-copies {X = ℕ} (units_before n) 0, length-copies {X = ℕ} (body_units n) 0)

pub births_of_is : (x : Object) → unit_births x ≡ marked 0 x.birth (length x.words)
unfolding unit_births
births_of_is x = refl

pub marks_of_is : (x : Object) → marks_of x ≡ marked 0 1 (length x.words)
unfolding marks_of
marks_of_is x = refl

pub value_marked : (v n : ℕ) → get_or (marked 0 v n) (units_before n) 0 ≡ v
value_marked v n = go (leb 255 n)
  where
    go : (b : Bool) → get_or (replicate (cond b 1 0) 0 ++ v ∷ replicate (body_units n) 0) (cond b 1 0) 0 ≡ v
    go true = refl
    go false = refl
