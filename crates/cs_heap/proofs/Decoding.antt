-- What was laid out is read again.
use Rattle.std.proofs.Common.{◌≡◌, ℕ, zero, suc, ◌+◌, ◌*◌, ◌/◌, ◌%◌, ◌^◌, ◌<◌, ◌≤◌, Bool, true, false, List, [], ◌∷◌, ◌++◌, length, take, drop, get_or, refl, ap, ap₂, sym, ◌∙◌, arith, eqb, leb, append_assoc, length-append}
use Rattle.std.proofs.Math.Seq.{take-append_seam, drop-append_seam}
use Rattle.std.proofs.lemmas.List.{get_or_append_left}
use Rattle.std.proofs.lemmas.Bool.Decides.{nat_tests}
use Rattle.std.specs.Prelude.{flat_map}
use Rattle.std.specs.List.{AllByRecursion}
use Rattle.cs_heap.specs.Format.{format_allows}
use Rattle.cs_heap.specs.Object.{Object, size, units, units_before}
use Rattle.cs_heap.specs.Layout.{IsStorable, unit_births, first_count, first_object, header, unit_header, object_read, objects_read, overflow, padding, row, object_words}
use Rattle.cs_heap.proofs.OneObject.{births_of_is, count_in_row, high_in_row, length-marked, length-overflow, length-words_of, low_in_row, mark_in_row, value_marked, words_of_is}
use Rattle.cs_word.specs.Header.{bit, flag_bits, header_bits, header_flags, header_of}
use Rattle.cs_word.specs.declared.header.Header.{Header}

-- ---- the header

bits_of : (n : ℕ) → n < 2 ^ 5 → bit n 0 + 2 * bit n 1 + 4 * bit n 2 + 8 * bit n 3 + 16 * bit n 4 ≡ n
bits_of n h = omega (arith, h)

bit_below : (n i : ℕ) → bit n i < 2
bit_below n i = omega arith

-- the bits of a header say the header
pub header_of-header_bits : (h : Header) → h.class < 2 ^ 22 → h.format < 2 ^ 5 → h.hash < 2 ^ 22 → h.slots < 2 ^ 8 → flag_bits h.flags < 2 ^ 5 → header_of (header_bits h) ≡ h
header_of-header_bits h class format hash slots flags =
    parts (flag_bits h.flags) h.class h.format h.hash h.slots (bit (flag_bits h.flags) 0) (bit (flag_bits h.flags) 1) (bit (flag_bits h.flags) 2) (bit (flag_bits h.flags) 3) (bit (flag_bits h.flags) 4)
    class format hash slots (bit_below _ 0) (bit_below _ 1) (bit_below _ 2) (bit_below _ 3) (bit_below _ 4) (bits_of (flag_bits h.flags) flags)
  where
    made : (a b c d e f g i j k : ℕ) → a ≡ b → c ≡ d → e ≡ f → g ≡ i → j ≡ k
        → ◌≡◌ {A = Header} (record { class = a; flags = record { 0 = c }; format = e; hash = g; slots = j }) (record { class = b; flags = record { 0 = d }; format = f; hash = i; slots = k })
    made a b c d e f g i j k p q r s t = cc

    parts : (n class format hash slots i r p g m : ℕ) → class < 2 ^ 22 → format < 2 ^ 5 → hash < 2 ^ 22 → slots < 2 ^ 8
        → i < 2 → r < 2 → p < 2 → g < 2 → m < 2 → i + 2 * r + 4 * p + 8 * g + 16 * m ≡ n
        → header_of (class + 2 ^ 24 * format + 2 ^ 32 * hash + 2 ^ 56 * slots + 2 ^ 23 * i + 2 ^ 29 * r + 2 ^ 30 * p + 2 ^ 31 * g + 2 ^ 55 * m)
        ≡ (let h : Header = record { class = class; flags = record { 0 = n }; format = format; hash = hash; slots = slots } in h)
    parts n class format hash slots i r p g m a b c d e f j k l o =
        let all : ℕ = class + 2 ^ 24 * format + 2 ^ 32 * hash + 2 ^ 56 * slots + 2 ^ 23 * i + 2 ^ 29 * r + 2 ^ 30 * p + 2 ^ 31 * g + 2 ^ 55 * m in
        let class_is : all % 2 ^ 22 ≡ class = omega arith in
        let format_is : all / 2 ^ 24 % 2 ^ 5 ≡ format = omega arith in
        let hash_is : all / 2 ^ 32 % 2 ^ 22 ≡ hash = omega arith in
        let slots_is : all / 2 ^ 56 ≡ slots = omega arith in
        let bit_i : bit all 23 ≡ i = omega arith in
        let bit_r : bit all 29 ≡ r = omega arith in
        let bit_p : bit all 30 ≡ p = omega arith in
        let bit_g : bit all 31 ≡ g = omega arith in
        let bit_m : bit all 55 ≡ m = omega arith in
        made (all % 2 ^ 22) class (header_flags all) n (all / 2 ^ 24 % 2 ^ 5) format (all / 2 ^ 32 % 2 ^ 22) hash (all / 2 ^ 56) slots
        class_is (omega (arith, bit_i, bit_r, bit_p, bit_g, bit_m)) format_is hash_is slots_is

abbrev pub stored_header : Object → ℕ
stored_header x = header_bits (header x)

pub bits_back : (n : ℕ) → n % 2 ^ 32 + n / 2 ^ 32 * 2 ^ 32 ≡ n
bits_back n = omega arith

pub shape_below : (format slots : ℕ) → format_allows format slots ≡ true → format < 2 ^ 5
shape_below format slots h = grind (arith, nat_tests)

-- the header of what can be stored is read back
pub header_back : (x : Object) → IsStorable x → header_of (stored_header x) ≡ header x
header_back x ok =
    header_of-header_bits (header x) ok.class (shape_below x.format (length x.words) ok.shape) ok.hash (omega arith) ok.flags

-- ---- one object in front of others

-- the words of the object itself, in front of others
pub in_front : (x : Object) (rest : List ℕ) (j : ℕ) → j < size (length x.words) → get_or (object_words x ++ rest) j 0 ≡ get_or (row (stored_header x) x.words) j 0
in_front x rest j h =
    get_or_append_left (object_words x) rest 0 j (omega (arith, length-words_of x))
    ∙ ap (λ (zs : List ℕ). get_or zs j 0) (words_of_is x)

pub header_in_front : (x : Object) (rest : List ℕ) → IsStorable x → unit_header (object_words x ++ rest) (2 * units_before (length x.words)) ≡ header x
header_in_front x rest ok =
    ap₂ (λ (low : ℕ) (high : ℕ). header_of (low + high * 2 ^ 32))
    (in_front x rest (2 * units_before (length x.words)) (omega arith) ∙ low_in_row (stored_header x) x.words)
    (in_front x rest (2 * units_before (length x.words) + 1) (omega arith) ∙ high_in_row (stored_header x) x.words)
    ∙ ap header_of (bits_back (stored_header x)) ∙ header_back x ok

pub first_count_is : (x : Object) (rest : List ℕ) → IsStorable x → first_count (object_words x ++ rest) ≡ length x.words
first_count_is x rest ok = go (leb 255 (length x.words)) refl
  where
    ws : List ℕ
    ws = object_words x ++ rest

    long : 255 ≤ length x.words → first_count ws ≡ length x.words
    long h =
        let mark : get_or ws 1 0 ≡ 255 * 2 ^ 24 = in_front x rest 1 (omega arith) ∙ mark_in_row (stored_header x) x.words h in
        let count : get_or ws 0 0 ≡ length x.words = in_front x rest 0 (omega arith) ∙ count_in_row (stored_header x) x.words h in
        let small : get_or ws 0 0 < 2 ^ 32 = omega (arith, count, ok.count) in
        let top : (unit_header ws 0).slots ≡ 255 = omega (arith, mark, small) in
        rw top count

    short : length x.words < 255 → first_count ws ≡ length x.words
    short h =
        let other : leb 255 (length x.words) ≡ false = grind (arith, nat_tests) in
        let place : 2 * units_before (length x.words) ≡ 0 = rw other refl in
        let read : unit_header ws 0 ≡ header x = ap (unit_header ws) (sym place) ∙ header_in_front x rest ok in
        let slots : (unit_header ws 0).slots ≡ length x.words = ap (λ (h : Header). h.slots) read ∙ omega (arith, h) in
        let differs : eqb (length x.words) 255 ≡ false = grind (arith, nat_tests) in
        rw (slots, differs) refl

    go : (b : Bool) → leb 255 (length x.words) ≡ b → first_count ws ≡ length x.words
    go true e = long (grind (arith, nat_tests))
    go false e = short (grind (arith, nat_tests))

-- dropping what is in front
drop_front : (front rest : List ℕ) (n : ℕ) → length front ≡ n → drop n (front ++ rest) ≡ rest
drop_front front rest n e = ap (λ (m : ℕ). drop m (front ++ rest)) (sym e) ∙ drop-append_seam front rest

slots_in_front : (x : Object) (rest : List ℕ) → take (length x.words) (drop (2 * units_before (length x.words) + 2) (object_words x ++ rest)) ≡ x.words
slots_in_front x rest =
    let n = length x.words in
    let front : List ℕ = overflow n ++ stored_header x % 2 ^ 32 ∷ stored_header x / 2 ^ 32 ∷ [] in
    let split : object_words x ++ rest ≡ front ++ (x.words ++ (padding n ++ rest)) = ap (λ (zs : List ℕ). zs ++ rest) (words_of_is x) ∙ regroup (overflow n) (stored_header x % 2 ^ 32) (stored_header x / 2 ^ 32) x.words (padding n) rest in
    ap (λ (zs : List ℕ). take n (drop (2 * units_before n + 2) zs)) split
    ∙ ap (take n) (drop_front front (x.words ++ (padding n ++ rest)) (2 * units_before n + 2)
    (omega (arith, length-append (overflow n) (stored_header x % 2 ^ 32 ∷ stored_header x / 2 ^ 32 ∷ []), length-overflow n)))
    ∙ take-append_seam x.words (padding n ++ rest)
  where
    regroup : (a : List ℕ) (lo hi : ℕ) (b c d : List ℕ) → ((a ++ lo ∷ hi ∷ b) ++ c) ++ d ≡ (a ++ lo ∷ hi ∷ []) ++ (b ++ (c ++ d))
    regroup a lo hi b c d = simp append_assoc

birth_in_front : (x : Object) (rest : List ℕ) → get_or (unit_births x ++ rest) (units_before (length x.words)) 0 ≡ x.birth
birth_in_front x rest =
    get_or_append_left (unit_births x) rest 0 (units_before (length x.words)) (omega (arith, ap length (births_of_is x), length-marked x.birth (length x.words)))
    ∙ ap (λ (zs : List ℕ). get_or zs (units_before (length x.words)) 0) (births_of_is x) ∙ value_marked x.birth (length x.words)

pub first_object_is : (x : Object) (rest others : List ℕ) → IsStorable x → first_object (length x.words) (object_words x ++ rest) (unit_births x ++ others) ≡ x
first_object_is x rest others ok =
    ap₂ (λ (h : Header) (p : ℕ × List ℕ). object_read h p.0 p.1) (header_in_front x rest ok)
    (ap₂ (λ (birth : ℕ) (words : List ℕ). let p : ℕ × List ℕ = (birth, words) in p) (birth_in_front x others) (slots_in_front x rest))

-- ---- all objects

next_step : (most : ℕ) (ws bs : List ℕ) → 0 < length ws
    → objects_read (suc most) ws bs ≡ first_object (first_count ws) ws bs ∷ objects_read most (drop (2 * units (first_count ws)) ws) (drop (units (first_count ws)) bs)
unfolding objects_read
next_step most [] bs h = absurd (omega (arith, h))
next_step most (w ∷ ws) bs h = refl

none_left : (most : ℕ) (bs : List ℕ) → objects_read most [] bs ≡ []
unfolding objects_read
none_left zero bs = refl
none_left (suc most) bs = refl

pub objects_back : (most : ℕ) (xs : List Object) → length xs ≤ most → AllByRecursion IsStorable xs → objects_read most (flat_map object_words xs) (flat_map unit_births xs) ≡ xs
objects_back most [] h ok = none_left most []
objects_back zero (x ∷ xs) h ok = absurd (omega (arith, h))
objects_back (suc most) (x ∷ xs) h ok =
    let rest : List ℕ = flat_map object_words xs in
    let others : List ℕ = flat_map unit_births xs in
    let n = length x.words in
    next_step most (object_words x ++ rest) (unit_births x ++ others) (omega (arith, length-append (object_words x) rest, length-words_of x))
    ∙ ap (λ (k : ℕ). first_object k (object_words x ++ rest) (unit_births x ++ others) ∷ objects_read most (drop (2 * units k) (object_words x ++ rest)) (drop (units k) (unit_births x ++ others))) (first_count_is x rest ok.0)
    ∙ ap₂ (λ (y : Object) (p : List ℕ × List ℕ). y ∷ objects_read most p.0 p.1) (first_object_is x rest others ok.0)
    (ap₂ (λ (a : List ℕ) (b : List ℕ). let p : List ℕ × List ℕ = (a, b) in p)
    (drop_front (object_words x) rest (2 * units n) (length-words_of x))
    (drop_front (unit_births x) others (units n) (ap length (births_of_is x) ∙ length-marked x.birth n)))
    ∙ ap (λ (ys : List Object). x ∷ ys) (objects_back most xs (omega (arith, h)) ok.1)

-- there are fewer objects than words
pub enough_words : (xs : List Object) → length xs ≤ length (flat_map object_words xs)
enough_words [] = omega arith
enough_words (x ∷ xs) = omega (arith, enough_words xs, length-append (object_words x) (flat_map object_words xs), length-words_of x)
