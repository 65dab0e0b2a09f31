-- Objects that were put one behind the other are cut apart again.
use Rattle.std.proofs.Common.{◌≡◌, ℕ, zero, suc, ◌+◌, ◌-◌, ◌*◌, ◌/◌, ◌%◌, ◌^◌, ◌<◌, ◌≤◌, ◌==◌, Bool, true, false, cond, List, [], ◌∷◌, ◌++◌, length, take, drop, replicate, refl, ap, ap₂, sym, ◌∙◌, arith, min, leb, eqb, append_assoc, length-append, Some, None}
use Rattle.std.proofs.Math.Seq.{take-append_seam, drop-append-add}
use Rattle.std.proofs.lemmas.List.{length-replicate}
use Rattle.std.proofs.lemmas.List.Sums.{sum_by-cons}
use Rattle.std.proofs.lemmas.Bool.Decides.{nat_tests}
use Rattle.std.specs.Prelude.{flat_map}
use Rattle.std.specs.List.{AllByRecursion}
use Rattle.cs_model.specs.ImageFile.{FileObject, Cut, in_front, cut_from, object_from, object_with, bits_at, top_byte, end_at, object_end}
use Rattle.cs_model.specs.SavedFile.{SavedObject, FitsObject, saved_bits, saved_words, overflow_words, words_before, body_size, saved_size, saved_sizes, placed_at, placed_from}
use Rattle.cs_model.proofs.SavedNumbers.{get_behind}

-- ---- the words of one object

abbrev pub body_words : SavedObject → List ℕ
body_words o = o.words ++ replicate (body_size (length o.words) - length o.words) 0

pub saved_words_is : (o : SavedObject) → saved_words o
    ≡ overflow_words (length o.words) ++ saved_bits o % 2 ^ 32 ∷ saved_bits o / 2 ^ 32 ∷ body_words o
unfolding saved_words
saved_words_is o = refl

pub short_words : (o : SavedObject) → leb 255 (length o.words) ≡ false
    → saved_words o ≡ saved_bits o % 2 ^ 32 ∷ saved_bits o / 2 ^ 32 ∷ body_words o
unfolding overflow_words
short_words o h = saved_words_is o ∙ rw h refl

pub long_words : (o : SavedObject) → leb 255 (length o.words) ≡ true
    → saved_words o ≡ length o.words ∷ 255 * 2 ^ 24 ∷ saved_bits o % 2 ^ 32 ∷ saved_bits o / 2 ^ 32 ∷ body_words o
unfolding overflow_words
long_words o h = saved_words_is o ∙ rw h refl

length-overflow : (n : ℕ) → length (overflow_words n) ≡ words_before n
unfolding overflow_words
length-overflow n = go (leb 255 n)
  where
    go : (b : Bool) → length (cond b (n ∷ 255 * 2 ^ 24 ∷ []) []) ≡ cond b 2 0
    go true = refl
    go false = refl

pub length-saved_words : (o : SavedObject) → length (saved_words o) ≡ saved_size (length o.words)
length-saved_words o =
    let n = length o.words in
    ap length (saved_words_is o)
    ∙ omega (
      arith,
      length-append (overflow_words n) (saved_bits o % 2 ^ 32 ∷ saved_bits o / 2 ^ 32 ∷ body_words o),
      length-overflow n,
      length-append o.words (replicate (body_size n - n) 0),
      length-replicate {A = ℕ} (body_size n - n) 0,
    )

pub sizes-cons : (o : SavedObject) (os : List SavedObject) → saved_sizes (o ∷ os) ≡ saved_size (length o.words) + saved_sizes os
sizes-cons o os = sum_by-cons (λ (x : SavedObject). saved_size (length x.words)) o os

pub length-saved : (os : List SavedObject) → length (flat_map saved_words os) ≡ saved_sizes os
length-saved [] = refl
length-saved (o ∷ os) =
    length-append (saved_words o) (flat_map saved_words os) ∙ ap₂ (λ a b. a + b) (length-saved_words o) (length-saved os)
    ∙ sym (sizes-cons o os)

-- ---- the header

record ReadBits (bits : ℕ) (o : SavedObject) : Type 0 where
  class : bits % 2 ^ 22 ≡ o.class
  format : bits / 2 ^ 24 % 2 ^ 5 ≡ o.format
  hash : bits / 2 ^ 32 % 2 ^ 22 ≡ o.hash
  fixed : (bits / 2 ^ 23 % 2 == 1) ≡ o.fixed
  top : bits / 2 ^ 56 ≡ cond (leb 255 (length o.words)) 255 (length o.words)

bits_read : (o : SavedObject) → FitsObject o → ReadBits (saved_bits o) o
bits_read o fits = record {
  class = omega (arith, fits.class, bit o.fixed);
  format = omega (arith, fits.class, fits.format, bit o.fixed);
  hash = omega (arith, fits.class, fits.format, fits.hash, bit o.fixed);
  fixed = fixed (omega (arith, fits.class, bit o.fixed));
  top = top (leb 255 (length o.words)) refl (omega (arith, fits.class, fits.format, fits.hash, bit o.fixed));
}
  where
    bit : (b : Bool) → cond b 1 0 < 2
    bit true = omega arith
    bit false = omega arith

    fixed : saved_bits o / 2 ^ 23 % 2 ≡ cond o.fixed 1 0 → (saved_bits o / 2 ^ 23 % 2 == 1) ≡ o.fixed
    fixed e = ap (λ n. n == 1) e ∙ back o.fixed
      where
        back : (b : Bool) → (cond b 1 0 == 1) ≡ b
        back true = refl
        back false = refl

    top : (b : Bool) → leb 255 (length o.words) ≡ b → saved_bits o / 2 ^ 56 ≡ min 255 (length o.words)
        → saved_bits o / 2 ^ 56 ≡ cond b 255 (length o.words)
    top true e h = let long : 255 ≤ length o.words = grind (arith, nat_tests, e) in omega (arith, h, long)
    top false e h = let short : length o.words < 255 = grind (arith, nat_tests, e) in omega (arith, h, short)

found : (heap : List ℕ) (first place bits slots : ℕ) (o : SavedObject) → ReadBits bits o → place ≡ first + words_before (length o.words)
    → take slots (drop (place + 2) heap) ≡ o.words → object_with heap first place bits slots ≡ placed_at first o
found heap first place bits slots o r at words =
    made _ _ _ _ _ _ _ _ _ _ _ _ at r.class r.format r.hash r.fixed words
  where
    made : (p q a b c d e f : ℕ) (g i : Bool) (xs ys : List ℕ) → p ≡ q → a ≡ b → c ≡ d → e ≡ f → g ≡ i → xs ≡ ys
        → ◌≡◌ {A = FileObject} (record { first = first; place = p; class = a; format = c; hash = e; fixed = g; words = xs })
        (record { first = first; place = q; class = b; format = d; hash = f; fixed = i; words = ys })
    made p q a b c d e f g i xs ys s t u v w x = cc

-- ---- one object in front of others

slots_read : (front head words rest : List ℕ) (slots place : ℕ) → slots ≡ length words → place ≡ length front + length head
    → take slots (drop place (front ++ (head ++ (words ++ rest)))) ≡ words
slots_read front head words rest slots place s e =
    ap₂ (λ n k. take n (drop k (front ++ (head ++ (words ++ rest))))) s e
    ∙ ap (take (length words)) (drop-append-add front (head ++ (words ++ rest)) (length head))
    ∙ ap (take (length words)) (ap (λ k. drop k (head ++ (words ++ rest))) (omega arith) ∙ drop-append-add head (words ++ rest) 0)
    ∙ take-append_seam words rest

bits_there : (front : List ℕ) (bits : ℕ) (rest : List ℕ) (at : ℕ) → at ≡ length front
    → bits_at (front ++ (bits % 2 ^ 32 ∷ bits / 2 ^ 32 ∷ rest)) at ≡ bits
bits_there front bits rest at e =
    ap₂ (λ a b. a + 2 ^ 32 * b) (get_behind front (bits % 2 ^ 32 ∷ bits / 2 ^ 32 ∷ rest) 0 at (omega (arith, e)))
    (get_behind front (bits % 2 ^ 32 ∷ bits / 2 ^ 32 ∷ rest) 1 (at + 1) (omega (arith, e)))
    ∙ omega arith

within : (heap : List ℕ) (first place bits slots : ℕ) (o : SavedObject) → end_at place slots ≤ length heap
    → object_with heap first place bits slots ≡ placed_at first o
    → cond (leb (end_at place slots) (length heap)) (Some (object_with heap first place bits slots)) None ≡ Some (placed_at first o)
within heap first place bits slots o fits e =
    let inside : leb (end_at place slots) (length heap) ≡ true = grind (arith, nat_tests, fits) in
    rw inside (ap Some e)

pub object_there : (heap front rest : List ℕ) (first : ℕ) (o : SavedObject) → FitsObject o → heap ≡ front ++ (saved_words o ++ rest)
    → length front ≡ first → object_from heap first ≡ Some (placed_at first o)
unfolding object_from
object_there heap front rest first o fits is len = go (leb 255 (length o.words)) refl
  where
    n : ℕ
    n = length o.words

    bits : ℕ
    bits = saved_bits o

    pad : List ℕ
    pad = replicate (body_size n - n) 0

    long_enough : first + saved_size n ≤ length heap
    long_enough = omega (arith, ap length is, length-append front (saved_words o ++ rest), length-append (saved_words o) rest, length-saved_words o, len)

    short : leb 255 n ≡ false → object_from heap first ≡ Some (placed_at first o)
    short e =
        let few : n < 255 = grind (arith, nat_tests, e) in
        let heap_is : heap ≡ front ++ (bits % 2 ^ 32 ∷ bits / 2 ^ 32 ∷ (o.words ++ (pad ++ rest)))
        = is ∙ ap (λ (ws : List ℕ). front ++ (ws ++ rest)) (short_words o e)
        ∙ ap (λ (ws : List ℕ). front ++ (bits % 2 ^ 32 ∷ bits / 2 ^ 32 ∷ ws)) (append_assoc o.words pad rest) in
        let read = bits_read o fits in
        let at : bits_at heap first ≡ bits = ap (λ (ws : List ℕ). bits_at ws first) heap_is ∙ bits_there front bits (o.words ++ (pad ++ rest)) first (sym len) in
        let none : words_before n ≡ 0 = rw e refl in
        let top : top_byte bits ≡ n = read.top ∙ rw e refl in
        let other : eqb n 255 ≡ false = grind (arith, nat_tests, few) in
        let slots : take n (drop (first + 2) heap) ≡ o.words = ap (λ (ws : List ℕ). take n (drop (first + 2) ws)) heap_is
        ∙ slots_read front (bits % 2 ^ 32 ∷ bits / 2 ^ 32 ∷ []) o.words (pad ++ rest) n (first + 2) refl (omega (arith, len)) in
        rw (at, top, other) (within heap first first bits n o (omega (arith, long_enough, none)) (found heap first first bits n o read (omega (arith, none)) slots))

    long : leb 255 n ≡ true → object_from heap first ≡ Some (placed_at first o)
    long e =
        let many : 255 ≤ n = grind (arith, nat_tests, e) in
        let count : ℕ = n + 2 ^ 32 * (255 * 2 ^ 24) in
        let tail : List ℕ = o.words ++ (pad ++ rest) in
        let heap_is : heap ≡ front ++ (n ∷ 255 * 2 ^ 24 ∷ bits % 2 ^ 32 ∷ bits / 2 ^ 32 ∷ tail)
        = is ∙ ap (λ (ws : List ℕ). front ++ (ws ++ rest)) (long_words o e)
        ∙ ap (λ (ws : List ℕ). front ++ (n ∷ 255 * 2 ^ 24 ∷ bits % 2 ^ 32 ∷ bits / 2 ^ 32 ∷ ws)) (append_assoc o.words pad rest) in
        let read = bits_read o fits in
        let small = fits.slots in
        let low : count % 2 ^ 32 ≡ n = omega (arith, small) in
        let high : count / 2 ^ 32 ≡ 255 * 2 ^ 24 = omega (arith, small) in
        let before : bits_at heap first ≡ count = ap (λ (ws : List ℕ). bits_at ws first) heap_is
        ∙ ap₂ (λ a b. bits_at (front ++ (a ∷ b ∷ bits % 2 ^ 32 ∷ bits / 2 ^ 32 ∷ tail)) first) (sym low) (sym high)
        ∙ bits_there front count (bits % 2 ^ 32 ∷ bits / 2 ^ 32 ∷ tail) first (sym len) in
        let at : bits_at heap (first + 2) ≡ bits = ap (λ (ws : List ℕ). bits_at ws (first + 2)) (heap_is ∙ sym (append_assoc front (n ∷ 255 * 2 ^ 24 ∷ []) (bits % 2 ^ 32 ∷ bits / 2 ^ 32 ∷ tail)))
        ∙ bits_there (front ++ n ∷ 255 * 2 ^ 24 ∷ []) bits tail (first + 2) (omega (arith, len, length-append front (n ∷ 255 * 2 ^ 24 ∷ []))) in
        let two : words_before n ≡ 2 = rw e refl in
        let top_count : top_byte count ≡ 255 = omega (arith, small) in
        let slots_count : count % 2 ^ 56 ≡ n = omega (arith, small) in
        let top : top_byte bits ≡ 255 = read.top ∙ rw e refl in
        let slots : take n (drop (first + 2 + 2) heap) ≡ o.words = ap (λ (ws : List ℕ). take n (drop (first + 2 + 2) ws)) heap_is
        ∙ slots_read front (n ∷ 255 * 2 ^ 24 ∷ bits % 2 ^ 32 ∷ bits / 2 ^ 32 ∷ []) o.words (pad ++ rest) n (first + 2 + 2) refl (omega (arith, len)) in
        rw (before, top_count, at, top, slots_count) (within heap first (first + 2) bits n o (omega (arith, long_enough, two)) (found heap first (first + 2) bits n o read (omega (arith, two)) slots))

    go : (b : Bool) → leb 255 n ≡ b → object_from heap first ≡ Some (placed_at first o)
    go true e = long e
    go false e = short e

-- ---- all of them

abbrev pub whole_cut : List FileObject → Cut
whole_cut objects = record { objects = objects; torn = None }

pub cut_there : (most : ℕ) (heap front : List ℕ) (first : ℕ) (os : List SavedObject) → AllByRecursion FitsObject os
    → heap ≡ front ++ flat_map saved_words os → length front ≡ first → saved_sizes os ≤ most
    → cut_from most heap first ≡ whole_cut (placed_from first os)
unfolding cut_from placed_from
cut_there zero heap front first [] fits is len h = refl
cut_there zero heap front first (o ∷ os) fits is len h = let s = sizes-cons o os in absurd (omega (arith, h, s))
cut_there (suc most) heap front first [] fits is len h =
    let ends : leb (length heap) first ≡ true = let e = ap length is ∙ length-append front [] in grind (arith, nat_tests, e, len) in
    rw ends refl
cut_there (suc most) heap front first (o ∷ os) fits is len h =
    let more : leb (length heap) first ≡ false =
    let e = ap length is ∙ length-append front (flat_map saved_words (o ∷ os)) in
    let l = length-append (saved_words o) (flat_map saved_words os) in
    let s = length-saved_words o in
    let lies : first < length heap = omega (arith, e, l, s, len) in
    grind (arith, nat_tests, lies) in
    let there = object_there heap front (flat_map saved_words os) first o fits.0 is len in
    let next : object_end (placed_at first o) ≡ first + saved_size (length o.words) = omega arith in
    rw (more, there) (ap (in_front (placed_at first o))
    (ap (λ k. cut_from most heap k) next
    ∙ cut_there most heap (front ++ saved_words o) (first + saved_size (length o.words)) os fits.1
    (is ∙ sym (append_assoc front (saved_words o) (flat_map saved_words os)))
    (length-append front (saved_words o) ∙ ap₂ (λ a b. a + b) len (length-saved_words o)) (omega (arith, h, sizes-cons o os))))

pub placed_append : (first : ℕ) (xs ys : List SavedObject) → placed_from first (xs ++ ys) ≡ placed_from first xs ++ placed_from (first + saved_sizes xs) ys
unfolding placed_from
placed_append first [] ys = ap (λ k. placed_from k ys) (omega arith)
placed_append first (x ∷ xs) ys =
    ap (λ (zs : List FileObject). placed_at first x ∷ zs) (placed_append (first + saved_size (length x.words)) xs ys
    ∙ ap (λ k. placed_from (first + saved_size (length x.words)) xs ++ placed_from k ys) (omega (arith, sizes-cons x xs)))
