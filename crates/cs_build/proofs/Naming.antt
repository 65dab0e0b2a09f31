-- Each object of a file is found by its address, and no other one.
use Rattle.std.proofs.Common.{◌≡◌, ℕ, zero, suc, ◌+◌, ◌*◌, ◌%◌, ◌<◌, ◌≤◌, ◌==◌, Bool, true, false, cond, List, [], ◌∷◌, ◌++◌, length, map, take, drop, refl, ap, ap₂, sym, subst, ◌∙◌, arith, slice_index}
use Rattle.std.proofs.lemmas.List.{map-append}
use Rattle.std.proofs.lemmas.Bool.Decides.{nat_tests}
use Rattle.std.specs.Prelude.{zip, find, nat_le, ⊤}
use Rattle.std.specs.Option.{option_map_or}
use Rattle.std.specs.List.{AllByRecursion, range_with_len}
use Rattle.cs_model.specs.Ref.{Ref}
use Rattle.cs_model.specs.Ref as ref
use Rattle.cs_model.specs.ImageFile.{FileObject, File, address_in, visible}
use Rattle.cs_model.specs.Image.{birth_in}
use Rattle.cs_model.specs.SavedFile.{SavedObject, placed_from, saved_base, saved_size, words_before}
use Rattle.cs_build.specs.Laid.{Laid, laid_slots, laid_size, saved_by, addresses_from, laid_addresses}
use Rattle.cs_build.proofs.Putting.{slots_of_laid, size_cons, map_take, map_drop, length-map}
use Rattle.cs_build.proofs.Filing.{length-addresses}
use Rattle.cs_build.proofs.Reading.{AreAddresses}

-- ---- rising numbers

abbrev pub Rises : ℕ → List ℕ → Type 0
Rises low [] = ⊤
Rises low (a ∷ ns) = (low ≤ a) × Rises (a + 1) ns

weaken : (low high : ℕ) (ns : List ℕ) → low ≤ high → Rises high ns → Rises low ns
weaken low high [] h rises = tt
weaken low high (a ∷ ns) h rises = let first = rises.0 in (omega (arith, h, rises.0), rises.1)

rises_append : (low mid : ℕ) (ns bs : List ℕ) → low ≤ mid → Rises low ns → AllByRecursion (λ (a : ℕ). a < mid) ns → Rises mid bs → Rises low (ns ++ bs)
rises_append low mid [] bs h left below right = weaken low mid bs h right
rises_append low mid (a ∷ ns) bs h left below right = (left.0, rises_append (a + 1) mid ns bs (omega (arith, below.0)) left.1 below.1 right)

rises_at : (low : ℕ) (ns : List ℕ) (i : ℕ) → Rises low ns → i < length ns → low ≤ slice_index ns i
rises_at low [] i rises h = absurd (omega (arith, h))
rises_at low (a ∷ ns) zero rises h = rises.0
rises_at low (a ∷ ns) (suc i) rises h = omega (arith, rises.0, rises_at (a + 1) ns i rises.1 (omega (arith, h)))

found_from : (address : FileObject → ℕ) (xs : List FileObject) (low at i : ℕ) → Rises low (map address xs) → i < length xs
    → option_map_or (λ e. e.0) (find (λ e. address e.1 == slice_index (map address xs) i) (zip (range_with_len at (length xs)) xs)) 0 ≡ at + i
found_from address [] low at i rises h = absurd (omega (arith, h))
found_from address (x ∷ xs) low at zero rises h =
    let same : (address x == address x) ≡ true = grind (arith, nat_tests) in
    rw same (omega arith)
found_from address (x ∷ xs) low at (suc i) rises h =
    let inside : i < length (map address xs) = omega (arith, h, length-map address xs) in
    let above : address x + 1 ≤ slice_index (map address xs) i = rises_at (address x + 1) (map address xs) i rises.1 inside in
    let other : (address x == slice_index (map address xs) i) ≡ false = grind (arith, nat_tests, above) in
    rw other (found_from address xs (address x + 1) (at + 1) i rises.1 (omega (arith, h)) ∙ omega arith)

-- ---- the addresses of objects

all_rise : (at : ℕ) (ls : List Laid) → Rises (saved_base + 4 * at) (addresses_from at ls)
all_rise at [] = tt
all_rise at (l ∷ ls) =
    let size : words_before (laid_slots l) + 4 ≤ saved_size (laid_slots l) = omega arith in (
      omega arith,
      weaken (saved_base + 4 * (at + words_before (laid_slots l)) + 1) (saved_base + 4 * (at + saved_size (laid_slots l))) (addresses_from (at + saved_size (laid_slots l)) ls)
          (omega (arith, size)) (all_rise (at + saved_size (laid_slots l)) ls),
    )

all_below : (at top : ℕ) (ls : List Laid) → at + laid_size ls ≤ top → AllByRecursion (λ (a : ℕ). a < saved_base + 4 * top) (addresses_from at ls)
all_below at top [] h = tt
all_below at top (l ∷ ls) h =
    let size : words_before (laid_slots l) + 4 ≤ saved_size (laid_slots l) = omega arith in
    (omega (arith, h, size, size_cons l ls), all_below (at + saved_size (laid_slots l)) top ls (omega (arith, h, size_cons l ls)))

addresses_rise : (ls : List Laid) → laid_size (take 3 ls) ≤ 34 → Rises saved_base (laid_addresses ls)
addresses_rise ls h = rises_append saved_base (saved_base + 4 * 34) (addresses_from 0 (take 3 ls)) (addresses_from 34 (drop 3 ls)) (omega arith)
    (all_rise 0 (take 3 ls)) (all_below 0 34 (take 3 ls) (omega (arith, h))) (all_rise 34 (drop 3 ls))

even_before : (n : ℕ) → words_before n % 2 ≡ 0
even_before n = go (nat_le 255 n)
  where
    go : (b : Bool) → cond b 2 0 % 2 ≡ 0
    go true = refl
    go false = refl

units_from : (at : ℕ) (ls : List Laid) → at % 2 ≡ 0 → AllByRecursion (λ (a : ℕ). a % 8 ≡ 0) (addresses_from at ls)
units_from at [] h = tt
units_from at (l ∷ ls) h =
    let before : words_before (laid_slots l) % 2 ≡ 0 = even_before (laid_slots l) in
    let size : saved_size (laid_slots l) % 2 ≡ 0 = omega (arith, even_before (laid_slots l)) in
    (omega (arith, h, before), units_from (at + saved_size (laid_slots l)) ls (omega (arith, h, size)))

all_index : (P : ℕ → Type 0) (xs : List ℕ) (i : ℕ) → AllByRecursion P xs → i < length xs → P (slice_index xs i)
all_index P [] i all h = absurd (omega (arith, h))
all_index P (x ∷ xs) zero all h = all.0
all_index P (x ∷ xs) (suc i) all h = all_index P xs i all.1 (omega (arith, h))

all_both : (P : ℕ → Type 0) (xs ys : List ℕ) → AllByRecursion P xs → AllByRecursion P ys → AllByRecursion P (xs ++ ys)
all_both P [] ys left right = right
all_both P (x ∷ xs) ys left right = (left.0, all_both P xs ys left.1 right)

-- ---- in a file

placed_addresses : (f : File) (a : List ℕ) (at : ℕ) (ls : List Laid) → f.base ≡ saved_base
    → map (address_in f) (placed_from at (map (saved_by a) ls)) ≡ addresses_from at ls
unfolding placed_from
placed_addresses f a at [] e = refl
placed_addresses f a at (l ∷ ls) e =
    ap₂ (λ (x : ℕ) (xs : List ℕ). x ∷ xs)
    (ap₂ (λ (b n : ℕ). b + 4 * (at + words_before n)) e (slots_of_laid a l))
    (ap (λ (n : ℕ). map (address_in f) (placed_from (at + saved_size n) (map (saved_by a) ls))) (slots_of_laid a l) ∙ placed_addresses f a (at + saved_size (laid_slots l)) ls e)

length-placed : (at : ℕ) (os : List SavedObject) → length (placed_from at os) ≡ length os
unfolding placed_from
length-placed at [] = refl
length-placed at (o ∷ os) = ap suc (length-placed (at + saved_size (length o.words)) os)

-- the visible objects of a file are found by their addresses
pub are_addresses : (f : File) (ls : List Laid) → f.base ≡ saved_base
    → visible f ≡ placed_from 0 (take 3 (map (saved_by (laid_addresses ls)) ls)) ++ placed_from 34 (drop 3 (map (saved_by (laid_addresses ls)) ls))
    → laid_size (take 3 ls) ≤ 34
    → AreAddresses (laid_addresses ls) (λ word. ref.Obj (birth_in f (range_with_len 0 (length ls)) word)) (length ls)
are_addresses f ls base seen room =
    let a : List ℕ = laid_addresses ls in
    let addresses : map (address_in f) (visible f) ≡ laid_addresses ls =
    ap (map (address_in f)) seen
    ∙ map-append (address_in f) (placed_from 0 (take 3 (map (saved_by a) ls))) (placed_from 34 (drop 3 (map (saved_by a) ls)))
    ∙ ap₂ (λ (xs ys : List SavedObject). map (address_in f) (placed_from 0 xs) ++ map (address_in f) (placed_from 34 ys)) (sym (map_take (saved_by a) 3 ls)) (sym (map_drop (saved_by a) 3 ls))
    ∙ ap₂ (λ (xs ys : List ℕ). xs ++ ys) (placed_addresses f a 0 (take 3 ls) base) (placed_addresses f a 34 (drop 3 ls) base) in
    let count : length (visible f) ≡ length ls = sym (length-map (address_in f) (visible f)) ∙ ap length addresses ∙ length-addresses ls in
    let rises : Rises saved_base (map (address_in f) (visible f)) = subst (Rises saved_base) (sym addresses) (addresses_rise ls room) in
    let units : AllByRecursion (λ (x : ℕ). x % 8 ≡ 0) (laid_addresses ls) =
    all_both (λ (x : ℕ). x % 8 ≡ 0) (addresses_from 0 (take 3 ls)) (addresses_from 34 (drop 3 ls)) (units_from 0 (take 3 ls) refl) (units_from 34 (drop 3 ls) refl) in
    record {
      units = λ i h. all_index (λ (x : ℕ). x % 8 ≡ 0) (laid_addresses ls) i units (omega (arith, h, length-addresses ls));
      found = λ i h. ap ref.Obj
          (ap₂ (λ (n : ℕ) (xs : List ℕ). option_map_or (λ e. e.0) (find (λ e. address_in f e.1 == slice_index xs i) (zip (range_with_len 0 n) (visible f))) 0) (sym count) (sym addresses)
          ∙ found_from (address_in f) (visible f) saved_base 0 i rises (omega (arith, h, count)) ∙ omega arith);
    }
