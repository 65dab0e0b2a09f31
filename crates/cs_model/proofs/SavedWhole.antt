-- The file as a whole and its header have no fault.
use Rattle.std.proofs.Common.{◌≡◌, ℕ, suc, ◌+◌, ◌*◌, ◌/◌, ◌%◌, ◌^◌, ◌<◌, ◌≤◌, ◌==◌, ◌&&◌, Bool, true, false, cond, not, nat_lt, leb, List, [], ◌∷◌, ◌++◌, length, map, take, drop, Option, Some, None, refl, ap, ap₂, sym, ◌∙◌, arith, option_map, is_some, length-append, max}
use Rattle.std.specs.Prelude.{sum_by}
use Rattle.std.specs.Option.{option_or}
use Rattle.std.specs.List.{AllByRecursion, list_any}
use Rattle.std.proofs.lemmas.Bool.Decides.{nat_tests}
use Rattle.std.proofs.lemmas.List.Sums.{sum_by-append, sum_by-cons}
use Rattle.std.proofs.lemmas.List.{take-append-drop}
use Rattle.cs_model.specs.Obj.{words_of_slots}
use Rattle.cs_model.specs.Profile.{is_page_count}
use Rattle.cs_model.specs.ImageFile.{FileObject, u32_at, heap_size, old_base, has_births, birth_count, cut_of, words_in, stands, visible}
use Rattle.cs_model.specs.ImageFault.{is_long_file, is_short, is_bad_format, is_bad_header_size, is_bad_profile, is_bad_length, bad_object, is_well_formed, is_body, is_over, is_bad_births}
use Rattle.cs_model.specs.SavedFile.{SavedObject, SavedBirths, SavedFile, IsReadAgain, saved_size, saved_sizes, placed_at, placed_from, page_place, birth_words, free_lists, table_root, table_page, all_saved, saved_bytes}
use Rattle.cs_model.proofs.SavedFiles.{read_again}
use Rattle.cs_model.proofs.SavedNumbers.{length-halves}
use Rattle.cs_model.proofs.SavedObjects.{sizes-cons}
use Rattle.cs_model.proofs.Same.{all-append}
use Rattle.cs_model.specs.SoundFile.{IsSoundFile, visible_saved}
use Rattle.cs_model.proofs.SavedPlacing.{placed_file}
use Rattle.cs_model.proofs.SavedSeen.{all_take, all_drop, all_each, find_none, Anywhere, all_placed, visible_there}

read : (f : SavedFile) (limit : ℕ) → IsSoundFile f limit → IsReadAgain f (saved_bytes f)
read f limit s = read_again f s.fits

-- ---- the header

pub not_too_long : (f : SavedFile) (limit : ℕ) → IsSoundFile f limit → is_long_file (saved_bytes f) ≡ false
not_too_long f limit s =
    let r = read f limit s in
    let size = s.size in
    let long : length (saved_bytes f) ≤ 536870912 = omega (arith, r.size, r.heap, size) in
    grind (arith, nat_tests, long)

pub not_short : (f : SavedFile) (limit : ℕ) → IsSoundFile f limit → is_short (saved_bytes f) ≡ false
not_short f limit s =
    let r = read f limit s in
    let long : 64 ≤ length (saved_bytes f) = omega (arith, r.size) in
    grind (arith, nat_tests, long)

pub format_right : (f : SavedFile) (limit : ℕ) → IsSoundFile f limit → is_bad_format (saved_bytes f) ≡ false
unfolding u32_at
format_right f limit s = ap (λ n. not (n == 6521)) ((read f limit s).front 4 0 (omega arith)) ∙ s.number

pub header_size_right : (f : SavedFile) (limit : ℕ) → IsSoundFile f limit → is_bad_header_size (saved_bytes f) ≡ false
unfolding u32_at
header_size_right f limit s = ap (λ n. not (n == 64)) ((read f limit s).front 4 4 (omega arith)) ∙ s.header_size

pub profile_right : (f : SavedFile) (limit : ℕ) → IsSoundFile f limit → is_bad_profile (saved_bytes f) ≡ false
unfolding u32_at
profile_right f limit s =
    let r = read f limit s in
    ap₂ (λ a b. (a / 2 ^ 31 % 2 == 1) && not (is_page_count b)) (r.behind 4 28 (omega arith) (omega arith)) (r.behind 2 36 (omega arith) (omega arith))
    ∙ s.profile

-- ---- lengths

even : (os : List SavedObject) → saved_sizes os % 2 ≡ 0
even [] = refl
even (o ∷ os) = omega (arith, sizes-cons o os, even os, size (length o.words))
  where
    size : (n : ℕ) → saved_size n % 2 ≡ 0
    size n = go (leb 255 n)
      where
        go : (b : Bool) → (cond b 2 0 + 2 + 2 * max 1 ((n + 1) / 2)) % 2 ≡ 0
        go true = omega arith
        go false = omega arith

section_long : (f : SavedFile) (limit : ℕ) → IsSoundFile f limit → (b : Option SavedBirths) → f.births ≡ b
    → (has_births (saved_bytes f) && not (length (saved_bytes f) == 80 + heap_size (saved_bytes f) + 8 * birth_count (saved_bytes f))) ≡ false
section_long f limit s None e = rw ((read f limit s).has_births ∙ ap is_some e) refl
section_long f limit s (Some b) e =
    let r = read f limit s in
    let words : length (birth_words f.births) ≡ 2 * suc (suc (length b.births))
    = ap (λ (x : Option SavedBirths). length (birth_words x)) e ∙ length-halves (b.next ∷ length b.births ∷ b.births) in
    let long : length (saved_bytes f) ≡ 80 + heap_size (saved_bytes f) + 8 * birth_count (saved_bytes f)
    = omega (arith, r.size, r.heap_size, words, r.birth_count b e) in
    let same : (length (saved_bytes f) == 80 + heap_size (saved_bytes f) + 8 * birth_count (saved_bytes f)) ≡ true = grind (arith, nat_tests, long) in
    rw (r.has_births ∙ ap is_some e, same) refl

pub lengths_right : (f : SavedFile) (limit : ℕ) → IsSoundFile f limit → is_bad_length (saved_bytes f) ≡ false
lengths_right f limit s =
    let r = read f limit s in
    let size : heap_size (saved_bytes f) ≡ 4 * page_place f.objects (length f.pages) = omega (arith, r.heap_size, r.heap) in
    let fits = s.fits.size in
    let e = even f.objects in
    let some : (heap_size (saved_bytes f) == 0) ≡ false = let h : 0 < heap_size (saved_bytes f) = omega (arith, size) in grind (arith, nat_tests, h) in
    let units : (heap_size (saved_bytes f) % 8 == 0) ≡ true = let h : heap_size (saved_bytes f) % 8 ≡ 0 = omega (arith, size, e) in grind (arith, nat_tests, h) in
    let base : (old_base (saved_bytes f) % 8 == 0) ≡ true = ap (λ n. n % 8 == 0) r.base in
    let within : nat_lt (2 ^ 32) (old_base (saved_bytes f) + heap_size (saved_bytes f)) ≡ false
    = let h : old_base (saved_bytes f) + heap_size (saved_bytes f) ≤ 2 ^ 32 = omega (arith, size, fits, r.base) in grind (arith, nat_tests, h) in
    rw (some, units, base, within) (section_long f limit s f.births refl)

-- ---- bodies

abbrev WellFormed : SavedObject → Type 0
WellFormed o = is_body o.format o.words ≡ true

hidden_body : (words : List ℕ) → is_body 2 words ≡ true
hidden_body words = refl

pages_formed : (ps : List (List ℕ)) → AllByRecursion WellFormed (map table_page ps)
pages_formed [] = tt
pages_formed (p ∷ ps) = (hidden_body p, pages_formed ps)

all_formed : (f : SavedFile) (limit : ℕ) → IsSoundFile f limit → AllByRecursion WellFormed (all_saved f)
unfolding all_saved
all_formed f limit s =
    all-append WellFormed (take 3 f.objects ++ free_lists ∷ table_root f ∷ drop 3 f.objects) (map table_page f.pages)
    (all-append WellFormed (take 3 f.objects) (free_lists ∷ table_root f ∷ drop 3 f.objects) (all_take WellFormed 3 f.objects s.bodies)
    (refl, (hidden_body (table_root f).words, all_drop WellFormed 3 f.objects s.bodies)))
    (pages_formed f.pages)

pub objects_whole : (f : SavedFile) (limit : ℕ) → IsSoundFile f limit → bad_object (cut_of (words_in (saved_bytes f))) ≡ None
unfolding bad_object
objects_whole f limit s =
    ap bad_object (read f limit s).cut
    ∙ ap (λ (r : Option FileObject). option_or (option_map (λ o. o.first) r) None)
    (find_none (λ o. stands o && not (is_well_formed o)) (placed_from 0 (all_saved f))
    (all_placed (λ o. (stands o && not (is_well_formed o)) ≡ false) 0 (all_saved f)
    (all_each WellFormed (Anywhere (λ o. (stands o && not (is_well_formed o)) ≡ false)) (λ o h first. formed (stands (placed_at first o)) (is_body o.format o.words) h) (all_saved f) (all_formed f limit s))))
  where
    formed : (a b : Bool) → b ≡ true → (a && not b) ≡ false
    formed true b h = ap not h
    formed false b h = refl

-- ---- room

slots_size : (n : ℕ) → words_of_slots n ≡ saved_size n
slots_size n = go (leb 255 n)
  where
    go : (b : Bool) → 2 * (cond b 1 0 + 1 + max 1 ((n + 1) / 2)) ≡ cond b 2 0 + 2 + 2 * max 1 ((n + 1) / 2)
    go true = omega arith
    go false = omega arith

abbrev words_taken : List FileObject → ℕ
words_taken os = sum_by (λ o. words_of_slots (length o.words)) os

placed_taken : (first : ℕ) (os : List SavedObject) → words_taken (placed_from first os) ≡ saved_sizes os
unfolding placed_from
placed_taken first [] = refl
placed_taken first (o ∷ os) =
    sum_by-cons (λ (o : FileObject). words_of_slots (length o.words)) (placed_at first o) (placed_from (first + saved_size (length o.words)) os)
    ∙ ap₂ (λ a b. a + b) (slots_size (length o.words)) (placed_taken (first + saved_size (length o.words)) os) ∙ sym (sizes-cons o os)

pub not_over : (f : SavedFile) (limit : ℕ) → IsSoundFile f limit → is_over (placed_file f) limit ≡ false
unfolding is_over
not_over f limit s =
    let room = s.room in
    let split = sym (sum_by-append (λ (x : SavedObject). saved_size (length x.words)) (take 3 f.objects) (drop 3 f.objects))
    ∙ ap saved_sizes (take-append-drop 3 f.objects) in
    let taken : words_taken (visible (placed_file f)) ≡ saved_sizes f.objects
    = ap words_taken (visible_there f limit s)
    ∙ sum_by-append (λ (o : FileObject). words_of_slots (length o.words)) (placed_from 0 (take 3 f.objects)) (placed_from 34 (drop 3 f.objects))
    ∙ ap₂ (λ a b. a + b) (placed_taken 0 (take 3 f.objects)) (placed_taken 34 (drop 3 f.objects)) ∙ split in
    let below : words_taken (visible (placed_file f)) ≤ limit = omega (arith, taken, room) in
    grind (arith, nat_tests, below)

-- ---- births

length-placed : (first : ℕ) (os : List SavedObject) → length (placed_from first os) ≡ length os
unfolding placed_from
length-placed first [] = refl
length-placed first (o ∷ os) = ap suc (length-placed (first + saved_size (length o.words)) os)

pub length-visible : (f : SavedFile) → length (visible_saved f) ≡ length f.objects
length-visible f =
    length-append (placed_from 0 (take 3 f.objects)) (placed_from 34 (drop 3 f.objects))
    ∙ ap₂ (λ a b. a + b) (length-placed 0 (take 3 f.objects)) (length-placed 34 (drop 3 f.objects))
    ∙ sym (length-append (take 3 f.objects) (drop 3 f.objects)) ∙ ap length (take-append-drop 3 f.objects)

none_above : (next : ℕ) (births : List ℕ) → AllByRecursion (λ birth. birth < next) births → list_any (λ birth. leb next birth) births ≡ false
none_above next [] h = refl
none_above next (b ∷ births) h =
    let below = h.0 in
    let here : leb next b ≡ false = grind (arith, nat_tests, below) in
    rw here (none_above next births h.1)

pub births_right : (f : SavedFile) (limit : ℕ) → IsSoundFile f limit → is_bad_births (saved_bytes f) (length f.objects) ≡ false
unfolding is_bad_births
births_right f limit s = go f.births refl
  where
    r : IsReadAgain f (saved_bytes f)
    r = read f limit s

    n : ℕ
    n = length f.objects

    go : (b : Option SavedBirths) → f.births ≡ b → is_bad_births (saved_bytes f) n ≡ false
    go None e = rw (r.has_births ∙ ap is_some e) refl
    go (Some b) e =
        let k = s.births b e in
        let count : (birth_count (saved_bytes f) == n) ≡ true = let h : birth_count (saved_bytes f) ≡ n = r.birth_count b e ∙ k.count in grind (arith, nat_tests, h) in
        let most = k.most in
        let next : nat_lt (2 ^ 62) b.next ≡ false = grind (arith, nat_tests, most) in
        rw (r.births b n e, r.next b n e, r.has_births ∙ ap is_some e, count, k.apart, none_above b.next b.births k.below, next) refl
