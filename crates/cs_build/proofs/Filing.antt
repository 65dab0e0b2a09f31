-- The file that is put together of objects: its heap in parts, its root, and that its words fit.
use Rattle.std.proofs.Common.{◌≡◌, ℕ, zero, suc, ◌+◌, ◌-◌, ◌*◌, ◌/◌, ◌<◌, ◌≤◌, true, false, List, [], ◌∷◌, ◌++◌, length, map, take, drop, replicate, refl, ap, ap₂, sym, ◌∙◌, arith, append_assoc, append-nil, length-append, slice_index, length-take, length-drop}
use Rattle.std.proofs.lemmas.List.FromFn.{length-range_with_len}
use Rattle.std.specs.Prelude.{flat_map, nat_lt}
use Rattle.std.specs.List.{AllByRecursion, range_with_len}
use Rattle.std.proofs.lemmas.Bool.Decides.{nat_tests}
use Rattle.cs_model.specs.Words.{bytes_of_words}
use Rattle.cs_model.specs.SavedFile.{SavedObject, SavedFile, saved_words, saved_size, saved_sizes, saved_base, saved_heap, saved_bytes, all_saved, free_lists, table_root, table_page, page_address, hidden_object}
use Rattle.cs_model.specs.Builder.{header_bytes}
use Rattle.cs_model.proofs.SavedObjects.{sizes-cons}
use Rattle.cs_build.specs.Laid.{Laid, laid_slots, laid_size, saved_by, laid_addresses, file_for, table_pages, root_word_of, root_words, all_header_words, put_words, page_of, addresses_from}
use Rattle.cs_build.proofs.Putting.{flat_map_append, map_take, map_drop, slots_of_laid, size_cons, length-map}

pub sizes_saved : (a : List ℕ) (ls : List Laid) → saved_sizes (map (saved_by a) ls) ≡ laid_size ls
sizes_saved a [] = refl
sizes_saved a (l ∷ ls) = sizes-cons (saved_by a l) (map (saved_by a) ls)
    ∙ ap₂ (λ m n. m + n) (ap saved_size (slots_of_laid a l)) (sizes_saved a ls) ∙ sym (size_cons l ls)

pub heap_is : (f : SavedFile) → saved_heap f
    ≡ (((flat_map saved_words (take 3 f.objects) ++ saved_words free_lists) ++ saved_words (table_root f)) ++ flat_map saved_words (drop 3 f.objects)) ++ flat_map saved_words (map table_page f.pages)
unfolding saved_heap all_saved
heap_is f = simp (flat_map_append, append_assoc)

-- ---- the root

fill : (g : ℕ → ℕ) (b at n : ℕ) → ((i : ℕ) → at ≤ i → g i ≡ b) → replicate n b ≡ map g (range_with_len at n)
fill g b at zero same = refl
fill g b at (suc n) same = ap₂ (λ (x : ℕ) (xs : List ℕ). x ∷ xs) (sym (same at (omega arith))) (fill g b (at + 1) n (λ i h. same i (omega (arith, h))))

split : (f g : ℕ → ℕ) (b at n m k : ℕ) → n + m ≡ k → ((i : ℕ) → at ≤ i → i < at + n → f i ≡ g i) → ((i : ℕ) → at + n ≤ i → g i ≡ b)
    → map f (range_with_len at n) ++ replicate m b ≡ map g (range_with_len at k)
split f g b at zero m k e low high = let same : m ≡ k = omega (arith, e) in
    fill g b at m (λ i h. high i (omega (arith, h))) ∙ ap (λ (j : ℕ). map g (range_with_len at j)) same
split f g b at (suc n) m zero e low high = absurd (omega (arith, e))
split f g b at (suc n) m (suc k) e low high =
    ap₂ (λ (x : ℕ) (xs : List ℕ). x ∷ xs) (low at (omega arith) (omega arith))
    (split f g b (at + 1) n m k (omega (arith, e)) (λ i h l. low i (omega (arith, h)) (omega (arith, l))) (λ i h. high i (omega (arith, h))))

below : (words pages i : ℕ) → i < pages → root_word_of words pages i ≡ saved_base + 4 * (words + 22 + 1028 * i + 2)
below words pages i h = let t : nat_lt i pages ≡ true = grind (arith, nat_tests) in rw t refl

above : (words pages i : ℕ) → pages ≤ i → root_word_of words pages i ≡ saved_base
above words pages i h = let t : nat_lt i pages ≡ false = grind (arith, nat_tests) in rw t refl

pub root_is : (objects : List SavedObject) (words pages : ℕ) → words ≡ saved_sizes objects → pages ≤ 16
    → map (page_address objects) (range_with_len 0 pages) ++ replicate (16 - pages) saved_base ≡ root_words words pages
root_is objects words pages e h = split (page_address objects) (root_word_of words pages) saved_base 0 pages (16 - pages) 16 (omega (arith, h))
    (λ i l u. omega (arith, e, below words pages i (omega (arith, u))))
    (λ i u. above words pages i (omega (arith, u)))

-- ---- the header

pub header_is : (heap_bytes special : ℕ) → bytes_of_words (all_header_words heap_bytes special)
    ≡ take 8 header_bytes ++ (bytes_of_words (heap_bytes ∷ saved_base ∷ special ∷ 0 ∷ []) ++ drop 24 header_bytes)
unfolding bytes_of_words
header_is heap_bytes special = refl

no_words : bytes_of_words [] ≡ []
unfolding bytes_of_words
no_words = refl

seq : (a b c d e : List ℕ) → e ≡ [] → a ++ (b ++ (c ++ (d ++ e))) ≡ ([] ++ (a ++ (b ++ c))) ++ d
seq a b c d e nil =
    ap (λ (zs : List ℕ). a ++ (b ++ (c ++ zs))) (ap (λ (zs : List ℕ). d ++ zs) nil ∙ append-nil d)
    ∙ ap (λ (zs : List ℕ). a ++ zs) (sym (append_assoc b c d)) ∙ sym (append_assoc a (b ++ c) d)

pub image_is : (ls : List Laid) (table : List ℕ) (heap_bytes : ℕ) → heap_bytes ≡ 4 * length (saved_heap (file_for ls table))
    → saved_bytes (file_for ls table) ≡ put_words (put_words [] (all_header_words heap_bytes (slice_index (laid_addresses ls) 3))) (saved_heap (file_for ls table))
unfolding saved_bytes file_for bytes_of_words
image_is ls table heap_bytes e =
    let special : ℕ = slice_index (laid_addresses ls) 3 in
    let h : List ℕ = saved_heap (file_for ls table) in
    seq (take 8 header_bytes) (bytes_of_words (4 * length h ∷ saved_base ∷ special ∷ 0 ∷ [])) (drop 24 header_bytes) (bytes_of_words h) (bytes_of_words []) no_words
    ∙ ap (λ (bytes : List ℕ). ([] ++ bytes) ++ bytes_of_words h) (sym (header_is (4 * length h) special))
    ∙ ap (λ (n : ℕ). ([] ++ bytes_of_words (all_header_words n special)) ++ bytes_of_words h) (sym e)

-- ---- the parts of the heap

pub objects_are : (ls : List Laid) (table : List ℕ) → (file_for ls table).objects ≡ map (saved_by (laid_addresses ls)) ls
unfolding file_for
objects_are ls table = refl

pub pages_are : (ls : List Laid) (table : List ℕ) → (file_for ls table).pages ≡ table_pages (laid_addresses ls) table
unfolding file_for
pages_are ls table = refl

pub size_of_file : (ls : List Laid) (table : List ℕ) → saved_sizes (file_for ls table).objects ≡ laid_size ls
size_of_file ls table = ap saved_sizes (objects_are ls table) ∙ sizes_saved (laid_addresses ls) ls

pub count_pages : (a table : List ℕ) → length (table_pages a table) ≡ length table / 1024
count_pages a table = length-map (page_of a table) (range_with_len 0 (length table / 1024)) ∙ length-range_with_len 0 (length table / 1024)

root_for : (ls : List Laid) (table : List ℕ) → length table ≤ 16384
    → table_root (file_for ls table) ≡ hidden_object 2 (root_words (laid_size ls) (length table / 1024))
root_for ls table few =
    let count : length (file_for ls table).pages ≡ length table / 1024 = ap length (pages_are ls table) ∙ count_pages (laid_addresses ls) table in
    ap (hidden_object 2) (ap (λ (k : ℕ). map (page_address (file_for ls table).objects) (range_with_len 0 k) ++ replicate (16 - k) saved_base) count
    ∙ root_is (file_for ls table).objects (laid_size ls) (length table / 1024) (sym (size_of_file ls table)) (omega (arith, few)))

pub heap_for : (ls : List Laid) (table a : List ℕ) (words : ℕ) → a ≡ laid_addresses ls → words ≡ laid_size ls → length table ≤ 16384
    → saved_heap (file_for ls table) ≡ (((flat_map saved_words (map (saved_by a) (take 3 ls)) ++ saved_words free_lists)
    ++ saved_words (hidden_object 2 (root_words words (length table / 1024)))) ++ flat_map saved_words (map (saved_by a) (drop 3 ls))) ++ flat_map saved_words (map table_page (table_pages a table))
heap_for ls table a words ea ew few =
    let os : List SavedObject = map (saved_by (laid_addresses ls)) ls in
    heap_is (file_for ls table)
    ∙ ap (λ (xs : List SavedObject). (((flat_map saved_words (take 3 xs) ++ saved_words free_lists) ++ saved_words (table_root (file_for ls table))) ++ flat_map saved_words (drop 3 xs)) ++ flat_map saved_words (map table_page (file_for ls table).pages)) (objects_are ls table)
    ∙ ap (λ (ps : List (List ℕ)). (((flat_map saved_words (take 3 os) ++ saved_words free_lists) ++ saved_words (table_root (file_for ls table))) ++ flat_map saved_words (drop 3 os)) ++ flat_map saved_words (map table_page ps)) (pages_are ls table)
    ∙ ap (λ (r : SavedObject). (((flat_map saved_words (take 3 os) ++ saved_words free_lists) ++ saved_words r) ++ flat_map saved_words (drop 3 os)) ++ flat_map saved_words (map table_page (table_pages (laid_addresses ls) table))) (root_for ls table few)
    ∙ ap₂ (λ (xs ys : List SavedObject). (((flat_map saved_words xs ++ saved_words free_lists) ++ saved_words (hidden_object 2 (root_words (laid_size ls) (length table / 1024)))) ++ flat_map saved_words ys) ++ flat_map saved_words (map table_page (table_pages (laid_addresses ls) table)))
    (sym (map_take (saved_by (laid_addresses ls)) 3 ls)) (sym (map_drop (saved_by (laid_addresses ls)) 3 ls))
    ∙ ap₂ (λ (b : List ℕ) (w : ℕ). (((flat_map saved_words (map (saved_by b) (take 3 ls)) ++ saved_words free_lists)
    ++ saved_words (hidden_object 2 (root_words w (length table / 1024)))) ++ flat_map saved_words (map (saved_by b) (drop 3 ls))) ++ flat_map saved_words (map table_page (table_pages b table))) (sym ea) (sym ew)

-- ---- addresses

length-from : (at : ℕ) (ls : List Laid) → length (addresses_from at ls) ≡ length ls
length-from at [] = refl
length-from at (l ∷ ls) = ap suc (length-from (at + saved_size (laid_slots l)) ls)

pub length-addresses : (ls : List Laid) → length (laid_addresses ls) ≡ length ls
length-addresses ls = omega (arith, length-append (addresses_from 0 (take 3 ls)) (addresses_from 34 (drop 3 ls)), length-from 0 (take 3 ls), length-from 34 (drop 3 ls), length-take 3 ls, length-drop 3 ls)

pub first_size : (ls : List Laid) → 3 ≤ length ls → AllByRecursion (λ l. laid_slots l ≡ 0) (take 3 ls) → laid_size ls ≡ 12 + laid_size (drop 3 ls)
first_size [] h all = absurd (omega (arith, h))
first_size (a ∷ []) h all = absurd (omega (arith, h))
first_size (a ∷ b ∷ []) h all = absurd (omega (arith, h))
first_size (a ∷ b ∷ c ∷ ls) h all = omega (
  arith,
  size_cons a (b ∷ c ∷ ls),
  size_cons b (c ∷ ls),
  size_cons c ls,
  ap saved_size all.0,
  ap saved_size all.1.0,
  ap saved_size all.1.1.0,
)
