-- The parts of the file, one behind the other.
use Rattle.std.proofs.Common.{◌≡◌, ℕ, ◌+◌, ◌-◌, ◌*◌, ◌/◌, Bool, true, false, cond, leb, List, [], ◌∷◌, ◌++◌, length, map, take, drop, replicate, refl, ap, ap₂, sym, ◌∙◌, arith, max, append_assoc, length-drop, Some}
use Rattle.std.proofs.lemmas.List.{append-nil, length-map, take_all}
use Rattle.std.proofs.lemmas.List.FromFn.{length-map-range_with_len}
use Rattle.std.proofs.lemmas.List.Sums.{sum_by-cons}
use Rattle.std.proofs.lemmas.Grind.{flat_map-append}
use Rattle.std.specs.Prelude.{flat_map}
use Rattle.std.specs.List.{range_with_len, take-map, drop-map}
use Rattle.std.specs.Ordering.{nat_cmp}
use Rattle.std.specs.FinMap.{FinMap}
use Rattle.cs_heap.specs.Object.{Object, base, size, slot_counts, used}
use Rattle.cs_classes.specs.declared.Roots.{Roots}
use Rattle.cs_model.specs.Words.{bytes_of_words}
use Rattle.cs_model.specs.SavedFile.{SavedObject, SavedFile, FitsFile, saved_bytes, saved_heap, saved_words, saved_size, saved_sizes, all_saved, birth_words, header_words, halves, hidden_object, free_lists, table_root, table_page, page_address}
use Rattle.cs_model.proofs.SavedObjects.{sizes-cons}
use Rattle.cs_model.proofs.SavedFiles.{heap_length}
use Rattle.cs_save.specs.Filed.{filed, saved_file, file_word, page_entries, page_at, places_of, saved_between, saved_births, saved_heap_of, saved_of, saved_page, saved_root}
use Rattle.cs_save.proofs.Headers.{length-filed}

flat_mapped : {X Y : Type 0} (g : Y → List ℕ) (f : X → Y) (xs : List X) → flat_map g (map f xs) ≡ flat_map (λ x. g (f x)) xs
flat_mapped g f [] = refl
flat_mapped g f (x ∷ xs) = ap (λ (ys : List ℕ). g (f x) ++ ys) (flat_mapped g f xs)

size_same : (n : ℕ) → saved_size n ≡ size n
size_same n = go (leb 255 n)
  where
    go : (b : Bool) → cond b 2 0 + 2 + 2 * max 1 ((n + 1) / 2) ≡ 2 * (cond b 1 0 + 1 + max 1 ((n + 1) / 2))
    go true = omega arith
    go false = omega arith

pub sizes_filed : (xs : List Object) → saved_sizes (map filed xs) ≡ used xs
unfolding filed
sizes_filed [] = refl
sizes_filed (x ∷ xs) =
    sizes-cons (filed x) (map filed xs) ∙ ap₂ (λ a b. a + b) (ap saved_size (length-filed x.format x.words) ∙ size_same (length x.words)) (sizes_filed xs)
    ∙ sym (sum_by-cons size (length x.words) (slot_counts xs))

pages_long : (table : FinMap nat_cmp ℕ) → length (map (page_entries table) (range_with_len 0 16)) ≡ 16
pages_long table = length-map-range_with_len (page_entries table) 0 16

root_same : (xs : List Object) (table : FinMap nat_cmp ℕ) (roots : Roots) → table_root (saved_file xs table roots) ≡ hidden_object 2 (map (page_at (used xs)) (range_with_len 0 16))
root_same xs table roots =
    ap (λ (n : ℕ). hidden_object 2 (map (page_address (map filed xs)) (range_with_len 0 n) ++ replicate (16 - n) base)) (pages_long table)
    ∙ ap (hidden_object 2) (append-nil (map (page_address (map filed xs)) (range_with_len 0 16)))
    ∙ ap (λ (s : ℕ). hidden_object 2 (map (λ k. base + 4 * (s + 22 + 1028 * k + 2)) (range_with_len 0 16))) (sizes_filed xs)

heap_same : (xs : List Object) (table : FinMap nat_cmp ℕ) (roots : Roots) → saved_heap (saved_file xs table roots) ≡ saved_heap_of xs table
unfolding saved_heap all_saved
heap_same xs table roots =
    flat_map-append saved_words (take 3 (map filed xs) ++ free_lists ∷ table_root f ∷ drop 3 (map filed xs)) (map table_page pages)
    ∙ ap₂ (λ (a b : List ℕ). a ++ b)
    (flat_map-append saved_words (take 3 (map filed xs)) (free_lists ∷ table_root f ∷ drop 3 (map filed xs))
    ∙ ap₂ (λ (a b : List ℕ). a ++ b)
    (ap (flat_map saved_words) (take-map filed 3 xs) ∙ flat_mapped saved_words filed (take 3 xs))
    (ap (λ (r : SavedObject). saved_words free_lists ++ (saved_words r ++ flat_map saved_words (drop 3 (map filed xs)))) (root_same xs table roots)
    ∙ ap (λ (a : List ℕ). saved_words free_lists ++ (saved_root (used xs) ++ a)) (ap (flat_map saved_words) (drop-map filed 3 xs) ∙ flat_mapped saved_words filed (drop 3 xs)
    ∙ ap (flat_map (λ x. saved_words (filed x))) (sym (take_all (length xs - 3) (drop 3 xs) (omega (arith, length-drop 3 xs)))))))
    (flat_mapped saved_words table_page pages ∙ flat_mapped (λ entries. saved_words (table_page entries)) (page_entries table) (range_with_len 0 16))
    ∙ regroup (saved_between xs 0 3) (saved_words free_lists) (saved_root (used xs)) (saved_between xs 3 (length xs)) (flat_map (saved_page table) (range_with_len 0 16))
  where
    f : SavedFile
    f = saved_file xs table roots

    pages : List (List ℕ)
    pages = map (page_entries table) (range_with_len 0 16)

    regroup : (a b c d e : List ℕ) → (a ++ (b ++ (c ++ d))) ++ e ≡ a ++ ((b ++ c) ++ (d ++ e))
    regroup a b c d e = simp append_assoc

births_same : (xs : List Object) (next : ℕ) → birth_words (Some (record { next = next; births = map (λ x. x.birth) xs }))
    ≡ halves next ++ (halves (length xs) ++ saved_births xs (length xs))
births_same xs next =
    ap₂ (λ (n : ℕ) (bs : List ℕ). halves next ++ (halves n ++ bs)) (length-map xs (λ x. x.birth))
    (flat_mapped halves (λ (x : Object). x.birth) xs ∙ ap (flat_map (λ (x : Object). halves x.birth)) (sym (take_all (length xs - 0) xs (omega arith))))

places_same : (xs : List Object) (table : FinMap nat_cmp ℕ) (roots : Roots) → FitsFile (saved_file xs table roots) → header_words (saved_file xs table roots) ≡ places_of (used xs) roots
places_same xs table roots fits =
    let long : 4 * length (saved_heap (saved_file xs table roots)) ≡ 4 * (used xs + 16470) =
    omega (arith, heap_length (saved_file xs table roots) fits, sizes_filed xs, pages_long table) in
    ap (λ (n : ℕ). n ∷ base ∷ file_word roots.special.0 ∷ roots.last_hash ∷ []) long

pub saved_is : (xs : List Object) (table : FinMap nat_cmp ℕ) (roots : Roots) → FitsFile (saved_file xs table roots)
    → saved_of xs table roots ≡ ((take 8 roots.header ++ bytes_of_words (places_of (used xs) roots) ++ drop 24 roots.header)
    ++ bytes_of_words (saved_heap_of xs table)) ++ bytes_of_words (halves roots.next_birth ++ (halves (length xs) ++ saved_births xs (length xs)))
unfolding saved_bytes
saved_is xs table roots fits =
    ap₂ (λ (a b : List ℕ). ((take 8 roots.header ++ bytes_of_words a ++ drop 24 roots.header) ++ bytes_of_words b)
    ++ bytes_of_words (birth_words (Some (record { next = roots.next_birth; births = map (λ x. x.birth) xs }))))
    (places_same xs table roots fits) (heap_same xs table roots)
    ∙ ap (λ (a : List ℕ). ((take 8 roots.header ++ bytes_of_words (places_of (used xs) roots) ++ drop 24 roots.header) ++ bytes_of_words (saved_heap_of xs table)) ++ bytes_of_words a)
    (births_same xs roots.next_birth)
