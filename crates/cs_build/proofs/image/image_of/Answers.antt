use Rattle.std.proofs.Common.{◌≡◌, ℕ, zero, suc, ◌+◌, ◌-◌, ◌*◌, ◌/◌, ◌<◌, ◌≤◌, List, [], ◌∷◌, ◌++◌, length, map, take, drop, get_or, refl, ap, ap₂, sym, ◌∙◌, arith, slice_index, length-drop}
use Rattle.std.proofs.lemmas.List.{take_all}
use Rattle.cs_model.specs.SavedFile.{saved_heap, page_place, saved_base}
use Rattle.cs_model.proofs.SavedFiles.{heap_length}
use Rattle.cs_build.specs.declared.object.Object.{Object}
use Rattle.cs_build.specs.Laid.{Laid, FitsLayout, laid_by, laid_size, addresses_from, laid_addresses, file_for, put_words, all_header_words}
use Rattle.cs_build.proofs.Putting.{map_take, map_drop}
use Rattle.cs_build.proofs.Filing.{image_is, first_size, size_of_file, length-addresses, pages_are, count_pages}
use Rattle.cs_build.proofs.Fitting.{file_fits}
use Rattle.cs_build.proofs.image.image_of.Goals as goal

rest_of : (objects : List Object) → map laid_by (take (length objects - 3) (drop 3 objects)) ≡ drop 3 (map laid_by objects)
rest_of objects = ap (map laid_by) (take_all (length objects - 3) (drop 3 objects) (simp length-drop (omega arith))) ∙ map_drop laid_by 3 objects

-- the visible objects behind the first three
rest_size : (objects : List Object) (table : List ℕ) → FitsLayout (map laid_by objects) table
    → laid_size (map laid_by (take (length objects - 3) (drop 3 objects))) + 12 ≡ laid_size (map laid_by objects)
rest_size objects table fits = omega (arith, ap laid_size (rest_of objects), first_size (map laid_by objects) (omega (arith, fits.four)) fits.first)

room : (ls : List Laid) (table : List ℕ) → FitsLayout ls table → saved_base + 4 * (laid_size ls + 22 + 1028 * (length table / 1024)) ≤ 2147483648
room ls table fits = omega (arith, fits.size, size_of_file ls table)

pub put_addresses-requires-2 : goal.put_addresses-requires-2
put_addresses-requires-2 c = omega (arith, rest_size c.args.objects.now c.args.table.now c.requires, room (map laid_by c.args.objects.now) c.args.table.now c.requires)

pub overflow_add-heap_words : goal.overflow_add-heap_words
overflow_add-heap_words c = omega (arith, c.in_ok-behind.ensures.behind, rest_size c.args.objects.now c.args.table.now c.requires, room (map laid_by c.args.objects.now) c.args.table.now c.requires)

pub overflow_mul-heap_words-2 : goal.overflow_mul-heap_words-2
overflow_mul-heap_words-2 c = omega (arith, c.in_ok-behind.ensures.behind, rest_size c.args.objects.now c.args.table.now c.requires, room (map laid_by c.args.objects.now) c.args.table.now c.requires)

pub overflow_add-heap_words-2 : goal.overflow_add-heap_words-2
overflow_add-heap_words-2 c = omega (arith, c.in_ok-behind.ensures.behind, rest_size c.args.objects.now c.args.table.now c.requires, room (map laid_by c.args.objects.now) c.args.table.now c.requires)

pub overflow_cast-heap_words : goal.overflow_cast-heap_words
overflow_cast-heap_words c = omega (arith, c.in_ok-behind.ensures.behind, rest_size c.args.objects.now c.args.table.now c.requires, room (map laid_by c.args.objects.now) c.args.table.now c.requires)

pub overflow_mul-heap_words-3 : goal.overflow_mul-heap_words-3
overflow_mul-heap_words-3 c = omega (arith, c.in_ok-behind.ensures.behind, rest_size c.args.objects.now c.args.table.now c.requires, room (map laid_by c.args.objects.now) c.args.table.now c.requires)

addresses_are : (objects : List Object) (a b d : List ℕ) → a ≡ [] → b ≡ a ++ addresses_from 0 (map laid_by (take 3 objects))
    → d ≡ b ++ addresses_from 34 (map laid_by (take (length objects - 3) (drop 3 objects))) → d ≡ laid_addresses (map laid_by objects)
addresses_are objects a b d ea eb ed =
    ed ∙ ap₂ (λ (xs ys : List ℕ). xs ++ ys)
    (eb ∙ ap₂ (λ (xs : List ℕ) (ls : List Laid). xs ++ addresses_from 0 ls) ea (map_take laid_by 3 objects))
    (ap (addresses_from 34) (rest_of objects))

same_get : (xs : List ℕ) (i d e : ℕ) → i < length xs → get_or xs i d ≡ get_or xs i e
same_get [] i d e h = absurd (omega (arith, h))
same_get (x ∷ xs) zero d e h = refl
same_get (x ∷ xs) (suc i) d e h = same_get xs i d e (omega (arith, h))

pub index-requires : goal.index-requires
index-requires c =
    let all : c.put_addresses-2.new.addresses.items ≡ laid_addresses (map laid_by c.args.objects.now) =
    addresses_are c.args.objects.now c.in_ok-addresses.addresses.items c.put_addresses.new.addresses.items c.put_addresses-2.new.addresses.items
    c.in_ok-addresses.ensures.items c.in_ok-put_addresses.ensures.addresses c.in_ok-behind.ensures.addresses in
    omega (arith, c.put_addresses-2.new.addresses.ok.0, ap length all, length-addresses (map laid_by c.args.objects.now), c.requires.four)

pub returns : goal.returns
returns c =
    let ls : List Laid = map laid_by c.args.objects.now in
    let table : List ℕ = c.args.table.now in
    let all : c.put_addresses-2.new.addresses.items ≡ laid_addresses (map laid_by c.args.objects.now) =
    addresses_are c.args.objects.now c.in_ok-addresses.addresses.items c.put_addresses.new.addresses.items c.put_addresses-2.new.addresses.items
    c.in_ok-addresses.ensures.items c.in_ok-put_addresses.ensures.addresses c.in_ok-behind.ensures.addresses in
    let words : ℕ = c.in_ok-behind.behind + 1028 * (length c.args.table.now / 1024) in
    let pages : length (file_for ls table).pages ≡ length table / 1024 = ap length (pages_are ls table) ∙ count_pages (laid_addresses ls) table in
    let long : length (saved_heap (file_for ls table)) ≡ page_place (file_for ls table).objects (length table / 1024) =
    heap_length (file_for ls table) (file_fits ls table c.requires) ∙ ap (page_place (file_for ls table).objects) pages in
    let size : 4 * words ≡ 4 * length (saved_heap (file_for ls table)) =
    omega (arith, long, size_of_file ls table, c.in_ok-behind.ensures.behind, rest_size c.args.objects.now c.args.table.now c.requires) in
    let special : c.index.result.now ≡ slice_index (laid_addresses ls) 3 =
    c.index.ensures ∙ same_get c.put_addresses-2.new.addresses.items 3 c.index.result.now 0 (omega (arith, ap length all, length-addresses (map laid_by c.args.objects.now), c.requires.four))
    ∙ ap (λ (xs : List ℕ). slice_index xs 3) all in
    let header : c.put_header.new.out.items ≡ put_words [] (all_header_words (4 * words) (slice_index (laid_addresses ls) 3)) =
    c.in_ok-put_header.ensures ∙ ap₂ (λ (xs : List ℕ) (w : ℕ). put_words xs (all_header_words (4 * words) w)) c.in_ok-out.ensures.items special in
    c.in_ok-put_heap.ensures ∙ ap (λ (b : List ℕ). put_words b (saved_heap (file_for ls table))) header ∙ sym (image_is ls table (4 * words) size)
