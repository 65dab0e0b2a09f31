-- Where the objects of a file lie, and what its words name.
use Rattle.std.proofs.Common.{◌≡◌, ◌≢◌, ℕ, zero, suc, ◌+◌, ◌*◌, ◌/◌, ◌%◌, ◌<◌, ◌≤◌, Bool, true, false, cond, leb, nat_lt, List, [], ◌∷◌, length, map, take, drop, Option, Some, refl, ap, ap₂, sym, ◌∙◌, arith, slice_get, slice_index, option_map, length-take, length-drop}
use Rattle.std.specs.Option.{option_map_or}
use Rattle.std.specs.List.{AllByRecursion, range_with_len}
use Rattle.std.proofs.lemmas.List.{get_or-map}
use Rattle.std.proofs.lemmas.Option.{slice_get-map, slice_get_past}
use Rattle.std.proofs.lemmas.List.FromFn.{length-map-range_with_len}
use Rattle.std.proofs.lemmas.Bool.Decides.{nat_tests}
use Rattle.cs_model.specs.Obj.{Obj}
use Rattle.cs_model.specs.ImageFile.{FileObject}
use Rattle.cs_model.specs.SavedFile.{SavedObject, SavedFile, FitsFile, placed_at, saved_base, saved_size, saved_sizes, words_before}
use Rattle.cs_model.specs.SoundFile.{IsFound, saved_address, saved_birth, saved_entry, births_saved}
use Rattle.cs_model.proofs.SavedBirths.{birth_by_number}
use Rattle.cs_build.specs.Laid.{Laid, laid, laid_slots, laid_size, saved_by, addresses_from, laid_addresses, page_of, file_for}
use Rattle.cs_build.proofs.Putting.{slots_of_laid, size_cons, length-map, map_take}
use Rattle.cs_build.proofs.Filing.{objects_are, pages_are, sizes_saved}

-- ---- objects

pub get_object : (os : List Obj) (table : List ℕ) (k : ℕ) (o : Obj) → slice_get os k ≡ Some o
    → slice_get (file_for (map laid os) table).objects k ≡ Some (saved_by (laid_addresses (map laid os)) (laid o))
get_object os table k o e =
    let a : List ℕ = laid_addresses (map laid os) in
    ap (λ (xs : List SavedObject). slice_get xs k) (objects_are (map laid os) table)
    ∙ slice_get-map (saved_by a) (map laid os) k ∙ ap (option_map (saved_by a)) (slice_get-map laid os k ∙ ap (option_map laid) e)

-- ---- addresses

abbrev pub IsBare : List Laid → Type 0
IsBare ls = (3 ≤ length ls) × AllByRecursion (λ l. laid_slots l ≡ 0) (take 3 ls)

address_from : (at : ℕ) (ls : List Laid) (k : ℕ) (l : Laid) → slice_get ls k ≡ Some l
    → slice_index (addresses_from at ls) k ≡ saved_base + 4 * (at + laid_size (take k ls) + words_before (laid_slots l))
address_from at [] k l e = absurd (cc)
address_from at (m ∷ ls) zero l e =
    let same : m ≡ l = cc in
    ap (λ (x : Laid). saved_base + 4 * (at + words_before (laid_slots x))) same ∙ omega arith
address_from at (m ∷ ls) (suc k) l e = address_from (at + saved_size (laid_slots m)) ls k l e ∙ omega (arith, size_cons m (take k ls))

address_at : (ls : List Laid) (k : ℕ) (l : Laid) → IsBare ls → slice_get ls k ≡ Some l
    → slice_index (laid_addresses ls) k ≡ saved_base + 4 * (laid_size (take k ls) + cond (nat_lt k 3) 0 22 + words_before (laid_slots l))
address_at [] k l bare e = absurd (omega (arith, bare.0))
address_at (x ∷ []) k l bare e = absurd (omega (arith, bare.0))
address_at (x ∷ y ∷ []) k l bare e = absurd (omega (arith, bare.0))
address_at (x ∷ y ∷ z ∷ ls) zero l bare e = address_from 0 (x ∷ y ∷ z ∷ []) 0 l e ∙ omega arith
address_at (x ∷ y ∷ z ∷ ls) (suc zero) l bare e = address_from 0 (x ∷ y ∷ z ∷ []) 1 l e ∙ omega arith
address_at (x ∷ y ∷ z ∷ ls) (suc (suc zero)) l bare e = address_from 0 (x ∷ y ∷ z ∷ []) 2 l e ∙ omega arith
address_at (x ∷ y ∷ z ∷ ls) (suc (suc (suc j))) l bare e =
    let high : nat_lt (suc (suc (suc j))) 3 ≡ false = grind (arith, nat_tests) in
    let gap : ◌≡◌ {A = ℕ} (cond (nat_lt (suc (suc (suc j))) 3) 0 22) 22 = ap {B = ℕ} (λ (b : Bool). cond b 0 22) high in
    address_from 34 ls j l e ∙ omega (
      arith,
      gap,
      size_cons x (y ∷ z ∷ take j ls),
      size_cons y (z ∷ take j ls),
      size_cons z (take j ls),
      ap saved_size bare.1.0,
      ap saved_size bare.1.1.0,
      ap saved_size bare.1.1.1.0,
    )

pub address_is : (ls : List Laid) (table : List ℕ) (k : ℕ) (l : Laid) → IsBare ls → slice_get ls k ≡ Some l
    → slice_index (laid_addresses ls) k ≡ saved_address (file_for ls table).objects k
address_is ls table k l bare e =
    let a : List ℕ = laid_addresses ls in
    let objects : List SavedObject = (file_for ls table).objects in
    let sizes : saved_sizes (take k (file_for ls table).objects) ≡ laid_size (take k ls) =
    ap (λ (xs : List SavedObject). saved_sizes (take k xs)) (objects_are ls table) ∙ ap saved_sizes (sym (map_take (saved_by a) k ls)) ∙ sizes_saved a (take k ls) in
    let there : slice_get (file_for ls table).objects k ≡ Some (saved_by (laid_addresses ls) l) =
    ap (λ (xs : List SavedObject). slice_get xs k) (objects_are ls table) ∙ slice_get-map (saved_by a) ls k ∙ ap (option_map (saved_by a)) e in
    let before : words_before (option_map_or (λ (o : SavedObject). length o.words) (slice_get (file_for ls table).objects k) 0) ≡ words_before (laid_slots l) =
    ap (λ (r : Option SavedObject). words_before (option_map_or (λ o. length o.words) r 0)) there ∙ ap words_before (slots_of_laid a l) in
    address_at ls k l bare e ∙ sym (ap₂ (λ (s w : ℕ). saved_base + 4 * (s + cond (nat_lt k 3) 0 22 + w)) sizes before)

pub zero_address : (ls : List Laid) → IsBare ls → slice_index (laid_addresses ls) 0 ≡ saved_base
zero_address [] bare = absurd (omega (arith, bare.0))
zero_address (x ∷ ls) bare = ap (λ (n : ℕ). saved_base + 4 * (0 + words_before n)) bare.1.0

-- no other object has that address
pub other_address : (ls : List Laid) (k : ℕ) (l : Laid) → IsBare ls → slice_get ls k ≡ Some l → k ≢ 0 → slice_index (laid_addresses ls) k ≢ saved_base
other_address ls zero l bare e h = absurd (h refl)
other_address [] (suc k) l bare e h = absurd (cc)
other_address (x ∷ ls) (suc k) l bare e h = λ same.
    let size : 4 ≤ saved_size (laid_slots x) = omega arith in
    omega (arith, same, size, address_at (x ∷ ls) (suc k) l bare e, size_cons x (take k ls))

pub found_at : (os : List Obj) (table : List ℕ) (P : FileObject → Type 0) (k : ℕ) (o : Obj) → IsBare (map laid os) → slice_get os k ≡ Some o
    → ((first : ℕ) → P (placed_at first (saved_by (laid_addresses (map laid os)) (laid o))))
    → IsFound (file_for (map laid os) table) P (slice_index (laid_addresses (map laid os)) k)
found_at os table P k o bare e p = record {
  number = k;
  object = saved_by (laid_addresses (map laid os)) (laid o);
  there = get_object os table k o e;
  address = address_is (map laid os) table k (laid o) bare (slice_get-map laid os k ∙ ap (option_map laid) e);
  is = p;
}

-- ---- entries of the class table

index_take : (n i : ℕ) (xs : List ℕ) → i < n → slice_index (take n xs) i ≡ slice_index xs i
index_take zero i xs h = absurd (omega (arith, h))
index_take (suc n) i [] h = refl
index_take (suc n) zero (x ∷ xs) h = refl
index_take (suc n) (suc i) (x ∷ xs) h = index_take n i xs (omega (arith, h))

index_past : (xs : List ℕ) (i : ℕ) → length xs ≤ i → slice_index xs i ≡ 0
index_past [] i h = refl
index_past (x ∷ xs) zero h = absurd (omega (arith, h))
index_past (x ∷ xs) (suc i) h = index_past xs i (omega (arith, h))

index_drop : (n : ℕ) (xs : List ℕ) (i j : ℕ) → j ≡ n + i → slice_index (drop n xs) i ≡ slice_index xs j
index_drop zero xs i j e = let same : i ≡ j = omega (arith, e) in ap (slice_index xs) same
index_drop (suc n) [] i j e = refl
index_drop (suc n) (x ∷ xs) i zero e = absurd (omega (arith, e))
index_drop (suc n) (x ∷ xs) i (suc j) e = index_drop n xs i j (omega (arith, e))

get_pages : (f : ℕ → List ℕ) (a n p : ℕ) → p < n → slice_get (map f (range_with_len a n)) p ≡ Some (f (a + p))
get_pages f a zero p h = absurd (omega (arith, h))
get_pages f a (suc n) zero h = ap (λ k. Some (f k)) (omega arith)
get_pages f a (suc n) (suc p) h = get_pages f (a + 1) n p (omega (arith, h)) ∙ ap (λ k. Some (f k)) (omega arith)

page_entry : (a table : List ℕ) (q : ℕ) → q < length table → 1024 * (length table / 1024) ≡ length table
    → slice_index (page_of a table (0 + q / 1024)) (q % 1024) ≡ slice_index a (slice_index table q)
page_entry a table q h pages =
    let piece : List ℕ = take 1024 (drop (1024 * (0 + q / 1024)) table) in
    let long : q % 1024 < length (take 1024 (drop (1024 * (0 + q / 1024)) table)) =
    omega (arith, h, pages, length-take 1024 (drop (1024 * (0 + q / 1024)) table), length-drop (1024 * (0 + q / 1024)) table) in
    get_or-map (slice_index a) piece (q % 1024) 0 0 long
    ∙ ap (slice_index a) (index_take 1024 (q % 1024) (drop (1024 * (0 + q / 1024)) table) (omega arith)
    ∙ index_drop (1024 * (0 + q / 1024)) table (q % 1024) q (omega arith))

pub entry_is : (ls : List Laid) (table : List ℕ) (q : ℕ) → IsBare ls → 1024 * (length table / 1024) ≡ length table
    → saved_entry (file_for ls table) q ≡ slice_index (laid_addresses ls) (slice_index table q)
entry_is ls table q bare pages =
    ap (λ (ps : List (List ℕ)). option_map_or (λ page. slice_index page (q % 1024)) (slice_get ps (q / 1024)) saved_base) (pages_are ls table)
    ∙ go (leb (length table) q) refl
  where
    a : List ℕ
    a = laid_addresses ls

    go : (b : Bool) → leb (length table) q ≡ b
        → option_map_or (λ (page : List ℕ). slice_index page (q % 1024)) (slice_get (map (page_of a table) (range_with_len 0 (length table / 1024))) (q / 1024)) saved_base
        ≡ slice_index a (slice_index table q)
    go true h =
        let past : length table ≤ q = grind (arith, nat_tests, h) in
        ap (λ (r : Option (List ℕ)). option_map_or (λ page. slice_index page (q % 1024)) r saved_base)
        (slice_get_past (map (page_of a table) (range_with_len 0 (length table / 1024))) (q / 1024)
        (omega (arith, past, pages, length-map-range_with_len (page_of a table) 0 (length table / 1024))))
        ∙ sym (ap (slice_index a) (index_past table q past) ∙ zero_address ls bare)
    go false h =
        let inside : q < length table = grind (arith, nat_tests, h) in
        ap (λ (r : Option (List ℕ)). option_map_or (λ page. slice_index page (q % 1024)) r saved_base)
        (get_pages (page_of a table) 0 (length table / 1024) (q / 1024) (omega (arith, inside, pages)))
        ∙ page_entry a table q inside pages

-- ---- births

pub index_range : (at n k : ℕ) → k < n → slice_index (range_with_len at n) k ≡ at + k
index_range at zero k h = absurd (omega (arith, h))
index_range at (suc n) zero h = omega arith
index_range at (suc n) (suc k) h = index_range (at + 1) n k (omega (arith, h)) ∙ omega arith

pub births_are : (ls : List Laid) (table : List ℕ) → births_saved (file_for ls table) ≡ range_with_len 0 (length ls)
unfolding file_for
births_are ls table = ap (range_with_len 0) (length-map (saved_by (laid_addresses ls)) ls)

get_below : {A : Type 0} (xs : List A) (k : ℕ) (x : A) → slice_get xs k ≡ Some x → k < length xs
get_below [] k x e = absurd (cc)
get_below (y ∷ xs) zero x e = omega arith
get_below (y ∷ xs) (suc k) x e = omega (arith, get_below xs k x e)

length-range : (at n : ℕ) → length (range_with_len at n) ≡ n
length-range at zero = refl
length-range at (suc n) = ap suc (length-range (at + 1) n)

pub birth_is : (os : List Obj) (table : List ℕ) (k : ℕ) (o : Obj) → FitsFile (file_for (map laid os) table) → IsBare (map laid os) → slice_get os k ≡ Some o
    → saved_birth (file_for (map laid os) table) (slice_index (laid_addresses (map laid os)) k) ≡ k
birth_is os table k o fits bare e =
    let f : SavedFile = file_for (map laid os) table in
    let there : slice_get (map laid os) k ≡ Some (laid o) = slice_get-map laid os k ∙ ap (option_map laid) e in
    let count : length (births_saved (file_for (map laid os) table)) ≡ length (file_for (map laid os) table).objects =
    ap length (births_are (map laid os) table) ∙ length-range 0 (length (map laid os))
    ∙ sym (ap length (objects_are (map laid os) table) ∙ length-map (saved_by (laid_addresses (map laid os))) (map laid os)) in
    ap (saved_birth f) (address_is (map laid os) table k (laid o) bare there)
    ∙ birth_by_number f fits count k (saved_by (laid_addresses (map laid os)) (laid o)) (get_object os table k o e)
    ∙ ap (λ (bs : List ℕ). slice_index bs k) (births_are (map laid os) table)
    ∙ index_range 0 (length (map laid os)) k (get_below (map laid os) k (laid o) there)
    ∙ omega arith
