-- The class table of a file that was put together.
use Rattle.std.proofs.Common.{◌≡◌, ℕ, zero, suc, ◌+◌, ◌-◌, ◌*◌, ◌/◌, ◌%◌, ◌<◌, ◌≤◌, ◌==◌, true, false, not, List, [], ◌∷◌, ◌++◌, length, map, take, replicate, Option, Some, None, refl, ap, ap₂, sym, ◌∙◌, arith, slice_get, slice_index, option_map}
use Rattle.std.specs.Option.{option_map_or, option_and_then}
use Rattle.std.specs.List.{AllByRecursion, range_with_len}
use Rattle.std.proofs.lemmas.List.FromFn.{length-map-range_with_len}
use Rattle.std.proofs.lemmas.Option.{slice_get-map}
use Rattle.std.proofs.lemmas.Bool.Decides.{nat_tests}
use Rattle.cs_model.specs.ImageFile.{FileObject, File, is_nil_word, named, nil_in}
use Rattle.cs_model.specs.ImageFault.{page_addresses, unless_nil, entry_in, has_entry}
use Rattle.cs_model.specs.SavedFile.{SavedObject, SavedFile, FitsFile, IsWordValue, saved_base, saved_size, saved_sizes, placed_at, placed_from, words_before, free_lists, table_root, table_page, page_place, page_address, all_saved}
use Rattle.cs_model.proofs.SavedObjects.{sizes-cons}
use Rattle.cs_model.specs.SoundFile.{saved_entry}
use Rattle.cs_model.proofs.SavedPlacing.{placed_file, split, get_behind, take_behind, named_at, nil_base, root_slots, sizes_split}

-- ---- the root

pub placed_get : (first : ℕ) (os : List SavedObject) (i : ℕ) (o : SavedObject) → slice_get os i ≡ Some o
    → slice_get (placed_from first os) i ≡ Some (placed_at (first + saved_sizes (take i os)) o)
unfolding placed_from
placed_get first [] i o e = absurd (cc)
placed_get first (x ∷ os) zero o e = let none : first ≡ first + 0 = omega arith in let same : x ≡ o = cc in
    ap₂ (λ n y. Some (placed_at n y)) none same
placed_get first (x ∷ os) (suc i) o e = placed_get (first + saved_size (length x.words)) os i o e
    ∙ ap (λ n. Some (placed_at n o)) (omega (arith, sizes-cons x (take i os)))

take_all : (xs : List ℕ) (n : ℕ) → length xs ≡ n → take n xs ≡ xs
take_all [] zero e = refl
take_all [] (suc n) e = refl
take_all (x ∷ xs) zero e = absurd (omega (arith, e))
take_all (x ∷ xs) (suc n) e = ap (λ zs. x ∷ zs) (take_all xs n (omega (arith, e)))

pub root_get : (f : SavedFile) → FitsFile f → slice_get (all_saved f) 4 ≡ Some (table_root f)
root_get f fits = ap (λ (xs : List SavedObject). slice_get xs 4) (split f fits).all

pub root_words : (f : SavedFile) → FitsFile f → page_addresses (placed_file f) ≡ (table_root f).words
root_words f fits =
    ap (λ (r : Option FileObject). option_map_or (λ root. take 16 root.words) r []) (placed_get 0 (all_saved f) 4 (table_root f) (root_get f fits))
    ∙ take_all (table_root f).words 16 (root_slots f fits)

-- ---- its words

get_range : (g : ℕ → ℕ) (a n p : ℕ) → p < n → slice_get (map g (range_with_len a n)) p ≡ Some (g (a + p))
get_range g a zero p h = absurd (omega (arith, h))
get_range g a (suc n) zero h = ap (λ k. Some (g k)) (omega arith)
get_range g a (suc n) (suc p) h = get_range g (a + 1) n p (omega (arith, h)) ∙ ap (λ k. Some (g k)) (omega arith)

get_copies : (n x p y : ℕ) → slice_get (replicate n x) p ≡ Some y → y ≡ x
get_copies zero x p y e = absurd (cc)
get_copies (suc n) x zero y e = cc
get_copies (suc n) x (suc p) y e = get_copies n x p y e

get_front : (xs ys : List ℕ) (p y : ℕ) → slice_get xs p ≡ Some y → slice_get (xs ++ ys) p ≡ Some y
get_front [] ys p y e = absurd (cc)
get_front (x ∷ xs) ys zero y e = e
get_front (x ∷ xs) ys (suc p) y e = get_front xs ys p y e

pub within : (xs : List (List ℕ)) (p : ℕ) (x : List ℕ) → slice_get xs p ≡ Some x → p < length xs
within [] p x e = absurd (cc)
within (y ∷ xs) zero x e = omega arith
within (y ∷ xs) (suc p) x e = let h = within xs p x e in omega (arith, h)

past : (xs : List (List ℕ)) (p : ℕ) → slice_get xs p ≡ None → length xs ≤ p
past [] p e = omega arith
past (y ∷ xs) zero e = absurd (cc)
past (y ∷ xs) (suc p) e = let h = past xs p e in omega (arith, h)

pub page_word : (f : SavedFile) → FitsFile f → (p : ℕ) → p < length f.pages → slice_get (page_addresses (placed_file f)) p ≡ Some (page_address f.objects p)
page_word f fits p h =
    ap (λ (ws : List ℕ). slice_get ws p) (root_words f fits)
    ∙ get_front (map (page_address f.objects) (range_with_len 0 (length f.pages))) (replicate (16 - length f.pages) saved_base) p (page_address f.objects p)
    (get_range (page_address f.objects) 0 (length f.pages) p h ∙ ap (λ k. Some (page_address f.objects k)) (omega arith))

-- ---- pages

pages_size : (n : ℕ) (pages : List (List ℕ)) → AllByRecursion (λ entries. (length entries ≡ 1024) × AllByRecursion IsWordValue entries) pages
    → n ≤ length pages → saved_sizes (take n (map table_page pages)) ≡ 1028 * n
pages_size zero pages h k = refl
pages_size (suc n) [] h k = absurd (omega (arith, k))
pages_size (suc n) (p ∷ pages) h k =
    let size : saved_size (length p) ≡ 1028 = ap saved_size h.0.0 in
    omega (arith, sizes-cons (table_page p) (take n (map table_page pages)), size, pages_size n pages h.1 (omega (arith, k)))

page_long : (pages : List (List ℕ)) → AllByRecursion (λ entries. (length entries ≡ 1024) × AllByRecursion IsWordValue entries) pages
    → (p : ℕ) (entries : List ℕ) → slice_get pages p ≡ Some entries → length entries ≡ 1024
page_long [] h p entries e = absurd (cc)
page_long (x ∷ pages) h zero entries e = let same : x ≡ entries = cc in ap length (sym same) ∙ h.0.0
page_long (x ∷ pages) h (suc p) entries e = page_long pages h.1 p entries e

pub record HasPage (f : SavedFile) (p : ℕ) (entries : List ℕ) : Type 0 where
  pub first : ℕ
  pub long : length entries ≡ 1024
  pub named : named (placed_file f) (page_address f.objects p) ≡ Some (placed_at first (table_page entries))

pub has_page : (f : SavedFile) → FitsFile f → (p : ℕ) (entries : List ℕ) → slice_get f.pages p ≡ Some entries → HasPage f p entries
has_page f fits p entries e =
    let s = split f fits in
    let others = s.nil ∷ s.false_ ∷ s.true_ ∷ free_lists ∷ table_root f ∷ s.others in
    let pages = map table_page f.pages in
    let long = page_long f.pages fits.pages p entries e in
    let below = within f.pages p entries e in
    let get : slice_get (all_saved f) (length others + p) ≡ Some (table_page entries)
    = ap (λ (xs : List SavedObject). slice_get xs (length others + p)) s.all ∙ get_behind others pages p
    ∙ slice_get-map table_page f.pages p ∙ ap (option_map table_page) e in
    let size : saved_sizes (take (length others + p) (all_saved f)) ≡ page_place f.objects p
    = ap (λ (xs : List SavedObject). saved_sizes (take (length others + p) xs)) s.all
    ∙ ap saved_sizes (take_behind others pages p)
    ∙ omega (arith, sizes_split f fits (take p pages), pages_size p f.pages fits.pages (omega (arith, below))) in
    let before : words_before (length entries) ≡ 2 = ap words_before long in
    record {
      first = saved_sizes (take (length others + p) (all_saved f));
      long = long;
      named = named_at f (length others + p) (table_page entries) (page_address f.objects p) get (omega (arith, size, before));
    }

pub not_nil : (f : SavedFile) → FitsFile f → (p : ℕ) → is_nil_word (placed_file f) (page_address f.objects p) ≡ false
not_nil f fits p =
    let n = nil_base f fits in
    let other : saved_base < page_address f.objects p = omega arith in
    ap (λ k. page_address f.objects p == k) n ∙ (grind (arith, nat_tests, other))

pub nil_nil : (f : SavedFile) → FitsFile f → is_nil_word (placed_file f) saved_base ≡ true
nil_nil f fits = ap (λ k. saved_base == k) (nil_base f fits)

-- ---- entries

pub entry_there : (f : SavedFile) → FitsFile f → (index : ℕ) → entry_in (placed_file f) index ≡ saved_entry f index
unfolding entry_in
entry_there f fits index = go (slice_get f.pages (index / 1024)) refl
  where
    p : ℕ
    p = index / 1024

    F : File
    F = placed_file f

    found : Option FileObject → ℕ
    found r = option_map_or (λ page. slice_index page.words (index % 1024)) r (nil_in F)

    none : (w : Option ℕ) → ((y : ℕ) → w ≡ Some y → y ≡ saved_base) → found (option_and_then (unless_nil F) w) ≡ saved_base
    none None each = nil_base f fits
    none (Some y) each =
        let n : is_nil_word F y ≡ true = ap (is_nil_word F) (each y refl) ∙ nil_nil f fits in
        rw n (nil_base f fits)

    go : (r : Option (List ℕ)) → slice_get f.pages p ≡ r
        → found (option_and_then (unless_nil F) (slice_get (page_addresses F) p)) ≡ option_map_or (λ page. slice_index page (index % 1024)) r saved_base
    go (Some entries) e =
        let h = has_page f fits p entries e in
        rw (page_word f fits p (within f.pages p entries e), not_nil f fits p, h.named) refl
    go None e =
        let far = past f.pages p e in
        let front = map (page_address f.objects) (range_with_len 0 (length f.pages)) in
        let long = length-map-range_with_len (page_address f.objects) 0 (length f.pages) in
        let at : slice_get (page_addresses F) p ≡ slice_get (replicate (16 - length f.pages) saved_base) (p - length f.pages)
        = ap (λ (ws : List ℕ). slice_get ws p) (root_words f fits)
        ∙ ap (slice_get (front ++ replicate (16 - length f.pages) saved_base)) (omega (arith, far, long))
        ∙ get_behind front (replicate (16 - length f.pages) saved_base) (p - length f.pages) in
        none (slice_get (page_addresses F) p) (λ y h. get_copies (16 - length f.pages) saved_base (p - length f.pages) y (sym at ∙ h))

pub has_entry_there : (f : SavedFile) → FitsFile f → (index : ℕ) → has_entry (placed_file f) index ≡ not (saved_entry f index == saved_base)
has_entry_there f fits index = ap₂ (λ a b. not (a == b)) (entry_there f fits index) (nil_base f fits)
