-- A file that was put together is read again.
use Rattle.std.proofs.Common.{◌≡◌, ℕ, zero, suc, ◌+◌, ◌-◌, ◌*◌, ◌/◌, ◌%◌, ◌^◌, ◌<◌, ◌≤◌, ◌==◌, ◌&&◌, Bool, true, false, cond, not, List, [], ◌∷◌, ◌++◌, length, map, take, drop, filter, replicate, refl, ap, ap₂, sym, ◌∙◌, subst, arith, leb, eqb, append_assoc, length-append, length-drop, Option, Some, None, is_some}
use Rattle.std.proofs.Math.Seq.{take-append_seam, drop-append_seam}
use Rattle.std.proofs.lemmas.List.{length-replicate, length-take, take-append-drop, append-nil}
use Rattle.std.proofs.lemmas.List.FromFn.{length-map-range_with_len}
use Rattle.std.proofs.lemmas.List.Sums.{sum_by-append}
use Rattle.std.proofs.lemmas.List.Elements.{filter-append}
use Rattle.std.proofs.lemmas.Bool.Decides.{nat_tests}
use Rattle.std.specs.Prelude.{flat_map}
use Rattle.std.specs.List.{AllByRecursion, range_with_len}
use Rattle.cs_model.specs.Words.{bytes_of_words}
use Rattle.cs_model.specs.ImageFile.{number_at, u32_at, u64_at, u32s_at, u64s_at, heap_size, file_header, words_in, has_births, birth_count, births_in, FileObject, Cut, File, cut_of, file_of, visible, stands, is_visible}
use Rattle.cs_model.specs.SavedFile.{SavedObject, SavedBirths, SavedFile, FitsObject, FitsFile, FitsBirths, IsWordValue, IsSeen, IsReadAgain, IsSeenAgain, saved_bits, saved_words, overflow_words, body_size, saved_size, saved_sizes, placed_at, placed_from, saved_base, free_lists, page_place, page_address, table_root, table_page, all_saved, saved_heap, halves, birth_words, header_words, saved_bytes}
use Rattle.cs_model.proofs.SavedNumbers.{number_behind, number_before, u32s_behind, u64s_behind, four, word_read, words_read, long_read, longs_read, length-bytes_of_words, length-halves}
use Rattle.cs_model.proofs.SavedObjects.{body_words, length-saved, sizes-cons, cut_there, whole_cut, placed_append}

-- ---- what holds of all

all_append : {X : Type 0} (P : X → Type 0) (xs ys : List X) → AllByRecursion P xs → AllByRecursion P ys → AllByRecursion P (xs ++ ys)
all_append P [] ys h k = k
all_append P (x ∷ xs) ys h k = (h.0, all_append P xs ys h.1 k)

all_take : {X : Type 0} (P : X → Type 0) (n : ℕ) (xs : List X) → AllByRecursion P xs → AllByRecursion P (take n xs)
all_take P zero xs h = tt
all_take P (suc n) [] h = tt
all_take P (suc n) (x ∷ xs) h = (h.0, all_take P n xs h.1)

all_drop : {X : Type 0} (P : X → Type 0) (n : ℕ) (xs : List X) → AllByRecursion P xs → AllByRecursion P (drop n xs)
all_drop P zero xs h = h
all_drop P (suc n) [] h = tt
all_drop P (suc n) (x ∷ xs) h = all_drop P n xs h.1

all_map : {X Y : Type 0} (P : X → Type 0) (Q : Y → Type 0) (g : X → Y) → ((x : X) → P x → Q (g x)) → (xs : List X)
    → AllByRecursion P xs → AllByRecursion Q (map g xs)
all_map P Q g each [] h = tt
all_map P Q g each (x ∷ xs) h = (each x h.0, all_map P Q g each xs h.1)

all_range : (P : ℕ → Type 0) (g : ℕ → ℕ) (a n : ℕ) → ((k : ℕ) → k < a + n → P (g k)) → AllByRecursion P (map g (range_with_len a n))
all_range P g a zero each = tt
all_range P g a (suc n) each = (each a (omega arith), all_range P g (a + 1) n (λ k h. each k (omega (arith, h))))

all_copies : (P : ℕ → Type 0) (n x : ℕ) → P x → AllByRecursion P (replicate n x)
all_copies P zero x h = tt
all_copies P (suc n) x h = (h, all_copies P n x h)

all_flat : (os : List SavedObject) → ((o : SavedObject) → FitsObject o → AllByRecursion IsWordValue (saved_words o))
    → AllByRecursion FitsObject os → AllByRecursion IsWordValue (flat_map saved_words os)
all_flat [] each h = tt
all_flat (o ∷ os) each h = all_append IsWordValue (saved_words o) (flat_map saved_words os) (each o h.0) (all_flat os each h.1)

-- ---- words fit

bits_fit : (o : SavedObject) → FitsObject o → saved_bits o < 2 ^ 64
bits_fit o fits = omega (arith, fits.class, fits.format, fits.hash, bit o.fixed)
  where
    bit : (b : Bool) → cond b 1 0 < 2
    bit true = omega arith
    bit false = omega arith

overflow_fits : (n : ℕ) → n < 2 ^ 32 → AllByRecursion IsWordValue (overflow_words n)
unfolding overflow_words
overflow_fits n h = go (leb 255 n)
  where
    go : (b : Bool) → AllByRecursion IsWordValue (cond b (n ∷ 255 * 2 ^ 24 ∷ []) [])
    go true = (h, (omega arith, tt))
    go false = tt

object_fits : (o : SavedObject) → FitsObject o → AllByRecursion IsWordValue (saved_words o)
unfolding saved_words
object_fits o fits =
    let big = bits_fit o fits in
    all_append IsWordValue (overflow_words (length o.words)) (saved_bits o % 2 ^ 32 ∷ saved_bits o / 2 ^ 32 ∷ body_words o)
    (overflow_fits (length o.words) fits.slots) (
      omega arith,
      (
        omega (arith, big),
        all_append IsWordValue o.words (replicate (body_size (length o.words) - length o.words) 0)
            fits.words (all_copies IsWordValue (body_size (length o.words) - length o.words) 0 (omega arith)),
      ),
    )

-- ---- the objects of a file

root_slots : (f : SavedFile) → length f.pages ≤ 16 → length (table_root f).words ≡ 16
root_slots f h = omega (
  arith,
  h,
  length-append (map (page_address f.objects) (range_with_len 0 (length f.pages))) (replicate (16 - length f.pages) saved_base),
  length-map-range_with_len (page_address f.objects) 0 (length f.pages),
  length-replicate {A = ℕ} (16 - length f.pages) saved_base,
)

root_fits : (f : SavedFile) → FitsFile f → FitsObject (table_root f)
root_fits f fits = record {
  class = omega arith;
  format = omega arith;
  hash = omega arith;
  slots = omega (arith, root_slots f fits.count);
  words = all_append IsWordValue (map (page_address f.objects) (range_with_len 0 (length f.pages))) (replicate (16 - length f.pages) saved_base)
      (all_range IsWordValue (page_address f.objects) 0 (length f.pages) (λ k h. omega (arith, h, fits.size)))
      (all_copies IsWordValue (16 - length f.pages) saved_base (omega arith));
}

lists_fit : FitsObject free_lists
lists_fit = record {
  class = omega arith;
  format = omega arith;
  hash = omega arith;
  slots = omega arith;
  words = (omega arith, (omega arith, tt));
}

page_fits : (entries : List ℕ) → (length entries ≡ 1024) × AllByRecursion IsWordValue entries → FitsObject (table_page entries)
page_fits entries h = record {
  class = omega arith;
  format = omega arith;
  hash = omega arith;
  slots = omega (arith, h.0);
  words = h.1;
}

pub all_fit : (f : SavedFile) → FitsFile f → AllByRecursion FitsObject (all_saved f)
unfolding all_saved
all_fit f fits =
    all_append FitsObject (take 3 f.objects ++ free_lists ∷ table_root f ∷ drop 3 f.objects) (map table_page f.pages)
    (all_append FitsObject (take 3 f.objects) (free_lists ∷ table_root f ∷ drop 3 f.objects)
    (all_take FitsObject 3 f.objects fits.objects)
    (lists_fit, (root_fits f fits, all_drop FitsObject 3 f.objects fits.objects)))
    (all_map (λ entries. (length entries ≡ 1024) × AllByRecursion IsWordValue entries) FitsObject table_page page_fits f.pages fits.pages)

pages_size : (pages : List (List ℕ)) → AllByRecursion (λ entries. (length entries ≡ 1024) × AllByRecursion IsWordValue entries) pages
    → saved_sizes (map table_page pages) ≡ 1028 * length pages
pages_size [] h = refl
pages_size (p ∷ pages) h =
    let size : saved_size (length p) ≡ 1028 = ap saved_size h.0.0 in
    omega (arith, sizes-cons (table_page p) (map table_page pages), size, pages_size pages h.1)

sizes-append : (xs ys : List SavedObject) → saved_sizes (xs ++ ys) ≡ saved_sizes xs + saved_sizes ys
sizes-append xs ys = sum_by-append (λ (x : SavedObject). saved_size (length x.words)) xs ys

-- before the pages
pub front_size : (f : SavedFile) → FitsFile f
    → saved_sizes (take 3 f.objects ++ free_lists ∷ table_root f ∷ drop 3 f.objects) ≡ saved_sizes f.objects + 22
front_size f fits =
    let split = sym (sizes-append (take 3 f.objects) (drop 3 f.objects)) ∙ ap saved_sizes (take-append-drop 3 f.objects) in
    let root : saved_size (length (table_root f).words) ≡ 18 = ap saved_size (root_slots f fits.count) in
    omega (
      arith,
      split,
      root,
      sizes-append (take 3 f.objects) (free_lists ∷ table_root f ∷ drop 3 f.objects),
      sizes-cons free_lists (table_root f ∷ drop 3 f.objects),
      sizes-cons (table_root f) (drop 3 f.objects),
    )

all_size : (f : SavedFile) → FitsFile f → saved_sizes (all_saved f) ≡ page_place f.objects (length f.pages)
unfolding all_saved
all_size f fits = omega (
  arith,
  front_size f fits,
  pages_size f.pages fits.pages,
  sizes-append (take 3 f.objects ++ free_lists ∷ table_root f ∷ drop 3 f.objects) (map table_page f.pages),
)

pub heap_length : (f : SavedFile) → FitsFile f → length (saved_heap f) ≡ page_place f.objects (length f.pages)
unfolding saved_heap
heap_length f fits = length-saved (all_saved f) ∙ all_size f fits

heap_fits : (f : SavedFile) → FitsFile f → AllByRecursion IsWordValue (saved_heap f)
unfolding saved_heap
heap_fits f fits = all_flat (all_saved f) object_fits (all_fit f fits)

-- ---- the bytes

abbrev pub head_bytes : SavedFile → List ℕ
head_bytes f = take 8 f.header ++ bytes_of_words (header_words f) ++ drop 24 f.header

abbrev pub heap_bytes : SavedFile → List ℕ
heap_bytes f = bytes_of_words (saved_heap f)

abbrev pub birth_bytes : SavedFile → List ℕ
birth_bytes f = bytes_of_words (birth_words f.births)

bytes_are : (f : SavedFile) → saved_bytes f ≡ head_bytes f ++ (heap_bytes f ++ birth_bytes f)
unfolding saved_bytes
bytes_are f = append_assoc (head_bytes f) (heap_bytes f) (birth_bytes f)

from_words : (f : SavedFile) → saved_bytes f ≡ take 8 f.header ++ (bytes_of_words (header_words f) ++ (drop 24 f.header ++ (heap_bytes f ++ birth_bytes f)))
from_words f = bytes_are f
    ∙ append_assoc (take 8 f.header ++ bytes_of_words (header_words f)) (drop 24 f.header) (heap_bytes f ++ birth_bytes f)
    ∙ append_assoc (take 8 f.header) (bytes_of_words (header_words f)) (drop 24 f.header ++ (heap_bytes f ++ birth_bytes f))

from_rest : (f : SavedFile) → saved_bytes f ≡ (take 8 f.header ++ bytes_of_words (header_words f)) ++ (drop 24 f.header ++ (heap_bytes f ++ birth_bytes f))
from_rest f = bytes_are f ∙ append_assoc (take 8 f.header ++ bytes_of_words (header_words f)) (drop 24 f.header) (heap_bytes f ++ birth_bytes f)

eight_long : (f : SavedFile) → FitsFile f → length (take 8 f.header) ≡ 8
eight_long f fits = omega (arith, length-take 8 f.header, fits.header)

forty_long : (f : SavedFile) → FitsFile f → length (drop 24 f.header) ≡ 40
forty_long f fits = omega (arith, length-drop 24 f.header, fits.header)

front_long : (f : SavedFile) → FitsFile f → length (take 8 f.header ++ bytes_of_words (header_words f)) ≡ 24
front_long f fits = omega (arith, length-append (take 8 f.header) (bytes_of_words (header_words f)), length-bytes_of_words (header_words f), eight_long f fits)

head_long : (f : SavedFile) → FitsFile f → length (head_bytes f) ≡ 64
head_long f fits = omega (arith, length-append (take 8 f.header ++ bytes_of_words (header_words f)) (drop 24 f.header), front_long f fits, forty_long f fits)

pub bytes_long : (f : SavedFile) → FitsFile f → length (saved_bytes f) ≡ 64 + 4 * length (saved_heap f) + 4 * length (birth_words f.births)
bytes_long f fits = ap length (bytes_are f) ∙ omega (
  arith,
  length-append (head_bytes f) (heap_bytes f ++ birth_bytes f),
  length-append (heap_bytes f) (birth_bytes f),
  length-bytes_of_words (saved_heap f),
  length-bytes_of_words (birth_words f.births),
  head_long f fits,
)

-- ---- the header

front_same : (f : SavedFile) → FitsFile f → (n place : ℕ) → place + n ≤ 8 → number_at n (saved_bytes f) place ≡ number_at n f.header place
front_same f fits n place h =
    let long = eight_long f fits in
    ap (λ (bs : List ℕ). number_at n bs place) (from_words f)
    ∙ number_before n (take 8 f.header) (bytes_of_words (header_words f) ++ (drop 24 f.header ++ (heap_bytes f ++ birth_bytes f))) place (omega (arith, h, long))
    ∙ sym (number_before n (take 8 f.header) (drop 8 f.header) place (omega (arith, h, long)))
    ∙ ap (λ (bs : List ℕ). number_at n bs place) (take-append-drop 8 f.header)

behind_same : (f : SavedFile) → FitsFile f → (n place : ℕ) → 24 ≤ place → place + n ≤ 64 → number_at n (saved_bytes f) place ≡ number_at n f.header place
behind_same f fits n place low h =
    let long = forty_long f fits in
    let tail : List ℕ = heap_bytes f ++ birth_bytes f in
    ap (λ (bs : List ℕ). number_at n bs place) (from_rest f)
    ∙ number_behind n (take 8 f.header ++ bytes_of_words (header_words f)) (drop 24 f.header ++ tail) (place - 24) place (omega (arith, front_long f fits, low))
    ∙ number_before n (drop 24 f.header) tail (place - 24) (omega (arith, long, h, low))
    ∙ sym (number_behind n (take 24 f.header) (drop 24 f.header) (place - 24) place (omega (arith, length-take 24 f.header, fits.header, low)))
    ∙ ap (λ (bs : List ℕ). number_at n bs place) (take-append-drop 24 f.header)

-- the four words at places 8 to 23
four_words : (a b c d : ℕ) (front rest : List ℕ) → length front ≡ 8 → a < 2 ^ 32 → b < 2 ^ 32 → c < 2 ^ 32 → d < 2 ^ 32
    → (u32_at (front ++ (bytes_of_words (a ∷ b ∷ c ∷ d ∷ []) ++ rest)) 8 ≡ a) × (u32_at (front ++ (bytes_of_words (a ∷ b ∷ c ∷ d ∷ []) ++ rest)) 12 ≡ b)
    × (u32_at (front ++ (bytes_of_words (a ∷ b ∷ c ∷ d ∷ []) ++ rest)) 16 ≡ c) × (u32_at (front ++ (bytes_of_words (a ∷ b ∷ c ∷ d ∷ []) ++ rest)) 20 ≡ d)
unfolding u32_at bytes_of_words
four_words a b c d front rest e ha hb hc hd = (
  number_behind 4 front (four a ++ (four b ++ (four c ++ (four d ++ rest)))) 0 8 (omega (arith, e)) ∙ word_read a (four b ++ (four c ++ (four d ++ rest))) ha,
  number_behind 4 front (four a ++ (four b ++ (four c ++ (four d ++ rest)))) 4 12 (omega (arith, e))
      ∙ number_behind 4 (four a) (four b ++ (four c ++ (four d ++ rest))) 0 4 refl ∙ word_read b (four c ++ (four d ++ rest)) hb,
  number_behind 4 front (four a ++ (four b ++ (four c ++ (four d ++ rest)))) 8 16 (omega (arith, e))
      ∙ number_behind 4 (four a ++ four b) (four c ++ (four d ++ rest)) 0 8 refl ∙ word_read c (four d ++ rest) hc,
  number_behind 4 front (four a ++ (four b ++ (four c ++ (four d ++ rest)))) 12 20 (omega (arith, e))
      ∙ number_behind 4 (four a ++ (four b ++ four c)) (four d ++ rest) 0 12 refl ∙ word_read d rest hd,
)

abbrev pub HasHeader : SavedFile → List ℕ → Type 0
HasHeader f bytes = (u32_at bytes 8 ≡ 4 * length (saved_heap f)) × (u32_at bytes 12 ≡ saved_base) × (u32_at bytes 16 ≡ f.special) × (u32_at bytes 20 ≡ f.last_hash)

header_there : (f : SavedFile) → FitsFile f → HasHeader f (saved_bytes f)
header_there f fits =
    let there = four_words (4 * length (saved_heap f)) saved_base f.special f.last_hash (take 8 f.header) (drop 24 f.header ++ (heap_bytes f ++ birth_bytes f))
    (eight_long f fits) (omega (arith, heap_length f fits, fits.size)) (omega arith) fits.special (omega (arith, fits.last_hash)) in
    let same = from_words f in (
      ap (λ (bs : List ℕ). u32_at bs 8) same ∙ there.0,
      ap (λ (bs : List ℕ). u32_at bs 12) same ∙ there.1,
      ap (λ (bs : List ℕ). u32_at bs 16) same ∙ there.2,
      ap (λ (bs : List ℕ). u32_at bs 20) same ∙ there.3,
    )

take_seam : (n : ℕ) (xs ys : List ℕ) → length xs ≡ n → take n (xs ++ ys) ≡ xs
take_seam n xs ys e = ap (λ k. take k (xs ++ ys)) (sym e) ∙ take-append_seam xs ys

drop_seam : (n : ℕ) (xs ys : List ℕ) → length xs ≡ n → drop n (xs ++ ys) ≡ ys
drop_seam n xs ys e = ap (λ k. drop k (xs ++ ys)) (sym e) ∙ drop-append_seam xs ys

header_same : (f : SavedFile) → FitsFile f → file_header (saved_bytes f) ≡ take 8 f.header ++ replicate 16 0 ++ drop 24 f.header
header_same f fits =
    ap₂ (λ (xs ys : List ℕ). xs ++ replicate 16 0 ++ ys)
    (ap (take 8) (from_words f) ∙ take_seam 8 (take 8 f.header) (bytes_of_words (header_words f) ++ (drop 24 f.header ++ (heap_bytes f ++ birth_bytes f))) (eight_long f fits))
    (ap (λ (bs : List ℕ). take 40 (drop 24 bs)) (from_rest f)
    ∙ ap (take 40) (drop_seam 24 (take 8 f.header ++ bytes_of_words (header_words f)) (drop 24 f.header ++ (heap_bytes f ++ birth_bytes f)) (front_long f fits))
    ∙ take_seam 40 (drop 24 f.header) (heap_bytes f ++ birth_bytes f) (forty_long f fits))

-- ---- the heap

words_same : (f : SavedFile) → FitsFile f → words_in (saved_bytes f) ≡ saved_heap f
unfolding words_in
words_same f fits =
    let n = length (saved_heap f) in
    let count : heap_size (saved_bytes f) / 4 ≡ n = omega (arith, (header_there f fits).0) in
    ap₂ (λ (k : ℕ) (bs : List ℕ). u32s_at k bs 64) count (bytes_are f)
    ∙ u32s_behind n (head_bytes f) (heap_bytes f ++ birth_bytes f) 0 64 (omega (arith, head_long f fits))
    ∙ words_read (saved_heap f) (birth_bytes f) (heap_fits f fits)

heap_cut : (f : SavedFile) → FitsFile f → cut_of (saved_heap f) ≡ whole_cut (placed_from 0 (all_saved f))
unfolding saved_heap
heap_cut f fits = cut_there (length (saved_heap f)) (saved_heap f) [] 0 (all_saved f) (all_fit f fits) refl refl
    (omega (arith, length-saved (all_saved f)))

-- ---- births

abbrev pub section : SavedBirths → List ℕ
section b = bytes_of_words (flat_map halves (b.next ∷ length b.births ∷ b.births))

section_is : (b : SavedBirths) → section b ≡ bytes_of_words (halves b.next) ++ (bytes_of_words (halves (length b.births)) ++ bytes_of_words (flat_map halves b.births))
unfolding bytes_of_words
section_is b = refl

halves_long : (n : ℕ) → length (bytes_of_words (halves n)) ≡ 8
unfolding bytes_of_words
halves_long n = refl

with_section : (f : SavedFile) (b : SavedBirths) → f.births ≡ Some b → saved_bytes f ≡ (head_bytes f ++ heap_bytes f) ++ section b
unfolding saved_bytes
with_section f b e = ap (λ (s : Option SavedBirths). (head_bytes f ++ heap_bytes f) ++ bytes_of_words (birth_words s)) e

section_fits : (f : SavedFile) (b : SavedBirths) → FitsFile f → f.births ≡ Some b → AllByRecursion (λ n. n < 2 ^ 64) (b.next ∷ length b.births ∷ b.births)
section_fits f b fits e = subst FitsBirths e fits.births

section_front : (f : SavedFile) → FitsFile f → length (head_bytes f ++ heap_bytes f) ≡ 64 + heap_size (saved_bytes f)
section_front f fits = omega (arith, length-append (head_bytes f) (heap_bytes f), head_long f fits, length-bytes_of_words (saved_heap f), (header_there f fits).0)

next_there : (f : SavedFile) (b : SavedBirths) → FitsFile f → f.births ≡ Some b → u64_at (saved_bytes f) (64 + heap_size (saved_bytes f)) ≡ b.next
unfolding u64_at
next_there f b fits e =
    let rest = bytes_of_words (halves (length b.births)) ++ bytes_of_words (flat_map halves b.births) in
    ap (λ (bs : List ℕ). number_at 8 bs (64 + heap_size (saved_bytes f))) (with_section f b e)
    ∙ number_behind 8 (head_bytes f ++ heap_bytes f) (section b) 0 (64 + heap_size (saved_bytes f)) (omega (arith, section_front f fits))
    ∙ ap (λ (bs : List ℕ). number_at 8 bs 0) (section_is b) ∙ long_read b.next rest (section_fits f b fits e).0

count_there : (f : SavedFile) (b : SavedBirths) → FitsFile f → f.births ≡ Some b → birth_count (saved_bytes f) ≡ length b.births
unfolding u64_at
count_there f b fits e =
    let rest = bytes_of_words (halves (length b.births)) ++ bytes_of_words (flat_map halves b.births) in
    ap (λ (bs : List ℕ). number_at 8 bs (72 + heap_size (saved_bytes f))) (with_section f b e)
    ∙ number_behind 8 (head_bytes f ++ heap_bytes f) (section b) 8 (72 + heap_size (saved_bytes f)) (omega (arith, section_front f fits))
    ∙ ap (λ (bs : List ℕ). number_at 8 bs 8) (section_is b)
    ∙ number_behind 8 (bytes_of_words (halves b.next)) rest 0 8 (omega (arith, halves_long b.next))
    ∙ long_read (length b.births) (bytes_of_words (flat_map halves b.births)) (section_fits f b fits e).1.0

births_there : (f : SavedFile) (b : SavedBirths) → FitsFile f → f.births ≡ Some b
    → u64s_at (birth_count (saved_bytes f)) (saved_bytes f) (80 + heap_size (saved_bytes f)) ≡ b.births
births_there f b fits e =
    let n = length b.births in
    let last = bytes_of_words (flat_map halves b.births) in
    ap₂ (λ (k : ℕ) (bs : List ℕ). u64s_at k bs (80 + heap_size (saved_bytes f))) (count_there f b fits e) (with_section f b e)
    ∙ u64s_behind n (head_bytes f ++ heap_bytes f) (section b) 16 (80 + heap_size (saved_bytes f)) (omega (arith, section_front f fits))
    ∙ ap (λ (bs : List ℕ). u64s_at n bs 16) (section_is b)
    ∙ u64s_behind n (bytes_of_words (halves b.next)) (bytes_of_words (halves n) ++ last) 8 16 (omega (arith, halves_long b.next))
    ∙ u64s_behind n (bytes_of_words (halves n)) last 0 8 (omega (arith, halves_long n))
    ∙ ap (λ (bs : List ℕ). u64s_at n bs 0) (sym (append-nil last))
    ∙ longs_read b.births [] (section_fits f b fits e).1.1

tells_births : (f : SavedFile) → FitsFile f → (s : Option SavedBirths) → f.births ≡ s → has_births (saved_bytes f) ≡ is_some s
tells_births f fits None e =
    let none : length (birth_words f.births) ≡ 0 = ap (λ (s : Option SavedBirths). length (birth_words s)) e in
    let same : eqb (length (saved_bytes f)) (64 + heap_size (saved_bytes f)) ≡ true =
    let size : length (saved_bytes f) ≡ 64 + heap_size (saved_bytes f) = omega (arith, none, bytes_long f fits, (header_there f fits).0) in
    grind (arith, nat_tests, size) in
    ap not same
tells_births f fits (Some b) e =
    let some : length (birth_words f.births) ≡ 2 * suc (suc (length b.births)) = ap (λ (s : Option SavedBirths). length (birth_words s)) e ∙ length-halves (b.next ∷ length b.births ∷ b.births) in
    let other : eqb (length (saved_bytes f)) (64 + heap_size (saved_bytes f)) ≡ false =
    let size : 64 + heap_size (saved_bytes f) < length (saved_bytes f) = omega (arith, some, bytes_long f fits, (header_there f fits).0) in
    grind (arith, nat_tests, size) in
    ap not other

-- ---- the whole

pub read_again : (f : SavedFile) → FitsFile f → IsReadAgain f (saved_bytes f)
unfolding births_in
read_again f fits = record {
  size = bytes_long f fits;
  heap = heap_length f fits;
  front = front_same f fits;
  behind = behind_same f fits;
  heap_size = there.0;
  base = there.1;
  special = there.2;
  last_hash = omega (arith, there.3, fits.last_hash);
  header = header_same f fits;
  words = words_same f fits;
  cut = ap cut_of (words_same f fits) ∙ heap_cut f fits;
  has_births = tells_births f fits f.births refl;
  birth_count = λ b e. count_there f b fits e;
  births = λ b n e. rw (has b e) (births_there f b fits e);
  next = λ b n e. rw (has b e) (next_there f b fits e);
  by_place = λ n e. rw (hasnt e) refl;
  next_place = λ n e. rw (hasnt e) refl;
}
  where
    there : HasHeader f (saved_bytes f)
    there = header_there f fits

    has : (b : SavedBirths) → f.births ≡ Some b → has_births (saved_bytes f) ≡ true
    has b e = tells_births f fits (Some b) e

    hasnt : f.births ≡ None → has_births (saved_bytes f) ≡ false
    hasnt e = tells_births f fits None e

-- ---- which objects are seen

filter_all : {X : Type 0} (p : X → Bool) (xs : List X) → AllByRecursion (λ x. p x ≡ true) xs → filter p xs ≡ xs
filter_all p [] h = refl
filter_all p (x ∷ xs) h = rw h.0 (ap (λ zs. x ∷ zs) (filter_all p xs h.1))

filter_none : {X : Type 0} (p : X → Bool) (xs : List X) → AllByRecursion (λ x. p x ≡ false) xs → filter p xs ≡ []
filter_none p [] h = refl
filter_none p (x ∷ xs) h = rw h.0 (filter_none p xs h.1)

-- what is told of an object by its class index alone
all_placed : (p : ℕ → Bool) (b : Bool) (first : ℕ) (os : List SavedObject) → AllByRecursion (λ o. p o.class ≡ b) os
    → AllByRecursion (λ o. p o.class ≡ b) (placed_from first os)
unfolding placed_from
all_placed p b first [] h = tt
all_placed p b first (o ∷ os) h = (h.0, all_placed p b (first + saved_size (length o.words)) os h.1)

none_skipped : (f : SavedFile) → AllByRecursion IsSeen f.objects → AllByRecursion (λ (o : SavedObject). not (o.class == 0) ≡ true) (all_saved f)
unfolding all_saved
none_skipped f seen =
    all_append Stays (take 3 f.objects ++ free_lists ∷ table_root f ∷ drop 3 f.objects) (map table_page f.pages)
    (all_append Stays (take 3 f.objects) (free_lists ∷ table_root f ∷ drop 3 f.objects)
    (all_take Stays 3 f.objects (each f.objects seen)) (refl, (refl, all_drop Stays 3 f.objects (each f.objects seen))))
    (pages f.pages)
  where
    Stays : SavedObject → Type 0
    Stays o = not (o.class == 0) ≡ true

    first_of : (a b : Bool) → (a && b) ≡ true → a ≡ true
    first_of true b h = refl
    first_of false b h = h

    each : (os : List SavedObject) → AllByRecursion IsSeen os → AllByRecursion Stays os
    each [] h = tt
    each (o ∷ os) h = (first_of (not (o.class == 0)) (not (o.class == 16)) h.0, each os h.1)

    pages : (ps : List (List ℕ)) → AllByRecursion Stays (map table_page ps)
    pages [] = tt
    pages (p ∷ ps) = (refl, pages ps)

all_visible : (os : List SavedObject) → AllByRecursion IsSeen os → AllByRecursion (λ (o : SavedObject). not (o.class == 16) ≡ true) os
all_visible [] h = tt
all_visible (o ∷ os) h = (second_of (not (o.class == 0)) (not (o.class == 16)) h.0, all_visible os h.1)
  where
    second_of : (a b : Bool) → (a && b) ≡ true → b ≡ true
    second_of true b h = h
    second_of false true h = refl
    second_of false false h = h

file_there : (f : SavedFile) → FitsFile f → AllByRecursion IsSeen f.objects
    → file_of (saved_bytes f) ≡ (let g : File = record { base = saved_base; objects = placed_from 0 (all_saved f) } in g)
unfolding file_of
file_there f fits seen =
    let r = read_again f fits in
    ap₂ (λ (b : ℕ) (os : List FileObject). let g : File = record { base = b; objects = os } in g) r.base
    (ap (λ (c : Cut). filter stands c.objects) r.cut
    ∙ filter_all stands (placed_from 0 (all_saved f)) (all_placed (λ c. not (c == 0)) true 0 (all_saved f) (none_skipped f seen)))

three_size : (f : SavedFile) → FitsFile f → saved_sizes (take 3 f.objects) ≡ 12
three_size f fits = go f.objects fits.three fits.first
  where
    empty_size : (n : ℕ) → n ≡ 0 → saved_size n ≡ 4
    empty_size n e = ap saved_size e

    go : (os : List SavedObject) → 3 ≤ length os → AllByRecursion (λ o. length o.words ≡ 0) (take 3 os) → saved_sizes (take 3 os) ≡ 12
    go [] h k = absurd (omega (arith, h))
    go (a ∷ []) h k = absurd (omega (arith, h))
    go (a ∷ b ∷ []) h k = absurd (omega (arith, h))
    go (a ∷ b ∷ c ∷ os) h k = omega (
      arith,
      sizes-cons a (b ∷ c ∷ []),
      sizes-cons b (c ∷ []),
      sizes-cons c [],
      empty_size (length a.words) k.0,
      empty_size (length b.words) k.1.0,
      empty_size (length c.words) k.1.1.0,
    )

-- all objects as they are placed
pub all_placed_are : (f : SavedFile) → FitsFile f → placed_from 0 (all_saved f)
    ≡ (placed_from 0 (take 3 f.objects) ++ (placed_at 12 free_lists ∷ placed_at 16 (table_root f) ∷ placed_from 34 (drop 3 f.objects)))
    ++ placed_from (page_place f.objects 0) (map table_page f.pages)
unfolding all_saved placed_from
all_placed_are f fits =
    placed_append 0 (take 3 f.objects ++ free_lists ∷ table_root f ∷ drop 3 f.objects) (map table_page f.pages)
    ∙ ap₂ (λ (xs ys : List FileObject). xs ++ ys)
    (placed_append 0 (take 3 f.objects) (free_lists ∷ table_root f ∷ drop 3 f.objects)
    ∙ ap (λ k. placed_from 0 (take 3 f.objects) ++ placed_from k (free_lists ∷ table_root f ∷ drop 3 f.objects)) (omega (arith, three_size f fits))
    ∙ ap (λ k. placed_from 0 (take 3 f.objects) ++ (placed_at 12 free_lists ∷ placed_at 16 (table_root f) ∷ placed_from k (drop 3 f.objects)))
    (ap (λ n. 16 + saved_size n) (root_slots f fits.count)))
    (ap (λ k. placed_from k (map table_page f.pages)) (omega (arith, front_size f fits)))

visible_there : (f : SavedFile) → FitsFile f → AllByRecursion IsSeen f.objects
    → filter is_visible (placed_from 0 (all_saved f)) ≡ placed_from 0 (take 3 f.objects) ++ placed_from 34 (drop 3 f.objects)
visible_there f fits seen =
    let a = placed_from 0 (take 3 f.objects) in
    let d = placed_from 34 (drop 3 f.objects) in
    let p = placed_from (page_place f.objects 0) (map table_page f.pages) in
    let see = all_visible f.objects seen in
    ap (filter is_visible) (all_placed_are f fits)
    ∙ filter-append is_visible (a ++ (placed_at 12 free_lists ∷ placed_at 16 (table_root f) ∷ d)) p
    ∙ ap₂ (λ (xs ys : List FileObject). xs ++ ys)
    (filter-append is_visible a (placed_at 12 free_lists ∷ placed_at 16 (table_root f) ∷ d)
    ∙ ap₂ (λ (xs ys : List FileObject). xs ++ ys)
    (filter_all is_visible a (all_placed (λ c. not (c == 16)) true 0 (take 3 f.objects) (all_take Shown 3 f.objects see)))
    (filter_all is_visible d (all_placed (λ c. not (c == 16)) true 34 (drop 3 f.objects) (all_drop Shown 3 f.objects see))))
    (filter_none is_visible p (all_placed (λ c. not (c == 16)) false (page_place f.objects 0) (map table_page f.pages) (pages f.pages)))
    ∙ append-nil (a ++ d)
  where
    Shown : SavedObject → Type 0
    Shown o = not (o.class == 16) ≡ true

    pages : (ps : List (List ℕ)) → AllByRecursion (λ (o : SavedObject). not (o.class == 16) ≡ false) (map table_page ps)
    pages [] = tt
    pages (p ∷ ps) = (refl, pages ps)

pub seen_again : (f : SavedFile) → FitsFile f → AllByRecursion IsSeen f.objects → IsSeenAgain f (saved_bytes f)
unfolding visible
seen_again f fits seen = record {
  file = file_there f fits seen;
  visible = ap visible (file_there f fits seen) ∙ visible_there f fits seen;
}
