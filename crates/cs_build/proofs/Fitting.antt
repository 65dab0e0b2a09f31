-- Objects and a class table for which there is room make a file whose parts fit.
use Rattle.std.proofs.Common.{◌≡◌, ℕ, zero, suc, ◌+◌, ◌*◌, ◌/◌, ◌^◌, ◌<◌, ◌≤◌, List, [], ◌∷◌, ◌++◌, length, map, take, drop, refl, ap, subst, ◌∙◌, arith, slice_index, length-take, length-drop}
use Rattle.std.proofs.lemmas.Int.{ints}
use Rattle.std.specs.Prelude.{pos, negsuc}
use Rattle.std.specs.List.{AllByRecursion, range_with_len}
use Rattle.cs_model.specs.Ref.{Ref}
use Rattle.cs_model.specs.Ref as ref
use Rattle.cs_model.specs.ImageFile.{u32_at}
use Rattle.cs_model.specs.SavedFile.{SavedObject, FitsObject, FitsFile, IsWordValue, saved_base, saved_size}
use Rattle.cs_build.specs.Laid.{Laid, FitsLaid, FitsLayout, FitsRef, laid_slots, laid_size, ref_word, byte_words, saved_by, addresses_from, laid_addresses, page_of, file_for}
use Rattle.cs_build.proofs.Putting.{slots_of_laid, size_cons, length-map, map_take}
use Rattle.cs_build.proofs.Filing.{size_of_file, count_pages, first_size}

all_append : {A : Type 0} (P : A → Type 0) (xs ys : List A) → AllByRecursion P xs → AllByRecursion P ys → AllByRecursion P (xs ++ ys)
all_append P [] ys left right = right
all_append P (x ∷ xs) ys left right = (left.0, all_append P xs ys left.1 right)

all_map : {A B : Type 0} (P : B → Type 0) (f : A → B) (xs : List A) → ((x : A) → P (f x)) → AllByRecursion P (map f xs)
all_map P f [] each = tt
all_map P f (x ∷ xs) each = (each x, all_map P f xs each)

all_map_if : {A B : Type 0} (Q : A → Type 0) (P : B → Type 0) (f : A → B) (xs : List A) → ((x : A) → Q x → P (f x)) → AllByRecursion Q xs → AllByRecursion P (map f xs)
all_map_if Q P f [] each all = tt
all_map_if Q P f (x ∷ xs) each all = (each x all.0, all_map_if Q P f xs each all.1)

all_range : {B : Type 0} (P : B → Type 0) (f : ℕ → B) (at n : ℕ) → ((i : ℕ) → i < at + n → P (f i)) → AllByRecursion P (map f (range_with_len at n))
all_range P f at zero each = tt
all_range P f at (suc n) each = (each at (omega arith), all_range P f (at + 1) n (λ i h. each i (omega (arith, h))))

below : (limit : ℕ) (xs : List ℕ) (i : ℕ) → 0 < limit → AllByRecursion (λ (x : ℕ). x < limit) xs → slice_index xs i < limit
below limit [] i h all = h
below limit (x ∷ xs) zero h all = all.0
below limit (x ∷ xs) (suc i) h all = below limit xs i h all.1

-- ---- addresses

addresses_fit : (at : ℕ) (ls : List Laid) → saved_base + 4 * (at + laid_size ls) ≤ 2 ^ 32 → AllByRecursion IsWordValue (addresses_from at ls)
addresses_fit at [] h = tt
addresses_fit at (l ∷ ls) h =
    (omega (arith, h, size_cons l ls), addresses_fit (at + saved_size (laid_slots l)) ls (omega (arith, h, size_cons l ls)))

all_addresses : (ls : List Laid) → 3 ≤ length ls → AllByRecursion (λ l. laid_slots l ≡ 0) (take 3 ls) → saved_base + 4 * (laid_size ls + 22) ≤ 2 ^ 32
    → AllByRecursion IsWordValue (laid_addresses ls)
all_addresses ls three first h = all_append IsWordValue (addresses_from 0 (take 3 ls)) (addresses_from 34 (drop 3 ls))
    (addresses_fit 0 (take 3 ls) (omega (arith, h, front ls three first, first_size ls three first)))
    (addresses_fit 34 (drop 3 ls) (omega (arith, h, first_size ls three first)))
  where
    front : (ls : List Laid) → 3 ≤ length ls → AllByRecursion (λ l. laid_slots l ≡ 0) (take 3 ls) → laid_size (take 3 ls) ≡ 12
    front [] h all = absurd (omega (arith, h))
    front (a ∷ []) h all = absurd (omega (arith, h))
    front (a ∷ b ∷ []) h all = absurd (omega (arith, h))
    front (a ∷ b ∷ c ∷ ls) h all = omega (
      arith,
      size_cons a (b ∷ c ∷ []),
      size_cons b (c ∷ []),
      size_cons c [],
      ap saved_size all.0,
      ap saved_size all.1.0,
      ap saved_size all.1.1.0,
    )

-- ---- words

ref_fits : (a : List ℕ) (n : ℕ) (r : Ref) → AllByRecursion IsWordValue a → FitsRef n r → ref_word a r < 2 ^ 32
ref_fits a n (ref.Small (pos k)) all h = omega (arith, ints, h.1)
ref_fits a n (ref.Small (negsuc k)) all h = omega arith
ref_fits a n (ref.Char code) all h = omega (arith, h)
ref_fits a n (ref.Obj i) all h = below (2 ^ 32) a i (omega arith) all

word_fits : (bytes : List ℕ) (at : ℕ) → AllByRecursion (λ (b : ℕ). b < 256) bytes → u32_at bytes at < 2 ^ 32
unfolding u32_at
word_fits bytes at all = omega (
  arith,
  below 256 bytes at (omega arith) all,
  below 256 bytes (at + 1) (omega arith) all,
  below 256 bytes (at + 1 + 1) (omega arith) all,
  below 256 bytes (at + 1 + 1 + 1) (omega arith) all,
)

object_fits : (a : List ℕ) (n : ℕ) (l : Laid) → AllByRecursion IsWordValue a → FitsLaid n l → FitsObject (saved_by a l)
object_fits a n l all fits = record {
  class = fits.class;
  format = fits.format;
  hash = fits.hash;
  slots = omega (arith, fits.slots, slots_of_laid a l);
  words = all_append IsWordValue (map (ref_word a) l.refs) (byte_words l.bytes)
      (all_map_if (FitsRef n) IsWordValue (ref_word a) l.refs (λ r h. ref_fits a n r all h) fits.refs)
      (all_map IsWordValue (λ (i : ℕ). u32_at l.bytes (4 * i)) (range_with_len 0 ((length l.bytes + 3) / 4)) (λ i. word_fits l.bytes (4 * i) fits.bytes));
}

-- ---- the file

abbrev IsPage : List ℕ → Type 0
IsPage entries = (length entries ≡ 1024) × AllByRecursion IsWordValue entries

page_fits : (a table : List ℕ) (p : ℕ) → AllByRecursion IsWordValue a → p < length table / 1024 → IsPage (page_of a table p)
page_fits a table p all h = (
  length-map (slice_index a) (take 1024 (drop (1024 * p) table)) ∙ omega (arith, h, length-take 1024 (drop (1024 * p) table), length-drop (1024 * p) table),
  all_map IsWordValue (slice_index a) (take 1024 (drop (1024 * p) table)) (λ i. below (2 ^ 32) a i (omega arith) all),
)

first_fit : (a : List ℕ) (ls : List Laid) → AllByRecursion (λ l. laid_slots l ≡ 0) (take 3 ls) → AllByRecursion (λ o. length o.words ≡ 0) (take 3 (map (saved_by a) ls))
first_fit a ls all = subst (λ (os : List SavedObject). AllByRecursion (λ o. length o.words ≡ 0) os) (map_take (saved_by a) 3 ls)
    (all_map_if (λ (l : Laid). laid_slots l ≡ 0) (λ (o : SavedObject). length o.words ≡ 0) (saved_by a) (take 3 ls) (λ l h. slots_of_laid a l ∙ h) all)

pub file_fits : (ls : List Laid) (table : List ℕ) → FitsLayout ls table → FitsFile (file_for ls table)
unfolding file_for
file_fits ls table fits =
    let a : List ℕ = laid_addresses ls in
    let three : 3 ≤ length ls = omega (arith, fits.four) in
    let room : saved_base + 4 * (laid_size ls + 22 + 1028 * (length table / 1024)) ≤ 2 ^ 31 = omega (arith, fits.size, size_of_file ls table) in
    let all : AllByRecursion IsWordValue (laid_addresses ls) = all_addresses ls three fits.first (omega (arith, room)) in
    record {
      header = refl;
      special = below (2 ^ 32) a 3 (omega arith) all;
      last_hash = omega arith;
      objects = all_map_if (FitsLaid (length ls)) FitsObject (saved_by a) ls (λ l h. object_fits a (length ls) l all h) fits.objects;
      first = first_fit a ls fits.first;
      three = omega (arith, three, length-map (saved_by a) ls);
      pages = all_range IsPage (page_of a table) 0 (length table / 1024) (λ p h. page_fits a table p all (omega (arith, h)));
      count = omega (arith, fits.few, count_pages a table);
      size = omega (arith, room, size_of_file ls table, count_pages a table);
      births = tt;
    }
