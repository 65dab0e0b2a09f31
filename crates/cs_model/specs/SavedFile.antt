-- The bytes of the file that holds these objects, as savers and builders leave it: what `ImageFile` cuts, put together. All
-- numbers are little-endian.
use Rattle.std.specs.Prelude.{◌≡◌, ℕ, ◌+◌, ◌*◌, ◌-◌, ◌/◌, ◌%◌, ◌^◌, ◌<◌, ◌≤◌, ◌==◌, ◌&&◌, Bool, true, false, not, nat_le, max, min, if◌then◌else◌, List, [], ◌∷◌, ◌++◌, length, map, flat_map, sum_by, take, drop, replicate, Option, Some, None, is_some}
use Rattle.std.specs.List.{AllByRecursion, range_with_len}
use Rattle.cs_model.specs.Words.{bytes_of_words}
use Rattle.cs_model.specs.ImageFile.{number_at, heap_size, old_base, special_address, last_hash_in, file_header, words_in, has_births, birth_count, births_in, next_birth_in, FileObject, cut_of, file_of, visible, stands}

-- ---- one object

-- An object as a file holds it: class index, format, identity hash and whether it is fixed; and its slots, whose words are
-- those of the file.
pub record SavedObject : Type 0 where
  pub class : ℕ
  pub format : ℕ
  pub hash : ℕ
  pub fixed : Bool
  pub words : List ℕ

-- the 64 bits of its header, of which the top byte holds the slot count, and 255 where that is in an overflow word
abbrev pub saved_bits : SavedObject → ℕ
saved_bits o = o.class + 2 ^ 23 * (if o.fixed then 1 else 0) + 2 ^ 24 * o.format + 2 ^ 32 * o.hash
    + 2 ^ 56 * min 255 (length o.words)

-- from 255 slots on 64 bits stand before the header: the slot count, and 255 in the top byte
unfoldable pub overflow_words : ℕ → List ℕ
overflow_words slots = if nat_le 255 slots then slots ∷ 255 * 2 ^ 24 ∷ [] else []

-- the words of a body of so many slots: an even count, two at least
abbrev pub body_size : ℕ → ℕ
body_size slots = 2 * max 1 ((slots + 1) / 2)

-- the words of an object: an overflow word, the header, the slots, and zeros that fill the body
unfoldable pub saved_words : SavedObject → List ℕ
saved_words o = overflow_words (length o.words)
    ++ (saved_bits o % 2 ^ 32 ∷ saved_bits o / 2 ^ 32 ∷ o.words ++ replicate (body_size (length o.words) - length o.words) 0)

-- how many words stand before the header, and how many there are in all
abbrev pub words_before : ℕ → ℕ
words_before slots = if nat_le 255 slots then 2 else 0

abbrev pub saved_size : ℕ → ℕ
saved_size slots = words_before slots + 2 + body_size slots

-- ---- objects one right behind another

abbrev pub saved_sizes : List SavedObject → ℕ
saved_sizes objects = sum_by (λ o. saved_size (length o.words)) objects

-- an object whose first word is at a place, counted in words
abbrev pub placed_at : ℕ → SavedObject → FileObject
placed_at first o = record {
  first = first;
  place = first + words_before (length o.words);
  class = o.class;
  format = o.format;
  hash = o.hash;
  fixed = o.fixed;
  words = o.words;
}

-- objects of which the first begins at a place
unfoldable pub placed_from : ℕ → List SavedObject → List FileObject
placed_from first [] = []
placed_from first (o ∷ objects) = placed_at first o ∷ placed_from (first + saved_size (length o.words)) objects

-- ---- the whole

-- the births of the visible objects by place, and the next one
pub record SavedBirths : Type 0 where
  pub next : ℕ
  pub births : List ℕ

-- A file: the 64 header bytes that are written back, of which those at places 8 to 23 don't count; the address of the
-- special-object array; the last hash; the visible objects, of which nil, false and true come first and have no slots; for each
-- page of the class table the words of its 1,024 entries; and the births, if a birth section is written.
pub record SavedFile : Type 0 where
  pub header : List ℕ
  pub special : ℕ
  pub last_hash : ℕ
  pub objects : List SavedObject
  pub pages : List (List ℕ)
  pub births : Option SavedBirths

-- the address of the heap's first word, which is that of nil
abbrev pub saved_base : ℕ
saved_base = 65536

-- a hidden object, of class index 16
abbrev pub hidden_object : ℕ → List ℕ → SavedObject
hidden_object format words = record { class = 16; format = format; hash = 0; fixed = false; words = words }

-- behind true stands an object of two words, which mean nothing, and then the root of the class table
abbrev pub free_lists : SavedObject
free_lists = hidden_object 10 (0 ∷ 0 ∷ [])

-- the words of the visible objects, of those two and, for each page, of one
abbrev pub page_place : List SavedObject → ℕ → ℕ
page_place objects page = saved_sizes objects + 22 + 1028 * page

-- the address of a page, which stands behind an overflow word
abbrev pub page_address : List SavedObject → ℕ → ℕ
page_address objects page = saved_base + 4 * (page_place objects page + 2)

-- the root names the pages, and has nil for those that aren't there
abbrev pub table_root : SavedFile → SavedObject
table_root f = hidden_object 2 (map (page_address f.objects) (range_with_len 0 (length f.pages))
    ++ replicate (16 - length f.pages) saved_base)

abbrev pub table_page : List ℕ → SavedObject
table_page entries = hidden_object 2 entries

-- all objects in order: the pages come last
unfoldable pub all_saved : SavedFile → List SavedObject
all_saved f = take 3 f.objects ++ free_lists ∷ table_root f ∷ drop 3 f.objects ++ map table_page f.pages

unfoldable pub saved_heap : SavedFile → List ℕ
saved_heap f = flat_map saved_words (all_saved f)

-- the words of a number of 64 bits
abbrev pub halves : ℕ → List ℕ
halves n = n % 2 ^ 32 ∷ n / 2 ^ 32 ∷ []

-- the birth section: the next birth, a count and so many births
abbrev pub birth_words : Option SavedBirths → List ℕ
birth_words None = []
birth_words (Some b) = flat_map halves (b.next ∷ length b.births ∷ b.births)

-- the header's words at places 8 to 23
abbrev pub header_words : SavedFile → List ℕ
header_words f = 4 * length (saved_heap f) ∷ saved_base ∷ f.special ∷ f.last_hash ∷ []

-- the file: 64 header bytes, the heap, and the birth section where there is one
unfoldable pub saved_bytes : SavedFile → List ℕ
saved_bytes f = take 8 f.header ++ bytes_of_words (header_words f) ++ drop 24 f.header
    ++ bytes_of_words (saved_heap f) ++ bytes_of_words (birth_words f.births)

-- ---- what fits

abbrev pub IsWordValue : ℕ → Type 0
IsWordValue w = w < 2 ^ 32

-- an object whose parts fit its words
pub record FitsObject (o : SavedObject) : Type 0 where
  pub class : o.class < 2 ^ 22
  pub format : o.format < 2 ^ 5
  pub hash : o.hash < 2 ^ 22
  pub slots : length o.words < 2 ^ 32
  pub words : AllByRecursion IsWordValue o.words

-- a birth section whose numbers fit
abbrev pub FitsBirths : Option SavedBirths → Type 0
FitsBirths None = Unit {0}
FitsBirths (Some b) = AllByRecursion (λ birth. birth < 2 ^ 64) (b.next ∷ length b.births ∷ b.births)

-- a file whose parts fit its words, and whose first three objects have no slots
pub record FitsFile (f : SavedFile) : Type 0 where
  pub header : length f.header ≡ 64
  pub special : f.special < 2 ^ 32
  pub last_hash : f.last_hash < 2 ^ 22
  pub objects : AllByRecursion FitsObject f.objects
  pub first : AllByRecursion (λ o. length o.words ≡ 0) (take 3 f.objects)
  pub three : 3 ≤ length f.objects
  pub pages : AllByRecursion (λ entries. length entries ≡ 1024 × AllByRecursion IsWordValue entries) f.pages
  pub count : length f.pages ≤ 16
  pub size : saved_base + 4 * page_place f.objects (length f.pages) ≤ 2 ^ 32
  pub births : FitsBirths f.births

-- ---- what is read of it

-- What the definitions of reading find in the bytes: the header as it was given, but for places 8 to 23; the heap's words; all
-- objects, one behind the other; and the births.
pub record IsReadAgain (f : SavedFile) (bytes : List ℕ) : Type 0 where
  pub size : length bytes ≡ 64 + 4 * length (saved_heap f) + 4 * length (birth_words f.births)
  pub heap : length (saved_heap f) ≡ page_place f.objects (length f.pages)
  pub front : (n place : ℕ) → place + n ≤ 8 → number_at n bytes place ≡ number_at n f.header place
  pub behind : (n place : ℕ) → 24 ≤ place → place + n ≤ 64 → number_at n bytes place ≡ number_at n f.header place
  pub heap_size : heap_size bytes ≡ 4 * length (saved_heap f)
  pub base : old_base bytes ≡ saved_base
  pub special : special_address bytes ≡ f.special
  pub last_hash : last_hash_in bytes ≡ f.last_hash
  pub header : file_header bytes ≡ take 8 f.header ++ replicate 16 0 ++ drop 24 f.header
  pub words : words_in bytes ≡ saved_heap f
  pub cut : cut_of (words_in bytes) ≡ record { objects = placed_from 0 (all_saved f); torn = None }
  pub has_births : has_births bytes ≡ is_some f.births
  pub birth_count : (b : SavedBirths) → f.births ≡ Some b → birth_count bytes ≡ length b.births
  pub births : (b : SavedBirths) (n : ℕ) → f.births ≡ Some b → births_in bytes n ≡ b.births
  pub next : (b : SavedBirths) (n : ℕ) → f.births ≡ Some b → next_birth_in bytes n ≡ b.next
  pub by_place : (n : ℕ) → f.births ≡ None → births_in bytes n ≡ range_with_len 0 n
  pub next_place : (n : ℕ) → f.births ≡ None → next_birth_in bytes n ≡ n

-- an object is neither skipped nor hidden
abbrev pub IsSeen : SavedObject → Type 0
IsSeen o = (not (o.class == 0) && not (o.class == 16)) ≡ true

-- Where each of the objects is to be seen, all objects stand in the file, and these are the visible ones: nil, false and true
-- from the heap's first word on, and the others behind the root.
pub record IsSeenAgain (f : SavedFile) (bytes : List ℕ) : Type 0 where
  pub file : file_of bytes ≡ record { base = saved_base; objects = placed_from 0 (all_saved f) }
  pub visible : visible (file_of bytes) ≡ placed_from 0 (take 3 f.objects) ++ placed_from 34 (drop 3 f.objects)
