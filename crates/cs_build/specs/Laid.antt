-- Objects as they lie in a file: references that become words once the addresses are known, and bytes behind them.
use Rattle.std.specs.Prelude.{◌≡◌, ℕ, pos, ◌+◌, ◌-◌, ◌*◌, ◌/◌, ◌%◌, ◌^◌, ◌<◌, ◌≤◌, List, [], ◌∷◌, ◌++◌, length, map, min, nat_lt, if◌then◌else◌, sum_by, take, drop, replicate, slice_index, false, None}
use Rattle.std.specs.Option.{option_map_or}
use Rattle.std.specs.List.{AllByRecursion, range_with_len}
use Rattle.cs_word.specs.Word.{IsSmall, small_word, character_word}
use Rattle.cs_model.specs.Ref.{Ref}
use Rattle.cs_model.specs.Ref as ref
use Rattle.cs_model.specs.Obj.{Obj, Head, Context, Ptr, Raw, Method, Ctx, context_class}
use Rattle.cs_model.specs.Words.{bytes_of_words}
use Rattle.cs_model.specs.ImageFile.{u32_at}
use Rattle.cs_model.specs.SavedFile.{SavedObject, SavedFile, overflow_words, saved_base, saved_size, words_before, page_place}
use Rattle.cs_model.specs.Builder.{nil_ref, header_bytes}
use Rattle.cs_build.specs.declared.object.Reference.{Reference}
use Rattle.cs_build.specs.declared.object.Reference.TheVariants as reference
use Rattle.cs_build.specs.declared.object.Object.{Object}

-- ---- objects with references

-- class index, format and identity hash; the slots that may name objects, with a method's header; and a raw object's bytes or
-- a method's bytecodes
pub record Laid : Type 0 where
  pub class : ℕ
  pub format : ℕ
  pub hash : ℕ
  pub refs : List Ref
  pub bytes : List ℕ

abbrev pub laid_head : Head → List Ref → List ℕ → Laid
laid_head head refs bytes =
    record { class = head.class; format = head.format; hash = head.hash; refs = refs; bytes = bytes }

-- the slots of a context: its fields, its stack, and nil up to its size
abbrev pub context_refs : Context → List Ref
context_refs c = c.sender ∷ option_map_or (λ pc. ref.Small (pos pc)) c.pc nil_ref ∷ ref.Small (pos (length c.stack))
    ∷ c.method ∷ c.closure ∷ c.receiver ∷ c.stack ++ replicate (c.size - length c.stack) nil_ref

abbrev pub laid : Obj → Laid
laid (Ptr head slots) = laid_head head slots []
laid (Raw head bytes) = laid_head head [] bytes
laid (Method head header literals bytecodes) = laid_head head (ref.Small (pos header) ∷ literals) bytecodes
laid (Ctx c) =
    record { class = context_class; format = 3; hash = c.hash; refs = context_refs c; bytes = [] }

-- how many slots it takes
abbrev pub laid_slots : Laid → ℕ
laid_slots l = length l.refs + (length l.bytes + 3) / 4

-- ---- what the code has

abbrev pub reference_by : Reference → Ref
reference_by (reference.Small value) = ref.Small value
reference_by (reference.Character code) = ref.Char code
reference_by (reference.Object number) = ref.Obj number

abbrev pub laid_by : Object → Laid
laid_by o = record {
  class = o.class;
  format = o.format;
  hash = o.hash;
  refs = map reference_by o.slots.items;
  bytes = o.bytes.items;
}

-- ---- words

-- the word of a reference, where the objects have these addresses
abbrev pub ref_word : List ℕ → Ref → ℕ
ref_word addresses (ref.Small value) = small_word value
ref_word addresses (ref.Char code) = character_word code
ref_word addresses (ref.Obj number) = slice_index addresses number

-- bytes as words, with zeros behind the last
abbrev pub byte_words : List ℕ → List ℕ
byte_words bytes = map (λ i. u32_at bytes (4 * i)) (range_with_len 0 ((length bytes + 3) / 4))

abbrev pub laid_words : List ℕ → Laid → List ℕ
laid_words addresses l = map (ref_word addresses) l.refs ++ byte_words l.bytes

abbrev pub saved_by : List ℕ → Laid → SavedObject
saved_by addresses l = record {
  class = l.class;
  format = l.format;
  hash = l.hash;
  fixed = false;
  words = laid_words addresses l;
}

-- ---- bytes of words

abbrev pub put_words : List ℕ → List ℕ → List ℕ
put_words bytes words = bytes ++ bytes_of_words words

-- the words in front of the slots of an object: an overflow word from 255 slots on, and the header
abbrev pub head_bits_of : (class format hash slots : ℕ) → ℕ
head_bits_of class format hash slots = class + 2 ^ 24 * format + 2 ^ 32 * hash + 2 ^ 56 * min 255 slots

abbrev pub head_words : (class format hash slots : ℕ) → List ℕ
head_words class format hash slots = overflow_words slots
    ++ head_bits_of class format hash slots % 2 ^ 32 ∷ head_bits_of class format hash slots / 2 ^ 32 ∷ []

-- the words of the root of a class table of so many pages, which stands behind visible objects of so many words
abbrev pub root_word_of : (words pages page : ℕ) → ℕ
root_word_of words pages page = if nat_lt page pages then saved_base + 4 * (words + 22 + 1028 * page + 2) else saved_base

abbrev pub root_words : (words pages : ℕ) → List ℕ
root_words words pages = map (root_word_of words pages) (range_with_len 0 16)

-- the 16 words of the header: format number, header size, heap bytes, old base, special-object array
abbrev pub all_header_words : (heap_bytes special : ℕ) → List ℕ
all_header_words heap_bytes special = 6521 ∷ 64 ∷ heap_bytes ∷ saved_base ∷ special ∷ replicate 11 0

-- how many words objects take
abbrev pub laid_size : List Laid → ℕ
laid_size ls = sum_by (λ l. saved_size (laid_slots l)) ls

-- ---- addresses

-- the addresses of the headers of objects of which the first begins at a place, counted in words
abbrev pub addresses_from : ℕ → List Laid → List ℕ
addresses_from place [] = []
addresses_from place (l ∷ ls) = (saved_base + 4 * (place + words_before (laid_slots l)))
    ∷ addresses_from (place + saved_size (laid_slots l)) ls

-- nil, false and true stand in front of the hidden objects, and the others behind them
abbrev pub laid_addresses : List Laid → List ℕ
laid_addresses ls = addresses_from 0 (take 3 ls) ++ addresses_from 34 (drop 3 ls)

-- ---- the file

-- page p of a table of the numbers of classes by index, where 0, the number of nil, stands for none
abbrev pub page_of : List ℕ → List ℕ → ℕ → List ℕ
page_of addresses table p = map (slice_index addresses) (take 1024 (drop (1024 * p) table))

abbrev pub table_pages : List ℕ → List ℕ → List (List ℕ)
table_pages addresses table = map (page_of addresses table) (range_with_len 0 (length table / 1024))

-- The file of these objects, of which the first are nil, false, true and the special-object array.
unfoldable pub file_for : List Laid → List ℕ → SavedFile
file_for ls table = record {
  header = header_bytes;
  special = slice_index (laid_addresses ls) 3;
  last_hash = 0;
  objects = map (saved_by (laid_addresses ls)) ls;
  pages = table_pages (laid_addresses ls) table;
  births = None;
}

-- ---- what fits

-- a reference whose word there is, among so many objects
abbrev pub FitsRef : ℕ → Ref → Type 0
FitsRef count (ref.Small value) = IsSmall value
FitsRef count (ref.Char code) = code < 2 ^ 30
FitsRef count (ref.Obj number) = number < count

pub record FitsLaid (count : ℕ) (l : Laid) : Type 0 where
  pub class : l.class < 2 ^ 22
  pub format : l.format < 2 ^ 5
  pub hash : l.hash < 2 ^ 22
  pub refs : AllByRecursion (FitsRef count) l.refs
  pub slots : laid_slots l < 2 ^ 28
  pub bytes : AllByRecursion (λ b. b < 256) l.bytes

-- objects and a class table for which there is room in a file
pub record FitsLayout (ls : List Laid) (table : List ℕ) : Type 0 where
  pub four : 4 ≤ length ls
  pub first : AllByRecursion (λ l. laid_slots l ≡ 0) (take 3 ls)
  pub objects : AllByRecursion (FitsLaid (length ls)) ls
  pub pages : 1024 * (length table / 1024) ≡ length table
  pub few : length table ≤ 16384
  pub entries : AllByRecursion (λ number. number < length ls) table
  pub size : saved_base + 4 * page_place (file_for ls table).objects (length table / 1024) ≤ 2 ^ 31
