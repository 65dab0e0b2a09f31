-- The file that is saved of a heap, a class table and the roots. The objects keep their order and their distances. Only two hidden
-- objects are put behind the first three, so that all behind them lie 88 bytes further on, and the class table's pages at the end.
use Rattle.std.specs.Prelude.{ℕ, ◌+◌, ◌-◌, ◌*◌, ◌%◌, ◌^◌, ◌==◌, ◌&&◌, nat_lt, if◌then◌else◌, List, [], ◌∷◌, ◌++◌, flat_map, length, map, min, slice_index, take, drop, Some}
use Rattle.std.specs.Option.{option_map_or}
use Rattle.std.specs.List.{range_with_len}
use Rattle.std.specs.Ordering.{nat_cmp}
use Rattle.std.specs.FinMap.{FinMap, get}
use Rattle.cs_word.specs.Header.{flag_bits}
use Rattle.cs_heap.specs.Format.{is_code, is_pointers}
use Rattle.cs_heap.specs.Object.{Object, base, heap_object, used}
use Rattle.cs_classes.specs.Meaning.{method_header}
use Rattle.cs_classes.specs.declared.Roots.{Roots}
use Rattle.cs_model.specs.Obj.{literal_count}
use Rattle.cs_model.specs.SavedFile.{SavedObject, SavedFile, saved_bits, saved_bytes, saved_words, halves, hidden_object, free_lists, table_page}

-- ---- words

-- nil, false and true stay where they are, in 48 bytes
abbrev pub file_address : ℕ → ℕ
file_address address = if nat_lt address (base + 48) then address else (address + 88) % 2 ^ 32

-- the word of the file for a word of memory that may name an object
unfoldable pub file_word : ℕ → ℕ
file_word word = if word % 4 == 0 then file_address word else word

-- how many of an object's words may name objects, from the first on: all of a pointer object, and a method's header and literals
unfoldable pub referring : ℕ → List ℕ → ℕ
referring format words = if is_pointers format then length words
    else (if is_code format && nat_lt 0 (length words) then 1 + literal_count (method_header words) else 0)

abbrev pub filed_words : ℕ → List ℕ → List ℕ
filed_words format words = map file_word (take (referring format words) words) ++ drop (referring format words) words

-- ---- the whole

-- an object as the file holds it: of its header flags the file has only whether it is fixed
unfoldable pub filed : Object → SavedObject
filed x = record {
  class = x.class;
  format = x.format;
  hash = x.hash;
  fixed = flag_bits x.flags % 2 == 1;
  words = filed_words x.format x.words;
}

-- the word of an entry of the class table: an empty one names nil
unfoldable pub entry_word : FinMap nat_cmp ℕ → ℕ → ℕ
entry_word table index = option_map_or file_word (get table index) base

abbrev pub page_entries : FinMap nat_cmp ℕ → ℕ → List ℕ
page_entries table page = map (entry_word table) (range_with_len (1024 * page) 1024)

-- all 16 pages, and the births of all objects
abbrev pub saved_file : List Object → FinMap nat_cmp ℕ → Roots → SavedFile
saved_file objects table roots = record {
  header = roots.header;
  special = file_word roots.special.0;
  last_hash = roots.last_hash;
  objects = map filed objects;
  pages = map (page_entries table) (range_with_len 0 16);
  births = Some (record { next = roots.next_birth; births = map (λ x. x.birth) objects });
}

-- the bytes that are saved
abbrev pub saved_of : List Object → FinMap nat_cmp ℕ → Roots → List ℕ
saved_of objects table roots = saved_bytes (saved_file objects table roots)

-- ---- word by word

-- word i of an object's body: behind its slots stand zeros
unfoldable pub body_word : ℕ → List ℕ → ℕ → ℕ
body_word format words i = if nat_lt i (length words)
    then (if nat_lt i (referring format words) then file_word (slice_index words i) else slice_index words i) else 0

-- what is saved of it
abbrev pub saved_at : List Object → ℕ → List ℕ
saved_at objects address = option_map_or (λ x. saved_words (filed x)) (heap_object objects address) []

-- what is saved of the objects from one number up to another
abbrev pub saved_between : List Object → ℕ → ℕ → List ℕ
saved_between objects from end = flat_map (λ x. saved_words (filed x)) (take (end - from) (drop from objects))

-- what is saved of a page
abbrev pub saved_page : FinMap nat_cmp ℕ → ℕ → List ℕ
saved_page table page = saved_words (table_page (page_entries table page))

-- the words that all objects of a heap and the two hidden ones take, in front of the pages
abbrev pub page_at : ℕ → ℕ → ℕ
page_at used page = base + 4 * (used + 22 + 1028 * page + 2)

-- the root of the class table, where the visible objects take so many words
abbrev pub saved_root : ℕ → List ℕ
saved_root used = saved_words (hidden_object 2 (map (page_at used) (range_with_len 0 16)))

-- the heap of the file: nil, false and true, the two hidden objects, the other objects and the pages
abbrev pub saved_heap_of : List Object → FinMap nat_cmp ℕ → List ℕ
saved_heap_of objects table = saved_between objects 0 3 ++ ((saved_words free_lists ++ saved_root (used objects))
    ++ (saved_between objects 3 (length objects) ++ flat_map (saved_page table) (range_with_len 0 16)))

-- the header's words at places 8 to 23: how many bytes the heap has, in which the two hidden objects and the pages take 16,470
-- words; its base, the special-object array and the last hash
abbrev pub places_of : ℕ → Roots → List ℕ
places_of used roots = 4 * (used + 16470) ∷ base ∷ file_word roots.special.0 ∷ roots.last_hash ∷ []

-- the births of the first objects
abbrev pub saved_births : List Object → ℕ → List ℕ
saved_births objects count = flat_map (λ x. halves x.birth) (take (count - 0) (drop 0 objects))

-- the header of a hidden object of so many slots
abbrev pub hidden_bits : ℕ → ℕ → ℕ
hidden_bits format slots = 16 + 2 ^ 24 * format + 2 ^ 56 * min 255 slots

-- the header of the object at an address
abbrev pub filed_bits_at : List Object → ℕ → ℕ
filed_bits_at objects address = option_map_or (λ x. saved_bits (filed x)) (heap_object objects address) 0
