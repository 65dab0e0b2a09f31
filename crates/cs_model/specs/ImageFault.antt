-- What can be wrong with the file of an image. Each fault is stated over the objects into which the file is cut. Where a
-- fault has a place, `at` counts bytes from the heap's first one.
use Rattle.std.specs.Prelude.{ℕ, zero, suc, ◌+◌, ◌-◌, ◌*◌, ◌/◌, ◌%◌, ◌^◌, ◌==◌, ◌&&◌, ◌||◌, not, Bool, true, false, nat_le, nat_lt, if◌then◌else◌, List, [], ◌∷◌, ◌++◌, length, take, codes, decimal, slice_index, slice_get, find, flat_map, sum_by, Option, Some, None, is_some, option_map, option_and_then}
use Rattle.std.specs.Option.{option_map_or, option_or}
use Rattle.std.specs.List.{list_any, list_all, enumerate_from}
use Rattle.cs_model.specs.Obj.{context_class, context_fields, words_of_slots, literal_count, is_header, lies_between}
use Rattle.cs_model.specs.Words.{natural_in_word, is_pointer_format, is_method_format, has_shape, unused_bytes, header_in_words, literals_in_words, bytecode_count}
use Rattle.cs_model.specs.Profile.{is_second_profile, pages_in, is_page_count}
use Rattle.cs_model.specs.ImageFile.{u32_at, heap_size, old_base, has_births, birth_count, births_in, next_birth_in, FileObject, Cut, stands, is_hidden, is_visible, File, visible, named, names, nil_in, is_nil_word}

pub data ImageFault : Type 0 where
  TooLong : ImageFault
  Short : ImageFault
  BadFormat : ImageFault
  BadHeaderSize : ImageFault
  BadProfile : ImageFault
  BadLength : ImageFault
  BadObject : (at : ℕ) → ImageFault
  OverLimit : ImageFault
  BadTable : ImageFault
  BadRef : (at : ℕ) → ImageFault
  BadClass : (at : ℕ) → ImageFault
  BadContext : (at : ℕ) → ImageFault
  BadRoots : ImageFault
  BadBirths : ImageFault

-- the printed name of a fault, with its place
abbrev pub image_fault_name : ImageFault → List ℕ
image_fault_name TooLong = codes "TooLong"
image_fault_name Short = codes "Short"
image_fault_name BadFormat = codes "BadFormat"
image_fault_name BadHeaderSize = codes "BadHeaderSize"
image_fault_name BadProfile = codes "BadProfile"
image_fault_name BadLength = codes "BadLength"
image_fault_name (BadObject at) = codes "BadObject " ++ decimal at
image_fault_name OverLimit = codes "OverLimit"
image_fault_name BadTable = codes "BadTable"
image_fault_name (BadRef at) = codes "BadRef " ++ decimal at
image_fault_name (BadClass at) = codes "BadClass " ++ decimal at
image_fault_name (BadContext at) = codes "BadContext " ++ decimal at
image_fault_name BadRoots = codes "BadRoots"
image_fault_name BadBirths = codes "BadBirths"

-- ---- the file and its header

abbrev pub is_long_file : List ℕ → Bool
is_long_file bytes = nat_lt 536870912 (length bytes)

abbrev pub is_short : List ℕ → Bool
is_short bytes = nat_lt (length bytes) 64

abbrev pub is_bad_format : List ℕ → Bool
is_bad_format bytes = not (u32_at bytes 0 == 6521)

abbrev pub is_bad_header_size : List ℕ → Bool
is_bad_header_size bytes = not (u32_at bytes 4 == 64)

-- in profile 2 the page count is that of a machine, or 0
abbrev pub is_bad_profile : List ℕ → Bool
is_bad_profile bytes = is_second_profile bytes && not (is_page_count (pages_in bytes))

-- the heap and the base are of whole units, the addresses fit a word, and the file ends behind the heap or behind a birth
-- section of so many births as it says
abbrev pub is_bad_length : List ℕ → Bool
is_bad_length bytes =
    heap_size bytes == 0 || not (heap_size bytes % 8 == 0) || not (old_base bytes % 8 == 0)
    || nat_lt (2 ^ 32) (old_base bytes + heap_size bytes)
    || has_births bytes && not (length bytes == 80 + heap_size bytes + 8 * birth_count bytes)

-- ---- objects

-- a method has a valid header, and its literals fit, with a slot behind them where the format says that bytes are unused
abbrev pub is_method_body : ℕ → List ℕ → Bool
is_method_body format words = option_map_or is_header (natural_in_word (slice_index words 0)) false
    && nat_lt (literal_count (header_in_words words) + (if nat_lt 0 (unused_bytes format) then 1 else 0)) (length words)

abbrev pub is_body : ℕ → List ℕ → Bool
is_body format words = has_shape format (length words) && (not (is_method_format format) || is_method_body format words)

abbrev pub is_well_formed : FileObject → Bool
is_well_formed o = is_body o.format o.words

-- the first word of the first object that isn't well formed, or else the place where no object is whole
unfoldable pub bad_object : Cut → Option ℕ
bad_object c = option_or (option_map (λ o. o.first) (find (λ o. stands o && not (is_well_formed o)) c.objects)) c.torn

unfoldable pub is_over : File → ℕ → Bool
is_over f limit = nat_lt limit (sum_by (λ o. words_of_slots (length o.words)) (visible f))

-- ---- the first objects and the class table

-- nil, false and true
abbrev pub is_oddball : FileObject → Bool
is_oddball o = is_visible o && o.format == 0

abbrev pub has_object : File → ℕ → (FileObject → Bool) → Bool
has_object f n passes = option_map_or passes (slice_get f.objects n) false

-- behind nil, false and true come a hidden object of words, which is ignored, and the hidden root of the class table
abbrev pub begins_well : File → Bool
begins_well f = has_object f 0 is_oddball && has_object f 1 is_oddball && has_object f 2 is_oddball
    && has_object f 3 (λ o. is_hidden o && o.format == 10) && has_object f 4 (λ o. is_hidden o && o.format == 2)

-- the pages that the root holds, 16 or fewer
abbrev pub page_addresses : File → List ℕ
page_addresses f = option_map_or (λ root. take 16 root.words) (slice_get f.objects 4) []

-- a page is nil or a hidden object of 1,024 slots or more
abbrev pub is_page : File → ℕ → Bool
is_page f word = is_nil_word f word || names f (λ o. is_hidden o && o.format == 2 && nat_le 1024 (length o.words)) word

-- the object that a word names, if that isn't nil
abbrev pub unless_nil : File → ℕ → Option FileObject
unless_nil f word = if is_nil_word f word then None else named f word

-- entry i of page p is that of class index 1024 * p + i; where there is no page it is nil
unfoldable pub entry_in : File → ℕ → ℕ
entry_in f index = option_map_or (λ page. slice_index page.words (index % 1024))
    (option_and_then (unless_nil f) (slice_get (page_addresses f) (index / 1024))) (nil_in f)

abbrev pub has_entry : File → ℕ → Bool
has_entry f index = not (is_nil_word f (entry_in f index))

-- a class is a visible object with pointers and three slots or more, no context, and its hash is its index
abbrev pub is_class : ℕ → FileObject → Bool
is_class index o = is_visible o && nat_le 1 o.format && nat_le o.format 5 && not (o.class == context_class)
    && nat_le 3 (length o.words) && o.hash == index

-- every entry but that of index 3 is nil or a class
abbrev pub is_sound_entry : File → ℕ → Bool
is_sound_entry f index = index == 3 || is_nil_word f (entry_in f index) || names f (is_class index) (entry_in f index)

-- what is true of each number below n
abbrev pub all_below : ℕ → (ℕ → Bool) → Bool
all_below zero passes = true
all_below (suc n) passes = all_below n passes && passes n

-- how many entries the class table has
unfoldable pub table_size : ℕ
table_size = 16384

-- SmallInteger has the indices 1 and 3, Character 2, Context 36 and BlockClosure 37; 0 and 16 stay free
abbrev pub has_known_classes : File → Bool
has_known_classes f = not (has_entry f 0) && not (has_entry f 16)
    && has_entry f 1 && has_entry f 2 && has_entry f 36 && has_entry f 37
    && entry_in f 3 == entry_in f 1 && names f (λ o. o.hash == 1) (entry_in f 1)

unfoldable pub is_bad_table : File → Bool
is_bad_table f = not (begins_well f && list_all (is_page f) (page_addresses f) && has_known_classes f
    && all_below table_size (is_sound_entry f))

-- ---- references

-- an object's words that may name objects, each with its place: the slots of a pointer object, and a method's literals
abbrev pub references : FileObject → List (ℕ × ℕ)
references o = if is_pointer_format o.format then enumerate_from (o.place + 2) o.words
    else (if is_method_format o.format then enumerate_from (o.place + 3) (literals_in_words o.words) else [])

-- a word of low bits 00 that isn't the address of a visible object
abbrev pub is_lost : File → ℕ → Bool
is_lost f word = word % 4 == 0 && not (names f is_visible word)

unfoldable pub bad_ref : File → Option ℕ
bad_ref f = option_map (λ e. e.0) (find (λ e. is_lost f e.1) (flat_map references (visible f)))

-- ---- class indices

-- 1, 2 and 3 are those of immediates
unfoldable pub bad_class : File → Option ℕ
bad_class f = option_map (λ o. o.place) (find (λ o. nat_lt o.class 4 || not (has_entry f o.class)) (visible f))

-- ---- contexts

abbrev pub is_file_context : FileObject → Bool
is_file_context o = o.class == context_class

abbrev pub is_file_method : FileObject → Bool
is_file_method o = is_method_format o.format

-- a word that is a SmallInteger, as a pc of a method
abbrev pub is_pc_of : ℕ → FileObject → Bool
is_pc_of word o = is_file_method o && option_map_or
    (lies_between (4 * (1 + literal_count (header_in_words o.words)) + 1) (bytecode_count o.format o.words))
    (natural_in_word word) false

-- a stackp is a SmallInteger from 0 to the size
abbrev pub is_stackp : ℕ → ℕ → Bool
is_stackp size word = option_map_or (λ n. nat_le n size) (natural_in_word word) false

abbrev pub is_sound_context : File → FileObject → Bool
is_sound_context f o =
    o.format == 3 && (length o.words == 22 || length o.words == 62)
    && (is_nil_word f (slice_index o.words 0) || names f is_file_context (slice_index o.words 0))
    && (is_nil_word f (slice_index o.words 1) || names f (is_pc_of (slice_index o.words 1)) (slice_index o.words 3))
    && (is_nil_word f (slice_index o.words 2) || is_stackp (length o.words - context_fields) (slice_index o.words 2))
    && (is_nil_word f (slice_index o.words 3) || names f is_file_method (slice_index o.words 3))
    && (is_nil_word f (slice_index o.words 4) || names f (λ c. c.class == 37) (slice_index o.words 4))

unfoldable pub bad_context : File → Option ℕ
bad_context f = option_map (λ o. o.place) (find (λ o. is_file_context o && not (is_sound_context f o)) (visible f))

-- ---- roots

-- the words of the visible pointer object with n slots or more that a word names, where a context counts as none
abbrev pub fields_of : ℕ → FileObject → Option (List ℕ)
fields_of n o = if is_visible o && is_pointer_format o.format && not (is_file_context o) && nat_le n (length o.words)
    then Some o.words else None

abbrev pub fields_in : File → ℕ → ℕ → Option (List ℕ)
fields_in f n word = option_and_then (fields_of n) (named f word)

-- the special-object array has format 2 and 51 slots or more
abbrev pub special_in : File → ℕ → Option (List ℕ)
special_in f word = option_and_then (λ o. if o.format == 2 then fields_of 51 o else None) (named f word)

-- special 3 has the scheduler in its slot 1, and that has the active process in its slot 1
abbrev pub active_process_in : File → ℕ → Option ℕ
active_process_in f word =
    option_and_then (λ special. option_and_then (λ link. option_map (λ scheduler. slice_index scheduler 1)
    (fields_in f 2 (slice_index link 1))) (fields_in f 2 (slice_index special 3))) (special_in f word)

abbrev pub is_live_context : FileObject → Bool
is_live_context o = is_file_context o && is_some (natural_in_word (slice_index o.words 1))

-- a process is nil, or has four slots and a live context in its slot 1
abbrev pub is_process_word : File → ℕ → Bool
is_process_word f word = is_nil_word f word
    || option_map_or (λ process. names f is_live_context (slice_index process 1)) (fields_in f 4 word) false

unfoldable pub is_bad_roots : File → ℕ → Bool
is_bad_roots f word = not (option_map_or (is_process_word f) (active_process_in f word) false)

-- ---- births

abbrev pub has_repeats : List ℕ → Bool
has_repeats [] = false
has_repeats (x ∷ xs) = list_any (λ y. y == x) xs || has_repeats xs

-- each visible object has a birth of its own below the next one
unfoldable pub is_bad_births : List ℕ → ℕ → Bool
is_bad_births bytes n = has_births bytes && (not (birth_count bytes == n) || has_repeats (births_in bytes n)
    || list_any (λ birth. nat_le (next_birth_in bytes n) birth) (births_in bytes n)
    || nat_lt (2 ^ 62) (next_birth_in bytes n))
