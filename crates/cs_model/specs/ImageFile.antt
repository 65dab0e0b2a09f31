-- The file of an image as 32-bit Spur lays it out, cut into its parts. All numbers are little-endian.
use Rattle.std.specs.Prelude.{ℕ, zero, suc, ◌+◌, ◌*◌, ◌/◌, ◌%◌, ◌^◌, ◌==◌, not, Bool, false, nat_le, max, if◌then◌else◌, List, [], ◌∷◌, ◌++◌, length, take, drop, replicate, slice_index, slice_get, filter, find, Option, Some, None}
use Rattle.std.specs.Option.{option_map_or}
use Rattle.std.specs.List.{range_with_len}

-- ---- numbers in bytes, and past their end zeros

-- the number in the n bytes from a place, the lowest first
abbrev pub number_at : ℕ → List ℕ → ℕ → ℕ
number_at zero bytes place = 0
number_at (suc n) bytes place = slice_index bytes place + 256 * number_at n bytes (place + 1)

unfoldable pub u32_at : List ℕ → ℕ → ℕ
u32_at bytes place = number_at 4 bytes place

unfoldable pub u64_at : List ℕ → ℕ → ℕ
u64_at bytes place = number_at 8 bytes place

-- the n words of 4 bytes from a place
abbrev pub u32s_at : ℕ → List ℕ → ℕ → List ℕ
u32s_at zero bytes place = []
u32s_at (suc n) bytes place = u32_at bytes place ∷ u32s_at n bytes (place + 4)

-- the n numbers of 8 bytes from a place
abbrev pub u64s_at : ℕ → List ℕ → ℕ → List ℕ
u64s_at zero bytes place = []
u64s_at (suc n) bytes place = u64_at bytes place ∷ u64s_at n bytes (place + 8)

-- ---- the header of 64 bytes

-- how many bytes the heap has, which follows the header
abbrev pub heap_size : List ℕ → ℕ
heap_size bytes = u32_at bytes 8

-- the old base: the address of the heap's first byte, as the file's words have it
abbrev pub old_base : List ℕ → ℕ
old_base bytes = u32_at bytes 12

-- the address of the special-object array
abbrev pub special_address : List ℕ → ℕ
special_address bytes = u32_at bytes 16

-- the last identity hash that was given, of 22 bits
abbrev pub last_hash_in : List ℕ → ℕ
last_hash_in bytes = u32_at bytes 20 % 2 ^ 22

-- the header, in which the bytes at places 8 to 23 count as 0
abbrev pub file_header : List ℕ → List ℕ
file_header bytes = take 8 bytes ++ replicate 16 0 ++ take 40 (drop 24 bytes)

-- the heap's words of 4 bytes, which follow the header
unfoldable pub words_in : List ℕ → List ℕ
words_in bytes = u32s_at (heap_size bytes / 4) bytes 64

-- ---- the birth section, which may follow the heap: the next birth, a count and so many births

abbrev pub has_births : List ℕ → Bool
has_births bytes = not (length bytes == 64 + heap_size bytes)

abbrev pub birth_count : List ℕ → ℕ
birth_count bytes = u64_at bytes (72 + heap_size bytes)

-- the births of n visible objects: those of the section, and without one their places in the order
unfoldable pub births_in : List ℕ → ℕ → List ℕ
births_in bytes n = if has_births bytes then u64s_at (birth_count bytes) bytes (80 + heap_size bytes) else range_with_len 0 n

abbrev pub next_birth_in : List ℕ → ℕ → ℕ
next_birth_in bytes n = if has_births bytes then u64_at bytes (64 + heap_size bytes) else n

-- ---- the objects of the heap, in which all places count words

-- An object where it lies: the places of its first word and of its header; class index, format, identity hash and whether it is
-- fixed; and its slots.
pub record FileObject : Type 0 where
  pub first : ℕ
  pub place : ℕ
  pub class : ℕ
  pub format : ℕ
  pub hash : ℕ
  pub fixed : Bool
  pub words : List ℕ

-- the 64 bits that stand in two words
abbrev pub bits_at : List ℕ → ℕ → ℕ
bits_at heap at = slice_index heap at + 2 ^ 32 * slice_index heap (at + 1)

-- what the top byte of 64 bits holds: the slot count of a header, and 255 in an overflow word
abbrev pub top_byte : ℕ → ℕ
top_byte bits = bits / 2 ^ 56

-- where an object of so many slots ends whose header is at a place: its body has two words at least, and an even count
abbrev pub end_at : ℕ → ℕ → ℕ
end_at place slots = place + 2 + 2 * max 1 ((slots + 1) / 2)

abbrev pub object_end : FileObject → ℕ
object_end o = end_at o.place (length o.words)

-- the object with this header and so many slots
abbrev pub object_with : List ℕ → ℕ → ℕ → ℕ → ℕ → FileObject
object_with heap first place header slots = record {
  first = first;
  place = place;
  class = header % 2 ^ 22;
  format = header / 2 ^ 24 % 2 ^ 5;
  hash = header / 2 ^ 32 % 2 ^ 22;
  fixed = header / 2 ^ 23 % 2 == 1;
  words = take slots (drop (place + 2) heap);
}

-- the object of so many slots whose header is at a place, where it ends within the heap
abbrev pub object_within : List ℕ → ℕ → ℕ → ℕ → Option FileObject
object_within heap first place slots = if nat_le (end_at place slots) (length heap)
    then Some (object_with heap first place (bits_at heap place) slots) else None

-- the object whose first word is at a place: a header with the slot count in its top byte, or, where that is 255, an
-- overflow word with the count in its other bytes, followed by a header whose top byte is 255 too
unfoldable pub object_from : List ℕ → ℕ → Option FileObject
object_from heap first = let bits = bits_at heap first in
    if not (top_byte bits == 255) then object_within heap first first (top_byte bits)
    else (if top_byte (bits_at heap (first + 2)) == 255 then object_within heap first (first + 2) (bits % 2 ^ 56) else None)

-- objects one right behind another, and the place where none is whole, if it comes to that
pub record Cut : Type 0 where
  pub objects : List FileObject
  pub torn : Option ℕ

abbrev pub in_front : FileObject → Cut → Cut
in_front o c = record { objects = o ∷ c.objects; torn = c.torn }

abbrev pub cut_behind : ℕ → Option FileObject → (FileObject → Cut) → Cut
cut_behind place None rest = record { objects = []; torn = Some place }
cut_behind place (Some o) rest = in_front o (rest o)

abbrev pub nothing : Cut
nothing = record { objects = []; torn = None }

-- a heap from a place on, cut into at most `most` objects
unfoldable pub cut_from : ℕ → List ℕ → ℕ → Cut
cut_from zero heap place = nothing
cut_from (suc most) heap place = if nat_le (length heap) place then nothing
    else cut_behind place (object_from heap place) (λ o. cut_from most heap (object_end o))

-- a heap cut into its objects, of which it has fewer than words
abbrev pub cut_of : List ℕ → Cut
cut_of heap = cut_from (length heap) heap 0

-- ---- which objects count

-- An object of class index 0 is skipped. One of class index 16 is hidden: it is part of no state. All others are visible.
abbrev pub stands : FileObject → Bool
stands o = not (o.class == 0)

abbrev pub is_hidden : FileObject → Bool
is_hidden o = o.class == 16

abbrev pub is_visible : FileObject → Bool
is_visible o = not (is_hidden o)

-- the objects of a file that aren't skipped, in order, and the old base
pub record File : Type 0 where
  pub base : ℕ
  pub objects : List FileObject

unfoldable pub file_of : List ℕ → File
file_of bytes = record { base = old_base bytes; objects = filter stands (cut_of (words_in bytes)).objects }

unfoldable pub visible : File → List FileObject
visible f = filter is_visible f.objects

-- the old address of an object, which is that of its header, in bytes
abbrev pub address_in : File → FileObject → ℕ
address_in f o = f.base + 4 * o.place

-- the object that a word names: the one whose header is at this address
unfoldable pub named : File → ℕ → Option FileObject
named f word = find (λ o. address_in f o == word) f.objects

-- the word names an object that passes
abbrev pub names : File → (FileObject → Bool) → ℕ → Bool
names f passes word = option_map_or passes (named f word) false

-- the address of nil, which is the first object
abbrev pub nil_in : File → ℕ
nil_in f = option_map_or (address_in f) (slice_get f.objects 0) 0

abbrev pub is_nil_word : File → ℕ → Bool
is_nil_word f word = word == nil_in f
