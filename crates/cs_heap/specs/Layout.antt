-- How the heap keeps its objects: all their words in one row as 32-bit Spur lays them out, and beside it, for each unit
-- of 8 bytes, the birth of the object whose header it is and a mark that says that there is one.
use Rattle.std.specs.Prelude.{◌≡◌, ℕ, zero, suc, ◌+◌, ◌*◌, ◌/◌, ◌%◌, ◌-◌, ◌^◌, ◌<◌, ◌≤◌, ◌==◌, ◌&&◌, IsTrue, List, [], ◌∷◌, ◌++◌, Option, Some, None}
use Rattle.std.specs.Prelude.{if◌then◌else◌, nat_le, map, min, length, slice_index, slice_set, take, drop, replicate, flat_map, vec_capacity}
use Rattle.std.specs.List.{AllByRecursion}
use Rattle.std.specs.Ordering.{nat_cmp}
use Rattle.std.specs.FinSet.{FinSet, empty, insert}
use Rattle.cs_heap.specs.Format.{format_allows}
use Rattle.cs_heap.specs.Object.{Memory, Object, base, body_units, units, units_before}
use Rattle.cs_word.specs.Header.{flag_bits, header_bits, header_of}
use Rattle.cs_word.specs.declared.header.Header.{Header}
use Rattle.cs_heap.specs.declared.Heap.TheInside.{Inside}

-- ---- from objects to words

-- the slot count that the header itself holds: 255 says that the count stands before it
abbrev pub header : Object → Header
header x = record {
  class = x.class;
  flags = x.flags;
  format = x.format;
  hash = x.hash;
  slots = min 255 (length x.words);
}

-- what stands before the header of an object of so many slots: from 255 on the count, and 255 in the top byte
unfoldable pub overflow : ℕ → List ℕ
overflow slots = if nat_le 255 slots then slots ∷ 255 * 2 ^ 24 ∷ [] else []

-- what fills the last unit, and the one unit of an object without slots
abbrev pub padding : ℕ → List ℕ
padding slots = replicate (2 * body_units slots - slots) 0

-- the words of an object with this header
abbrev pub row : ℕ → List ℕ → List ℕ
row bits words = overflow (length words) ++ bits % 2 ^ 32 ∷ bits / 2 ^ 32 ∷ words ++ padding (length words)

unfoldable pub object_words : Object → List ℕ
object_words x = row (header_bits (header x)) x.words

-- the units of an object of so many slots, with a value at its header
abbrev pub marked : {X : Type 0} → X → X → ℕ → List X
marked blank value slots = replicate (units_before slots) blank ++ value ∷ replicate (body_units slots) blank

unfoldable pub unit_births : Object → List ℕ
unit_births x = marked 0 x.birth (length x.words)

unfoldable pub marks_of : Object → List ℕ
marks_of x = marked 0 1 (length x.words)

-- ---- from words to objects

-- the header in words i and i + 1
abbrev pub unit_header : List ℕ → ℕ → Header
unit_header words i = header_of (slice_index words i + slice_index words (i + 1) * 2 ^ 32)

-- the words with this header in a unit
abbrev pub with_header : List ℕ → ℕ → Header → List ℕ
with_header words unit header =
    slice_set (slice_set words (2 * unit) (header_bits header % 2 ^ 32)) (2 * unit + 1) (header_bits header / 2 ^ 32)

-- the slot count of the object whose first word is the first of these
abbrev pub first_count : List ℕ → ℕ
first_count words = let count = (unit_header words 0).slots in if count == 255 then slice_index words 0 else count

-- the slot count of the object whose header is in a unit
abbrev pub count_in : List ℕ → ℕ → ℕ
count_in words unit = let count = (unit_header words (2 * unit)).slots in
    if count == 255 then slice_index words (2 * unit - 2) else count

-- the unit that begins at an address
abbrev pub unit_in : ℕ → Option ℕ
unit_in address = if nat_le base address && address % 8 == 0 then Some ((address - base) / 8) else None

-- the address of the object whose first word is in a unit: its header is there or, behind a count, in the next unit
abbrev pub address_from : List ℕ → ℕ → Option ℕ
address_from marks unit = if nat_le (length marks) unit then None
    else (if slice_index marks unit == 0 then Some (base + 8 * (unit + 1)) else Some (base + 8 * unit))

abbrev pub object_read : Header → ℕ → List ℕ → Object
object_read header birth words = record {
  class = header.class;
  flags = header.flags;
  format = header.format;
  hash = header.hash;
  birth = birth;
  words = words;
}

-- the object of so many slots whose first word is the first of these
abbrev pub first_object : ℕ → List ℕ → List ℕ → Object
first_object slots words births = let before = units_before slots in
    object_read (unit_header words (2 * before)) (slice_index births before) (take slots (drop (2 * before + 2) words))

-- the objects that stand in these words, at most `most`
unfoldable pub objects_read : ℕ → List ℕ → List ℕ → List Object
objects_read zero words births = []
objects_read (suc most) [] births = []
objects_read (suc most) (w ∷ ws) births = let slots = first_count (w ∷ ws) in
    first_object slots (w ∷ ws) births ∷ objects_read most (drop (2 * units slots) (w ∷ ws)) (drop (units slots) births)

abbrev pub objects : Inside → List Object
objects h = objects_read (length h.words.items) h.words.items h.births.items

-- A unit's mark is 0 where it is no header, 1 where it is one, and 2 where it is that of a watched object. Here for each
-- unit whether it is a header, 1 or 0.
abbrev pub headers_in : List ℕ → List ℕ
headers_in = map (λ mark. min mark 1)

-- the addresses of the watched objects, where the first of these units has the address `at`
unfoldable pub watched_in : ℕ → List ℕ → FinSet nat_cmp
watched_in at [] = empty
watched_in at (mark ∷ marks) =
    let rest = watched_in (at + 8) marks in if mark == 2 then insert rest at else rest

abbrev pub memory : Inside → Memory
memory h = record {
  limit = h.limit;
  objects = objects h;
  watched = watched_in base h.marks.items;
  dirty = h.dirty;
}

-- ---- what always holds

-- what the bits of a header hold
pub record IsStorable (x : Object) : Type 0 where
  pub class : x.class < 2 ^ 22
  pub flags : flag_bits x.flags < 2 ^ 5
  pub shape : IsTrue (format_allows x.format (length x.words))
  pub hash : x.hash < 2 ^ 22
  pub count : length x.words < 2 ^ 32

-- these objects stand in the heap, and nothing else
pub record AreObjectsLaid (h : Inside) (xs : List Object) : Type 0 where
  pub words : h.words.items ≡ flat_map object_words xs
  pub births : h.births.items ≡ flat_map unit_births xs
  pub marks : headers_in h.marks.items ≡ flat_map marks_of xs
  pub storable : AllByRecursion IsStorable xs

-- the objects are within the limit, for which there is room
pub record IsHeap (h : Inside) : Type 0 where
  pub laid : AreObjectsLaid h (objects h)
  pub within : length h.words.items ≤ h.limit
  pub least : 4096 ≤ h.limit
  pub most : h.limit ≤ 67108864
  pub word_room : h.limit ≤ vec_capacity h.words
  pub birth_room : h.limit ≤ 2 * vec_capacity h.births + 1
  pub mark_room : h.limit ≤ 2 * vec_capacity h.marks + 1
