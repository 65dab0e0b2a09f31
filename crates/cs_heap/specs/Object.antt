-- The object memory as an ordered list of objects, and the addresses at which they lie.
use Rattle.std.specs.Prelude.{ℕ, zero, suc, ◌+◌, ◌*◌, ◌/◌, ◌%◌, ◌-◌, ◌^◌, ◌==◌, Bool, List, [], ◌∷◌, Option, Some, None, is_some}
use Rattle.std.specs.Prelude.{if◌then◌else◌, nat_le, max, min, map, length, slice_index, slice_set, slice_get, option_map, option_and_then, sum_by, replicate}
use Rattle.std.specs.Option.{option_map_or}
use Rattle.std.specs.Ordering.{nat_cmp}
use Rattle.std.specs.FinSet.{FinSet, contains}
use Rattle.cs_heap.specs.Format.{is_pointers}
use Rattle.cs_word.specs.Header.{flag_bits, with_immutable}
use Rattle.cs_word.specs.declared.header.Flags.{Flags}
use Rattle.cs_word.specs.declared.header.Header.{Header}
use Rattle.cs_model.specs.Words.{byte_in}

-- An object: the index of its class, its header flags, its format and identity hash, its birth, and its slots as words.
pub record Object : Type 0 where
  pub class : ℕ
  pub flags : Flags
  pub format : ℕ
  pub hash : ℕ
  pub birth : ℕ
  pub words : List ℕ

-- The memory: the objects in the order in which they lie, which take at most `limit` words, the addresses of those that
-- are watched, and whether a slot of a watched one was stored since the memory was made or cleaned.
pub record Memory : Type 0 where
  pub limit : ℕ
  pub objects : List Object
  pub watched : FinSet nat_cmp
  pub dirty : Bool

-- ---- what an object takes, in units of 8 bytes

-- the units before the header: one for a count of 255 slots and more, which the header's 8 bits don't hold
abbrev pub units_before : ℕ → ℕ
units_before slots = if nat_le 255 slots then 1 else 0

-- the units behind the header: at least one
abbrev pub body_units : ℕ → ℕ
body_units slots = max 1 ((slots + 1) / 2)

abbrev pub units : ℕ → ℕ
units slots = units_before slots + 1 + body_units slots

-- the words of 4 bytes that an object of so many slots takes
abbrev pub size : ℕ → ℕ
size slots = 2 * units slots

abbrev pub slot_counts : List Object → List ℕ
slot_counts = map (λ x. length x.words)

-- the words that the objects take
abbrev pub used : List Object → ℕ
used objects = sum_by size (slot_counts objects)

-- ---- where the objects lie

-- the address of the first word of the first object
abbrev pub base : ℕ
base = 65536

-- the address of the header of an object of so many slots whose first word is at `at`
abbrev pub header_address : ℕ → ℕ → ℕ
header_address at slots = at + 8 * units_before slots

-- which of the objects of so many slots has this address, where the first word of the first is at `at`
unfoldable pub index_among : List ℕ → ℕ → ℕ → Option ℕ
index_among [] at address = None
index_among (n ∷ ns) at address =
    if address == header_address at n then Some 0 else option_map suc (index_among ns (at + 8 * units n) address)

-- the address of the k-th of them
unfoldable pub address_among : List ℕ → ℕ → ℕ → Option ℕ
address_among [] at k = None
address_among (n ∷ ns) at zero = Some (header_address at n)
address_among (n ∷ ns) at (suc k) = address_among ns (at + 8 * units n) k

-- which object has this address, counted from 0
abbrev pub object_place : List Object → ℕ → Option ℕ
object_place objects address = index_among (slot_counts objects) base address

-- the address of the k-th object, counted from 0
abbrev pub address_of : List Object → ℕ → Option ℕ
address_of objects k = address_among (slot_counts objects) base k

-- the address of one more object of so many slots
abbrev pub next_address : List Object → ℕ → ℕ
next_address objects slots = header_address (base + 4 * used objects) slots

-- ---- reading

abbrev pub is_object : List Object → ℕ → Bool
is_object objects address = is_some (object_place objects address)

abbrev pub heap_object : List Object → ℕ → Option Object
heap_object objects address = option_and_then (slice_get objects) (object_place objects address)

-- the words of the slots of the object at an address
abbrev pub words_at : List Object → ℕ → List ℕ
words_at objects address = option_map_or (λ x. x.words) (heap_object objects address) []

-- a number that is read from the object at an address, and 0 where there is none
abbrev pub part_at : (Object → ℕ) → List Object → ℕ → ℕ
part_at f objects address = option_map_or f (heap_object objects address) 0

abbrev pub class_at : List Object → ℕ → ℕ
class_at = part_at (λ x. x.class)

abbrev pub format_at : List Object → ℕ → ℕ
format_at = part_at (λ x. x.format)

abbrev pub hash_at : List Object → ℕ → ℕ
hash_at = part_at (λ x. x.hash)

abbrev pub birth_at : List Object → ℕ → ℕ
birth_at = part_at (λ x. x.birth)

-- the header's flags as a number
abbrev pub flags_of : List Object → ℕ → ℕ
flags_of = part_at (λ x. flag_bits x.flags)

-- whether the object at an address is read-only, as its header says by isImmutable
abbrev pub is_immutable_at : List Object → ℕ → Bool
is_immutable_at objects address = flags_of objects address % 2 == 1

abbrev pub slot_count_of : List Object → ℕ → ℕ
slot_count_of = part_at (λ x. length x.words)

abbrev pub slot_of : List Object → ℕ → ℕ → ℕ
slot_of objects address i = part_at (λ x. slice_index x.words i) objects address

-- byte i of an object: four in each word, the lowest first
abbrev pub byte_of : List Object → ℕ → ℕ → ℕ
byte_of objects address i = byte_in (slot_of objects address (i / 4)) (i % 4)

-- whether the object at an address is watched
abbrev pub is_watched : Memory → ℕ → Bool
is_watched m address = contains m.watched address

-- the header of the object at an address: its count of slots is 255 where there are as many or more
abbrev pub header_seen : List Object → ℕ → Header
header_seen objects address = record {
  class = class_at objects address;
  flags = record { 0 = flags_of objects address };
  format = format_at objects address;
  hash = hash_at objects address;
  slots = min 255 (slot_count_of objects address);
}

-- the address of the object right behind that at an address
abbrev pub next_of : List Object → ℕ → Option ℕ
next_of objects address = option_and_then (λ k. address_of objects (k + 1)) (object_place objects address)

-- ---- writing

-- what a new slot holds: in a pointer object the address of the first object, which is nil, and in others 0
abbrev pub new_slot : ℕ → ℕ
new_slot format = if is_pointers format then base else 0

abbrev pub no_flags : Flags
no_flags = record { 0 = 0 }

abbrev pub new_object : ℕ → ℕ → ℕ → ℕ → Object
new_object class format slots birth = record {
  class = class;
  flags = no_flags;
  format = format;
  hash = 0;
  birth = birth;
  words = replicate slots (new_slot format);
}

-- the list with its k-th element changed
unfoldable pub at_index : {X : Type 0} → ℕ → (X → X) → List X → List X
at_index k f [] = []
at_index zero f (x ∷ xs) = f x ∷ xs
at_index (suc k) f (x ∷ xs) = x ∷ at_index k f xs

-- the objects with that at an address changed
abbrev pub with_object : List Object → ℕ → (Object → Object) → List Object
with_object objects address f = option_map_or (λ k. at_index k f objects) (object_place objects address) objects

abbrev pub set_word : ℕ → ℕ → Object → Object
set_word i v x = record x { words = slice_set x.words i v }

abbrev pub slot_set : List Object → ℕ → ℕ → ℕ → List Object
slot_set objects address i v = with_object objects address (set_word i v)

-- a word with its byte j replaced
abbrev pub with_byte_in : ℕ → ℕ → ℕ → ℕ
with_byte_in word j byte = word - byte_in word j * 256 ^ j + byte * 256 ^ j

abbrev pub byte_set : List Object → ℕ → ℕ → ℕ → List Object
byte_set objects address i byte =
    slot_set objects address (i / 4) (with_byte_in (slot_of objects address (i / 4)) (i % 4) byte)

abbrev pub hash_set : List Object → ℕ → ℕ → List Object
hash_set objects address hash = with_object objects address (λ x. record x { hash = hash })

abbrev pub fixed_set : List Object → ℕ → Bool → List Object
fixed_set objects address on = with_object objects address (λ x. record x { flags = with_immutable on x.flags })
