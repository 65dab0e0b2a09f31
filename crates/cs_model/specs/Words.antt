-- What the words of an object mean in 32-bit Spur, wherever they lie: in a file or in the object memory. Which object a
-- word names is left open here, for a file and a memory have addresses of their own.
use Rattle.std.specs.Prelude.{ℕ, ℤ, pos, ◌+◌, ◌-◌, ◌*◌, ◌/◌, ◌%◌, ◌^◌, ◌-ℤ◌, ◌==◌, ◌&&◌, ◌||◌, Bool, nat_le, nat_lt, if◌then◌else◌, List, [], ◌∷◌, map, length, take, drop, slice_index, Option, None, unwrap_or}
use Rattle.cs_model.specs.Ref.{Ref, Small, Char, natural_of}
use Rattle.cs_model.specs.Obj.{Obj, Head, Ptr, Raw, Method, Ctx, Context, context_class, context_fields, literal_count}

-- ---- words

-- the word shifted right by one, as a signed number
abbrev pub small_value : ℕ → ℤ
small_value word = if nat_lt word (2 ^ 31) then pos (word / 2) else pos (word / 2) -ℤ pos (2 ^ 31)

-- what a word is by its low bits: 1 a SmallInteger, 10 a Character, and else the object that it names
abbrev pub ref_by : (ℕ → Ref) → ℕ → Ref
ref_by named word = if word % 2 == 1 then Small (small_value word) else (if word % 4 == 2 then Char (word / 4) else named word)

-- a word that is a SmallInteger and isn't negative, as a number
abbrev pub natural_in_word : ℕ → Option ℕ
natural_in_word word = if word % 2 == 1 then natural_of (small_value word) else None

-- byte j of a word, counted from the lowest
abbrev pub byte_in : ℕ → ℕ → ℕ
byte_in word j = word / 256 ^ j % 256

-- the bytes of these words, the lowest of each first
unfoldable pub bytes_of_words : List ℕ → List ℕ
bytes_of_words [] = []
bytes_of_words (w ∷ words) = byte_in w 0 ∷ byte_in w 1 ∷ byte_in w 2 ∷ byte_in w 3 ∷ bytes_of_words words

-- ---- formats

-- 0 no fields; 1 named, 2 indexed, 3 named and indexed fields; 4 weak; 5 ephemeron
abbrev pub is_pointer_format : ℕ → Bool
is_pointer_format format = nat_lt format 6

-- 9 units of 64 bits; 10 of 32; 12 and 13 of 16; 16 to 19 bytes
abbrev pub is_raw_format : ℕ → Bool
is_raw_format format = format == 9 || format == 10 || format == 12 || format == 13 || nat_le 16 format && nat_lt format 20

-- 24 to 27 compiled methods
abbrev pub is_method_format : ℕ → Bool
is_method_format format = nat_le 24 format && nat_lt format 28

-- how many units at the end of the last slot are unused: units of 16 bits in 12 and 13, else bytes
abbrev pub unused_units : ℕ → ℕ
unused_units format = if nat_le 24 format then format - 24 else (if nat_le 16 format then format - 16 else format - 12)

abbrev pub unused_bytes : ℕ → ℕ
unused_bytes format = if nat_le 16 format then unused_units format else 2 * unused_units format

-- an object of this format may have so many slots: none without fields, pairs for units of 64 bits, and at least one
-- where units are unused
abbrev pub has_shape : ℕ → ℕ → Bool
has_shape format slots = (is_pointer_format format || is_raw_format format || is_method_format format)
    && (if format == 0 then slots == 0 else
    (if format == 9 then slots % 2 == 0 else unused_units format == 0 || nat_lt 0 slots))

-- weak objects are read as ones with named and indexed fields, and ephemerons as ones with named fields
abbrev pub plain_format : ℕ → ℕ
plain_format format = if format == 4 then 3 else (if format == 5 then 1 else format)

-- ---- methods

-- a method's first word is its header, a SmallInteger
abbrev pub header_in_words : List ℕ → ℕ
header_in_words words = unwrap_or (natural_in_word (slice_index words 0)) 0

abbrev pub literals_in_words : List ℕ → List ℕ
literals_in_words words = take (literal_count (header_in_words words)) (drop 1 words)

-- how many bytes stand behind the literals of a method of this format
abbrev pub bytecode_count : ℕ → List ℕ → ℕ
bytecode_count format words = 4 * (length words - (1 + literal_count (header_in_words words))) - unused_bytes format

abbrev pub bytecodes_in_words : ℕ → List ℕ → List ℕ
bytecodes_in_words format words =
    take (bytecode_count format words) (bytes_of_words (drop (1 + literal_count (header_in_words words)) words))

-- ---- objects

-- a raw object's bytes
abbrev pub bytes_in_words : ℕ → List ℕ → List ℕ
bytes_in_words format words = take (4 * length words - unused_bytes format) (bytes_of_words words)

-- A context's words are sender, pc, stackp, method, closure, receiver and its stack. A pc that is no SmallInteger is nil,
-- and a stackp that is none is 0.
abbrev pub stackp_in_words : List ℕ → ℕ
stackp_in_words words = unwrap_or (natural_in_word (slice_index words 2)) 0

abbrev pub context_by : (ℕ → Ref) → ℕ → List ℕ → Context
context_by named hash words = record {
  hash = hash;
  sender = ref_by named (slice_index words 0);
  pc = natural_in_word (slice_index words 1);
  method = ref_by named (slice_index words 3);
  closure = ref_by named (slice_index words 4);
  receiver = ref_by named (slice_index words 5);
  stack = map (ref_by named) (take (stackp_in_words words) (drop context_fields words));
  size = length words - context_fields;
}

abbrev pub plain : Head → Head
plain head = record head { format = plain_format head.format }

-- the object of this head with these words
unfoldable pub obj_by : (ℕ → Ref) → Head → List ℕ → Obj
obj_by named head words =
    if head.class == context_class then Ctx (context_by named head.hash words)
    else (if is_pointer_format head.format then Ptr (plain head) (map (ref_by named) words)
    else (if is_method_format head.format
    then Method head (header_in_words words) (map (ref_by named) (literals_in_words words)) (bytecodes_in_words head.format words)
    else Raw head (bytes_in_words head.format words)))
