-- What the output of one primitive is: one byte, or the bytes of a byte object.
use Rattle.std.specs.Prelude.{◌≡◌, ℕ, ◌&&◌, Bool, true, nat_le, nat_lt, List, [], ◌∷◌}
use Rattle.std.specs.Option.{option_map_or}
use Rattle.cs_model.specs.Words.{bytes_of_words}
use Rattle.cs_word.specs.declared.Oop.{Oop}
use Rattle.cs_heap.specs.Object.{Object, format_at, is_object, heap_object}
use Rattle.cs_classes.specs.Meaning.{used_bytes}
use Rattle.cs_core.specs.declared.primitive.Piece.{Piece}
use Rattle.cs_core.specs.declared.primitive.Piece.TheVariants.{Byte, Bytes}

-- the formats of objects that hold bytes
abbrev pub is_byte_format : ℕ → Bool
is_byte_format format = nat_le 16 format && nat_lt format 20

-- a word is the address of a byte object
abbrev pub is_bytes_at : List Object → ℕ → Bool
is_bytes_at objects word = is_object objects word && is_byte_format (format_at objects word)

-- the used bytes of the object at an address
abbrev pub bytes_at : List Object → ℕ → List ℕ
bytes_at objects address = option_map_or (λ x. used_bytes x.format x.words) (heap_object objects address) []

-- the same with the unused ones at its end
abbrev pub all_bytes_at : List Object → ℕ → List ℕ
all_bytes_at objects address = option_map_or (λ x. bytes_of_words x.words) (heap_object objects address) []

-- the bytes that a piece is
abbrev pub bytes_of_piece : List Object → Piece → List ℕ
bytes_of_piece objects (Byte byte) = byte ∷ []
bytes_of_piece objects (Bytes object) = bytes_at objects object.0

-- the object of a piece is there, and holds bytes
abbrev pub is_piece : List Object → Piece → Bool
is_piece objects (Byte byte) = true
is_piece objects (Bytes object) = is_bytes_at objects object.0

-- the object of a piece is no other one than this
abbrev pub IsPieceOf : Oop → Piece → Type 0
IsPieceOf argument (Byte byte) = Unit {0}
IsPieceOf argument (Bytes object) = object ≡ argument
