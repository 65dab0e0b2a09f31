-- What is read of the heap by a word.
use Rattle.std.specs.Prelude.{◌≡◌, ℕ, ◌+◌, ◌*◌, Bool, true, not, ◌==◌, ◌&&◌, if◌then◌else◌, nat_le, nat_lt, List, [], ◌∷◌, length, Option, Some, None}
use Rattle.cs_word.specs.declared.Oop.{Oop}
use Rattle.cs_word.specs.declared.Kind.{Kind}
use Rattle.cs_word.specs.declared.Kind.TheVariants as kind
use Rattle.cs_word.specs.Word.{kind_of}
use Rattle.cs_heap.specs.Format.{is_pointers}
use Rattle.cs_heap.specs.Object.{Object, byte_of, class_at, format_at, is_immutable_at, is_object, heap_object, slot_count_of}
use Rattle.cs_model.specs.Obj as obj
use Rattle.cs_model.specs.Obj.{context_class}
use Rattle.cs_model.specs.State.{Kept, object_of}
use Rattle.cs_classes.specs.Meaning.{is_heap_context}
use Rattle.cs_acts.specs.Names.{Store, IsNamed, name_of}

abbrev pub object_of_kind : List Object → Kind → Option Object
object_of_kind objects (kind.Small value) = None
object_of_kind objects (kind.Character code) = None
object_of_kind objects (kind.Object address) = heap_object objects address
object_of_kind objects (kind.Link word) = None

-- the object whose address a word is
abbrev pub object_named : List Object → ℕ → Option Object
object_named objects word = object_of_kind objects (kind_of word)

-- the words of a pointer object with at least n slots; a context is none
abbrev pub slots_if : ℕ → Option Object → Option (List ℕ)
slots_if n None = None
slots_if n (Some x) = if is_heap_context x then None else if is_pointers x.format then (if nat_le n (length x.words) then Some x.words else None) else None

unfoldable pub pointer_words : List Object → ℕ → ℕ → Option (List ℕ)
pointer_words objects n word = slots_if n (object_named objects word)

-- a word is the address of a context
abbrev pub is_context_word : List Object → ℕ → Bool
is_context_word objects word = is_object objects word && class_at objects word == context_class

-- a word is the address of a read-only object
abbrev pub is_read_only_at : List Object → ℕ → Bool
is_read_only_at objects word = is_object objects word && is_immutable_at objects word

abbrev pub class_index_of_kind : List Object → Kind → ℕ
class_index_of_kind objects (kind.Small value) = 1
class_index_of_kind objects (kind.Character code) = 2
class_index_of_kind objects (kind.Object address) = class_at objects address
class_index_of_kind objects (kind.Link word) = 0

-- the class index of what a word names
unfoldable pub word_class : List Object → ℕ → ℕ
word_class objects word = class_index_of_kind objects (kind_of word)

-- byte i of an object, where it is before the end; else 0
abbrev pub byte_before : List Object → ℕ → ℕ → ℕ → ℕ
byte_before objects address i end = if nat_lt i end then byte_of objects address i else 0

-- the three bytes behind place at
abbrev pub further_bytes : List Object → ℕ → ℕ → ℕ → List ℕ
further_bytes objects address at end =
    byte_before objects address (at + 1) end ∷ byte_before objects address (at + 2) end ∷ byte_before objects address (at + 3) end ∷ []

-- a number behind the bytecode 139, the lower byte first: three bytes before the end
abbrev pub bounded_number : List Object → ℕ → ℕ → ℕ → Option ℕ
bounded_number objects address first end =
    if nat_le (first + 3) end && byte_of objects address first == 139 then Some (byte_of objects address (first + 1) + 256 * byte_of objects address (first + 2)) else None

-- the word names a method of the state
pub record IsMethodNamed (s : Store) (k : Kept) (o : Oop) : Type 0 where
  pub named : IsNamed s o
  pub method : obj.is_method (object_of k (name_of s o)) ≡ true
