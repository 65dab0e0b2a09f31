-- Where the objects of a file go in memory, and what they are there.
use Rattle.std.specs.Prelude.{ℕ, zero, suc, ◌+◌, ◌*◌, ◌%◌, ◌==◌, ◌&&◌, ◌||◌, not, Bool, nat_le, if◌then◌else◌, List, [], ◌∷◌, length, map, slice_index, slice_set, Option, Some, None, option_map}
use Rattle.std.specs.Option.{option_map_or}
use Rattle.std.specs.List.{range_with_len}
use Rattle.std.specs.Ordering.{nat_cmp}
use Rattle.std.specs.FinMap.{FinMap, empty, insert}
use Rattle.cs_word.specs.Header.{with_immutable}
use Rattle.cs_model.specs.Obj.{context_class, literal_count}
use Rattle.cs_model.specs.Words.{is_pointer_format, is_method_format, header_in_words, plain_format}
use Rattle.cs_model.specs.ImageFile.{FileObject, File, is_visible, address_in}
use Rattle.cs_model.specs.ImageFault.{has_entry, entry_in}
use Rattle.cs_heap.specs.Object.{Object, base, header_address, no_flags, size}

-- which element passes first
abbrev pub number_that : {X : Type 0} → (X → Bool) → List X → Option ℕ
number_that passes [] = None
number_that passes (x ∷ xs) = if passes x then Some 0 else option_map suc (number_that passes xs)

-- The addresses in memory of these objects of a file, where so many words are used already. A hidden object has none, and
-- stands with 0.
unfoldable pub addresses_of : List FileObject → ℕ → List ℕ
addresses_of [] used = []
addresses_of (o ∷ objects) used = if is_visible o
    then header_address (base + 4 * used) (length o.words) ∷ addresses_of objects (used + size (length o.words))
    else 0 ∷ addresses_of objects used

-- the address in memory of the object that a word names
unfoldable pub address_named : File → ℕ → ℕ
address_named f word = option_map_or (λ k. slice_index (addresses_of f.objects 0) k) (number_that (λ o. address_in f o == word) f.objects) 0

-- the word of memory for a word of the file that may name an object
abbrev pub translated : File → ℕ → ℕ
translated f word = if word % 4 == 0 then address_named f word else word

-- slot i may name an object: each of a pointer object, and a method's literals
abbrev pub refers : ℕ → List ℕ → ℕ → Bool
refers format words i = is_pointer_format format
    || is_method_format format && (nat_le 1 i && nat_le i (literal_count (header_in_words words)))

unfoldable pub loaded_word : File → ℕ → List ℕ → ℕ → ℕ
loaded_word f format words i = if refers format words i then translated f (slice_index words i) else slice_index words i

-- the first n elements written one by one
abbrev pub values_written : ℕ → (ℕ → ℕ) → List ℕ → List ℕ
values_written zero value xs = xs
values_written (suc i) value xs = slice_set (values_written i value xs) i (value i)

-- an object of the file as it stands in memory, with this birth; a context is never read-only
abbrev pub loaded : File → ℕ → FileObject → Object
loaded f birth o = record {
  class = o.class;
  flags = with_immutable (o.fixed && not (o.class == context_class)) no_flags;
  format = plain_format o.format;
  hash = o.hash;
  birth = birth;
  words = map (loaded_word f o.format o.words) (range_with_len 0 (length o.words));
}

-- with these births, from number k on
abbrev pub loaded_from : File → List ℕ → ℕ → List FileObject → List Object
loaded_from f births k [] = []
loaded_from f births k (o ∷ objects) = loaded f (slice_index births k) o ∷ loaded_from f births (k + 1) objects

-- the addresses of the classes of the indices below n
abbrev pub classes_at : File → ℕ → FinMap nat_cmp ℕ
classes_at f zero = empty
classes_at f (suc n) = if has_entry f n then insert (classes_at f n) n (address_named f (entry_in f n)) else classes_at f n
