-- The state that the file of an image describes, or its first fault.
use Rattle.std.specs.Prelude.{ℕ, zero, suc, ◌*◌, ◌==◌, Bool, if◌then◌else◌, List, [], ◌∷◌, length, map, slice_index, zip, find, Option, Some, None, option_map, Result, Ok, Err}
use Rattle.std.specs.Option.{option_map_or, option_or}
use Rattle.std.specs.Ordering.{nat_cmp}
use Rattle.std.specs.FinMap.{FinMap, empty, insert, from_entries}
use Rattle.cs_model.specs.Ref.{Ref}
use Rattle.cs_model.specs.Ref as ref
use Rattle.cs_model.specs.Obj.{Obj, Head}
use Rattle.cs_model.specs.State.{Kept, Rest}
use Rattle.cs_model.specs.Words.{obj_by}
use Rattle.cs_model.specs.ImageFile.{special_address, last_hash_in, file_header, words_in, births_in, next_birth_in, FileObject, cut_of, File, file_of, visible, address_in}
use Rattle.cs_model.specs.ImageFault.{ImageFault, is_long_file, is_short, is_bad_format, is_bad_header_size, is_bad_profile, is_bad_length, bad_object, is_over, is_bad_table, bad_ref, bad_class, bad_context, is_bad_roots, is_bad_births, has_entry, entry_in, table_size}
use Rattle.cs_model.specs.ImageFault as fault

-- ---- the state

-- the birth of the object that a word names
abbrev pub birth_in : File → List ℕ → ℕ → ℕ
birth_in f births word = option_map_or (λ e. e.0) (find (λ e. address_in f e.1 == word) (zip births (visible f))) 0

abbrev pub head_in : FileObject → Head
head_in o = record { class = o.class; format = o.format; hash = o.hash; fixed = o.fixed }

abbrev pub object_in : File → List ℕ → FileObject → Obj
object_in f births o = obj_by (λ word. ref.Obj (birth_in f births word)) (head_in o) o.words

-- the classes of the indices below n, by birth
abbrev pub classes_in : File → List ℕ → ℕ → FinMap nat_cmp ℕ
classes_in f births zero = empty
classes_in f births (suc n) =
    if has_entry f n then insert (classes_in f births n) n (birth_in f births (entry_in f n)) else classes_in f births n

abbrev pub rest_in : List ℕ → File → List ℕ → Rest
rest_in bytes f births = record {
  nil = slice_index births 0;
  false_ = slice_index births 1;
  true_ = slice_index births 2;
  special = birth_in f births (special_address bytes);
  header = file_header bytes;
  classes = classes_in f births table_size;
  last_hash = last_hash_in bytes;
  next = next_birth_in bytes (length (visible f));
  active = None;
}

-- The state of a file without faults: its visible objects by their births, of which nil, false and true come first. No
-- context is active yet.
unfoldable pub described : List ℕ → Kept
described bytes = let f = file_of bytes in let births = births_in bytes (length (visible f)) in record {
  objects = from_entries (zip births (map (object_in f births) (visible f)));
  rest = rest_in bytes f births;
}

-- ---- the first fault

abbrev pub when : Bool → ImageFault → Option ImageFault
when b fault = if b then Some fault else None

-- a fault of a place, which its definition counts in words
abbrev pub at_word : (ℕ → ImageFault) → Option ℕ → Option ImageFault
at_word fault place = option_map (λ word. fault (4 * word)) place

-- the first that is there
abbrev pub first_of : List (Option ImageFault) → Option ImageFault
first_of [] = None
first_of (fault ∷ faults) = option_or fault (first_of faults)

-- the first fault of a file, for a heap of so many words; within one kind it is that of the lowest place
unfoldable pub image_fault : List ℕ → ℕ → Option ImageFault
image_fault bytes limit = let f = file_of bytes in first_of (
    when (is_long_file bytes) fault.TooLong
    ∷ when (is_short bytes) fault.Short
    ∷ when (is_bad_format bytes) fault.BadFormat
    ∷ when (is_bad_header_size bytes) fault.BadHeaderSize
    ∷ when (is_bad_profile bytes) fault.BadProfile
    ∷ when (is_bad_length bytes) fault.BadLength
    ∷ at_word fault.BadObject (bad_object (cut_of (words_in bytes)))
    ∷ when (is_over f limit) fault.OverLimit
    ∷ when (is_bad_table f) fault.BadTable
    ∷ at_word fault.BadRef (bad_ref f)
    ∷ at_word fault.BadClass (bad_class f)
    ∷ at_word fault.BadContext (bad_context f)
    ∷ when (is_bad_roots f (special_address bytes)) fault.BadRoots
    ∷ when (is_bad_births bytes (length (visible f))) fault.BadBirths
    ∷ [])

-- the state that a file describes, or its first fault
abbrev pub state_unless : Option ImageFault → Kept → Result Kept ImageFault
state_unless None k = Ok k
state_unless (Some fault) k = Err fault

unfoldable pub image_of : List ℕ → ℕ → Result Kept ImageFault
image_of bytes limit = state_unless (image_fault bytes limit) (described bytes)
