-- What the loader answers where the file has a fault.
use Rattle.std.specs.Prelude.{◌≡◌, ℕ, List, [], ◌∷◌, Option, Some, None, Result, Ok, Err, ⊤}
use Rattle.cs_model.specs.Image.{at_word, first_of, when}
use Rattle.cs_model.specs.ImageFile.{File}
use Rattle.cs_model.specs.ImageFault.{ImageFault, is_long_file, is_short, is_bad_format, is_bad_header_size, is_bad_profile, is_bad_length}
use Rattle.cs_model.specs.ImageFault.{is_bad_table, bad_ref, bad_class, bad_context, is_bad_roots}
use Rattle.cs_model.specs.ImageFault as fault
use Rattle.cs_image.specs.declared.error.ImageError.{ImageError}
use Rattle.cs_image.specs.declared.error.ImageError.TheVariants as error

-- A file or a part of it was looked through, in which this is the first fault: the answer is Ok exactly where there is none,
-- and then P holds of its value; or it tells that fault. Want of memory is free.
abbrev pub Tells : {X : Type 0} → Option ImageFault → (X → Type 0) → Result X ImageError → Type 0
Tells first P (Ok x) = (first ≡ None) × P x
Tells first P (Err error.TooLong) = first ≡ Some fault.TooLong
Tells first P (Err error.Short) = first ≡ Some fault.Short
Tells first P (Err error.BadFormat) = first ≡ Some fault.BadFormat
Tells first P (Err error.BadHeaderSize) = first ≡ Some fault.BadHeaderSize
Tells first P (Err error.BadProfile) = first ≡ Some fault.BadProfile
Tells first P (Err error.BadLength) = first ≡ Some fault.BadLength
Tells first P (Err (error.BadObject at)) = first ≡ Some (fault.BadObject at)
Tells first P (Err error.OverLimit) = first ≡ Some fault.OverLimit
Tells first P (Err error.BadTable) = first ≡ Some fault.BadTable
Tells first P (Err (error.BadRef at)) = first ≡ Some (fault.BadRef at)
Tells first P (Err (error.BadClass at)) = first ≡ Some (fault.BadClass at)
Tells first P (Err (error.BadContext at)) = first ≡ Some (fault.BadContext at)
Tells first P (Err error.BadRoots) = first ≡ Some fault.BadRoots
Tells first P (Err error.BadBirths) = first ≡ Some fault.BadBirths
Tells first P (Err error.NoMemory) = ⊤

-- the faults of the header, which come first
abbrev pub header_fault : List ℕ → Option ImageFault
header_fault bytes = first_of (
    when (is_long_file bytes) fault.TooLong
    ∷ when (is_short bytes) fault.Short
    ∷ when (is_bad_format bytes) fault.BadFormat
    ∷ when (is_bad_header_size bytes) fault.BadHeaderSize
    ∷ when (is_bad_profile bytes) fault.BadProfile
    ∷ when (is_bad_length bytes) fault.BadLength
    ∷ [])

-- the faults of the objects of a whole heap for which there is room
abbrev pub objects_fault : File → ℕ → Option ImageFault
objects_fault f special = first_of (
    when (is_bad_table f) fault.BadTable
    ∷ at_word fault.BadRef (bad_ref f)
    ∷ at_word fault.BadClass (bad_class f)
    ∷ at_word fault.BadContext (bad_context f)
    ∷ when (is_bad_roots f special) fault.BadRoots
    ∷ [])
