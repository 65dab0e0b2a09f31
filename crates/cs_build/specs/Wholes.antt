-- All objects of a text, and its class table, as lists.
use Rattle.std.specs.Prelude.{◌≡◌, ℕ, ◌+◌, ◌*◌, ◌/◌, ◌≤◌, List, codes, length, map, sum_by, fold, replicate, slice_set, unwrap_or, Ok}
use Rattle.cs_model.specs.Obj.{Obj, words_of}
use Rattle.cs_model.specs.Image.{image_of}
use Rattle.cs_model.specs.SavedFile.{saved_bytes}
use Rattle.cs_model.specs.BuilderText.{Form, ClassLine}
use Rattle.cs_model.specs.BuilderFault.{all_classes}
use Rattle.cs_model.specs.Builder.{class_index, named_birth, text_objects, text_state}
use Rattle.cs_build.specs.Laid.{Laid, laid, laid_size, file_for}

unfoldable pub objects_made : List Form → List Obj
objects_made forms = text_objects forms

-- a class's number, at its index
abbrev pub class_entered : List Form → List ℕ → ClassLine → List ℕ
class_entered forms table line = slice_set table (class_index forms line.name) (unwrap_or (named_birth forms line.name) 0)

-- the entries of whole pages of 1,024, in which the classes of these lines stand, and SmallInteger by two indices
abbrev pub table_by : List Form → List ClassLine → List ℕ
table_by forms lines = slice_set (fold (class_entered forms) (replicate (1024 * ((length lines + 1053) / 1024)) 0) lines) 3
    (unwrap_or (named_birth forms (codes "SmallInteger")) 0)

unfoldable pub table_made : List Form → List ℕ
table_made forms = table_by forms (all_classes forms)

-- how many bytes the file of objects and a class table of so many pages has
abbrev pub file_size : List Laid → ℕ → ℕ
file_size ls pages = 64 + 4 * (laid_size ls + 22 + 1028 * pages)

-- the bytes of the file of a text's lines
unfoldable pub file_bytes : List Form → List ℕ
file_bytes forms = saved_bytes (file_for (map laid (objects_made forms)) (table_made forms))

-- In a heap that has room for all objects, bytes are an image of the state of a text's lines.
abbrev pub IsImageOf : List ℕ → List Form → Type 0
IsImageOf bytes forms = (limit : ℕ) → sum_by words_of (text_objects forms) ≤ limit → image_of bytes limit ≡ Ok (text_state forms)
