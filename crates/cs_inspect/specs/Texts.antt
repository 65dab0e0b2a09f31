-- The printed text of what is read of a heap.
use Rattle.std.specs.Prelude.{ℕ, List, [], ◌++◌, codes, decimal}
use Rattle.std.specs.Option.{option_map_or}
use Rattle.cs_word.specs.Word.{natural_of_word}
use Rattle.cs_word.specs.declared.Oop.{Oop}
use Rattle.cs_heap.specs.Object.{Object, birth_at, slot_of}
use Rattle.cs_model.specs.Print.{object_text, pc_text, ref_text}
use Rattle.cs_classes.specs.Meaning.{meaning_at, ref_of}

-- the text of the object at an address
abbrev pub object_text_at : List Object → ℕ → List ℕ
object_text_at objects a = option_map_or object_text (meaning_at objects a) []

-- its line
abbrev pub line_at : List Object → Oop → List ℕ
line_at objects o = decimal (birth_at objects o.0) ++ object_text_at objects o.0 ++ codes "\n"

-- a name, and what the word in a slot refers to
abbrev pub slot_text : List Object → ℕ → List ℕ → ℕ → List ℕ
slot_text objects a name slot = name ++ ref_text (ref_of objects (slot_of objects a slot))

-- where a context stands, and what it is an activation of
abbrev pub return_text : List Object → ℕ → List ℕ
return_text objects a = slot_text objects a (codes " sender=") 0 ++ codes " pc=" ++ pc_text (natural_of_word (slot_of objects a 1))

abbrev pub activation_text : List Object → ℕ → List ℕ
activation_text objects a = slot_text objects a (codes " method=") 3 ++ slot_text objects a (codes " closure=") 4
    ++ slot_text objects a (codes " receiver=") 5 ++ codes ":"
