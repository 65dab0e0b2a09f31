-- The number that a word is.
use Rattle.std.proofs.Common.{◌≡◌, ◌∙◌, sym}
use Rattle.cs_word.specs.declared.Oop.{Oop}
use Rattle.cs_word.specs.Word.{natural_of_word}
use Rattle.cs_model.specs.Ref.{small_index}
use Rattle.cs_classes.proofs.Refs.{index_of-ref_of}
use Rattle.cs_acts.specs.Names.{IsNamed, Store, name_of}

-- as a reference and as a word it is the same
pub natural_name : (s : Store) (o : Oop) → IsNamed s o → small_index (name_of s o) ≡ natural_of_word o.0
natural_name s o named = index_of-ref_of s.memory.objects o.0 named
