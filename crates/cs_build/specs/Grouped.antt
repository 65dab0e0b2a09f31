-- The methods of each class of a text, as the code keeps them, and what is made of them.
use Rattle.std.specs.Prelude.{◌≡◌, ℕ, List, [], ◌∷◌, Vec, map, flat_map}
use Rattle.std.specs.Option.{option_map_or}
use Rattle.std.specs.List.{enumerate_from}
use Rattle.std.specs.Borrow.{Bor}
use Rattle.indexmap.specs.IndexMap.{IndexMap}
use Rattle.cs_model.specs.Obj.{Obj}
use Rattle.cs_model.specs.BuilderText as text
use Rattle.cs_model.specs.BuilderFault.{all_classes}
use Rattle.cs_model.specs.Builder.{dictionary_object, dictionary_objects, values_object, methods_of, raw_object}
use Rattle.cs_build.specs.declared.form.MethodLine.{MethodLine}
use Rattle.cs_build.specs.Meaning.{method_line_by}
use Rattle.cs_build.specs.Numbered.{name_number}
use Rattle.cs_build.specs.Standing.{symbol_names}

-- the methods of a class
abbrev pub group_at : {Z S : Type 0} → IndexMap (Bor (List ℕ)) (Vec MethodLine Z) S → List ℕ → List text.MethodLine
group_at groups q = option_map_or (λ v. map method_line_by v.items) (name_number groups q) []

pub record AreGroups {Z S : Type 0} (groups : IndexMap (Bor (List ℕ)) (Vec MethodLine Z) S) (forms : List text.Form) : Type 0 where
  pub at : (q : List ℕ) → group_at groups q ≡ methods_of forms q

-- the dictionaries of all classes and their arrays, and the symbols
unfoldable pub all_dictionaries : List text.Form → List Obj
all_dictionaries forms = flat_map (λ e. dictionary_objects forms e.0 e.1) (enumerate_from 0 (all_classes forms))

abbrev pub symbol_objects : List text.Form → List Obj
symbol_objects forms = map (raw_object 41) (symbol_names forms)

-- the dictionary of the class at a place, which has these methods, and its array
abbrev pub dictionary_pair : List text.Form → ℕ → List text.MethodLine → List Obj
dictionary_pair forms place methods = dictionary_object forms place methods ∷ values_object forms methods ∷ []
