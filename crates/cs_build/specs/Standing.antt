-- The numbers of all objects of a text, as the code keeps them.
use Rattle.std.specs.Prelude.{◌≡◌, ℕ, ◌^◌, ◌<◌, Bool, true, List, length, map, drop, Option, is_some, option_map, position}
use Rattle.std.specs.List.{list_all}
use Rattle.std.specs.Str.{bytes_eq}
use Rattle.cs_model.specs.BuilderText as text
use Rattle.cs_model.specs.BuilderFault.{all_classes, is_named}
use Rattle.cs_model.specs.Builder.{all_forms, birth_where, is_process_named, method_birth, first_dictionary, symbols_of}
use Rattle.cs_build.specs.declared.classes.Classes.{Classes}
use Rattle.cs_build.specs.declared.numbering.Numbering.{Numbering}
use Rattle.cs_build.specs.Meaning.{form_by, class_by}
use Rattle.cs_build.specs.Numbered.{plain_names, name_number, method_entry, method_found}
use Rattle.cs_build.specs.Sound.{is_sound}
use Rattle.cs_build.specs.Counted.{AreCounted, own_number, body_in}

-- the lines of a text behind those of the known classes
unfoldable pub own_forms : List text.Form → List text.Form
own_forms all = drop 22 all

unfoldable pub forms_in : Numbering → List text.Form
forms_in n = own_forms (map form_by n.forms.now)

unfoldable pub symbol_names : List text.Form → List (List ℕ)
symbol_names forms = symbols_of forms

-- whether a line's object has a number, if the line begins a method
abbrev pub has_number : List text.Form → text.Form → Bool
has_number forms (text.Method line) = is_some (method_birth forms line.class line.selector)
has_number forms form = true

-- ---- classes

abbrev pub listed_classes : Classes → List text.ClassLine
listed_classes c = map class_by c.lines.items

abbrev pub listed_place : Classes → List ℕ → Option ℕ
listed_place c name = position (λ line. bytes_eq line.name name) (listed_classes c)

pub record AreClasses (c : Classes) : Type 0 where
  pub few : length c.lines.items < 2 ^ 28
  pub places : (name : List ℕ) → name_number c.places name ≡ listed_place c name

-- ---- all objects

-- what has a number has that of the model
pub record NumbersStandFor (n : Numbering) (forms : List text.Form) : Type 0 where
  pub whole : map form_by n.forms.now ≡ all_forms forms
  pub sound : list_all is_sound (map form_by n.forms.now) ≡ true
  pub lines_few : length n.forms.now < 2 ^ 26
  pub few : n.births.next < 2 ^ 28
  pub few_symbols : length n.symbols.keys < 2 ^ 28
  pub classes : AreClasses n.classes
  pub lines : listed_classes n.classes ≡ all_classes forms
  pub symbols : plain_names n.symbols.keys ≡ symbol_names forms
  pub next : n.births.next ≡ first_dictionary forms
  pub things : (q : List ℕ) → name_number n.births.things q ≡ birth_where forms (is_named q)
  pub contexts : (q : List ℕ) → name_number n.births.contexts q ≡ birth_where forms (is_process_named q)
  pub numbers : (c s : List ℕ) → option_map own_number (method_entry n.births.methods c s) ≡ method_birth forms c s
  pub bodies : (c s : List ℕ) → option_map body_in (method_entry n.births.methods c s) ≡ method_found c s forms
  pub counted : AreCounted n.births.methods

abbrev pub NumbersStand : Numbering → Type 0
NumbersStand n = NumbersStandFor n (forms_in n)
