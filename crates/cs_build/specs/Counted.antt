-- The numbers that the lines of a text have so far.
use Rattle.std.specs.Prelude.{◌≡◌, ℕ, ◌+◌, List, map, count_by, sum_by, option_map, IfSome}
use Rattle.std.specs.Option.{option_or}
use Rattle.std.specs.Borrow.{Bor}
use Rattle.indexmap.specs.IndexMap.{IndexMap}
use Rattle.cs_model.specs.BuilderText as text
use Rattle.cs_model.specs.BuilderFault.{is_named, is_literal, place_where}
use Rattle.cs_model.specs.Builder.{object_count, first_class, is_process_named, is_method_of}
use Rattle.cs_build.specs.declared.numbering.Births.{Births}
use Rattle.cs_build.specs.declared.numbering.Numbered.{Numbered}
use Rattle.cs_build.specs.Meaning.{form_by, method_line_by}
use Rattle.cs_build.specs.Numbered.{name_number, method_entry, method_found}

abbrev pub own_number : Numbered → ℕ
own_number m = m.number

-- a method's first line and the lines behind it
abbrev pub body_in : Numbered → text.MethodLine × List text.Form
body_in m = (method_line_by m.line, map form_by m.body.now)

-- each method has so many literals as it says
abbrev pub AreCounted : {S : Type 0} → IndexMap (Bor (List ℕ) × Bor (List ℕ)) Numbered S → Type 0
AreCounted methods = (c s : List ℕ) → IfSome (method_entry methods c s) (λ m. m.literals ≡ count_by (λ form. is_literal (form_by form)) m.body.now)

-- What has a number so far, and the rest of the lines, give together the numbers of all.
pub record Counts (b : Births) (forms rest : List text.Form) : Type 0 where
  pub next : b.next + sum_by object_count rest ≡ first_class + sum_by object_count forms
  pub things : (q : List ℕ) → option_or (name_number b.things q) (place_where object_count (is_named q) b.next rest)
      ≡ place_where object_count (is_named q) first_class forms
  pub contexts : (q : List ℕ) → option_or (name_number b.contexts q) (place_where object_count (is_process_named q) b.next rest)
      ≡ place_where object_count (is_process_named q) first_class forms
  pub numbers : (c s : List ℕ) → option_or (option_map own_number (method_entry b.methods c s)) (place_where object_count (is_method_of c s) b.next rest)
      ≡ place_where object_count (is_method_of c s) first_class forms
  pub bodies : (c s : List ℕ) → option_or (option_map body_in (method_entry b.methods c s)) (method_found c s rest) ≡ method_found c s forms
  pub counted : AreCounted b.methods
