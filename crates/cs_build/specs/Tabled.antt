-- What the tables of a text's lines hold: by name what the model looks for among the lines.
use Rattle.std.specs.Prelude.{◌≡◌, ◌≤◌, ℕ, ℤ, ◌+◌, ◌*◌, ◌&&◌, Bool, true, false, not, List, [], ◌∷◌, Option, Some, None, drop, length, nat_eq, is_some, is_none, option_map, option_and_then, count_by}
use Rattle.std.specs.Option.{option_map_or}
use Rattle.std.specs.List.{list_any}
use Rattle.std.specs.Borrow.{Bor}
use Rattle.std.specs.Cmp.Lexicographic.{pointwise}
use Rattle.indexmap.specs.IndexMap.{IndexMap, get_by}
use Rattle.cs_model.specs.BuilderText as text
use Rattle.cs_model.specs.BuilderFault.{byte_count, class_named, is_active_line, is_label_lost, is_literal, is_open, is_process_name, is_taken, label_place, line_bytes, method_named, open_body}
use Rattle.cs_build.specs.declared.tables.Named.{Named}
use Rattle.cs_build.specs.declared.tables.Named.TheVariants as named
use Rattle.cs_build.specs.declared.tables.Tables.{Tables}
use Rattle.cs_build.specs.declared.tables.Body.{Body}
use Rattle.cs_build.specs.declared.above.Above.{Above}
use Rattle.cs_build.specs.Lines.{forms_by}
use Rattle.cs_build.specs.Meaning.{class_by}

-- what a table has at a name, and at a class and a selector
abbrev pub entry_named : {V S : Type 0} → IndexMap (Bor (List ℕ)) V S → List ℕ → Option V
entry_named table name = get_by (λ key. pointwise nat_eq name key.now) table

abbrev pub entry_at_two : {V S : Type 0} → IndexMap (Bor (List ℕ) × Bor (List ℕ)) V S → List ℕ → List ℕ → Option V
entry_at_two table class selector =
    get_by (λ key. pointwise nat_eq class key.0.now && pointwise nat_eq selector key.1.now) table

-- the class that a name names, and whether it names a process
abbrev pub class_in_entry : Named → Option text.ClassLine
class_in_entry (named.Class line) = Some (class_by line)
class_in_entry named.Process = None
class_in_entry named.Object = None

abbrev pub is_process_entry : Named → Bool
is_process_entry (named.Class line) = false
is_process_entry named.Process = true
is_process_entry named.Object = false

-- how many bytes of code lines make
abbrev pub code_size : List text.Form → ℕ
code_size [] = 0
code_size (form ∷ forms) = byte_count form + code_size forms

-- the tables of names: classes, objects and processes
pub record AreNames {S : Type 0} (names : IndexMap (Bor (List ℕ)) Named S) (above : List text.Form) : Type 0 where
  pub taken : (name : List ℕ) → is_some (entry_named names name) ≡ is_taken above name
  pub classes : (name : List ℕ) → option_and_then class_in_entry (entry_named names name) ≡ class_named above name
  pub processes : (name : List ℕ) → option_map_or is_process_entry (entry_named names name) false ≡ is_process_name above name

-- the number of arguments of each method
pub record AreMethods {S : Type 0} (methods : IndexMap (Bor (List ℕ) × Bor (List ℕ)) ℤ S) (above : List text.Form) : Type 0 where
  pub arguments : (class selector : List ℕ)
      → entry_at_two methods class selector ≡ option_map (λ m. m.arguments) (method_named above class selector)

-- the labels, size and literals of the lines behind the last line that begins a method
pub record IsBody (body : Body) (above : List text.Form) : Type 0 where
  pub labels : (label : List ℕ) → entry_named body.labels label ≡ label_place (open_body above) label
  pub place : body.place ≡ code_size (open_body above)
  pub literals : body.literals ≡ count_by is_literal (open_body above)
  pub start : drop body.start above ≡ open_body above
  pub inside : body.start ≤ length above
  pub small : body.place ≤ 4 * length above
  pub few : body.literals ≤ length above

pub record AreTables (tables : Tables) (above : List text.Form) : Type 0 where
  pub names : AreNames tables.names above
  pub methods : AreMethods tables.methods above
  pub active : tables.has_active ≡ list_any is_active_line above
  pub open_end : tables.is_open ≡ is_open above
  pub body : IsBody tables.body above

-- ---- lines with their tables

abbrev pub above_by : Above → List text.Form
above_by above = forms_by above.lines.now

abbrev pub body_by : Above → List text.Form
body_by above = open_body (above_by above)

pub record IsAbove (above : Above) : Type 0 where
  pub tables : AreTables above.tables.now (above_by above)
  pub few : length above.lines.now ≤ 262144

-- a line of a body at a place has a label, if any, and makes no code
abbrev pub is_misfit : List text.Form → ℕ → text.Form → Bool
is_misfit body place form = not (is_label_lost body form) && is_none (line_bytes body place form)
