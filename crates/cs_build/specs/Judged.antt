-- What the lines of a text are, where the text has no fault.
use Rattle.std.specs.Prelude.{◌≡◌, ◌≤◌, ◌&&◌, Bool, true, false, not, Some, List, [], ◌∷◌, ◌++◌, length, if◌then◌else◌, ⊤}
use Rattle.std.specs.List.{AllByRecursion, list_all}
use Rattle.cs_model.specs.BuilderText.{Form, Literal, Byte, Label, Plain, JumpTo, ClosureTo, End, is_inside}
use Rattle.cs_model.specs.BuilderFault.{all_classes, has_names, is_in_range, is_known, is_open, is_twice, mentions_in}
use Rattle.cs_model.specs.Builder.{symbols_of}
use Rattle.cs_build.specs.Stored.{IsByte}
use Rattle.cs_model.specs.BuilderText as text

-- a line behind those above it
pub record IsJudgedLine (above : List Form) (form : Form) : Type 0 where
  pub new : is_twice above form ≡ false
  pub fits : is_in_range above form ≡ true
  pub names : has_names above form ≡ true

abbrev pub HasBytes : Form → Type 0
HasBytes (text.Bytes name class bytes) = AllByRecursion IsByte bytes
HasBytes form = ⊤

-- whether a line stands in a method, behind its first one
abbrev pub is_inner : Form → Bool
is_inner (Literal value) = true
is_inner (Byte value) = true
is_inner (Label name) = true
is_inner (Plain op) = true
is_inner (JumpTo word label) = true
is_inner (ClosureTo copied args label) = true
is_inner End = true
is_inner form = false

-- The lines that stand in methods are those behind a method's first one, up to its end.
abbrev pub are_nested : Bool → List Form → Bool
are_nested inside [] = true
are_nested inside (form ∷ forms) =
    (if inside then is_inner form else not (is_inner form)) && are_nested (is_inside inside (Some form)) forms

pub record IsJudged (forms : List Form) : Type 0 where
  pub lines : (above : List Form) (form : Form) (below : List Form) → forms ≡ (above ++ (form ∷ below)) → IsJudgedLine above form
  pub known : list_all (λ form. list_all (is_known forms) (mentions_in form)) forms ≡ true
  pub closed : is_open forms ≡ false
  pub nested : are_nested false forms ≡ true
  pub few : length forms ≤ 262144
  pub few_classes : length (all_classes forms) ≤ 16354
  pub symbols : AllByRecursion (λ name. AllByRecursion IsByte name) (symbols_of forms)
  pub bytes : AllByRecursion HasBytes forms
