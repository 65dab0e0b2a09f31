-- Lines of a text whose numbers fit, and the labels of a method.
use Rattle.std.specs.Prelude.{◌≡◌, ℕ, ◌^◌, ◌<◌, ◌&&◌, Bool, true, List, IfSome}
use Rattle.std.specs.Borrow.{Bor}
use Rattle.indexmap.specs.IndexMap.{IndexMap}
use Rattle.cs_model.specs.BuilderText.{Form, Class, Method, Process, Byte}
use Rattle.cs_model.specs.BuilderFault.{is_between, label_place, method_fits}
use Rattle.cs_build.specs.Numbered.{name_number}

-- the numbers of a line fit what is made of it
abbrev pub is_sound : Form → Bool
is_sound (Class line) = is_between 0 31 line.format && is_between 0 65535 line.fields
is_sound (Method line) = method_fits line
is_sound (Process line) = is_between 1 8 line.priority
is_sound (Byte value) = is_between 0 255 value
is_sound form = true

-- the places of a method's labels
pub record AreLabels {S : Type 0} (places : IndexMap (Bor (List ℕ)) ℕ S) (body : List Form) : Type 0 where
  pub at : (q : List ℕ) → name_number places q ≡ label_place body q
  pub few : (q : List ℕ) → IfSome (name_number places q) (λ place. place < 2 ^ 28)
