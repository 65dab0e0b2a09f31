-- The class table as its entries.
use Rattle.std.specs.Prelude.{ℕ, suc, List, [], ◌∷◌, Option, Some, None}
use Rattle.cs_word.specs.declared.Oop.{Oop}

-- the entries that aren't empty, each with its index, counted from i
unfoldable pub filled : ℕ → List (Option Oop) → List (ℕ × ℕ)
filled i [] = []
filled i (None ∷ entries) = filled (suc i) entries
filled i (Some class ∷ entries) = (i, class.0) ∷ filled (suc i) entries
