-- Which primitive a number names.
use Rattle.std.specs.Prelude.{◌≡◌, ◌⊎◌, ℕ, false, Option, Some, None}
use Rattle.cs_unwind.specs.Blocks.{wanted_by}
use Rattle.cs_unwind.specs.Primitive.{unwinds}
use Rattle.cs_unwind.specs.declared.numbers.Primitive.{Primitive}
use Rattle.cs_unwind.specs.declared.numbers.Primitive.TheVariants.{FindUnwindMark, FindHandlerMark, Mark, Evaluate, EvaluateArray}

-- this is the number of a primitive, or that of none
abbrev pub HasNumber : Option Primitive → ℕ → Type 0
HasNumber None number = unwinds number ≡ false
HasNumber (Some FindUnwindMark) number = number ≡ 195
HasNumber (Some FindHandlerMark) number = number ≡ 197
HasNumber (Some Mark) number = (number ≡ 198) ⊎ (number ≡ 199)
HasNumber (Some (Evaluate args)) number = wanted_by number ≡ Some args
HasNumber (Some EvaluateArray) number = number ≡ 206
