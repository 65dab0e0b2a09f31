-- The primitives of this crate.
use Rattle.std.specs.Prelude.{ℕ, ◌==◌, ◌&&◌, ◌||◌, Bool, nat_le, if◌then◌else◌}
use Rattle.cs_model.specs.State.{Kept}
use Rattle.cs_model.specs.PrimTable.{evaluates}
use Rattle.cs_model.specs.PrimAnswer.{argument}
use Rattle.cs_model.specs.Send.{elements_fitting, spread_of}
use Rattle.cs_model.specs.End.{given}

-- 195 and 197 look for marks, and 198 and 199 are marks
abbrev pub is_about_marks : ℕ → Bool
is_about_marks number = number == 195 || (nat_le 197 number && nat_le number 199)

-- besides, 201 to 206, 221 and 222 evaluate a closure
abbrev pub unwinds : ℕ → Bool
unwinds number = is_about_marks number || evaluates number

-- the state from which the block is entered: 206 has the elements of its Array on the stack by then
abbrev pub entered_from : Kept → ℕ → Kept
entered_from k number = if number == 206 then given (elements_fitting k 1 (argument k 1 0)) k (λ values. spread_of k 1 values) else k
