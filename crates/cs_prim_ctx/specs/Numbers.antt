-- The primitives of this crate.
use Rattle.std.specs.Prelude.{ℕ, ◌==◌, ◌&&◌, ◌||◌, Bool}
use Rattle.cs_model.specs.State.{Kept}
use Rattle.cs_model.specs.Context.{is_context_ref}
use Rattle.cs_model.specs.PrimAnswer.{receiver}

-- 210 and 212, and 73 where the receiver below the arguments is a context
abbrev pub reads_context : Kept → ℕ → ℕ → Bool
reads_context k number args = number == 210 || number == 212 || (number == 73 && is_context_ref k (receiver k args))
