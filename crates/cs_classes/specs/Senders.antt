-- The senders of contexts.
use Rattle.std.specs.Prelude.{◌≡◌, ℕ, ◌||◌, true, Some}
use Rattle.cs_model.specs.Obj.{Context, Ctx, is_context_at}
use Rattle.cs_model.specs.State.{Kept, is_nil, object_at, object_of}

-- a context's sender is nil or a context
abbrev pub SenderStands : Kept → Context → Type 0
SenderStands k c = (is_nil k c.sender || is_context_at (object_of k c.sender)) ≡ true

-- so is that of each context
abbrev pub SendersStand : Kept → Type 0
SendersStand k = (i : ℕ) (c : Context) → object_at k i ≡ Some (Ctx c) → SenderStands k c
