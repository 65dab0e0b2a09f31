-- What opening an image makes of its state.
use Rattle.std.specs.Prelude.{option_and_then}
use Rattle.cs_model.specs.Ref.{Ref, named_object}
use Rattle.cs_model.specs.State.{Kept}
use Rattle.cs_model.specs.Settle.{context_kept, open_at}

-- the context that a process keeps is active, and the process keeps nil
abbrev pub taken_of : Kept → Ref → Kept
taken_of k p = open_at k p (option_and_then (λ x. named_object x) (context_kept k p))
