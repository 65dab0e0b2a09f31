-- A store into a slot, with a value that may still be on the stack.
use Rattle.std.specs.Prelude.{Bool, if◌then◌else◌, ℕ}
use Rattle.cs_model.specs.declared.stop.Stop.{Stop}
use Rattle.cs_model.specs.Ref.{Ref}
use Rattle.cs_model.specs.State.{Kept}
use Rattle.cs_model.specs.Operation.{pop_of}
use Rattle.cs_model.specs.End.{Out, given, stop}
use Rattle.cs_model.specs.Exec.{store_slot}
use Rattle.cs_acts.specs.Storing.{slot_at}

-- the state without the value
abbrev pub bare_of : Bool → Kept → Kept
bare_of on_stack k = if on_stack then pop_of k else k

-- a store into slot i of what a reference names, which stops where there is no such slot
abbrev pub store_or_stop : Stop → Kept → Kept → Ref → ℕ → Ref → Out
store_or_stop missing k bare x i v = given (slot_at k x i) (stop missing k) (λ old. store_slot k bare x i v)
