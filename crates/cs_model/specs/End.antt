-- How an operation of the machine ends, and what it leaves.
use Rattle.std.specs.Prelude.{ℕ, ◌+◌, Bool, true, false, if◌then◌else◌, Option, Some, None}
use Rattle.cs_model.specs.declared.stop.Stop.{Stop}
use Rattle.cs_model.specs.Ref.{Ref}
use Rattle.cs_model.specs.State.{Kept}

-- What an instruction, a send, a return, a primitive or a process switch leads to; each definition says which of these it
-- gives.
pub data End : Type 0 where
  -- all is done
  Done : End
  -- a message is to be sent to the receiver below so many arguments, and looked up from the superclass of `above` on, if given
  Send : (selector : Ref) (args : ℕ) (above : Option Ref) → End
  -- the value is to be returned, to the sender or from the home
  Return : (value : Ref) (local : Bool) → End
  -- a method or block was entered
  Entered : End
  -- the primitive of the method that was found is to be tried
  Primitive : (method : Ref) (number : ℕ) → End
  -- the special selector is to be sent, with the arguments that were pushed for it
  Call : (special args : ℕ) → End
  -- a primitive answered: its answer stands in the place of receiver and arguments
  Answer : End
  -- a primitive refuses, and changes nothing
  Fail : End
  -- the run is to end
  Quit : End
  -- the state is to be saved
  Snapshot : End
  -- the step stops
  Stopped : (reason : Stop) → End

-- what was made on the way, and how often a context was looked at: words of objects, words of contexts that entering made
pub record Count : Type 0 where
  pub objects : ℕ
  pub contexts : ℕ
  pub looks : ℕ

abbrev pub no_count : Count
no_count = record { objects = 0; contexts = 0; looks = 0 }

abbrev pub plus : Count → Count → Count
plus a b = record { objects = a.objects + b.objects; contexts = a.contexts + b.contexts; looks = a.looks + b.looks }

-- An end, the state that is left, and the count. Where the end is a stop the state doesn't matter, since a step that stops
-- gives the state before it; the count does.
pub record Out : Type 0 where
  pub end : End
  pub state : Kept
  pub count : Count

abbrev pub out : End → Kept → Out
out end k = record { end = end; state = k; count = no_count }

abbrev pub done : Kept → Out
done k = out Done k

abbrev pub stop : Stop → Kept → Out
stop reason k = out (Stopped reason) k

abbrev pub counting : Count → Out → Out
counting n o = record o { count = plus n o.count }

-- an object of so many words was made before the rest
unfoldable pub made : ℕ → Out → Out
made words o = counting (record { objects = words; contexts = 0; looks = 0 }) o

-- entering made a context of so many words
unfoldable pub made_context : ℕ → Out → Out
made_context words o = counting (record { objects = 0; contexts = words; looks = 0 }) o

-- a context was looked at
unfoldable pub looked : Out → Out
looked o = counting (record { objects = 0; contexts = 0; looks = 1 }) o

-- the value, if there is one, leads on
abbrev pub given : {A B : Type 0} → Option A → B → (A → B) → B
given None none some = none
given (Some x) none some = some x

abbrev pub is_done : End → Bool
is_done Done = true
is_done end = false

-- what comes behind an operation that is done
unfoldable pub and_then : Out → (Kept → Out) → Out
and_then o next = if is_done o.end then counting o.count (next o.state) else o
