-- What a send finds, before anything is entered.
use Rattle.std.specs.Prelude.{ℕ, ◌==◌, nat_lt, if◌then◌else◌, Option, Some, None}
use Rattle.cs_model.specs.declared.stop.Stop.{Stop}
use Rattle.cs_model.specs.declared.stop.Stop.TheVariants as why
use Rattle.cs_model.specs.Ref.{Ref}
use Rattle.cs_model.specs.Obj.{argument_count, bytecodes_in, header_in, primitive_number}
use Rattle.cs_model.specs.State.{Kept, object_of}
use Rattle.cs_model.specs.Read.{depth_of}
use Rattle.cs_model.specs.Lookup.{Sought}
use Rattle.cs_model.specs.Lookup as sought
use Rattle.cs_model.specs.Send.{begins_at, look_from}
use Rattle.cs_acts.specs.Names.{Store, name_of}
use Rattle.cs_acts.specs.Reading.{IsMethodNamed}
use Rattle.cs_lookup.specs.declared.Found.{Found as Lookup}
use Rattle.cs_lookup.specs.declared.Found.TheVariants as looked
use Rattle.cs_send.specs.declared.Found.{Found}
use Rattle.cs_send.specs.declared.Found.TheVariants as found

-- a method whose primitive is to be tried first; one without; none; or why the step stops
pub data Resolved : Type 0 where
  Offered : (method : Ref) (number : ℕ) → Resolved
  Plain : (method : Ref) → Resolved
  Missing : Resolved
  Stops : (reason : Stop) → Resolved

abbrev pub resolved_as : Ref → Option ℕ → Resolved
resolved_as method None = Plain method
resolved_as method (Some number) = Offered method number

-- a method takes its number of arguments, which is looked at before its primitive
abbrev pub resolve_method : Kept → Ref → ℕ → Resolved
resolve_method k method args =
    if argument_count (header_in (object_of k method)) == args then resolved_as method (primitive_number (header_in (object_of k method)) (bytecodes_in (object_of k method)))
    else Stops why.BadArgs

abbrev pub resolve_found : Kept → ℕ → Sought → Resolved
resolve_found k args (sought.Method method) = resolve_method k method args
resolve_found k args sought.Missing = Missing
resolve_found k args sought.Loop = Stops why.ClassLoop

-- what a send of the selector to the receiver below so many arguments finds, from the superclass of `above` on, if given
unfoldable pub resolve_of : Kept → Ref → ℕ → Option Ref → Resolved
resolve_of k selector args above =
    if nat_lt args (depth_of k) then resolve_found k args (look_from k selector (begins_at k args above)) else Stops why.StackUnder

-- ---- what the code answers

abbrev pub resolved_by : Store → Found → Resolved
resolved_by s (found.Primitive method number) = Offered (name_of s method) number
resolved_by s (found.Plain method) = Plain (name_of s method)
resolved_by s found.Missing = Missing
resolved_by s (found.Stop reason) = Stops reason

-- the words that are answered name methods of the state
abbrev pub FindsMethodNamed : Store → Kept → Found → Type 0
FindsMethodNamed s k (found.Primitive method number) = IsMethodNamed s k method
FindsMethodNamed s k (found.Plain method) = IsMethodNamed s k method
FindsMethodNamed s k found.Missing = Unit {0}
FindsMethodNamed s k (found.Stop reason) = Unit {0}

-- and so does what a lookup answers
abbrev pub LooksUpMethod : Store → Kept → Lookup → Type 0
LooksUpMethod s k (looked.Method method) = IsMethodNamed s k method
LooksUpMethod s k looked.Missing = Unit {0}
LooksUpMethod s k looked.Loop = Unit {0}
