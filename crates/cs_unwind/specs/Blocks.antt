-- What is read of a closure that is to be evaluated.
use Rattle.std.specs.Prelude.{◌≡◌, ℕ, ◌==◌, ◌&&◌, ◌||◌, if◌then◌else◌, Bool, true, false, nat_le, length, Option, Some, None, IfSome, is_some}
use Rattle.cs_word.specs.declared.Oop.{Oop}
use Rattle.cs_model.specs.Ref.{Ref}
use Rattle.cs_model.specs.Obj.{is_method}
use Rattle.cs_model.specs.State.{Kept, object_of}
use Rattle.cs_model.specs.Enter.{can_evaluate, closure_method, closure_slots, outer_context}
use Rattle.cs_model.specs.Send.{elements_fitting, spread_of}
use Rattle.cs_acts.specs.Layout.{Layout}
use Rattle.cs_acts.specs.Led.{Leads}
use Rattle.cs_acts.specs.Names.{Store, name_of}
use Rattle.cs_acts.specs.Reading.{IsMethodNamed}

-- the reference is a closure with its three slots before the copied values
abbrev pub is_closure : Kept → Ref → Bool
is_closure k x = nat_le 3 (length (closure_slots (object_of k x)))

-- the word names the method of the closure
pub record IsMethodOf (s : Store) (k : Kept) (x : Ref) (m : Oop) : Type 0 where
  pub method : IsMethodNamed s k m
  pub is : name_of s m ≡ closure_method k x
  pub outer : is_some (outer_context k x) ≡ true

abbrev pub FindsOuter : Store → Kept → Ref → Option Oop → Type 0
FindsOuter s k x None = (is_some (outer_context k x) && is_method (object_of k (closure_method k x))) ≡ false
FindsOuter s k x (Some m) = IsMethodOf s k x m

-- and the closure can be evaluated with so many arguments
pub record Evaluates (s : Store) (k : Kept) (x : Ref) (args : ℕ) (m : Oop) : Type 0 where
  pub can : can_evaluate k x args ≡ true
  pub method : IsMethodOf s k x m

abbrev pub FindsBlock : Store → Kept → Ref → ℕ → Option Oop → Type 0
FindsBlock s k x args None = can_evaluate k x args ≡ false
FindsBlock s k x args (Some m) = Evaluates s k x args m

-- the elements of an Array stand in the place of the argument
abbrev pub Spreads : Store → Store → Option Layout → Option Layout → Kept → Kept → Ref → Type 0
Spreads old new before after k v array = IfSome (elements_fitting k 1 array) (λ values. Leads old new before after v (spread_of k 1 values) 0)

-- the primitives that evaluate a closure with so many arguments
abbrev pub wanted_by : ℕ → Option ℕ
wanted_by number =
    if number == 201 || number == 221 then Some 0 else
    if number == 202 || number == 222 then Some 1 else
    if number == 203 then Some 2 else
    if number == 204 then Some 3 else
    if number == 205 then Some 4 else None
