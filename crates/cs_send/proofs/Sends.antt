-- What a send does, by what it finds.
use Rattle.std.proofs.Common.{◌≡◌, ℕ, ◌<◌, Bool, true, false, refl, ap, subst, ◌∙◌, arith, Option, Some, None, nat_lt}
use Rattle.std.specs.Prelude.{if◌then◌else◌, ◌==◌}
use Rattle.std.proofs.lemmas.Bool.{eqb-true}
use Rattle.std.proofs.lemmas.Bool.Decides.{nat_tests}
use Rattle.cs_model.specs.declared.stop.Stop.{Stop}
use Rattle.cs_model.specs.declared.stop.Stop.TheVariants as why
use Rattle.cs_model.specs.Ref.{Ref}
use Rattle.cs_model.specs.Obj.{argument_count, bytecodes_in, header_in, primitive_number}
use Rattle.cs_model.specs.State.{Kept, object_of}
use Rattle.cs_model.specs.Read.{depth_of}
use Rattle.cs_model.specs.Lookup.{Sought}
use Rattle.cs_model.specs.Lookup as sought
use Rattle.cs_model.specs.End.{Out, out, stop}
use Rattle.cs_model.specs.End as ends
use Rattle.cs_model.specs.Send.{begins_at, enter_out, invoke, look_from, not_understood, offer, send, send_found}
use Rattle.cs_send.specs.Resolved.{Resolved, Offered, Plain, Missing, Stops, resolve_found, resolve_method, resolve_of, resolved_as}

-- what becomes of a send
abbrev pub resolved_out : Kept → Ref → ℕ → Resolved → Out
resolved_out k selector args (Offered method number) = out (ends.Primitive method number) k
resolved_out k selector args (Plain method) = enter_out k method args false
resolved_out k selector args Missing = not_understood k selector args
resolved_out k selector args (Stops reason) = stop reason k

offer-resolved : (k : Kept) (selector method : Ref) (args : ℕ) (number : Option ℕ) → offer k method args number ≡ resolved_out k selector args (resolved_as method number)
offer-resolved k selector method args None = refl
offer-resolved k selector method args (Some number) = refl

invoke-resolved : (k : Kept) (selector method : Ref) (args : ℕ) → invoke k method args ≡ resolved_out k selector args (resolve_method k method args)
unfolding invoke
invoke-resolved k selector method args = go (argument_count (header_in (object_of k method)) == args)
  where
    number : Option ℕ
    number = primitive_number (header_in (object_of k method)) (bytecodes_in (object_of k method))

    go : (b : Bool) → (if b then offer k method args number else stop why.BadArgs k) ≡ resolved_out k selector args (if b then resolved_as method number else Stops why.BadArgs)
    go true = offer-resolved k selector method args number
    go false = refl

found-resolved : (k : Kept) (selector : Ref) (args : ℕ) (found : Sought) → send_found k selector args found ≡ resolved_out k selector args (resolve_found k args found)
found-resolved k selector args (sought.Method method) = invoke-resolved k selector method args
found-resolved k selector args sought.Missing = refl
found-resolved k selector args sought.Loop = refl

-- a send is what it finds, and what becomes of that
pub send-resolved : (k : Kept) (selector : Ref) (args : ℕ) (above : Option Ref) → send k selector args above ≡ resolved_out k selector args (resolve_of k selector args above)
unfolding send resolve_of
send-resolved k selector args above = go (nat_lt args (depth_of k))
  where
    found : Sought
    found = look_from k selector (begins_at k args above)

    go : (b : Bool) → (if b then send_found k selector args found else stop why.StackUnder k) ≡ resolved_out k selector args (if b then resolve_found k args found else Stops why.StackUnder)
    go true = found-resolved k selector args found
    go false = refl

-- ---- each case of it

pub send-offered : (k : Kept) (selector : Ref) (args : ℕ) (above : Option Ref) (method : Ref) (number : ℕ) → resolve_of k selector args above ≡ Offered method number
    → send k selector args above ≡ out (ends.Primitive method number) k
send-offered k selector args above method number e = send-resolved k selector args above ∙ ap (resolved_out k selector args) e

pub send-plain : (k : Kept) (selector : Ref) (args : ℕ) (above : Option Ref) (method : Ref) → resolve_of k selector args above ≡ Plain method
    → send k selector args above ≡ enter_out k method args false
send-plain k selector args above method e = send-resolved k selector args above ∙ ap (resolved_out k selector args) e

pub send-missing : (k : Kept) (selector : Ref) (args : ℕ) (above : Option Ref) → resolve_of k selector args above ≡ Missing
    → send k selector args above ≡ not_understood k selector args
send-missing k selector args above e = send-resolved k selector args above ∙ ap (resolved_out k selector args) e

pub send-stops : (k : Kept) (selector : Ref) (args : ℕ) (above : Option Ref) (reason : Stop) → resolve_of k selector args above ≡ Stops reason
    → send k selector args above ≡ stop reason k
send-stops k selector args above reason e = send-resolved k selector args above ∙ ap (resolved_out k selector args) e

-- ---- what holds of a method that is found

-- it takes so many arguments, which the stack holds above the receiver
pub record Fits (k : Kept) (args : ℕ) (method : Ref) : Type 0 where
  pub takes : argument_count (header_in (object_of k method)) ≡ args
  pub below : args < depth_of k

abbrev pub number_of : Kept → Ref → Option ℕ
number_of k method = primitive_number (header_in (object_of k method)) (bytecodes_in (object_of k method))

-- and has the primitive that is offered
abbrev FitsFound : Kept → ℕ → Resolved → Type 0
FitsFound k args (Offered method number) = Fits k args method × (number_of k method ≡ Some number)
FitsFound k args (Plain method) = Fits k args method
FitsFound k args Missing = Unit {0}
FitsFound k args (Stops reason) = Unit {0}

less : (m n : ℕ) → nat_lt m n ≡ true → m < n
less m n h = grind (arith, nat_tests)

fits : (k : Kept) (selector : Ref) (args : ℕ) (above : Option Ref) → FitsFound k args (resolve_of k selector args above)
unfolding resolve_of
fits k selector args above = deep (nat_lt args (depth_of k)) refl (look_from k selector (begins_at k args above))
  where
    is_tried : (method : Ref) (number : Option ℕ) → number_of k method ≡ number → Fits k args method → FitsFound k args (resolved_as method number)
    is_tried method None e f = f
    is_tried method (Some number) e f = (f, e)

    takes : (method : Ref) (b : Bool) → (argument_count (header_in (object_of k method)) == args) ≡ b → nat_lt args (depth_of k) ≡ true
        → FitsFound k args (if b then resolved_as method (number_of k method) else Stops why.BadArgs)
    takes method true e h =
        is_tried method (number_of k method) refl (record { takes = eqb-true (argument_count (header_in (object_of k method))) args e; below = less args (depth_of k) h })
    takes method false e h = tt

    found : (f : Sought) → nat_lt args (depth_of k) ≡ true → FitsFound k args (resolve_found k args f)
    found (sought.Method method) h = takes method (argument_count (header_in (object_of k method)) == args) refl h
    found sought.Missing h = tt
    found sought.Loop h = tt

    deep : (b : Bool) → nat_lt args (depth_of k) ≡ b → (f : Sought) → FitsFound k args (if b then resolve_found k args f else Stops why.StackUnder)
    deep true h f = found f h
    deep false h f = tt

pub offered-fits : (k : Kept) (selector : Ref) (args : ℕ) (above : Option Ref) (method : Ref) (number : ℕ) → resolve_of k selector args above ≡ Offered method number → Fits k args method
offered-fits k selector args above method number e = (subst (FitsFound k args) e (fits k selector args above)).0

pub offered-number : (k : Kept) (selector : Ref) (args : ℕ) (above : Option Ref) (method : Ref) (number : ℕ) → resolve_of k selector args above ≡ Offered method number → number_of k method ≡ Some number
offered-number k selector args above method number e = (subst (FitsFound k args) e (fits k selector args above)).1

pub plain-fits : (k : Kept) (selector : Ref) (args : ℕ) (above : Option Ref) (method : Ref) → resolve_of k selector args above ≡ Plain method → Fits k args method
plain-fits k selector args above method e = subst (FitsFound k args) e (fits k selector args above)
