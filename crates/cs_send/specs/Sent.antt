-- What a send gives, beside what the model gives.
use Rattle.std.specs.Prelude.{◌≡◌, ℕ, ◌+◌, ◌-◌, ◌^◌, ◌&&◌, Bool, true, false, nat_lt, min, is_some, Option, None, option_map}
use Rattle.cs_word.specs.declared.Oop.{Oop}
use Rattle.cs_model.specs.declared.stop.Stop.{Stop as Reason}
use Rattle.cs_model.specs.declared.stop.Stop.TheVariants as why
use Rattle.cs_model.specs.Ref.{Ref}
use Rattle.cs_model.specs.State.{Kept}
use Rattle.cs_model.specs.Keeps.{Keeps, SameKept}
use Rattle.cs_model.specs.Read.{depth_of}
use Rattle.cs_model.specs.Send.{begins_at, send}
use Rattle.cs_model.specs.Step.{Message}
use Rattle.cs_model.specs.End.{Out, out, stop}
use Rattle.cs_model.specs.End as ends
use Rattle.cs_acts.specs.declared.act.Full.{Full as Why}
use Rattle.cs_acts.specs.Full.{CausesFull}
use Rattle.cs_acts.specs.Layout.{LaidBy, Layout, entered}
use Rattle.cs_acts.specs.Made.{MakesAtMost, made_by_entering}
use Rattle.cs_acts.specs.Names.{Store, KeepsNames, name_of}
use Rattle.cs_acts.specs.Reading.{IsMethodNamed}
use Rattle.cs_acts.specs.Ready.{IsReady}
use Rattle.cs_acts.specs.Targets.{CanEnter}
use Rattle.cs_send.specs.declared.SendEnd.{SendEnd}
use Rattle.cs_send.specs.declared.SendEnd.TheVariants.{Entered, Primitive, Stop, Full}
use Rattle.cs_send.specs.Resolved.{Resolved, Offered, Plain, Missing, Stops, resolve_of}

-- ---- the count

-- what a sender keeps: how many methods it has looked up
pub record Finds : Type 0 where
  pub full : ℕ

-- the last value of the count, at which it stands
abbrev pub most_counted : ℕ
most_counted = 2 ^ 64 - 1

abbrev pub lookup_counted : Bool → Finds → Finds
lookup_counted false f = f
lookup_counted true f = record { full = min (f.full + 1) most_counted }

-- a send looks a method up where the stack holds the receiver below its arguments and there is a class to begin at
abbrev pub looks_up : Kept → ℕ → Option Ref → Bool
looks_up k args above = nat_lt args (depth_of k) && is_some (begins_at k args above)

-- ---- the ends

-- the message that words mean
abbrev pub message_of : Store → Oop → ℕ → Option Oop → Message
message_of s selector args above = record { selector = name_of s selector; args = args; above = option_map (λ o. name_of s o) above }

abbrev pub message_sent : Kept → Message → Out
message_sent k m = send k m.selector m.args m.above

abbrev pub found : Kept → Message → Resolved
found k m = resolve_of k m.selector m.args m.above

-- a method without a primitive is found
abbrev pub IsPlainMethod : Resolved → Type 0
IsPlainMethod (Offered method number) = ⊥
IsPlainMethod (Plain method) = Unit {0}
IsPlainMethod Missing = ⊥
IsPlainMethod (Stops reason) = ⊥

-- A method is entered in the model, the view keeps the state that is left, and is it where the world tells no layout; the world is
-- ready again, what had a name has it still, the new context stands above the active one or alone on a page, and no other context was made
-- but that of the caller where it stands alone.
pub record Enters (old new : Store) (before after : Option Layout) (k v : Kept) (o : Out) : Type 0 where
  pub end : o.end ≡ ends.Entered
  pub state : Keeps v o.state
  pub exact : before ≡ None → SameKept v o.state
  pub ready : IsReady new v
  pub names : KeepsNames old new
  pub laid : LaidBy (entered k k.rest.next) before after
  pub contexts : MakesAtMost (made_by_entering k before) before old new

-- a method would be entered in the model, and the world has no room for its context
pub record RefusesSend (new : Store) (before : Option Layout) (k : Kept) (o : Out) (why : Why) : Type 0 where
  pub end : o.end ≡ ends.Entered
  pub cause : CausesFull new before k 0 o.state why

-- the primitive of a method is to be tried; where it fails the method may be entered behind it
pub record Offers (s : Store) (k : Kept) (m : Message) (o : Oop) (number : ℕ) : Type 0 where
  pub found : found k m ≡ Offered (name_of s o) number
  pub is : message_sent k m ≡ out (ends.Primitive (name_of s o) number) k
  pub method : IsMethodNamed s k o
  pub enters : CanEnter k (name_of s o) m.args true

-- the lookup finds nothing, which isn't built; or it stops as in the model
pub data Halts (k : Kept) (m : Message) (reason : Reason) : Type 0 where
  unbuilt : found k m ≡ Missing → reason ≡ why.NotBuilt → Halts k m reason
  stopped : found k m ≡ Stops reason → message_sent k m ≡ stop reason k → Halts k m reason

-- a send of the message to the state k, with the stored parts and the layouts before and behind it, and the view behind it
abbrev pub Sends : Store → Store → Option Layout → Option Layout → Kept → Kept → Message → SendEnd → Type 0
Sends old new before after k v m Entered = IsPlainMethod (found k m) × Enters old new before after k v (message_sent k m)
Sends old new before after k v m (Primitive method number) = Offers new k m method number
Sends old new before after k v m (Stop reason) = Halts k m reason
Sends old new before after k v m (Full why) = IsPlainMethod (found k m) × RefusesSend new before k (message_sent k m) why

-- where nothing is entered, this holds of the world
abbrev pub Still : SendEnd → Type 0 → Type 0
Still Entered Same = Unit {0}
Still (Primitive method number) Same = Same
Still (Stop reason) Same = Same
Still (Full why) Same = Unit {0}
