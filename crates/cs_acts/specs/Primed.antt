-- What a primitive gives, beside what the model gives.
use Rattle.std.specs.Prelude.{◌≡◌, ◌⊎◌, ℕ, Option}
use Rattle.cs_model.specs.State.{Kept}
use Rattle.cs_model.specs.Keeps.{Keeps}
use Rattle.cs_model.specs.End.{End, Out}
use Rattle.cs_model.specs.End as ends
use Rattle.cs_acts.specs.declared.act.Full.{Full as Why}
use Rattle.cs_acts.specs.declared.act.Full.TheVariants.{Heap, Stack}
use Rattle.cs_acts.specs.declared.prim.PrimEnd.{PrimEnd}
use Rattle.cs_acts.specs.declared.prim.PrimEnd.TheVariants.{Answer, Entered, Fail, Stop, Full}
use Rattle.cs_acts.specs.Full.{CausesFull}
use Rattle.cs_acts.specs.Layout.{LaidBy, Layout, entered}
use Rattle.cs_acts.specs.Made.{MakesAtMost, made_by_entering}
use Rattle.cs_acts.specs.Names.{Store, KeepsNames}
use Rattle.cs_acts.specs.Ready.{IsReady}

-- The view v keeps the state that the model leaves, the world is ready again, and what had a name has it still.
pub record GoesOn (old new : Store) (v : Kept) (o : Out) : Type 0 where
  pub state : Keeps v o.state
  pub ready : IsReady new v
  pub names : KeepsNames old new

-- the model answers or enters a context
abbrev pub IsSuccess : End → Type 0
IsSuccess end = (end ≡ ends.Answer) ⊎ (end ≡ ends.Entered)

-- how a primitive ends in the model for which there is no room: the stack is full for a context that is entered alone
abbrev pub EndsWithout : Why → End → Type 0
EndsWithout Heap end = IsSuccess end
EndsWithout Stack end = end ≡ ends.Entered

-- A primitive called in a world of the view k and of this layout, with the view v and the store behind it, ends as in the model. It
-- finds no room only where the model succeeds, for what that makes. Where it stops, the view keeps the state in which the model stops.
-- A context is entered from the state `from`, which is k but for
-- arguments that are on the stack one by one by then.
abbrev pub PrimGives : Store → Store → Option Layout → Kept → Kept → Kept → PrimEnd → Out → Type 0
PrimGives old new l k from v Answer o = (o.end ≡ ends.Answer) × GoesOn old new v o
PrimGives old new l k from v Entered o = (o.end ≡ ends.Entered) × GoesOn old new v o
PrimGives old new l k from v Fail o = (o.end ≡ ends.Fail) × (v ≡ k) × GoesOn old new v o
PrimGives old new l k from v (Stop reason) o = (o.end ≡ ends.Stopped reason) × GoesOn old new v o
PrimGives old new l k from v (Full why) o = EndsWithout why o.end × CausesFull new l from o.count.objects o.state why

-- where there was room
abbrev pub UnlessFull : PrimEnd → Type 0 → Type 0
UnlessFull Answer P = P
UnlessFull Entered P = P
UnlessFull Fail P = P
UnlessFull (Stop reason) P = P
UnlessFull (Full why) P = Unit {0}

-- where the frames are behind a primitive: one more where a context was entered
abbrev pub PrimLaid : Kept → PrimEnd → Option Layout → Option Layout → Type 0
PrimLaid from Answer before after = after ≡ before
PrimLaid from Entered before after = LaidBy (entered from from.rest.next) before after
PrimLaid from Fail before after = after ≡ before
PrimLaid from (Stop reason) before after = after ≡ before
PrimLaid from (Full why) before after = Unit {0}

-- and how many contexts it made in the heap at most: one for a look, or that of the context from which another one was entered
abbrev pub PrimMakes : Kept → PrimEnd → ℕ → Option Layout → Store → Store → Type 0
PrimMakes from Answer looks l old new = MakesAtMost looks l old new
PrimMakes from Entered looks l old new = MakesAtMost (made_by_entering from l) l old new
PrimMakes from Fail looks l old new = MakesAtMost 0 l old new
PrimMakes from (Stop reason) looks l old new = MakesAtMost 0 l old new
PrimMakes from (Full why) looks l old new = Unit {0}
