-- What a return gives, beside what the model gives.
use Rattle.std.specs.Prelude.{◌≡◌, ◌⊎◌, ℕ, Bool, true, false, IfSome, Option, Some, None}
use Rattle.cs_model.specs.State.{Kept}
use Rattle.cs_model.specs.Keeps.{SameKept}
use Rattle.cs_model.specs.Read.{active_birth}
use Rattle.cs_model.specs.Return.{Home, HomeAt, NoHome, HomeTooFar, home, sender_birth}
use Rattle.cs_model.specs.End.{End, Out}
use Rattle.cs_model.specs.End as ends
use Rattle.cs_acts.specs.declared.act.Full.TheVariants.{Heap}
use Rattle.cs_acts.specs.Full.{CausesFull}
use Rattle.cs_acts.specs.Layout.{LaidBy, Layout, cut, left}
use Rattle.cs_acts.specs.Made.{MakesAtMost}
use Rattle.cs_acts.specs.Names.{KeepsNames, Store}
use Rattle.cs_acts.specs.Primed.{GoesOn}
use Rattle.cs_acts.specs.Ready.{IsReady}
use Rattle.cs_acts.specs.Targets.{dying_to}
use Rattle.cs_unwind.specs.declared.end.BackEnd.{BackEnd}
use Rattle.cs_unwind.specs.declared.end.BackEnd.TheVariants.{Done, Call, Stop, Full}

-- the model asks for a message
pub record Asks (end : End) : Type 0 where
  pub special : ℕ
  pub args : ℕ
  pub is : end ≡ ends.Call special args

-- A return in a world of the view k and of this layout, with the view v and the store behind it, ends as in the model. The heap alone
-- can have no room, and the model goes on there: the value arrives, or a message is asked for that tells the active context. Behind a
-- stop the world is ready, and what had a name has it still.
abbrev pub BackGives : Store → Store → Option Layout → Kept → Kept → BackEnd → Out → Type 0
BackGives old new l k v Done o = (o.end ≡ ends.Done) × GoesOn old new v o
BackGives old new l k v (Call special args) o = (o.end ≡ ends.Call special args) × GoesOn old new v o
BackGives old new l k v (Stop reason) o = (o.end ≡ ends.Stopped reason) × IsReady new v × KeepsNames old new
BackGives old new l k v (Full why) o = (why ≡ Heap) × ((o.end ≡ ends.Done) ⊎ Asks o.end) × CausesFull new l k o.count.objects o.state why

-- Where it went on, and no layout is told, the view is the state of the model. Where it stops, the view is as it was: of a message
-- that doesn't fit nothing is pushed.
abbrev pub BackExact : Option Layout → Kept → Kept → BackEnd → Out → Type 0
BackExact l k v Done o = l ≡ None → SameKept v o.state
BackExact l k v (Call special args) o = l ≡ None → SameKept v o.state
BackExact l k v (Stop reason) o = v ≡ k
BackExact l k v (Full why) o = Unit {0}

abbrev pub home_birth : Home → Option ℕ
home_birth (HomeAt i) = Some i
home_birth NoHome = None
home_birth HomeTooFar = None

-- where the frames are once the value arrived: at the sender, or at the sender of the home
abbrev pub LaidBack : Kept → Bool → Option Layout → Option Layout → Type 0
LaidBack k true before after = IfSome (sender_birth k (active_birth k)) (λ target. LaidBy (left target) before after)
LaidBack k false before after = IfSome (home_birth (home k (active_birth k))) (λ i. IfSome (sender_birth k i) (λ target. LaidBy (cut (dying_to k i) target) before after))

abbrev pub BackLaid : Kept → Bool → BackEnd → Option Layout → Option Layout → Type 0
BackLaid k local Done before after = LaidBack k local before after
BackLaid k local (Call special args) before after = after ≡ before
BackLaid k local (Stop reason) before after = after ≡ before
BackLaid k local (Full why) before after = Unit {0}

-- how many contexts it made in the heap at most: those that a message has as arguments
abbrev pub BackMakes : BackEnd → Option Layout → Store → Store → Type 0
BackMakes Done l old new = MakesAtMost 0 l old new
BackMakes (Call special args) l old new = MakesAtMost args l old new
BackMakes (Stop reason) l old new = MakesAtMost 0 l old new
BackMakes (Full why) l old new = Unit {0}
