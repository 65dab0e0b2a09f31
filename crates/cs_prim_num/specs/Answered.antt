-- What is said of a world behind a primitive on numbers.
use Rattle.std.specs.Prelude.{◌≡◌, Option, None}
use Rattle.cs_model.specs.State.{Kept}
use Rattle.cs_model.specs.Keeps.{SameKept}
use Rattle.cs_model.specs.End.{Out}
use Rattle.cs_acts.specs.declared.prim.PrimEnd.{PrimEnd}
use Rattle.cs_acts.specs.declared.prim.PrimEnd.TheVariants.{Answer, Entered, Fail, Stop, Full}
use Rattle.cs_acts.specs.Layout.{Layout}
use Rattle.cs_acts.specs.Made.{MakesAtMost}
use Rattle.cs_acts.specs.Names.{Store}
use Rattle.cs_acts.specs.Primed.{PrimGives}

-- the primitive answers or fails
abbrev pub AnswersOrFails : PrimEnd → Type 0
AnswersOrFails Answer = Unit {0}
AnswersOrFails Entered = ⊥
AnswersOrFails Fail = Unit {0}
AnswersOrFails (Stop reason) = ⊥
AnswersOrFails (Full why) = ⊥

-- A primitive gives what the model gives, from a world of this store, this layout and the view k to one of the view v. It answers or
-- fails; v is the state of the model if no layout is told, the layout and the limit are the same, and no context is made.
pub record PerformsOnNumbers (old new : Store) (before after : Option Layout) (k v : Kept) (found : PrimEnd) (o : Out) : Type 0 where
  pub gives : PrimGives old new before k k v found o
  pub ends : AnswersOrFails found
  pub exact : before ≡ None → SameKept v o.state
  pub layout : after ≡ before
  pub limit : new.memory.limit ≡ old.memory.limit
  pub contexts : MakesAtMost 0 before old new
