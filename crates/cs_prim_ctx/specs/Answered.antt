-- What is said of a world behind a primitive.
use Rattle.std.specs.Prelude.{◌≡◌, Option, None}
use Rattle.cs_model.specs.State.{Kept}
use Rattle.cs_model.specs.Keeps.{SameKept}
use Rattle.cs_model.specs.End.{Out}
use Rattle.cs_acts.specs.declared.prim.PrimEnd.{PrimEnd}
use Rattle.cs_acts.specs.Layout.{Layout}
use Rattle.cs_acts.specs.Made.{MakesAtMost}
use Rattle.cs_acts.specs.Names.{Store}
use Rattle.cs_acts.specs.Primed.{PrimGives, UnlessFull}

-- A primitive gives what the model gives, from a world of this store, this layout and the view k to one of the view v. Where there
-- was room, v is the state of the model if no layout is told, the layout is the same, and no more contexts were made than were
-- looked at. The limit is the same.
pub record PerformsInPlace (old new : Store) (before after : Option Layout) (k v : Kept) (found : PrimEnd) (o : Out) : Type 0 where
  pub gives : PrimGives old new before k k v found o
  pub exact : UnlessFull found (before ≡ None → SameKept v o.state)
  pub layout : UnlessFull found (after ≡ before)
  pub limit : new.memory.limit ≡ old.memory.limit
  pub contexts : UnlessFull found (MakesAtMost o.count.looks before old new)
