-- What is said of a world behind a part of a primitive.
use Rattle.std.specs.Prelude.{◌≡◌, ℕ, Option, None}
use Rattle.cs_model.specs.State.{Kept}
use Rattle.cs_model.specs.Keeps.{Keeps, SameKept}
use Rattle.cs_acts.specs.Layout.{Layout}
use Rattle.cs_acts.specs.Made.{MakesAtMost}
use Rattle.cs_acts.specs.Names.{Store, KeepsNames}
use Rattle.cs_acts.specs.Ready.{IsReady}

-- A world of this store and layout was led to the state t: its view v keeps t, and is t where it tells no layout; it tells the
-- same layout, it has made at most so many contexts, it is ready, and what had a name has it still.
pub record Leads (old new : Store) (before after : Option Layout) (v t : Kept) (made : ℕ) : Type 0 where
  pub state : Keeps v t
  pub exact : before ≡ None → SameKept v t
  pub layout : after ≡ before
  pub limit : new.memory.limit ≡ old.memory.limit
  pub contexts : MakesAtMost made before old new
  pub ready : IsReady new v
  pub names : KeepsNames old new
