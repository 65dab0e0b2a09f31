-- What is said of a world behind a return.
use Rattle.std.specs.Prelude.{◌≡◌, ℕ, ◌&&◌, Bool, not, if◌then◌else◌, Option, Some, None}
use Rattle.cs_model.specs.State.{Kept, object_at}
use Rattle.cs_model.specs.Obj.{context_in}
use Rattle.cs_model.specs.Return.{has_room, is_live}
use Rattle.cs_model.specs.End.{Out}
use Rattle.cs_acts.specs.Layout.{Layout}
use Rattle.cs_acts.specs.Names.{Store}
use Rattle.cs_unwind.specs.Back.{BackExact, BackGives, BackLaid, BackMakes}
use Rattle.cs_unwind.specs.declared.end.BackEnd.{BackEnd}
use Rattle.cs_unwind.specs.declared.returns.Arrival.{Arrival}
use Rattle.cs_unwind.specs.declared.returns.Arrival.TheVariants.{Never, NoRoom, Free}

-- A return gives what the model gives, from a world of this store, this layout and the view k to one of the view v.
pub record Returns (old new : Store) (before after : Option Layout) (k v : Kept) (local : Bool) (found : BackEnd) (o : Out) : Type 0 where
  pub gives : BackGives old new before k v found o
  pub exact : BackExact before k v found o
  pub layout : BackLaid k local found before after
  pub limit : new.memory.limit ≡ old.memory.limit
  pub contexts : BackMakes found before old new

-- whether a value can arrive at a target, where it is told whether that dies
abbrev pub arrival_of : Kept → Bool → Option ℕ → Arrival
arrival_of k dies None = Never
arrival_of k dies (Some target) = if is_live k target && not dies then (if has_room (context_in (object_at k target)) then Free else NoRoom) else Never
