-- What the searches along contexts find.
use Rattle.std.specs.Prelude.{◌≡◌, ℕ, ◌-◌, Bool, true, List, [], ◌∷◌, ◌++◌, Option, Some, None, IsSome}
use Rattle.cs_model.specs.Obj.{is_context_at}
use Rattle.cs_model.specs.State.{Kept, object_at}
use Rattle.cs_model.specs.Read.{active_birth}
use Rattle.cs_model.specs.Return.{HomeAt, NoHome, HomeTooFar, Search, first_marked, home, is_among, links, passing, search_home, search_senders, sender_birth, senders_to, unwind_mark}
use Rattle.cs_model.specs.Return as model
use Rattle.cs_acts.specs.declared.act.Act.{Act}
use Rattle.cs_unwind.specs.declared.search.HomeEnd.{HomeEnd}
use Rattle.cs_unwind.specs.declared.search.HomeEnd.TheVariants.{At, Nowhere, TooFar}
use Rattle.cs_unwind.specs.declared.search.Passed.{Passed}
use Rattle.cs_unwind.specs.declared.search.Way.{Way}
use Rattle.cs_unwind.specs.declared.search.Way.TheVariants.{Met, Ended, TooLong}

-- an act stands for a context, or there is none
abbrev pub ActStands : (Act → Option ℕ) → Option Act → Option ℕ → Type 0
ActStands act None birth = birth ≡ None
ActStands act (Some a) birth = (act a ≡ birth) × IsSome birth

-- ---- homes

-- an act stands for the home of the active context
pub record HasHome (act : Act → Option ℕ) (k : Kept) (a : Act) : Type 0 where
  pub birth : ℕ
  pub stands : act a ≡ Some birth
  pub is : home k (active_birth k) ≡ HomeAt birth

abbrev pub FindsHome : (Act → Option ℕ) → Kept → HomeEnd → Type 0
FindsHome act k (At a) = HasHome act k a
FindsHome act k Nowhere = home k (active_birth k) ≡ NoHome
FindsHome act k TooFar = home k (active_birth k) ≡ HomeTooFar

-- n links have been followed, and the search goes on at an act
pub record SeeksHome (act : Act → Option ℕ) (k : Kept) (n : ℕ) (a : Act) : Type 0 where
  pub birth : ℕ
  pub stands : act a ≡ Some birth
  pub is : home k (active_birth k) ≡ search_home (links - n) k birth

-- ---- senders

-- contexts are passed before the rest of a search
unfoldable pub found_behind : List ℕ → Search → Search
found_behind [] found = found
found_behind (i ∷ is) found = passing i (found_behind is found)

-- what is seen of the contexts that were passed: the first one that is marked, and whether the target is one of them
pub record Sees (act : Act → Option ℕ) (k : Kept) (target : Option Act) (births : List ℕ) (passed : Passed) : Type 0 where
  pub mark : ActStands act passed.mark (first_marked k unwind_mark births)
  pub meets : (i : ℕ) → ActStands act target (Some i) → passed.target ≡ is_among i births

pub record MeetsHome (act : Act → Option ℕ) (k : Kept) (goal : ℕ) (target : Option Act) (passed : Passed) : Type 0 where
  pub births : List ℕ
  pub is : senders_to k (active_birth k) goal ≡ model.Met births
  pub sees : Sees act k target births passed

pub record EndsBefore (k : Kept) (goal : ℕ) : Type 0 where
  pub births : List ℕ
  pub is : senders_to k (active_birth k) goal ≡ model.Ended births

abbrev pub FindsWay : (Act → Option ℕ) → Kept → ℕ → Option Act → Way → Type 0
FindsWay act k goal target (Met passed) = MeetsHome act k goal target passed
FindsWay act k goal target Ended = EndsBefore k goal
FindsWay act k goal target TooLong = senders_to k (active_birth k) goal ≡ model.TooLong

-- n contexts have been passed, and the walk goes on at `next`
pub record Walks (act : Act → Option ℕ) (k : Kept) (goal : ℕ) (target : Option Act) (n : ℕ) (next : Option Act) (passed : Passed) : Type 0 where
  pub births : List ℕ
  pub now : Option ℕ
  pub stands : ActStands act next now
  pub context : (i : ℕ) → now ≡ Some i → is_context_at (object_at k i) ≡ true
  pub is : senders_to k (active_birth k) goal ≡ found_behind births (search_senders (links - n) k goal now)
  pub sees : Sees act k target births passed

-- A home is met behind contexts of which none is marked, its sender is the target, and it is told whether that dies.
pub record IsUnmarked (act : Act → Option ℕ) (k : Kept) (a : Act) (target : Option Act) (dies : Bool) : Type 0 where
  pub home : HasHome act k a
  pub births : List ℕ
  pub met : senders_to k (active_birth k) home.birth ≡ model.Met births
  pub unmarked : first_marked k unwind_mark births ≡ None
  pub leads : ActStands act target (sender_birth k home.birth)
  pub doomed : (i : ℕ) → sender_birth k home.birth ≡ Some i → dies ≡ is_among i (active_birth k ∷ births ++ home.birth ∷ [])
