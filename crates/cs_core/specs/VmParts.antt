-- What a machine keeps between two runs.
use Rattle.std.specs.Prelude.{ℕ, Option}
use Rattle.cs_model.specs.State.{Kept}
use Rattle.cs_acts.specs.declared.run.Phase.{Phase}
use Rattle.cs_acts.specs.declared.run.Place.{Place}
use Rattle.cs_acts.specs.Layout.{Layout}
use Rattle.cs_acts.specs.Names.{Store}

-- the world; the bytecodes that are completed; where the machine stands; what may follow; and how many methods were looked up
pub record VmParts (W : Type 0) : Type 0 where
  pub world : W
  pub steps : ℕ
  pub place : Place
  pub phase : Phase
  pub finds : ℕ

-- what is seen of them through any world
pub record Seen : Type 0 where
  pub stored : Store
  pub view : Kept
  pub layout : Option Layout
  pub steps : ℕ
  pub place : Place
  pub phase : Phase

abbrev pub seen_at : Store → Kept → Option Layout → ℕ → Place → Phase → Seen
seen_at stored view layout steps place phase = record { stored = stored; view = view; layout = layout; steps = steps; place = place; phase = phase }

abbrev pub seen_through : {W : Type 0} → (W → Store) → (W → Kept) → (W → Option Layout) → VmParts W → Seen
seen_through stored view layout m = seen_at (stored m.world) (view m.world) (layout m.world) m.steps m.place m.phase
