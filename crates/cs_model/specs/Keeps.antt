-- A state that lacks nothing of another one but contexts that nothing in it names.
use Rattle.std.specs.Prelude.{◌≡◌, ℕ, false, Some, IsSome}
use Rattle.cs_model.specs.Obj.{Obj, is_context}
use Rattle.cs_model.specs.State.{Kept, State, RestHeld, NamesHeld, object_at}

-- v keeps m: what v has, m has alike; of what m has, v lacks contexts alone; what v names, v has; the rest is equal
pub record Keeps (v m : Kept) : Type 0 where
  pub same : (i : ℕ) (o : Obj) → object_at v i ≡ Some o → object_at m i ≡ Some o
  pub whole : (i : ℕ) (o : Obj) → object_at m i ≡ Some o → is_context o ≡ false → object_at v i ≡ Some o
  pub closed : (i : ℕ) (o : Obj) → object_at v i ≡ Some o → NamesHeld v o
  pub roots : RestHeld v
  pub rest : v.rest ≡ m.rest

-- the same objects at the same births, and the same rest
pub record SameKept (a b : Kept) : Type 0 where
  pub objects : (i : ℕ) → object_at a i ≡ object_at b i
  pub rest : a.rest ≡ b.rest

-- each birth that v has, t has: what was held still is
pub record Grows (v t : Kept) : Type 0 where
  pub held : (i : ℕ) → IsSome (object_at v i) → IsSome (object_at t i)

-- a state keeps another one where its kept parts do and the run parts are equal
pub record KeepsState (s t : State) : Type 0 where
  pub kept : Keeps s.kept t.kept
  pub run : s.run ≡ t.run
