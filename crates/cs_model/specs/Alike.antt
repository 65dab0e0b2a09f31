-- What is alike where a state keeps another one and the same is done to both.
use Rattle.std.specs.Prelude.{◌≡◌, Option, Some, None, List, [], ◌∷◌}
use Rattle.cs_model.specs.Ref.{Ref}
use Rattle.cs_model.specs.State.{Kept, IsHeld}
use Rattle.cs_model.specs.Keeps.{Keeps, Grows, KeepsState}
use Rattle.cs_model.specs.End.{End, Out, Count}
use Rattle.cs_model.specs.End as ends
use Rattle.cs_model.specs.Instance.{Made, New, NotInstantiable, TableFull, Hashed, Hash, NotAClass, NoneLeft}
use Rattle.cs_model.specs.Lookup.{Sought}
use Rattle.cs_model.specs.Lookup as sought
use Rattle.cs_model.specs.PrimRun.{Result}
use Rattle.cs_model.specs.Due.{Happened}
use Rattle.cs_model.specs.Step.{Step, Ran}

abbrev pub IsHeldIf : Kept → Option Ref → Type 0
IsHeldIf k None = Unit {0}
IsHeldIf k (Some x) = IsHeld k x

-- what an end names is there
abbrev pub EndHeld : Kept → End → Type 0
EndHeld k ends.Done = Unit {0}
EndHeld k (ends.Send selector args above) = IsHeld k selector × IsHeldIf k above
EndHeld k (ends.Return value local) = IsHeld k value
EndHeld k ends.Entered = Unit {0}
EndHeld k (ends.Primitive method number) = IsHeld k method
EndHeld k (ends.Call special args) = Unit {0}
EndHeld k ends.Answer = Unit {0}
EndHeld k ends.Fail = Unit {0}
EndHeld k ends.Quit = Unit {0}
EndHeld k ends.Snapshot = Unit {0}
EndHeld k (ends.Stopped reason) = Unit {0}

-- From v on both end alike and count the same, what the first leaves keeps what the second leaves and has what v had, and what
-- the end names is there.
pub record Alike (v : Kept) (a b : Out) : Type 0 where
  pub end : a.end ≡ b.end
  pub count : a.count ≡ b.count
  pub keeps : Keeps a.state b.state
  pub grows : Grows v a.state
  pub held : EndHeld a.state a.end

-- Both saved no state, or both saved one, and the first keeps the second.
abbrev pub KeepsIf : Option Kept → Option Kept → Type 0
KeepsIf None None = Unit {0}
KeepsIf None (Some m) = ⊥
KeepsIf (Some v) None = ⊥
KeepsIf (Some v) (Some m) = Keeps v m

-- what a primitive gives that sees the whole state, and what a send, a return or a bytecode gives
pub record AlikeResult (v : Kept) (a b : Result) : Type 0 where
  pub out : Alike v a.out b.out
  pub run : a.run ≡ b.run
  pub snapshot : KeepsIf a.snapshot b.snapshot

-- the same results but for what was counted
pub record SameButCount (a b : Result) : Type 0 where
  pub end : a.out.end ≡ b.out.end
  pub state : a.out.state ≡ b.out.state
  pub run : a.run ≡ b.run
  pub snapshot : a.snapshot ≡ b.snapshot

-- what events give
pub record AlikeHappened (v : Kept) (a b : Happened) : Type 0 where
  pub end : a.end ≡ b.end
  pub count : a.count ≡ b.count
  pub state : KeepsState a.state b.state
  pub grows : Grows v a.state.kept

-- what a step gives
pub record AlikeStep (v : Kept) (a b : Step) : Type 0 where
  pub ending : a.ending ≡ b.ending
  pub count : a.count ≡ b.count
  pub state : KeepsState a.state b.state
  pub grows : Grows v a.state.kept
  pub snapshot : KeepsIf a.snapshot b.snapshot

-- as many states, each of which keeps the one in the same place
abbrev pub AllKeep : List Kept → List Kept → Type 0
AllKeep [] [] = Unit {0}
AllKeep [] (m ∷ ms) = ⊥
AllKeep (v ∷ vs) [] = ⊥
AllKeep (v ∷ vs) (m ∷ ms) = Keeps v m × AllKeep vs ms

-- what a run gives
pub record AlikeRan (v : Kept) (a b : Ran) : Type 0 where
  pub ending : a.ending ≡ b.ending
  pub count : a.count ≡ b.count
  pub state : KeepsState a.state b.state
  pub grows : Grows v a.state.kept
  pub snapshots : AllKeep a.snapshots b.snapshots

-- both make the same object, or neither makes one, for the same reason
abbrev pub AlikeMade : Kept → Made → Made → Type 0
AlikeMade v (New t x words) (New u y words') = (x ≡ y) × (words ≡ words') × Keeps t u × Grows v t × IsHeld t x
AlikeMade v NotInstantiable NotInstantiable = Unit {0}
AlikeMade v TableFull TableFull = Unit {0}
AlikeMade v a b = ⊥

-- both give the same index, or neither gives one, for the same reason
abbrev pub AlikeHashed : Kept → Hashed → Hashed → Type 0
AlikeHashed v (Hash t index) (Hash u index') = (index ≡ index') × Keeps t u × Grows v t
AlikeHashed v NotAClass NotAClass = Unit {0}
AlikeHashed v NoneLeft NoneLeft = Unit {0}
AlikeHashed v a b = ⊥

-- the method that a search finds is there
abbrev pub SoughtHeld : Kept → Sought → Type 0
SoughtHeld k (sought.Method method) = IsHeld k method
SoughtHeld k sought.Missing = Unit {0}
SoughtHeld k sought.Loop = Unit {0}
