-- What a call of this crate gives, beside what the model gives.
use Rattle.std.specs.Prelude.{◌≡◌, ◌⊎◌, ◌<◌, Bool, true, false, IfSome, Option, None, option_map}
use Rattle.cs_model.specs.declared.stop.Stop.TheVariants as stops
use Rattle.cs_model.specs.State.{Kept}
use Rattle.cs_model.specs.Keeps.{Keeps, SameKept}
use Rattle.cs_model.specs.End.{End, Out}
use Rattle.cs_model.specs.End as ends
use Rattle.cs_acts.specs.declared.act.Full.{Full as Why}
use Rattle.cs_acts.specs.declared.act.Full.TheVariants.{Heap}
use Rattle.cs_acts.specs.Full.{CausesFull}
use Rattle.cs_acts.specs.Layout.{Layout}
use Rattle.cs_acts.specs.Names.{Store, IsNamed, KeepsNames, name_of}
use Rattle.cs_acts.specs.Ready.{IsReady}
use Rattle.cs_code.specs.declared.end.CodeEnd.{CodeEnd}
use Rattle.cs_code.specs.declared.end.CodeEnd.TheVariants.{Done, Send, Return, Stop, Full}

-- the world has no room for what an instruction makes or looks at
abbrev pub is_refused : CodeEnd → Bool
is_refused Done = false
is_refused (Send selector args above) = false
is_refused (Return value local) = false
is_refused (Stop reason) = false
is_refused (Full why) = true

-- the end of the model that an end means, by what its words name; what is refused says nothing by it
abbrev pub end_of : Store → CodeEnd → End
end_of s Done = ends.Done
end_of s (Send selector args above) = ends.Send (name_of s selector) args (option_map (λ o. name_of s o) above)
end_of s (Return value local) = ends.Return (name_of s value) local
end_of s (Stop reason) = ends.Stopped reason
end_of s (Full why) = ends.Done

-- and each of these words names something
abbrev pub IsNamedEnd : Store → CodeEnd → Type 0
IsNamedEnd s Done = Unit {0}
IsNamedEnd s (Send selector args above) = IsNamed s selector × IfSome above (λ o. IsNamed s o)
IsNamedEnd s (Return value local) = IsNamed s value
IsNamedEnd s (Stop reason) = Unit {0}
IsNamedEnd s (Full why) = Unit {0}

-- Nothing is refused: the end is that of the model, the view keeps the state that the model leaves, and is it where the world told no
-- layout before; the world is ready again, and what had a name has it still.
pub record Gives (old new : Store) (before : Option Layout) (k : Kept) (found : CodeEnd) (o : Out) : Type 0 where
  pub granted : is_refused found ≡ false
  pub end : end_of new found ≡ o.end
  pub named : IsNamedEnd new found
  pub state : Keeps k o.state
  pub exact : before ≡ None → SameKept k o.state
  pub ready : IsReady new k
  pub names : KeepsNames old new

-- the model does all of it, or what it makes finds no room on the stack behind its making
abbrev pub IsMade : Out → Type 0
IsMade o = (o.end ≡ ends.Done) ⊎ ((o.end ≡ ends.Stopped stops.StackOver) × (0 < o.count.objects))

-- and the heap of the world has no room for what it makes, or looks at
pub record Refuses (new : Store) (before : Option Layout) (k : Kept) (o : Out) (why : Why) : Type 0 where
  pub end : IsMade o
  pub heap_alone : why ≡ Heap
  pub cause : CausesFull new before k o.count.objects o.state why
