-- What a world is asked and what its words mean doesn't depend on whether its heap is dirty.
use Rattle.std.proofs.Common.{Bool}
use Rattle.cs_model.specs.State.{Kept}
use Rattle.cs_acts.specs.Names.{KeepsNames, Store}
use Rattle.cs_acts.specs.Ready.{Holds, IsReady, IsSound}

-- the same with a heap that is dirty or not
abbrev pub dirtied : Store → Bool → Store
dirtied s d = record s { memory = record s.memory { dirty = d } }

pub holds-dirtied : {s : Store} {k : Kept} (d : Bool) → Holds s k → Holds (dirtied s d) k
holds-dirtied d h = record { whole = h.whole; object = h.object; context = h.context; back = h.back; within = h.within; most = h.most; rest = h.rest }

pub sound-dirtied : {s : Store} {k : Kept} (d : Bool) → IsSound s k → IsSound (dirtied s d) k
sound-dirtied d h = record { closed = h.closed; pcs = h.pcs; kinds = h.kinds; births = h.births; holds = holds-dirtied d h.holds }

pub ready-dirtied : {s : Store} {k : Kept} (d : Bool) → IsReady s k → IsReady (dirtied s d) k
ready-dirtied d h = record { sound = sound-dirtied d h.sound; running = h.running }

pub names-dirtied : (s t : Store) (d : Bool) → KeepsNames s t → KeepsNames s (dirtied t d)
names-dirtied s t d h o named = let n = h o named in record { sound = n.sound; is = n.is }
