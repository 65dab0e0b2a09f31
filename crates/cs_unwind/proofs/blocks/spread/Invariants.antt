use Rattle.std.proofs.Common.{take}
use Rattle.cs_model.specs.Send.{spread_of}
use Rattle.cs_acts.specs.Led.{Leads}
use Rattle.cs_acts.specs.Names.{name_of}
use Rattle.cs_unwind.proofs.Spreading.{elements}
use Rattle.cs_unwind.proofs.blocks.spread.Given as goal

abbrev pub invariant-loop-i : goal.invariant-loop-i
invariant-loop-i g l = Leads (g.W.World.stored l.fn.w) (g.W.World.stored l.w) (g.W.World.layout l.fn.w) (g.W.World.layout l.w) (g.W.World.view l.w) (spread_of (g.W.World.view l.fn.w) 1 (take l.i (elements (g.W.World.view l.fn.w) (name_of (g.W.World.stored l.fn.w) l.fn.array)))) 0
