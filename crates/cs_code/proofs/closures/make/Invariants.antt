use Rattle.cs_model.specs.Operation.{add_of, next_ref}
use Rattle.cs_acts.specs.Names.{Names}
use Rattle.cs_acts.specs.Led.{Leads}
use Rattle.cs_code.specs.Closures.{closure_with, copied_so_far}
use Rattle.cs_code.proofs.closures.make.Given as goal

-- the closure is there, with so many of its copied values
abbrev pub invariant-loop-i : goal.invariant-loop-i
invariant-loop-i g l =
    Leads (g.W.World.stored l.fn.w) (g.W.World.stored l.w) (g.W.World.layout l.fn.w) (g.W.World.layout l.w) (g.W.World.view l.w)
    (add_of (g.W.World.view l.fn.w) (closure_with (g.W.World.view l.fn.w) l.fn.args (copied_so_far (g.W.World.view l.fn.w) l.fn.copied l.i))) 1
    × Names (g.W.World.stored l.w) l.closure (next_ref (g.W.World.view l.fn.w))
