use Rattle.std.proofs.Common.{sym}
use Rattle.cs_core.proofs.Places.{process_named, process_idle, no_process_idle}
use Rattle.cs_core.proofs.run.is_idle.Goals as goal

pub same-requires-clause-left : goal.same-requires-clause-left
same-requires-clause-left g c = process_named (g.W.World.stored c.args.w.now) (g.W.World.view c.args.w.now) c.active_process.result c.in-Some.process c.in-Some.is c.active_process.ensures

pub returns-in-Some : goal.returns-in-Some
returns-in-Some g c =
    process_idle (g.W.World.stored c.args.w.now) (g.W.World.view c.args.w.now) c.active_process.result c.in-Some.process c.nil.result c.same.result c.in-Some.is c.active_process.ensures c.nil.ensures c.same.ensures

pub returns-in-None : goal.returns-in-None
returns-in-None g c = sym (no_process_idle (g.W.World.stored c.args.w.now) (g.W.World.view c.args.w.now) c.active_process.result c.in-None.is c.active_process.ensures)
