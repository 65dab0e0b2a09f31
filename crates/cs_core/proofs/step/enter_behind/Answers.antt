use Rattle.cs_acts.specs.Names.{name_of}
use Rattle.cs_core.proofs.Trying.{enters_behind, full_behind}
use Rattle.cs_core.proofs.step.enter_behind.Goals as goal

pub returns-in-Ok-clause-gives : goal.returns-in-Ok-clause-gives
returns-in-Ok-clause-gives g c = λ told number fails.
    enters_behind (g.W.World.view c.args.w.now) (g.W.World.view c.enter.new.w) (name_of (g.W.World.stored c.args.w.now) c.args.method) c.args.args number (g.W.World.layout c.args.w.now) (g.W.World.layout c.enter.new.w) told (g.W.World.stored c.args.w.now) (g.W.World.stored c.enter.new.w) c.finish.result c.requires.ready.running c.requires.enters.count fails c.in-Ok.ensures.enters c.finish.ensures.by

pub returns-in-Err-clause-gives : goal.returns-in-Err-clause-gives
returns-in-Err-clause-gives g c = λ told number fails.
    full_behind (g.W.World.view c.args.w.now) (g.W.World.view c.enter.new.w) (name_of (g.W.World.stored c.args.w.now) c.args.method) c.args.args number (g.W.World.layout c.args.w.now) (g.W.World.layout c.enter.new.w) told (g.W.World.stored c.enter.new.w) c.in-Err.why c.requires.enters.count fails c.in-Err.ensures.full
