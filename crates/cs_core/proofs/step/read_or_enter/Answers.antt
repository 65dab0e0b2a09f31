use Rattle.cs_acts.specs.Names.{name_of}
use Rattle.cs_core.proofs.Picking.{built_reads}
use Rattle.cs_core.proofs.Viewing.{fails_still, reads_by, reply_fails, reply_full, reply_over, reply_stops, turn_still}
use Rattle.cs_model.specs.Step.{with_kept}
use Rattle.cs_core.proofs.step.read_or_enter.Goals as goal

pub returns-in-Answer-clause-gives : goal.returns-in-Answer-clause-gives
returns-in-Answer-clause-gives g c = λ told.
    reply_over (g.W.World.view c.args.w.now) (name_of (g.W.World.stored c.args.w.now) c.args.method) c.args.number c.args.args c.requires.enters.count (built_reads (g.W.World.view c.args.w.now) c.args.number c.args.args c.requires.reads) (λ r. reads_by (with_kept (g.W.World.view c.args.w.now) r) c.args.number c.args.args c.requires.reads) (g.W.World.view c.primitive.new.w) (g.W.World.layout c.args.w.now) (g.W.World.layout c.primitive.new.w) told
    (g.W.World.stored c.args.w.now) (g.W.World.stored c.primitive.new.w) c.finish.result c.primitive.result c.requires.ready.running c.in-Answer.is c.primitive.ensures.gives c.primitive.ensures.layout c.finish.ensures.by

pub returns-in-Fail-clause-gives : goal.returns-in-Fail-clause-gives
returns-in-Fail-clause-gives g c = λ told.
    let k = g.W.World.view c.args.w.now in
    let u = g.W.World.view c.primitive.new.w in
    let x = name_of (g.W.World.stored c.args.w.now) c.args.method in
    let y = name_of (g.W.World.stored c.primitive.new.w) c.args.method in
    let e = c.in-Fail.ensures in
    let named = (e.gives.2.names c.args.method c.requires.named).is in
    turn_still k u x y c.args.number (g.W.World.layout c.args.w.now) (g.W.World.layout c.primitive.new.w) (g.W.World.layout c.enter_behind.new.w) told (g.W.World.stored c.enter_behind.new.w) (g.W.World.view c.enter_behind.new.w) c.enter_behind.result e.gives.1 named e.layout
    (c.enter_behind.ensures.gives told c.args.number (fails_still k u x y c.args.number e.gives.1 named (reply_fails k x c.args.number c.args.args c.requires.enters.count (built_reads (g.W.World.view c.args.w.now) c.args.number c.args.args c.requires.reads) (λ r. reads_by (with_kept (g.W.World.view c.args.w.now) r) c.args.number c.args.args c.requires.reads) e.gives.0)))

pub returns-in-Stop-clause-gives : goal.returns-in-Stop-clause-gives
returns-in-Stop-clause-gives g c = λ told.
    reply_stops (g.W.World.view c.args.w.now) (name_of (g.W.World.stored c.args.w.now) c.args.method) c.args.number c.args.args c.requires.enters.count (built_reads (g.W.World.view c.args.w.now) c.args.number c.args.args c.requires.reads) (λ r. reads_by (with_kept (g.W.World.view c.args.w.now) r) c.args.number c.args.args c.requires.reads) (g.W.World.view c.primitive.new.w) (g.W.World.layout c.args.w.now) (g.W.World.layout c.primitive.new.w) told
    (g.W.World.stored c.primitive.new.w) c.in-Stop.reason c.in-Stop.ensures.gives.0

pub returns-in-Full-clause-gives : goal.returns-in-Full-clause-gives
returns-in-Full-clause-gives g c = λ told.
    reply_full (g.W.World.view c.args.w.now) (name_of (g.W.World.stored c.args.w.now) c.args.method) c.args.number c.args.args c.requires.enters.count (built_reads (g.W.World.view c.args.w.now) c.args.number c.args.args c.requires.reads) (λ r. reads_by (with_kept (g.W.World.view c.args.w.now) r) c.args.number c.args.args c.requires.reads) (g.W.World.view c.primitive.new.w) (g.W.World.layout c.args.w.now) (g.W.World.layout c.primitive.new.w) told
    (g.W.World.stored c.args.w.now) (g.W.World.stored c.primitive.new.w) c.in-Full.why c.requires.ready.running c.in-Full.ensures.gives

pub returns-in-Stop-clause-sound : goal.returns-in-Stop-clause-sound
returns-in-Stop-clause-sound g c = c.in-Stop.ensures.gives.1.ready.sound
