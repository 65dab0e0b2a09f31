use Rattle.cs_unwind.proofs.Performing.{answered, looked_at, refused}
use Rattle.cs_unwind.proofs.marks.answer_context.Goals as goal

pub returns-in-Ok : goal.returns-in-Ok
returns-in-Ok g c =
    let k = g.W.World.view c.args.w.now in
    let e = c.in-Ok.ensures in
    answered (g.W.World.stored c.args.w.now) (g.W.World.stored c.act_context.new.self) (g.W.World.stored c.answer.new.w) (g.W.World.layout c.args.w.now) (g.W.World.layout c.act_context.new.self) (g.W.World.layout c.answer.new.w)
    k (g.W.World.view c.act_context.new.self) (g.W.World.view c.answer.new.w) c.args.args (g.W.World.act c.args.w.now c.args.a) c.in-Ok.ctx e.view
    (looked_at _ _ _ _ k _ c.requires.ready e.view e.layout e.limit e.contexts e.sound e.names) e.value c.answer.ensures

pub returns-in-Err : goal.returns-in-Err
returns-in-Err g c =
    let e = c.in-Err.ensures in
    refused (g.W.World.stored c.args.w.now) (g.W.World.stored c.act_context.new.self) (g.W.World.layout c.args.w.now) (g.W.World.layout c.act_context.new.self)
    (g.W.World.view c.args.w.now) (g.W.World.view c.act_context.new.self) c.args.args (g.W.World.act c.args.w.now c.args.a) c.in-Err.why c.requires.ready.running e.limit e.heap_alone e.full
