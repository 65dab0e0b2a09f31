use Rattle.cs_acts.specs.Names.{name_of}
use Rattle.cs_send.proofs.Sending.{enters, refuses}
use Rattle.cs_send.proofs.enter.Goals as goal

pub returns-clause-enters : goal.returns-clause-enters
returns-clause-enters g c =
    let s = g.W.World.stored c.args.w.now in
    let k = g.W.World.view c.args.w.now in
    enters k (g.W.World.view c.enter.new.self) (name_of s c.args.method) c.args.args c.args.skip
    s (g.W.World.stored c.enter.new.self) (g.W.World.layout c.args.w.now) (g.W.World.layout c.enter.new.self) c.enter.result c.requires.ready.sound.closed
    c.enter.ensures.state c.enter.ensures.exact c.enter.ensures.layout c.enter.ensures.contexts c.enter.ensures.ready c.enter.ensures.names

pub returns-clause-full : goal.returns-clause-full
returns-clause-full g c =
    let s = g.W.World.stored c.args.w.now in
    refuses (g.W.World.view c.args.w.now) (name_of s c.args.method) c.args.args c.args.skip (g.W.World.stored c.enter.new.self) (g.W.World.layout c.args.w.now) c.enter.result c.enter.ensures.full
