use Rattle.cs_acts.specs.Names.{name_of}
use Rattle.cs_core.proofs.Calling.{births_told, tells_gives}
use Rattle.cs_core.proofs.Returning.{arrived_gives, lacks_gives, stops_gives}
use Rattle.cs_core.proofs.step.give_back.Goals as goal

pub call-requires-clause-births : goal.call-requires-clause-births
call-requires-clause-births g c =
    births_told (g.W.World.view c.args.w.now) (g.W.World.view c.give_back.new.w) (name_of (g.W.World.stored c.args.w.now) c.args.value) c.args.local c.in-Call.special c.in-Call.args (g.W.World.stored c.args.w.now) (g.W.World.stored c.give_back.new.w) c.requires.ready.running c.in-Call.ensures.gives.0 c.in-Call.ensures.gives.1 c.requires.births

pub returns-in-Done-clause-gives : goal.returns-in-Done-clause-gives
returns-in-Done-clause-gives g c =
    arrived_gives (g.W.World.view c.args.w.now) (g.W.World.view c.give_back.new.w) (name_of (g.W.World.stored c.args.w.now) c.args.value) c.args.local (g.W.World.layout c.args.w.now) (g.W.World.layout c.give_back.new.w) (g.K.Sink.taken c.args.out.now) (g.W.World.stored c.args.w.now) (g.W.World.stored c.give_back.new.w) c.finish.result c.requires.ready.running c.in-Done.ensures.gives.0 c.in-Done.ensures.gives.1 c.in-Done.ensures.layout c.finish.ensures.by

pub returns-in-Call-clause-gives : goal.returns-in-Call-clause-gives
returns-in-Call-clause-gives g c =
    tells_gives (g.W.World.view c.args.w.now) (g.W.World.view c.give_back.new.w) (name_of (g.W.World.stored c.args.w.now) c.args.value) c.args.local c.in-Call.special c.in-Call.args (g.W.World.layout c.args.w.now) (g.W.World.layout c.give_back.new.w) (g.W.World.layout c.call.new.w) (g.K.Sink.taken c.args.out.now) (g.K.Sink.taken c.call.new.out) (g.W.World.stored c.args.w.now) (g.W.World.stored c.give_back.new.w) (g.W.World.stored c.call.new.w) (g.W.World.view c.call.new.w) c.call.result c.requires.ready.running c.in-Call.ensures.gives.0 c.in-Call.ensures.gives.1 c.in-Call.ensures.layout c.call.ensures.gives

pub returns-in-Stop-clause-gives : goal.returns-in-Stop-clause-gives
returns-in-Stop-clause-gives g c = stops_gives (g.W.World.view c.args.w.now) (g.W.World.view c.give_back.new.w) (name_of (g.W.World.stored c.args.w.now) c.args.value) c.args.local (g.W.World.layout c.args.w.now) (g.W.World.layout c.give_back.new.w) (g.K.Sink.taken c.args.out.now) (g.W.World.stored c.give_back.new.w) c.in-Stop.reason c.in-Stop.ensures.gives.0

pub returns-in-Full-clause-gives : goal.returns-in-Full-clause-gives
returns-in-Full-clause-gives g c =
    lacks_gives (g.W.World.view c.args.w.now) (g.W.World.view c.give_back.new.w) (name_of (g.W.World.stored c.args.w.now) c.args.value) c.args.local (g.W.World.layout c.args.w.now) (g.W.World.layout c.give_back.new.w) (g.K.Sink.taken c.args.out.now) (g.W.World.stored c.give_back.new.w) c.in-Full.why c.in-Full.ensures.gives.0 c.in-Full.ensures.gives.1 c.in-Full.ensures.gives.2

pub returns-in-Stop-clause-sound : goal.returns-in-Stop-clause-sound
returns-in-Stop-clause-sound g c = c.in-Stop.ensures.gives.1.sound
