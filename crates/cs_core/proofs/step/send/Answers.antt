use Rattle.std.proofs.Common.{subst, sym}
use Rattle.cs_acts.specs.Names.{name_of}
use Rattle.cs_acts.specs.Ready.{IsSound}
use Rattle.cs_send.specs.Sent.{Offers, message_of}
use Rattle.cs_core.proofs.Carrying.{carried}
use Rattle.cs_core.proofs.Resolving.{entered_gives, halted_gives, offered_same, refused_gives}
use Rattle.cs_core.specs.Stepped.{TurnGives, sending, trying}
use Rattle.cs_core.proofs.step.send.Goals as goal

pub returns-in-Entered-clause-gives : goal.returns-in-Entered-clause-gives
returns-in-Entered-clause-gives g c =
    entered_gives (g.W.World.view c.args.w.now) (g.W.World.view c.send.new.w) (message_of (g.W.World.stored c.args.w.now) c.args.selector c.args.args c.args.above) (g.W.World.layout c.args.w.now) (g.W.World.layout c.send.new.w) (g.K.Sink.taken c.args.out.now) (g.W.World.stored c.args.w.now) (g.W.World.stored c.send.new.w) c.finish.result c.requires.ready.running c.in-Entered.ensures.sent.0 c.in-Entered.ensures.sent.1 c.finish.ensures.by

pub returns-in-Primitive-clause-gives : goal.returns-in-Primitive-clause-gives
returns-in-Primitive-clause-gives g c =
    carried (trying (g.W.World.view c.args.w.now) (name_of (g.W.World.stored c.args.w.now) c.in-Primitive.method) c.in-Primitive.number) (sending (g.W.World.view c.args.w.now) (message_of (g.W.World.stored c.args.w.now) c.args.selector c.args.args c.args.above)) (g.W.World.view c.args.w.now) (g.W.World.view c.args.w.now) (g.W.World.layout c.args.w.now) (g.W.World.layout c.try_primitive.new.w) (g.K.Sink.taken c.args.out.now) (g.K.Sink.taken c.try_primitive.new.out) (g.W.World.stored c.try_primitive.new.w) (g.W.World.view c.try_primitive.new.w) c.try_primitive.result
    (offered_same (g.W.World.stored c.args.w.now) (g.W.World.view c.args.w.now) (message_of (g.W.World.stored c.args.w.now) c.args.selector c.args.args c.args.above) c.in-Primitive.method c.in-Primitive.number (subst (λ w. Offers (g.W.World.stored w) (g.W.World.view c.args.w.now) (message_of (g.W.World.stored c.args.w.now) c.args.selector c.args.args c.args.above) c.in-Primitive.method c.in-Primitive.number) c.in-Primitive.ensures.still c.in-Primitive.ensures.sent)) (λ output steps page apart full. full) (λ stack. stack)
    (subst (λ w. TurnGives (trying (g.W.World.view w) (name_of (g.W.World.stored w) c.in-Primitive.method) c.in-Primitive.number) (g.W.World.view w) (g.W.World.layout w) (g.K.Sink.taken c.args.out.now) (g.K.Sink.taken c.try_primitive.new.out) (g.W.World.stored c.try_primitive.new.w) (g.W.World.view c.try_primitive.new.w) (g.W.World.layout c.try_primitive.new.w) c.try_primitive.result)
    c.in-Primitive.ensures.still c.try_primitive.ensures.gives)

pub returns-in-Stop-clause-gives : goal.returns-in-Stop-clause-gives
returns-in-Stop-clause-gives g c = halted_gives (g.W.World.view c.args.w.now) (g.W.World.view c.send.new.w) (message_of (g.W.World.stored c.args.w.now) c.args.selector c.args.args c.args.above) (g.W.World.layout c.args.w.now) (g.W.World.layout c.send.new.w) (g.K.Sink.taken c.args.out.now) (g.W.World.stored c.send.new.w) c.in-Stop.reason c.in-Stop.ensures.sent

pub returns-in-Full-clause-gives : goal.returns-in-Full-clause-gives
returns-in-Full-clause-gives g c = refused_gives (g.W.World.view c.args.w.now) (g.W.World.view c.send.new.w) (message_of (g.W.World.stored c.args.w.now) c.args.selector c.args.args c.args.above) (g.W.World.layout c.args.w.now) (g.W.World.layout c.send.new.w) (g.K.Sink.taken c.args.out.now) (g.W.World.stored c.send.new.w) c.in-Full.why c.in-Full.ensures.sent.0 c.in-Full.ensures.sent.1

pub returns-in-Stop-clause-sound : goal.returns-in-Stop-clause-sound
returns-in-Stop-clause-sound g c = subst (λ w. IsSound (g.W.World.stored w) (g.W.World.view w)) (sym c.in-Stop.ensures.still) c.requires.ready.sound
