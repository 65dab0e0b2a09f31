use Rattle.std.proofs.Common.{sym, subst}
use Rattle.cs_acts.specs.Names.{name_of}
use Rattle.cs_send.specs.Sent.{Enters, RefusesSend, message_of}
use Rattle.cs_send.proofs.Sending.{enters_plain, halts, is_plain, offers, sent_plain}
use Rattle.cs_send.proofs.Sender.send.Goals as goal

pub enter-requires-clause-fits : goal.enter-requires-clause-fits
enter-requires-clause-fits g c =
    let s = g.W.World.stored c.args.w.now in
    enters_plain (g.W.World.view c.args.w.now) (message_of s c.args.selector c.args.args c.args.above) c.requires.births (name_of s c.in-Plain.method) (sym c.in-Plain.ensures.found) c.in-Plain.ensures.method.method

pub returns-in-Primitive-clause-sent : goal.returns-in-Primitive-clause-sent
returns-in-Primitive-clause-sent g c =
    let s = g.W.World.stored c.args.w.now in
    offers (g.W.World.view c.args.w.now) (message_of s c.args.selector c.args.args c.args.above) c.requires.births s c.in-Primitive.method c.in-Primitive.number c.in-Primitive.ensures.found c.in-Primitive.ensures.method

pub returns-in-Ok-clause-sent : goal.returns-in-Ok-clause-sent
returns-in-Ok-clause-sent g c =
    let s = g.W.World.stored c.args.w.now in
    let k = g.W.World.view c.args.w.now in (
      is_plain k (message_of s c.args.selector c.args.args c.args.above) (name_of s c.in-Plain.method) c.in-Plain.ensures.found,
      subst (Enters s (g.W.World.stored c.enter.new.w) (g.W.World.layout c.args.w.now) (g.W.World.layout c.enter.new.w) k (g.W.World.view c.enter.new.w))
          (sent_plain k (message_of s c.args.selector c.args.args c.args.above) (name_of s c.in-Plain.method) (sym c.in-Plain.ensures.found)) c.in-Ok.ensures.enters,
    )

pub returns-in-Err-clause-sent : goal.returns-in-Err-clause-sent
returns-in-Err-clause-sent g c =
    let s = g.W.World.stored c.args.w.now in
    let k = g.W.World.view c.args.w.now in (
      is_plain k (message_of s c.args.selector c.args.args c.args.above) (name_of s c.in-Plain.method) c.in-Plain.ensures.found,
      subst (λ o. RefusesSend (g.W.World.stored c.enter.new.w) (g.W.World.layout c.args.w.now) k o c.in-Err.why)
          (sent_plain k (message_of s c.args.selector c.args.args c.args.above) (name_of s c.in-Plain.method) (sym c.in-Plain.ensures.found)) c.in-Err.ensures.full,
    )

pub returns-in-Stop-clause-sent : goal.returns-in-Stop-clause-sent
returns-in-Stop-clause-sent g c =
    let s = g.W.World.stored c.args.w.now in
    halts (g.W.World.view c.args.w.now) (message_of s c.args.selector c.args.args c.args.above) c.in-Stop.reason c.in-Stop.ensures.found
