use Rattle.std.proofs.Common.{subst}
use Rattle.cs_model.specs.State.{special_at}
use Rattle.cs_acts.specs.Names.{NamesOption}
use Rattle.cs_core.proofs.Calling.{selector_at, sends_call}
use Rattle.cs_core.proofs.step.call.Goals as goal

pub returns-in-Some-clause-gives : goal.returns-in-Some-clause-gives
returns-in-Some-clause-gives g c =
    sends_call (g.W.World.stored c.args.w.now) (g.W.World.view c.args.w.now) c.args.number c.args.args c.in-Some.selector (g.W.World.layout c.args.w.now) (g.W.World.layout c.send.new.w) (g.K.Sink.taken c.args.out.now) (g.K.Sink.taken c.send.new.out) (g.W.World.stored c.send.new.w) (g.W.World.view c.send.new.w) c.send.result
    (selector_at (g.W.World.stored c.args.w.now) c.in-Some.selector (special_at (g.W.World.view c.args.w.now) c.args.number) (subst (λ o. NamesOption (g.W.World.stored c.args.w.now) o (special_at (g.W.World.view c.args.w.now) c.args.number)) c.in-Some.is c.special.ensures)) c.send.ensures.gives
