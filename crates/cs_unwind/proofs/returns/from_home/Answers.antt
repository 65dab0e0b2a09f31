use Rattle.std.proofs.Common.{ap}
use Rattle.cs_model.specs.declared.stop.Stop.TheVariants as why
use Rattle.cs_model.specs.End.{Out}
use Rattle.cs_acts.specs.Names.{name_of}
use Rattle.cs_unwind.proofs.Arriving.{nonlocal_nowhere, nonlocal_too_far, returns_as}
use Rattle.cs_unwind.proofs.Pushing.{stopped}
use Rattle.cs_unwind.proofs.returns.from_home.Goals as goal

pub returns-in-Nowhere : goal.returns-in-Nowhere
returns-in-Nowhere g c =
    let k = g.W.World.view c.args.w.now in
    let x = name_of (g.W.World.stored c.args.w.now) c.args.value in
    returns_as _ _ _ _ _ _ _ _ _ _ (nonlocal_nowhere k x c.in-Nowhere.ensures) (c.cannot_return.ensures _)

pub returns-in-TooFar : goal.returns-in-TooFar
returns-in-TooFar g c =
    let k = g.W.World.view c.args.w.now in
    let x = name_of (g.W.World.stored c.args.w.now) c.args.value in
    stopped (g.W.World.stored c.args.w.now) (g.W.World.layout c.args.w.now) k _ why.ChainTooLong _ c.requires.ready (ap (λ (o : Out). o.end) (nonlocal_too_far k x c.in-TooFar.ensures))
