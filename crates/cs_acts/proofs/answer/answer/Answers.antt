use Rattle.std.proofs.Common.{◌+◌, ◌<◌, ap₂, arith, subst}
use Rattle.std.proofs.lemmas.Bool.Decides.{nat_tests}
use Rattle.cs_model.specs.Operation.{drop_of, pop_of, push_of}
use Rattle.cs_acts.specs.Names.{name_of}
use Rattle.cs_acts.specs.Led.{Leads}
use Rattle.cs_acts.proofs.Dropping.{depth-dropped, dropped-more, size-dropped}
use Rattle.cs_acts.proofs.Leading.{then}
use Rattle.cs_acts.proofs.answer.answer.Goals as goal

pub pop-requires-in-loop-clause-there : goal.pop-requires-in-loop-clause-there
pop-requires-in-loop-clause-there g c =
    let few : c.loop.counter < c.args.args = grind (arith, nat_tests, c.loop-test.true) in
    omega (arith, depth-dropped _ _ (c.loop.counter + 1) c.loop.invariant.state, few, c.requires.there)

pub loop-preserved : goal.loop-preserved
loop-preserved g c =
    let e = c.pop-in-loop.ensures in
    subst (λ t. Leads (g.W.World.stored c.args.w.now) (g.W.World.stored c.pop-in-loop.new.self) (g.W.World.layout c.args.w.now) (g.W.World.layout c.pop-in-loop.new.self) (g.W.World.view c.pop-in-loop.new.self) t 0)
    (dropped-more (g.W.World.view c.args.w.now) (c.loop.counter + 1))
    (then _ _ _ _ _ _ _ _ _ 0 0 pop_of c.loop.invariant e.state e.exact e.layout e.limit e.contexts e.ready e.names)

pub push-requires-clause-fits : goal.push-requires-clause-fits
push-requires-clause-fits g c =
    omega (arith, depth-dropped _ _ (c.loop.counter + 1) c.loop.invariant.state, size-dropped _ _ (c.loop.counter + 1) c.loop.invariant.state, c.depth-depth.ensures.value, c.depth-depth.ensures.fits, c.requires.there)

pub returns : goal.returns
returns g c =
    let e = c.push.ensures in
    let s = g.W.World.stored c.args.w.now in
    let t = g.W.World.stored c.loop.w in
    let all = then s t _ _ _ _ _ _ _ 0 0 (λ u. push_of u (name_of t c.args.value)) c.loop.invariant e.state e.exact e.layout e.limit e.contexts e.ready e.names in
    subst (λ p. Leads s (g.W.World.stored c.push.new.self) (g.W.World.layout c.args.w.now) (g.W.World.layout c.push.new.self) (g.W.World.view c.push.new.self) p 0)
    (ap₂ (λ n x. push_of (drop_of (g.W.World.view c.args.w.now) (n + 1)) x) (grind (arith, nat_tests, c.loop-test.false, c.loop.auto.counter-end)) (c.loop.invariant.names c.args.value c.requires.named).is) all
