use Rattle.std.proofs.Common.{◌≡◌, arith, subst, sym}
use Rattle.cs_model.specs.Operation.{drop_of, pop_of}
use Rattle.cs_acts.specs.Led.{Leads}
use Rattle.cs_acts.proofs.Leading.{then}
use Rattle.cs_code.proofs.Closing.{depth-dropped, dropped-more, dropped-none, here}
use Rattle.cs_code.proofs.closures.drop_values.Goals as goal

pub loop-init : goal.loop-init
loop-init g c =
    let k = g.W.World.view c.args.w.now in
    let s = g.W.World.stored c.args.w.now in
    let l = g.W.World.layout c.args.w.now in
    subst (λ t. Leads s s l l k t 0) (sym (dropped-none k c.requires.ready.running)) (here s l k c.requires.ready)

pub pop-requires-clause-ready : goal.pop-requires-clause-ready
pop-requires-clause-ready g c = c.loop.invariant.ready

pub pop-requires-clause-there : goal.pop-requires-clause-there
pop-requires-clause-there g c = omega (arith, depth-dropped _ _ c.loop.counter c.loop.invariant.state, c.loop-test.true, c.from-end.ensures, c.requires.there)

pub loop-preserved : goal.loop-preserved
loop-preserved g c =
    let e = c.pop.ensures in
    subst (λ t. Leads (g.W.World.stored c.args.w.now) (g.W.World.stored c.pop.new.self) (g.W.World.layout c.args.w.now) (g.W.World.layout c.pop.new.self) (g.W.World.view c.pop.new.self) t 0)
    (dropped-more (g.W.World.view c.args.w.now) c.loop.counter)
    (then _ _ _ _ _ _ _ _ _ 0 0 pop_of c.loop.invariant e.state e.exact e.layout e.limit e.contexts e.ready e.names)

pub returns : goal.returns
returns g c =
    let all : c.loop.counter ≡ c.args.count = omega (arith, c.loop-test.false, c.loop.auto.counter-end, c.from-end.ensures) in
    subst (λ n. Leads (g.W.World.stored c.args.w.now) (g.W.World.stored c.loop.w) (g.W.World.layout c.args.w.now) (g.W.World.layout c.loop.w) (g.W.World.view c.loop.w) (drop_of (g.W.World.view c.args.w.now) n) 0) all c.loop.invariant
