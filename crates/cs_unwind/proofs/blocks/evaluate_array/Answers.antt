use Rattle.std.proofs.Common.{◌∙◌, arith, sym, subst}
use Rattle.std.proofs.lemmas.Bool.Decides.{nat_tests}
use Rattle.cs_acts.specs.Names.{name_of}
use Rattle.cs_unwind.specs.Blocks.{FindsBlock}
use Rattle.cs_unwind.proofs.Besides.{all_behind, enough_there, evaluates_behind, next_behind, spread_led}
use Rattle.cs_unwind.proofs.BlockRows.{array-cannot, array-count, array-no_elements, elements_of}
use Rattle.cs_unwind.proofs.Performing.{fails}
use Rattle.cs_unwind.proofs.blocks.evaluate_array.Goals as goal

pub returns-then-args-ne1 : goal.returns-then-args-ne1
returns-then-args-ne1 g c =
    let s = g.W.World.stored c.args.w.now in
    let k = g.W.World.view c.args.w.now in
    fails s (g.W.World.layout c.args.w.now) k _ _ c.requires.ready (array-count k c.args.args (λ e. grind (arith, nat_tests, c.if-args-ne1.true, e)))

pub returns-in_default : goal.returns-in_default
returns-in_default g c =
    let s = g.W.World.stored c.args.w.now in
    let k = g.W.World.view c.args.w.now in
    fails s (g.W.World.layout c.args.w.now) k _ _ c.requires.ready (array-no_elements k c.args.args (name_of s c.argument-array.result) (grind (arith, nat_tests, c.if-args-ne1.false)) c.argument-array.ensures.is (sym c.in_default.is ∙ c.fitting.ensures))

pub returns-in_default-block_method : goal.returns-in_default-block_method
returns-in_default-block_method g c =
    let s = g.W.World.stored c.args.w.now in
    let k = g.W.World.view c.args.w.now in
    let x = name_of s c.argument-array.result in
    let h = elements_of k x c.in-Some.count (sym c.in-Some.is ∙ c.fitting.ensures) in
    fails s (g.W.World.layout c.args.w.now) k _ _ c.requires.ready
    (array-cannot k c.args.args c.in-Some.count x (name_of s c.receiver-closure.result) (grind (arith, nat_tests, c.if-args-ne1.false)) c.argument-array.ensures.is c.receiver-closure.ensures.is h
    (subst (FindsBlock s k (name_of s c.receiver-closure.result) c.in-Some.count) c.in_default-block_method.is c.block_method.ensures))

pub enter-requires-clause-ready : goal.enter-requires-clause-ready
enter-requires-clause-ready g c =
    let s = g.W.World.stored c.args.w.now in
    let k = g.W.World.view c.args.w.now in
    let x = name_of s c.argument-array.result in
    let h = elements_of k x c.in-Some.count (sym c.in-Some.is ∙ c.fitting.ensures) in
    let t = g.W.World.stored c.spread.new.w in
    let v = g.W.World.view c.spread.new.w in
    let led = spread_led s t (g.W.World.layout c.args.w.now) (g.W.World.layout c.spread.new.w) k v x c.in-Some.count h c.spread.ensures.spreads in
    led.ready

pub enter-requires-clause-closure : goal.enter-requires-clause-closure
enter-requires-clause-closure g c =
    let s = g.W.World.stored c.args.w.now in
    let k = g.W.World.view c.args.w.now in
    let x = name_of s c.argument-array.result in
    let h = elements_of k x c.in-Some.count (sym c.in-Some.is ∙ c.fitting.ensures) in
    let t = g.W.World.stored c.spread.new.w in
    let v = g.W.World.view c.spread.new.w in
    let led = spread_led s t (g.W.World.layout c.args.w.now) (g.W.World.layout c.spread.new.w) k v x c.in-Some.count h c.spread.ensures.spreads in
    (led.names c.receiver-closure.result c.receiver-closure.ensures.sound).sound

pub enter-requires-clause-block : goal.enter-requires-clause-block
enter-requires-clause-block g c =
    let s = g.W.World.stored c.args.w.now in
    let k = g.W.World.view c.args.w.now in
    let x = name_of s c.argument-array.result in
    let h = elements_of k x c.in-Some.count (sym c.in-Some.is ∙ c.fitting.ensures) in
    let t = g.W.World.stored c.spread.new.w in
    let v = g.W.World.view c.spread.new.w in
    let led = spread_led s t (g.W.World.layout c.args.w.now) (g.W.World.layout c.spread.new.w) k v x c.in-Some.count h c.spread.ensures.spreads in
    evaluates_behind s t (g.W.World.layout c.args.w.now) (g.W.World.layout c.spread.new.w) k v h.values c.receiver-closure.result c.in-Some-block_method.method c.in-Some.count c.requires.ready.running led c.receiver-closure.ensures.sound
    (subst (FindsBlock s k (name_of s c.receiver-closure.result) c.in-Some.count) c.in-Some-block_method.is c.block_method.ensures)

pub enter-requires-clause-there : goal.enter-requires-clause-there
enter-requires-clause-there g c =
    let s = g.W.World.stored c.args.w.now in
    let k = g.W.World.view c.args.w.now in
    let x = name_of s c.argument-array.result in
    let h = elements_of k x c.in-Some.count (sym c.in-Some.is ∙ c.fitting.ensures) in
    let t = g.W.World.stored c.spread.new.w in
    let v = g.W.World.view c.spread.new.w in
    let led = spread_led s t (g.W.World.layout c.args.w.now) (g.W.World.layout c.spread.new.w) k v x c.in-Some.count h c.spread.ensures.spreads in
    enough_there v k x c.in-Some.count c.args.args h led.state (grind (arith, nat_tests, c.if-args-ne1.false)) c.requires.there

pub enter-requires-clause-births : goal.enter-requires-clause-births
enter-requires-clause-births g c =
    let s = g.W.World.stored c.args.w.now in
    let k = g.W.World.view c.args.w.now in
    let x = name_of s c.argument-array.result in
    let h = elements_of k x c.in-Some.count (sym c.in-Some.is ∙ c.fitting.ensures) in
    let t = g.W.World.stored c.spread.new.w in
    let v = g.W.World.view c.spread.new.w in
    let led = spread_led s t (g.W.World.layout c.args.w.now) (g.W.World.layout c.spread.new.w) k v x c.in-Some.count h c.spread.ensures.spreads in
    omega (arith, c.requires.births, next_behind v k h.values led.state)

pub returns : goal.returns
returns g c =
    let s = g.W.World.stored c.args.w.now in
    let k = g.W.World.view c.args.w.now in
    let x = name_of s c.argument-array.result in
    let h = elements_of k x c.in-Some.count (sym c.in-Some.is ∙ c.fitting.ensures) in
    let t = g.W.World.stored c.spread.new.w in
    let v = g.W.World.view c.spread.new.w in
    let led = spread_led s t (g.W.World.layout c.args.w.now) (g.W.World.layout c.spread.new.w) k v x c.in-Some.count h c.spread.ensures.spreads in
    let block = (subst (FindsBlock s k (name_of s c.receiver-closure.result) c.in-Some.count) c.in-Some-block_method.is c.block_method.ensures) in
    all_behind s t (g.W.World.stored c.enter.new.w) (g.W.World.layout c.args.w.now) (g.W.World.layout c.spread.new.w) (g.W.World.layout c.enter.new.w) k v (g.W.World.view c.enter.new.w) x c.receiver-closure.result c.in-Some.count c.args.args c.enter.result
    (grind (arith, nat_tests, c.if-args-ne1.false)) c.argument-array.ensures.is c.receiver-closure.ensures.is h c.receiver-closure.ensures.sound block.can led c.spread.ensures.laid c.enter.ensures
