use Rattle.std.proofs.Common.{arith, subst}
use Rattle.std.proofs.lemmas.Bool.Decides.{nat_tests}
use Rattle.cs_acts.specs.Names.{name_of}
use Rattle.cs_unwind.specs.Blocks.{FindsBlock}
use Rattle.cs_unwind.specs.Performed.{Performs}
use Rattle.cs_unwind.proofs.Performing.{fails}
use Rattle.cs_unwind.proofs.BlockRows.{evaluate-can, evaluate-cannot, evaluate-count}
use Rattle.cs_unwind.proofs.blocks.evaluate.Goals as goal

pub returns-then-args-wanted : goal.returns-then-args-wanted
returns-then-args-wanted g c =
    let s = g.W.World.stored c.args.w.now in
    let k = g.W.World.view c.args.w.now in
    fails s (g.W.World.layout c.args.w.now) k k _ c.requires.ready (evaluate-count k c.args.wanted c.args.args (λ e. grind (arith, nat_tests, c.if-args-wanted.true, e)))

pub returns-in-Some : goal.returns-in-Some
returns-in-Some g c =
    let s = g.W.World.stored c.args.w.now in
    let k = g.W.World.view c.args.w.now in
    let block = subst (FindsBlock s k (name_of s c.receiver-closure.result) c.args.wanted) c.in-Some.is c.block_method.ensures in
    subst (Performs s (g.W.World.stored c.enter.new.w) (g.W.World.layout c.args.w.now) (g.W.World.layout c.enter.new.w) k k (g.W.World.view c.enter.new.w) c.enter.result)
    (evaluate-can k c.args.wanted c.args.args (name_of s c.receiver-closure.result) (grind (arith, nat_tests, c.if-args-wanted.false)) c.receiver-closure.ensures.is block.can)
    c.enter.ensures

pub returns-in-None : goal.returns-in-None
returns-in-None g c =
    let s = g.W.World.stored c.args.w.now in
    let k = g.W.World.view c.args.w.now in
    fails s (g.W.World.layout c.args.w.now) k k _ c.requires.ready
    (evaluate-cannot k c.args.wanted c.args.args (name_of s c.receiver-closure.result) (grind (arith, nat_tests, c.if-args-wanted.false)) c.receiver-closure.ensures.is
    (subst (FindsBlock s k (name_of s c.receiver-closure.result) c.args.wanted) c.in-None.is c.block_method.ensures))
