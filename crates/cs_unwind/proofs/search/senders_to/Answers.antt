use Rattle.std.proofs.Common.{◌≡◌, sym, ◌∙◌, arith}
use Rattle.cs_model.specs.Read.{active_birth}
use Rattle.cs_model.specs.Return as model
use Rattle.cs_unwind.specs.Walked.{EndsBefore, MeetsHome}
use Rattle.cs_unwind.proofs.Walking.{at_same, not_some, told, walk, walk_context, walk_ends, walk_far, walk_meets, walk_on}
use Rattle.cs_unwind.proofs.search.senders_to.Goals as goal

pub loop-init : goal.loop-init
loop-init g c = walk _ _ _ _ c.sender-next.result (told _ c.sender-next.ensures c.active.ensures)

pub returns-in_default : goal.returns-in_default
returns-in_default g c = λ i at.
    let k = g.W.World.view c.args.w.now in
    at_same (λ j. EndsBefore k j) c.act_birth-goal.ensures at (walk_ends _ k _ _ c.loop.counter c.loop.next c.loop.passed c.loop.invariant c.in_default.is)

pub returns-then-act_birth-goal : goal.returns-then-act_birth-goal
returns-then-act_birth-goal g c = λ i at.
    let k = g.W.World.view c.args.w.now in
    at_same (λ j. MeetsHome (g.W.World.act c.args.w.now) k j c.args.target c.loop.passed) c.act_birth-goal.ensures at
    (walk_meets _ k _ _ c.loop.counter c.loop.next c.in-Some.act c.loop.passed c.act_birth.result c.loop.invariant c.in-Some.is c.act_birth.ensures c.if-act_birth-goal.true c.loop-test.true)

pub pass-passed-requires-clause-context : goal.pass-passed-requires-clause-context
pass-passed-requires-clause-context g c = walk_context _ _ _ _ c.loop.counter c.loop.next c.in-Some.act c.loop.passed c.act_birth.result c.loop.invariant c.in-Some.is c.act_birth.ensures

pub loop-preserved : goal.loop-preserved
loop-preserved g c =
    walk_on _ _ _ _ c.loop.counter c.loop.next c.in-Some.act c.loop.passed c.pass-passed.result c.sender-next-in-loop.result c.act_birth.result c.loop.invariant c.in-Some.is c.act_birth.ensures c.if-act_birth-goal.false c.loop-test.true
    (told _ c.sender-next-in-loop.ensures c.act_birth.ensures) c.pass-passed.ensures

pub returns-then-is_some : goal.returns-then-is_some
returns-then-is_some g c = λ i at.
    let k = g.W.World.view c.args.w.now in
    at_same (λ j. model.senders_to k (active_birth k) j ≡ model.TooLong) c.act_birth-goal.ensures at
    (walk_far _ k _ _ c.loop.counter c.loop.next c.loop.passed c.loop.invariant (sym c.is_some.ensures ∙ c.if-is_some.true) (omega (arith, c.loop-test.false)))

pub returns-else-is_some : goal.returns-else-is_some
returns-else-is_some g c = λ i at.
    let k = g.W.World.view c.args.w.now in
    at_same (λ j. EndsBefore k j) c.act_birth-goal.ensures at (walk_ends _ k _ _ c.loop.counter c.loop.next c.loop.passed c.loop.invariant (not_some _ (sym c.is_some.ensures ∙ c.if-is_some.false)))
