use Rattle.std.proofs.Common.{ap, arith, is_some}
use Rattle.cs_stack.proofs.CutSteps.{begin, goes_on, in_time, not_there, steps, there}
use Rattle.cs_stack.proofs.parts.Parts.kill_to.Goals as goal

pub loop-init : goal.loop-init
loop-init c = record { going = λ g. begin c.args.self.now c.args.birth c.active-at.result c.requires.good g c.active-at.ensures.value }

pub act_birth-requires-clause-good : goal.act_birth-requires-clause-good
act_birth-requires-clause-good c = (c.loop.invariant.going c.requires.way).good

pub act_birth-requires-clause-stands : goal.act_birth-requires-clause-stands
act_birth-requires-clause-stands c = ap is_some (c.loop.invariant.going c.requires.way).stands

pub returns-then-act_birth-birth : goal.returns-then-act_birth-birth
returns-then-act_birth-birth c = record { arrives = λ g. there (c.loop.invariant.going g) c.act_birth.result c.act_birth.ensures c.if-act_birth-birth.true }

pub kill-at-requires-clause-good : goal.kill-at-requires-clause-good
kill-at-requires-clause-good c = (c.loop.invariant.going c.requires.way).good

pub kill-at-requires-clause-steps : goal.kill-at-requires-clause-steps
kill-at-requires-clause-steps c =
    let go = c.loop.invariant.going c.requires.way in
    steps go (not_there go c.act_birth.result c.act_birth.ensures c.if-act_birth-birth.false)

pub loop-preserved : goal.loop-preserved
loop-preserved c = record {
  going = λ g.
      let go = c.loop.invariant.going g in
      let on = not_there go c.act_birth.result c.act_birth.ensures c.if-act_birth-birth.false in
      goes_on go on c.kill-at.new.self c.kill-at.result (c.kill-at.ensures.stepped (steps go on));
}

pub unreachable-requires : goal.unreachable-requires
unreachable-requires c = omega (arith, in_time (c.loop.invariant.going c.requires.way), c.requires.way.few, c.loop-test.false)
