use Rattle.std.proofs.Common.{sym, ◌∙◌, arith}
use Rattle.cs_unwind.proofs.Walking.{not_some, seek, seek_on, sought, sought_far, sought_nowhere}
use Rattle.cs_unwind.proofs.search.home.Goals as goal

pub loop-init : goal.loop-init
loop-init g c = seek _ _ c.active-act.result c.active-act.ensures

pub returns-then-is_home : goal.returns-then-is_home
returns-then-is_home g c = sought _ _ c.loop.counter c.loop.act _ c.loop.invariant c.is_home.ensures c.if-is_home.true

pub returns-in_default : goal.returns-in_default
returns-in_default g c = sought_nowhere _ _ c.loop.counter c.loop.act _ _ c.loop.invariant c.is_home.ensures c.if-is_home.false c.outer_of.ensures c.in_default.is

pub loop-preserved : goal.loop-preserved
loop-preserved g c = seek_on _ _ c.loop.counter c.loop.act c.in-Some.outer _ _ c.loop.invariant c.is_home.ensures c.if-is_home.false c.outer_of.ensures c.in-Some.is c.loop-test.true

pub returns-then-is_home-2 : goal.returns-then-is_home-2
returns-then-is_home-2 g c = sought _ _ c.loop.counter c.loop.act _ c.loop.invariant c.is_home-2.ensures c.if-is_home-2.true

pub returns-then-is_some : goal.returns-then-is_some
returns-then-is_some g c =
    sought_far _ _ c.loop.counter c.loop.act _ _ c.loop.invariant c.is_home-2.ensures c.if-is_home-2.false c.outer_of-else-is_home-2.ensures (sym c.is_some.ensures ∙ c.if-is_some.true) (omega (arith, c.loop-test.false))

pub returns-else-is_some : goal.returns-else-is_some
returns-else-is_some g c =
    sought_nowhere _ _ c.loop.counter c.loop.act _ _ c.loop.invariant c.is_home-2.ensures c.if-is_home-2.false c.outer_of-else-is_home-2.ensures (not_some _ (sym c.is_some.ensures ∙ c.if-is_some.false))
