use Rattle.std.proofs.Common.{◌≡◌, ◌+◌, ◌-◌, ◌<◌, length, drop, refl, subst, arith}
use Rattle.cs_build.proofs.Judging.{HasClasses, HasClasses-all, HasClasses-next}
use Rattle.cs_build.proofs.tables.known_names.Goals as goal

pub loop-left-preserved : goal.loop-left-preserved
loop-left-preserved c =
    let at : c.loop-left.left ≡ (c.loop-left.left - 1) + 1 = omega arith in
    let some : c.loop-left.left - 1 < length c.known_classes-classes.result = omega arith in (
      omega arith,
      HasClasses-next c.loop-left.names c.put.new.table c.known_classes-classes.result (c.loop-left.left - 1) c.loop-left.left _ _
          at some refl c.loop-left.invariant.1 c.in_ok-put.ensures,
    )

pub returns : goal.returns
returns c =
    let none : c.loop-left.left ≡ 0 = omega arith in
    HasClasses-all c.loop-left.names c.known_classes-classes.result c.known_classes-classes.ensures
    (subst (λ n. HasClasses c.loop-left.names (drop n c.known_classes-classes.result)) none c.loop-left.invariant.1)
