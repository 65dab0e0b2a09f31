use Rattle.std.proofs.Common.{sym, subst}
use Rattle.cs_marriage.specs.Agree.{Agree}
use Rattle.cs_marriage.proofs.Laws.{agree_dropped}
use Rattle.cs_tests.proofs.marriage.leave.Goals as goal

pub returns-clause-agree : goal.returns-clause-agree
returns-clause-agree g c =
    subst (Agree c.args.heap.now.objects) (sym c.drop_top.ensures.rest)
    (agree_dropped c.args.heap.now.objects c.args.frames.now 0 c.requires.agree c.requires.page c.top.ensures.stacked)
