use Rattle.std.proofs.Common.{arith}
use Rattle.cs_save.proofs.Written.{on_err, loop_begun, pages_more, pages_broke}
use Rattle.cs_save.proofs.table.put_pages.Goals as goal

pub loop-page-init : goal.loop-page-init
loop-page-init g c = loop_begun _

pub loop-page-preserved : goal.loop-page-preserved
loop-page-preserved g c = pages_more _ _ _ _ c.loop-page.page c.loop-page.invariant c.in_ok-put_page.ensures.ok

pub returns-in_err-put_page-clause-err : goal.returns-in_err-put_page-clause-err
returns-in_err-put_page-clause-err g c =
    on_err c.from_residual.result _ (pages_broke _ _ _ _ c.loop-page.page 16 c.loop-page.invariant c.in_err-put_page.ensures.err (omega (arith, c.loop-page-test.true)))
