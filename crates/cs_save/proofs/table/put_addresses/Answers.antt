use Rattle.std.proofs.Common.{refl, arith}
use Rattle.cs_save.proofs.Written.{on_err, loop_begun, loop_more, loop_broke}
use Rattle.cs_save.proofs.table.put_addresses.Goals as goal

pub loop-page-init : goal.loop-page-init
loop-page-init g c = loop_begun _

pub loop-page-preserved : goal.loop-page-preserved
loop-page-preserved g c = loop_more _ _ _ _ 0 c.loop-page.page _ c.loop-page.page _ c.loop-page.invariant c.in_ok-put_word.ensures.ok c.page_address.ensures refl (omega arith)

pub returns-in_err-put_word-clause-err : goal.returns-in_err-put_word-clause-err
returns-in_err-put_word-clause-err g c =
    on_err c.from_residual.result _ (loop_broke _ _ _ _ 0 c.loop-page.page 16 c.loop-page.page _ c.loop-page.invariant c.in_err-put_word.ensures.err c.page_address.ensures
    (omega (arith, c.loop-page-test.true)) (omega arith))
