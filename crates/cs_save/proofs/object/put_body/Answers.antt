use Rattle.std.proofs.Common.{refl, arith}
use Rattle.cs_save.proofs.Written.{on_err, loop_begun, loop_more, loop_broke}
use Rattle.cs_save.proofs.object.put_body.Goals as goal

pub loop-i-init : goal.loop-i-init
loop-i-init g c = loop_begun _

pub loop-i-preserved : goal.loop-i-preserved
loop-i-preserved g c = loop_more _ _ _ _ 0 c.loop-i.i _ c.loop-i.i _ c.loop-i.invariant c.in_ok-put_word.ensures.ok c.body_word.ensures refl (omega arith)

pub returns-in_err-put_word-clause-err : goal.returns-in_err-put_word-clause-err
returns-in_err-put_word-clause-err g c =
    on_err c.from_residual.result _ (loop_broke _ _ _ _ 0 c.loop-i.i _ c.loop-i.i _ c.loop-i.invariant c.in_err-put_word.ensures.err c.body_word.ensures
    (omega (arith, c.loop-i-test.true, c.body_size-i-end.ensures, c.slot_count.ensures.value)) (omega arith))
