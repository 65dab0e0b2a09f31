use Rattle.cs_save.proofs.Written.{on_err, flush_broke}
use Rattle.cs_save.proofs.piece.flush.Goals as goal

pub returns-in_err-append_whole-clause-err : goal.returns-in_err-append_whole-clause-err
returns-in_err-append_whole-clause-err g c =
    let e = c.in_err-append_whole.ensures in
    on_err c.from_residual.result _ (flush_broke _ _ c.as_slice.result.now c.as_slice.ensures.value e.none_begun e.contents e.asked_stays e.never_falls e.cause e.last e.err)
