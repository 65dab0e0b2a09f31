use Rattle.std.proofs.Common.{refl}
use Rattle.cs_save.proofs.Written.{on_err, breaks_first, breaks_then, goes_then}
use Rattle.cs_save.proofs.object.put_head.Goals as goal

pub returns-in_err-put_overflow-clause-err : goal.returns-in_err-put_overflow-clause-err
returns-in_err-put_overflow-clause-err g c = on_err c.from_residual.result _ (breaks_first _ _ _ _ _ refl c.in_err-put_overflow.ensures.err)

pub returns-in_err-put_long-clause-err : goal.returns-in_err-put_long-clause-err
returns-in_err-put_long-clause-err g c = on_err c.from_residual-in_err-put_long.result _ (breaks_then _ _ _ _ _ _ refl c.in_ok-put_overflow.ensures.ok c.in_err-put_long.ensures.err)

pub returns-clause-ok : goal.returns-clause-ok
returns-clause-ok g c = goes_then _ _ _ _ _ _ refl c.in_ok-put_overflow.ensures.ok c.in_ok-put_long.ensures.ok
