use Rattle.cs_save.proofs.Headers.{lists_are}
use Rattle.cs_save.proofs.Written.{on_err, breaks_first, breaks_then, goes_then}
use Rattle.cs_save.proofs.table.put_free_lists.Goals as goal

pub returns-in_err-put_head-clause-err : goal.returns-in_err-put_head-clause-err
returns-in_err-put_head-clause-err g c = on_err c.from_residual.result _ (breaks_first _ _ _ _ _ (lists_are c.hidden_bits.result c.hidden_bits.ensures) c.in_err-put_head.ensures.err)

pub returns-in_err-put_long-clause-err : goal.returns-in_err-put_long-clause-err
returns-in_err-put_long-clause-err g c = on_err c.from_residual-in_err-put_long.result _ (breaks_then _ _ _ _ _ _ (lists_are c.hidden_bits.result c.hidden_bits.ensures) c.in_ok-put_head.ensures.ok c.in_err-put_long.ensures.err)

pub returns-clause-ok : goal.returns-clause-ok
returns-clause-ok g c = goes_then _ _ _ _ _ _ (lists_are c.hidden_bits.result c.hidden_bits.ensures) c.in_ok-put_head.ensures.ok c.in_ok-put_long.ensures.ok
