use Rattle.std.proofs.Common.{refl}
use Rattle.cs_save.proofs.Written.{on_err, breaks_first, breaks_then, goes_then}
use Rattle.cs_save.proofs.table.put_table_head.Goals as goal

pub returns-in_err-put_free_lists-clause-err : goal.returns-in_err-put_free_lists-clause-err
returns-in_err-put_free_lists-clause-err g c = on_err c.from_residual.result _ (breaks_first _ _ _ _ _ (refl) c.in_err-put_free_lists.ensures.err)

pub returns-in_err-put_root-clause-err : goal.returns-in_err-put_root-clause-err
returns-in_err-put_root-clause-err g c = on_err c.from_residual-in_err-put_root.result _ (breaks_then _ _ _ _ _ _ (refl) c.in_ok-put_free_lists.ensures.ok c.in_err-put_root.ensures.err)

pub returns-clause-ok : goal.returns-clause-ok
returns-clause-ok g c = goes_then _ _ _ _ _ _ (refl) c.in_ok-put_free_lists.ensures.ok c.in_ok-put_root.ensures.ok
