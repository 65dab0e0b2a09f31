use Rattle.cs_save.proofs.Headers.{page_is}
use Rattle.cs_save.proofs.Written.{on_err, breaks_first, breaks_then, goes_then}
use Rattle.cs_save.proofs.table.put_page.Goals as goal

pub returns-in_err-put_head-clause-err : goal.returns-in_err-put_head-clause-err
returns-in_err-put_head-clause-err g c = on_err c.from_residual.result _ (breaks_first _ _ _ _ _ (page_is c.args.classes.now c.args.page c.hidden_bits.result c.hidden_bits.ensures) c.in_err-put_head.ensures.err)

pub returns-in_err-put_entries-clause-err : goal.returns-in_err-put_entries-clause-err
returns-in_err-put_entries-clause-err g c = on_err c.from_residual-in_err-put_entries.result _ (breaks_then _ _ _ _ _ _ (page_is c.args.classes.now c.args.page c.hidden_bits.result c.hidden_bits.ensures) c.in_ok-put_head.ensures.ok c.in_err-put_entries.ensures.err)

pub returns-clause-ok : goal.returns-clause-ok
returns-clause-ok g c = goes_then _ _ _ _ _ _ (page_is c.args.classes.now c.args.page c.hidden_bits.result c.hidden_bits.ensures) c.in_ok-put_head.ensures.ok c.in_ok-put_entries.ensures.ok
