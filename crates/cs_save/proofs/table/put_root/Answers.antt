use Rattle.cs_save.proofs.Headers.{root_is}
use Rattle.cs_save.proofs.Written.{on_err, breaks_first, breaks_then, goes_then}
use Rattle.cs_save.proofs.table.put_root.Goals as goal

pub returns-in_err-put_head-clause-err : goal.returns-in_err-put_head-clause-err
returns-in_err-put_head-clause-err g c = on_err c.from_residual.result _ (breaks_first _ _ _ _ _ (root_is c.args.used c.hidden_bits.result c.hidden_bits.ensures) c.in_err-put_head.ensures.err)

pub returns-in_err-put_addresses-clause-err : goal.returns-in_err-put_addresses-clause-err
returns-in_err-put_addresses-clause-err g c = on_err c.from_residual-in_err-put_addresses.result _ (breaks_then _ _ _ _ _ _ (root_is c.args.used c.hidden_bits.result c.hidden_bits.ensures) c.in_ok-put_head.ensures.ok c.in_err-put_addresses.ensures.err)

pub returns-clause-ok : goal.returns-clause-ok
returns-clause-ok g c = goes_then _ _ _ _ _ _ (root_is c.args.used c.hidden_bits.result c.hidden_bits.ensures) c.in_ok-put_head.ensures.ok c.in_ok-put_addresses.ensures.ok
