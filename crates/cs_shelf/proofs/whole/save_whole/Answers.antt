use Rattle.std.proofs.Common.{refl}
use Rattle.cs_shelf.proofs.Appending.{all_taken, on_err}
use Rattle.cs_shelf.proofs.whole.save_whole.Goals as goal

pub returns-in_err-finish-clause-part : goal.returns-in_err-finish-clause-part
returns-in_err-finish-clause-part g c = on_err c.from_residual-in_err-finish.result _ (all_taken _ _ _ _ c.args.bytes.now c.in_ok-start.ensures.none_taken c.in_ok-append_whole.ensures.ok c.in_err-finish.ensures.taken_stays)
