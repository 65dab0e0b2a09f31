use Rattle.std.proofs.Common.{[], ◌∷◌, refl}
use Rattle.cs_save.proofs.Written.{on_err, breaks_first, breaks_then, goes_then}
use Rattle.cs_save.proofs.put_pair.Goals as goal

pub returns-in_err-put_word-clause-err : goal.returns-in_err-put_word-clause-err
returns-in_err-put_word-clause-err g c = on_err c.from_residual.result _ (breaks_first _ _ _ (c.args.second ∷ []) _ (refl) c.in_err-put_word.ensures.err)

pub returns-in_err-put_word-2-clause-err : goal.returns-in_err-put_word-2-clause-err
returns-in_err-put_word-2-clause-err g c = on_err c.from_residual-in_err-put_word-2.result _ (breaks_then _ _ _ _ _ _ (refl) c.in_ok-put_word.ensures.ok c.in_err-put_word-2.ensures.err)

pub returns-clause-ok : goal.returns-clause-ok
returns-clause-ok g c = goes_then _ _ _ _ _ _ (refl) c.in_ok-put_word.ensures.ok c.in_ok-put_word-2.ensures.ok
