use Rattle.cs_model.specs.Words.{bytes_of_words}
use Rattle.std.proofs.Common.{◌*◌, ◌^◌, [], ◌∷◌, ap, sym, ◌∙◌, arith}
use Rattle.cs_save.proofs.Written.{on_err, breaks_first, breaks_then, goes_then, went_nowhere, went_same, overflow_long, overflow_short, no_bytes}
use Rattle.cs_save.proofs.object.put_overflow.Goals as goal

pub returns-in_err-put_word-clause-err : goal.returns-in_err-put_word-clause-err
returns-in_err-put_word-clause-err g c =
    on_err c.from_residual.result _ (breaks_first _ _ (c.args.slots ∷ []) (255 * 2 ^ 24 ∷ []) _ (overflow_long c.args.slots (omega (arith, c.if-slots-ge255.true))) c.in_err-put_word.ensures.err)

pub returns-in_err-put_word-2-clause-err : goal.returns-in_err-put_word-2-clause-err
returns-in_err-put_word-2-clause-err g c =
    on_err c.from_residual-in_err-put_word-2.result _ (breaks_then _ _ _ (c.args.slots ∷ []) (255 * 2 ^ 24 ∷ []) _ (overflow_long c.args.slots (omega (arith, c.if-slots-ge255.true)))
    c.in_ok-put_word.ensures.ok c.in_err-put_word-2.ensures.err)

pub returns-in_ok-put_word-2-clause-ok : goal.returns-in_ok-put_word-2-clause-ok
returns-in_ok-put_word-2-clause-ok g c =
    goes_then _ _ _ (c.args.slots ∷ []) (255 * 2 ^ 24 ∷ []) _ (overflow_long c.args.slots (omega (arith, c.if-slots-ge255.true))) c.in_ok-put_word.ensures.ok c.in_ok-put_word-2.ensures.ok

pub returns-else-slots-ge255-clause-ok : goal.returns-else-slots-ge255-clause-ok
returns-else-slots-ge255-clause-ok g c = went_same _ _ _ _ (sym (ap bytes_of_words (overflow_short c.args.slots (omega (arith, c.if-slots-ge255.false))) ∙ no_bytes)) (went_nowhere _)
