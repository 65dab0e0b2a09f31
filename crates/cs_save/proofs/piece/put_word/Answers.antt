use Rattle.std.proofs.Common.{◌∙◌}
use Rattle.cs_save.proofs.Written.{on_err, broke_same, went_same, le_four}
use Rattle.cs_save.proofs.piece.put_word.Goals as goal

pub returns-in_err-put_bytes-clause-err : goal.returns-in_err-put_bytes-clause-err
returns-in_err-put_bytes-clause-err g c =
    on_err c.from_residual.result _ (broke_same _ _ _ _ (c.to_le_bytes.ensures ∙ le_four c.args.word) c.in_err-put_bytes.ensures.err)

pub returns-clause-ok : goal.returns-clause-ok
returns-clause-ok g c = went_same _ _ _ _ (c.to_le_bytes.ensures ∙ le_four c.args.word) c.in_ok-put_bytes.ensures.ok
