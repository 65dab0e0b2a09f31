use Rattle.cs_model.specs.SavedFile.{halves}
use Rattle.cs_save.specs.Filed.{saved_births}
use Rattle.std.proofs.Common.{◌++◌, refl, sym, append_assoc}
use Rattle.cs_save.proofs.Written.{on_err, breaks_first, breaks_in, breaks_then, goes_then}
use Rattle.cs_save.proofs.births.put_births.Goals as goal

pub returns-in_err-put_long-clause-err : goal.returns-in_err-put_long-clause-err
returns-in_err-put_long-clause-err g c = on_err c.from_residual.result _ (breaks_first _ _ _ _ _ refl c.in_err-put_long.ensures.err)

pub returns-in_err-put_long-2-clause-err : goal.returns-in_err-put_long-2-clause-err
returns-in_err-put_long-2-clause-err g c = on_err c.from_residual-in_err-put_long-2.result _ (breaks_in _ _ _ _ _ _ _ refl c.in_ok-put_long.ensures.ok c.in_err-put_long-2.ensures.err)

pub returns-in_err-put_each_birth-clause-err : goal.returns-in_err-put_each_birth-clause-err
returns-in_err-put_each_birth-clause-err g c = on_err c.from_residual-in_err-put_each_birth.result _ (breaks_then _ _ _ (halves c.args.next ++ halves c.args.count) _ _
    (sym (append_assoc (halves c.args.next) (halves c.args.count) (saved_births c.args.heap.now.objects c.args.count)))
    (goes_then _ _ _ _ _ _ refl c.in_ok-put_long.ensures.ok c.in_ok-put_long-2.ensures.ok) c.in_err-put_each_birth.ensures.err)

pub returns-clause-ok : goal.returns-clause-ok
returns-clause-ok g c = goes_then _ _ _ (halves c.args.next ++ halves c.args.count) _ _
    (sym (append_assoc (halves c.args.next) (halves c.args.count) (saved_births c.args.heap.now.objects c.args.count)))
    (goes_then _ _ _ _ _ _ refl c.in_ok-put_long.ensures.ok c.in_ok-put_long-2.ensures.ok) c.in_ok-put_each_birth.ensures.ok
