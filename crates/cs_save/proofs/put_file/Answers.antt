use Rattle.std.proofs.lemmas.List.{append-nil}
use Rattle.cs_save.specs.Filed.{saved_of}
use Rattle.std.proofs.Common.{[], ◌++◌}
use Rattle.cs_save.proofs.Written.{on_err, broke_same, broke_then, broke_empty, went_same, went_then, went_empty}
use Rattle.cs_save.proofs.put_file.Goals as goal

pub returns-in_err-put_all-clause-err : goal.returns-in_err-put_all-clause-err
returns-in_err-put_all-clause-err g c = on_err c.from_residual.result _ (broke_empty _ _ _ _ _ _ _ _ _ _ _ _ _ _ _ c.new-piece.ensures c.in_err-put_all.ensures.err)

pub returns-in_err-flush-clause-err : goal.returns-in_err-flush-clause-err
returns-in_err-flush-clause-err g c = on_err c.from_residual-in_err-flush.result _ (broke_empty _ _ _ _ _ _ _ _ _ _ _ _ _ _ _ c.new-piece.ensures
    (broke_same _ _ ((saved_of c.args.heap.now.objects c.args.classes.now c.args.roots.now) ++ []) (saved_of c.args.heap.now.objects c.args.classes.now c.args.roots.now) (append-nil (saved_of c.args.heap.now.objects c.args.classes.now c.args.roots.now)) (broke_then _ _ _ (saved_of c.args.heap.now.objects c.args.classes.now c.args.roots.now) [] c.in_ok-put_all.ensures.ok c.in_err-flush.ensures.err)))

pub returns-clause-ok : goal.returns-clause-ok
returns-clause-ok g c = went_empty _ _ _ _ _ _ _ _ _ _ _ _ _ _ _ c.new-piece.ensures c.in_ok-flush.ensures.empty
    (went_same _ _ ((saved_of c.args.heap.now.objects c.args.classes.now c.args.roots.now) ++ []) (saved_of c.args.heap.now.objects c.args.classes.now c.args.roots.now) (append-nil (saved_of c.args.heap.now.objects c.args.classes.now c.args.roots.now)) (went_then _ _ _ (saved_of c.args.heap.now.objects c.args.classes.now c.args.roots.now) [] c.in_ok-put_all.ensures.ok c.in_ok-flush.ensures.ok))
