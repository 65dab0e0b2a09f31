use Rattle.std.proofs.Common.{◌<◌, length, take, arith}
use Rattle.std.proofs.lemmas.Result.{err_from_is_err_and}
use Rattle.cs_build.specs.Lines.{forms_by}
use Rattle.cs_build.specs.Meaning.{form_by}
use Rattle.cs_build.proofs.Judging.{AreJudged-fault, AreJudged-next}
use Rattle.cs_build.proofs.Narrowing.{none-tells}
use Rattle.cs_build.proofs.judge.judge_lines.Goals as goal

pub returns-in_err-judge-clause-fault : goal.returns-in_err-judge-clause-fault
returns-in_err-judge-clause-fault c =
    let some : c.loop-i.i < length c.args.lines.now = omega arith in
    let p = err_from_is_err_and c.from_residual-in_err-judge.result c.from_residual-in_err-judge.ensures.1 in
    rw (p.1, p.2) (AreJudged-fault c.args.lines.now c.loop-i.i c.loop-i.tables c.index-lines-i.result _ some c.index-lines-i.is c.loop-i.invariant c.in_err-judge.ensures)

pub note-requires-clause-fresh : goal.note-requires-clause-fresh
note-requires-clause-fresh c =
    (none-tells (forms_by (take c.loop-i.i c.args.lines.now)) c.index-lines-i.result.number (form_by c.index-lines-i.result.form) c.in_ok-judge.ensures).0

pub loop-i-preserved : goal.loop-i-preserved
loop-i-preserved c =
    let some : c.loop-i.i < length c.args.lines.now = omega arith in
    AreJudged-next c.args.lines.now c.loop-i.i c.loop-i.tables c.note.new.tables c.index-lines-i.result some c.index-lines-i.is
    c.loop-i.invariant c.in_ok-judge.ensures c.in_ok-note.ensures
