use Rattle.std.proofs.Common.{ℕ, List}
use Rattle.cs_classes.specs.Meaning.{loaded_kept}
use Rattle.cs_cli.specs.Answer as answer
use Rattle.cs_cli.specs.Answer.{OtherAnswered, Reading, Writing}
use Rattle.cs_cli.proofs.Answering.{refused_by}
use Rattle.cs_cli.proofs.Comparing.{answered_from, named, reading}
use Rattle.cs_cli.proofs.Writings.{writing}
use Rattle.cs_cli.proofs.same.same.Goals as goal

pub returns-in-Ok-clause-answered : goal.returns-in-Ok-clause-answered
returns-in-Ok-clause-answered g c =
    let out : Writing = writing (g.K.Sink.taken c.args.out.now) (g.K.Sink.taken c.compare_with.new.out)
    (g.K.Sink.fault_count c.args.out.now) (g.K.Sink.fault_count c.compare_with.new.out) in
    let before = g.S.Shelf.fault_count c.args.shelf.now in
    let behind = g.S.Shelf.fault_count c.compare_with.new.shelf in
    let last = g.S.Shelf.last_fault c.compare_with.new.shelf in
    let content = g.S.Shelf.content c.args.shelf.now in
    let k = loaded_kept c.in-Ok.first in
    let limit = c.args.line.now.options.heap in
    let other = c.in-Some.other.now in
    let P : List ℕ → Type 0 = λ name. OtherAnswered k name limit (reading content before behind last) out c.compare_with.result in
    let answered : P other = answered_from k content (g.S.Shelf.content c.load_file.new.shelf) before
    (g.S.Shelf.fault_count c.load_file.new.shelf) behind last other limit out c.compare_with.result
    (c.in-Ok.ensures.contents other) c.in-Ok.ensures.never_falls c.compare_with.ensures.answered in
    answer.first_loaded k c.in-Ok.ensures.loads.image (named c.args.line.now.options.other c.in-Some.other P c.in-Some.is answered)

pub returns-in-Err-clause-answered : goal.returns-in-Err-clause-answered
returns-in-Err-clause-answered g c =
    let out : Writing = writing (g.K.Sink.taken c.args.out.now) (g.K.Sink.taken c.refuse.new.out)
    (g.K.Sink.fault_count c.args.out.now) (g.K.Sink.fault_count c.refuse.new.out) in
    let shelf : Reading = reading (g.S.Shelf.content c.args.shelf.now) (g.S.Shelf.fault_count c.args.shelf.now)
    (g.S.Shelf.fault_count c.load_file.new.shelf) (g.S.Shelf.last_fault c.load_file.new.shelf) in
    answer.same_refused (refused_by c.args.line.now.file.now c.args.line.now.options.heap shelf out c.refuse.result c.in-Err.why c.in-Err.ensures.loads c.refuse.ensures)
