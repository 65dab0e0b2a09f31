use Rattle.std.proofs.Common.{ℕ, Some, subst}
use Rattle.cs_model.specs.Settle.{open_kept}
use Rattle.cs_classes.specs.Meaning.{loaded_kept}
use Rattle.cs_cli.specs.Answer as answer
use Rattle.cs_cli.specs.Answer.{Begun, Reading, Writing}
use Rattle.cs_cli.proofs.Answering.{refused_by}
use Rattle.cs_cli.proofs.Headings.{begun_alone}
use Rattle.cs_cli.proofs.Writings.{writing}
use Rattle.cs_cli.proofs.running.run_file.Goals as goal

pub returns-in-Ok-clause-answered : goal.returns-in-Ok-clause-answered
returns-in-Ok-clause-answered g c =
    let out : Writing = writing (g.K.Sink.taken c.args.out.now) (g.K.Sink.taken c.open_and_run.new.out)
    (g.K.Sink.fault_count c.args.out.now) (g.K.Sink.fault_count c.open_and_run.new.out) in
    let k = loaded_kept c.in-Ok.loaded in
    let options = c.args.line.now.options in
    let P : ℕ → Type 0 = λ pages. Begun (open_kept k) options.steps (Some pages) options.heap out c.open_and_run.result in
    let Q : ℕ → Type 0 = λ limit. Begun (open_kept k) options.steps (Some c.page_count.result) limit out c.open_and_run.result in
    answer.ran k c.in-Ok.ensures.loads.image (subst P c.page_count.ensures (subst Q c.in-Ok.ensures.loads.words (begun_alone (open_kept k) options.steps (Some c.page_count.result) c.in-Ok.loaded.heap.limit (g.K.Sink.taken c.args.out.now) (g.K.Sink.taken c.open_and_run.new.out) (g.K.Sink.fault_count c.args.out.now) (g.K.Sink.fault_count c.open_and_run.new.out) c.open_and_run.result c.open_and_run.ensures)))

pub returns-in-Err-clause-answered : goal.returns-in-Err-clause-answered
returns-in-Err-clause-answered g c =
    let out : Writing = writing (g.K.Sink.taken c.args.out.now) (g.K.Sink.taken c.refuse.new.out)
    (g.K.Sink.fault_count c.args.out.now) (g.K.Sink.fault_count c.refuse.new.out) in
    let shelf : Reading = record {
      content = g.S.Shelf.content c.args.shelf.now;
      before = g.S.Shelf.fault_count c.args.shelf.now;
      behind = g.S.Shelf.fault_count c.load_file.new.shelf;
      last = g.S.Shelf.last_fault c.load_file.new.shelf;
    } in
    answer.run_refused (refused_by c.args.line.now.file.now c.args.line.now.options.heap shelf out c.refuse.result c.in-Err.why c.in-Err.ensures.loads c.refuse.ensures)
