use Rattle.cs_classes.specs.Meaning.{loaded_kept}
use Rattle.cs_cli.specs.Answer as answer
use Rattle.cs_cli.specs.Answer.{Reading, Writing}
use Rattle.cs_cli.proofs.Answering.{refused_by}
use Rattle.cs_cli.proofs.Writings.{writing}
use Rattle.cs_cli.proofs.inspect.inspect.Goals as goal

pub returns-in-Ok-clause-answered : goal.returns-in-Ok-clause-answered
returns-in-Ok-clause-answered g c = answer.printed (loaded_kept c.in-Ok.loaded) c.in-Ok.ensures.loads.image c.print_image.ensures

pub returns-in-Err-clause-answered : goal.returns-in-Err-clause-answered
returns-in-Err-clause-answered g c =
    let out : Writing = writing (g.K.Sink.taken c.args.out.now) (g.K.Sink.taken c.refuse.new.out)
    (g.K.Sink.fault_count c.args.out.now) (g.K.Sink.fault_count c.refuse.new.out) in
    let shelf : Reading = record {
      content = g.S.Shelf.content c.args.shelf.now;
      before = g.S.Shelf.fault_count c.args.shelf.now;
      behind = g.S.Shelf.fault_count c.load_file.new.shelf;
      last = g.S.Shelf.last_fault c.load_file.new.shelf;
    } in
    answer.inspect_refused (refused_by c.args.line.now.file.now c.args.line.now.options.heap shelf out c.refuse.result c.in-Err.why c.in-Err.ensures.loads c.refuse.ensures)
