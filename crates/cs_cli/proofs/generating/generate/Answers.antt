use Rattle.cs_cli.specs.Answer.{Writing}
use Rattle.cs_cli.specs.Meaning.{options_by}
use Rattle.cs_cli.proofs.Generated.{text_refuses}
use Rattle.cs_cli.proofs.Writings.{writing}
use Rattle.cs_cli.proofs.generating.generate.Goals as goal

pub returns-in-Err : goal.returns-in-Err
returns-in-Err g c =
    let out : Writing = writing (g.K.Sink.taken c.args.out.now) (g.K.Sink.taken c.refuse_fault.new.out) (g.K.Sink.fault_count c.args.out.now) (g.K.Sink.fault_count c.refuse_fault.new.out) in
    text_refuses c.args.k (options_by c.args.line.now.options) out c.refuse_fault.result c.in-Err.error c.in-Err.ensures.fault c.refuse_fault.ensures
