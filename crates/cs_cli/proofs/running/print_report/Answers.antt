use Rattle.std.proofs.Common.{◌∙◌, List, ℕ, subst}
use Rattle.cs_cli.specs.Answer.{Printed, Writing, answering, reported_ending, run_status}
use Rattle.cs_cli.proofs.Writings.{writing}
use Rattle.cs_cli.proofs.running.print_report.Goals as goal

pub returns : goal.returns
returns g c =
    let out : Writing = writing (g.K.Sink.taken c.args.out.now) (g.K.Sink.taken c.print.new.out) (g.K.Sink.fault_count c.args.out.now) (g.K.Sink.fault_count c.print.new.out) in
    let P : List ℕ → Type 0 = λ text. Printed (answering (run_status (reported_ending c.args.end)) text) out c.print.result in
    let Q : ℕ → Type 0 = λ status. Printed (answering status c.as_str.result.now) out c.print.result in
    subst P (c.as_str.ensures.value ∙ c.report-text.ensures) (subst Q c.status_of.ensures c.print.ensures.printed)
