use Rattle.std.proofs.Common.{ℕ, List, refl, subst}
use Rattle.cs_shelf.specs.Outside.{Appends, AppendsPart}
use Rattle.cs_cli.specs.Answer as answer
use Rattle.cs_cli.proofs.running.run_behind.Goals as goal

pub returns-in-Ok : goal.returns-in-Ok
returns-in-Ok g c =
    let P : List ℕ → Type 0 = λ bytes. Appends (g.K.Sink.taken c.args.out.now) (g.K.Sink.taken c.write_whole.new.sink) bytes in
    answer.headed (g.K.Sink.taken c.write_whole.new.sink) (g.K.Sink.fault_count c.write_whole.new.sink) (subst P c.as_bytes.ensures.value c.in-Ok.ensures.ok) c.in-Ok.ensures.never_falls c.run_and_report.ensures

pub returns-in-Err : goal.returns-in-Err
returns-in-Err g c =
    let P : List ℕ → Type 0 = λ bytes. AppendsPart (g.K.Sink.taken c.args.out.now) (g.K.Sink.taken c.write_whole.new.sink) bytes in
    answer.headless refl c.in-Err.ensures.cause (subst P c.as_bytes.ensures.value c.in-Err.ensures.err)
