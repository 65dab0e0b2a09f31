use Rattle.std.proofs.Common.{inr}
use Rattle.cs_cli.proofs.running.begin.Goals as goal

pub returns-in-Ok : goal.returns-in-Ok
returns-in-Ok g c = inr c.run_behind.ensures
