-- What an instruction does as far as the machine is built.
use Rattle.std.specs.Prelude.{if◌then◌else◌}
use Rattle.cs_model.specs.declared.instruction.Op.{Op}
use Rattle.cs_model.specs.declared.stop.Stop.TheVariants as why
use Rattle.cs_model.specs.State.{Kept}
use Rattle.cs_model.specs.End.{Out, stop}
use Rattle.cs_model.specs.Exec.{exec}
use Rattle.cs_model.specs.Built.{is_built_op}

-- what it does, where it is built; else nothing, and the step stops
unfoldable pub built_exec : Op → Kept → Out
built_exec op k = if is_built_op op k then exec op k else stop why.NotBuilt k
