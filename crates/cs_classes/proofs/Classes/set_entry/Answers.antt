use Rattle.std.proofs.Common.{ap, ◌∙◌, arith}
use Rattle.std.specs.FinMap.{insert}
use Rattle.cs_classes.proofs.Tables.{filled_set}
use Rattle.cs_classes.proofs.Classes.set_entry.Goals as goal

pub returns : goal.returns
returns c = filled_set c.self.inside.entries.items c.args.index c.args.class (omega (arith, c.self.invariant)) ∙ ap (λ m. insert m c.args.index c.args.class.0) c.self.view_is
