use Rattle.std.proofs.Common.{ap}
use Rattle.std.specs.Ordering.{nat_cmp}
use Rattle.std.specs.FinMap.{from_entries}
use Rattle.cs_classes.proofs.Tables.{filled_new}
use Rattle.cs_classes.proofs.Classes.new.Goals as goal

pub returns : goal.returns
returns c = record { empty = ap (from_entries {R = nat_cmp}) (filled_new 16384 _ _ _ c.new-entries.ensures.items c.in_ok-resize.ensures.items) }
