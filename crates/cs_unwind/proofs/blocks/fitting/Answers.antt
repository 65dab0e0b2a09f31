use Rattle.std.proofs.Common.{arith, sym, ◌∙◌}
use Rattle.cs_acts.specs.Names.{name_of}
use Rattle.cs_unwind.proofs.BlockRows.{that_dont, that_fit, unless_array}
use Rattle.cs_unwind.proofs.blocks.fitting.Goals as goal

pub returns-then-not-is_array : goal.returns-then-not-is_array
returns-then-not-is_array g c = unless_array (g.W.World.view c.args.w.now) (name_of (g.W.World.stored c.args.w.now) c.args.array) (sym c.is_array.ensures ∙ c.if-not-is_array.true)

pub returns-then-count-size : goal.returns-then-count-size
returns-then-count-size g c =
    that_fit (g.W.World.view c.args.w.now) (name_of (g.W.World.stored c.args.w.now) c.args.array) c.slot_count-count.result (sym c.is_array.ensures ∙ c.if-not-is_array.false) c.slot_count-count.ensures (omega arith)

pub returns-else-count-size : goal.returns-else-count-size
returns-else-count-size g c =
    that_dont (g.W.World.view c.args.w.now) (name_of (g.W.World.stored c.args.w.now) c.args.array) c.slot_count-count.result (sym c.is_array.ensures ∙ c.if-not-is_array.false) c.slot_count-count.ensures (omega arith)
