use Rattle.std.proofs.Common.{sym, ◌∙◌}
use Rattle.cs_unwind.proofs.MarkRows.{end_there, goal_read}
use Rattle.cs_unwind.proofs.marks.goal_of.Goals as goal

pub birth-requires : goal.birth-requires
birth-requires g c = end_there (g.W.World.view c.args.w.now) (g.W.World.stored c.args.w.now) c.heap.result.now c.args.end c.heap.ensures c.requires.named (sym c.is_end.ensures ∙ c.if-is_end.true)

pub returns-then-is_end : goal.returns-then-is_end
returns-then-is_end g c = goal_read (g.W.World.view c.args.w.now) (g.W.World.stored c.args.w.now) c.heap.result.now c.args.end c.birth.result c.heap.ensures c.requires.named (sym c.is_end.ensures ∙ c.if-is_end.true) c.birth.ensures
