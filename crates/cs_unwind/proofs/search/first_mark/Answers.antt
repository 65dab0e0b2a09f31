use Rattle.std.proofs.Common.{sym, ◌∙◌}
use Rattle.cs_unwind.proofs.Walking.{mark_found, mark_missing, mark_stays}
use Rattle.cs_unwind.proofs.search.first_mark.Goals as goal

pub returns-then-is_some : goal.returns-then-is_some
returns-then-is_some g c births birth at before = mark_stays _ _ births birth c.args.mark (sym c.is_some.ensures ∙ c.if-is_some.true) before

pub returns-then-is_marked : goal.returns-then-is_marked
returns-then-is_marked g c births birth at before =
    mark_found _ _ births birth c.args.mark c.args.act _ (sym c.is_some.ensures ∙ c.if-is_some.false) at c.is_marked.ensures c.if-is_marked.true before

pub returns-else-is_marked : goal.returns-else-is_marked
returns-else-is_marked g c births birth at before =
    mark_missing _ _ births birth c.args.mark c.args.act _ (sym c.is_some.ensures ∙ c.if-is_some.false) at c.is_marked.ensures c.if-is_marked.false before
