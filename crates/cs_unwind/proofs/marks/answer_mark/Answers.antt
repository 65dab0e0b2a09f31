use Rattle.std.proofs.Common.{subst}
use Rattle.cs_unwind.specs.Marks.{FindsMark}
use Rattle.cs_unwind.proofs.Performing.{answers_with_nil}
use Rattle.cs_unwind.proofs.marks.answer_mark.Goals as goal

pub returns-in-Nowhere : goal.returns-in-Nowhere
returns-in-Nowhere g c = λ m e.
    answers_with_nil (g.W.World.stored c.args.w.now) (g.W.World.stored c.answer.new.w) (g.W.World.layout c.args.w.now) (g.W.World.layout c.answer.new.w) (g.W.World.view c.args.w.now) (g.W.World.view c.answer.new.w) c.args.args c.nil-nil.result m
    c.nil-nil.ensures c.answer.ensures (subst (λ mark. FindsMark (g.W.World.act c.args.w.now) mark m) c.in-Nowhere.is e)
