use Rattle.std.proofs.Common.{arith, sym, subst, ◌∙◌}
use Rattle.std.proofs.lemmas.Bool.Decides.{nat_tests}
use Rattle.cs_acts.specs.Names.{name_of}
use Rattle.cs_unwind.specs.Performed.{Performs}
use Rattle.cs_unwind.proofs.Performing.{fails}
use Rattle.cs_unwind.proofs.MarkRows.{unwind-count, unwind-no_context, unwind-no_goal, unwind-searches}
use Rattle.cs_unwind.proofs.marks.unwind_mark.Goals as goal

pub returns-then-args-ne1 : goal.returns-then-args-ne1
returns-then-args-ne1 g c =
    let s = g.W.World.stored c.args.w.now in
    let k = g.W.World.view c.args.w.now in
    fails s (g.W.World.layout c.args.w.now) k k _ c.requires.ready
    (unwind-count k c.args.args (λ e. grind (arith, nat_tests, c.if-args-ne1.true, e)))

pub returns-then-not-is_context : goal.returns-then-not-is_context
returns-then-not-is_context g c =
    let s = g.W.World.stored c.args.w.now in
    let k = g.W.World.view c.args.w.now in
    fails s (g.W.World.layout c.args.w.now) k k _ c.requires.ready
    (unwind-no_context k c.args.args (name_of s c.receiver-ctx.result) (grind (arith, nat_tests, c.if-args-ne1.false)) c.receiver-ctx.ensures.is (sym c.is_context.ensures ∙ c.if-not-is_context.true))

pub returns-in_default : goal.returns-in_default
returns-in_default g c =
    let s = g.W.World.stored c.args.w.now in
    let k = g.W.World.view c.args.w.now in
    fails s (g.W.World.layout c.args.w.now) k k _ c.requires.ready
    (unwind-no_goal k c.args.args (name_of s c.argument.result) (grind (arith, nat_tests, c.if-args-ne1.false)) c.argument.ensures.is (sym c.in_default.is ∙ c.goal_of.ensures))

pub returns : goal.returns
returns g c =
    let s = g.W.World.stored c.args.w.now in
    let k = g.W.World.view c.args.w.now in
    subst (Performs (g.W.World.stored c.args.w.now) (g.W.World.stored c.answer_mark.new.w) (g.W.World.layout c.args.w.now) (g.W.World.layout c.answer_mark.new.w) (g.W.World.view c.args.w.now) (g.W.World.view c.args.w.now) (g.W.World.view c.answer_mark.new.w) c.answer_mark.result)
    (unwind-searches k c.args.args c.in-Some.goal (name_of s c.receiver-ctx.result) (name_of s c.argument.result) _ _ (grind (arith, nat_tests, c.if-args-ne1.false)) c.receiver-ctx.ensures.is c.argument.ensures.is
    (sym c.is_context.ensures ∙ c.if-not-is_context.false) c.act_of.ensures c.sender_act-from.ensures.value (sym c.in-Some.is ∙ c.goal_of.ensures))
    (c.answer_mark.ensures _ c.search_mark-mark.ensures.found)
