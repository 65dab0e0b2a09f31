use Rattle.std.proofs.Common.{arith, sym, subst, ◌∙◌, true, false}
use Rattle.std.proofs.lemmas.Bool.Decides.{nat_tests}
use Rattle.cs_model.specs.Return.{is_marked}
use Rattle.cs_acts.specs.Names.{name_of}
use Rattle.cs_unwind.specs.Performed.{Performs}
use Rattle.cs_unwind.proofs.Performing.{fails}
use Rattle.cs_unwind.proofs.Searches.{told}
use Rattle.cs_unwind.proofs.MarkRows.{handler-count, handler-marked, handler-no_context, handler-searches}
use Rattle.cs_unwind.proofs.marks.handler_mark.Goals as goal

pub returns-then-args-ne0 : goal.returns-then-args-ne0
returns-then-args-ne0 g c =
    let s = g.W.World.stored c.args.w.now in
    let k = g.W.World.view c.args.w.now in
    fails s (g.W.World.layout c.args.w.now) k k _ c.requires.ready
    (handler-count k c.args.args (λ e. grind (arith, nat_tests, c.if-args-ne0.true, e)))

pub returns-then-not-is_context : goal.returns-then-not-is_context
returns-then-not-is_context g c =
    let s = g.W.World.stored c.args.w.now in
    let k = g.W.World.view c.args.w.now in
    fails s (g.W.World.layout c.args.w.now) k k _ c.requires.ready
    (handler-no_context k c.args.args (name_of s c.receiver-ctx.result) (grind (arith, nat_tests, c.if-args-ne0.false)) c.receiver-ctx.ensures.is (sym c.is_context.ensures ∙ c.if-not-is_context.true))

pub returns-then-is_marked : goal.returns-then-is_marked
returns-then-is_marked g c =
    let s = g.W.World.stored c.args.w.now in
    let k = g.W.World.view c.args.w.now in
    let o = g.W.World.act c.args.w.now c.act_of-here.result in
    handler-marked k c.args.args (name_of s c.receiver-ctx.result) o (grind (arith, nat_tests, c.if-args-ne0.false)) c.receiver-ctx.ensures.is (sym c.is_context.ensures ∙ c.if-not-is_context.false) c.act_of-here.ensures
    (told o (is_marked k 199) _ true c.if-is_marked.true c.is_marked.ensures)
    (Performs (g.W.World.stored c.args.w.now) (g.W.World.stored c.answer_context.new.w) (g.W.World.layout c.args.w.now) (g.W.World.layout c.answer_context.new.w) (g.W.World.view c.args.w.now) (g.W.World.view c.args.w.now) (g.W.World.view c.answer_context.new.w) c.answer_context.result) c.answer_context.ensures

pub returns : goal.returns
returns g c =
    let s = g.W.World.stored c.args.w.now in
    let k = g.W.World.view c.args.w.now in
    let o = g.W.World.act c.args.w.now c.act_of-here.result in
    subst (Performs (g.W.World.stored c.args.w.now) (g.W.World.stored c.answer_mark.new.w) (g.W.World.layout c.args.w.now) (g.W.World.layout c.answer_mark.new.w) (g.W.World.view c.args.w.now) (g.W.World.view c.args.w.now) (g.W.World.view c.answer_mark.new.w) c.answer_mark.result)
    (handler-searches k c.args.args (name_of s c.receiver-ctx.result) o _ (grind (arith, nat_tests, c.if-args-ne0.false)) c.receiver-ctx.ensures.is (sym c.is_context.ensures ∙ c.if-not-is_context.false) c.act_of-here.ensures
    (told o (is_marked k 199) _ false c.if-is_marked.false c.is_marked.ensures) c.sender_act-from.ensures.value)
    (c.answer_mark.ensures _ c.search_mark-mark.ensures.found)
