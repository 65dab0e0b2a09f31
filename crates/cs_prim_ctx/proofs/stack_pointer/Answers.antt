use Rattle.std.proofs.Common.{arith, sym, subst, ◌∙◌}
use Rattle.std.proofs.lemmas.Bool.Decides.{nat_tests}
use Rattle.cs_acts.specs.Names.{name_of}
use Rattle.cs_prim_ctx.specs.Answered.{PerformsInPlace}
use Rattle.cs_prim_ctx.proofs.Performing.{fails}
use Rattle.cs_prim_ctx.proofs.Rows.{stackp-context, stackp-count, stackp-no_context}
use Rattle.cs_prim_ctx.proofs.stack_pointer.Goals as goal

pub returns-then-args-ne0 : goal.returns-then-args-ne0
returns-then-args-ne0 g c =
    let s = g.W.World.stored c.args.w.now in
    let k = g.W.World.view c.args.w.now in
    fails s (g.W.World.layout c.args.w.now) k _ c.requires.ready
    (stackp-count k c.args.args (λ e. grind (arith, nat_tests, c.if-args-ne0.true, e)))

pub returns-then-is_context : goal.returns-then-is_context
returns-then-is_context g c =
    let s = g.W.World.stored c.args.w.now in
    let k = g.W.World.view c.args.w.now in
    subst (PerformsInPlace (g.W.World.stored c.args.w.now) (g.W.World.stored c.answer_field.new.w) (g.W.World.layout c.args.w.now) (g.W.World.layout c.answer_field.new.w) (g.W.World.view c.args.w.now) (g.W.World.view c.answer_field.new.w) c.answer_field.result)
    (stackp-context k c.args.args (name_of s c.receiver-ctx.result) (grind (arith, nat_tests, c.if-args-ne0.false)) c.receiver-ctx.ensures.is)
    c.answer_field.ensures

pub returns-else-is_context : goal.returns-else-is_context
returns-else-is_context g c =
    let s = g.W.World.stored c.args.w.now in
    let k = g.W.World.view c.args.w.now in
    fails s (g.W.World.layout c.args.w.now) k _ c.requires.ready
    (stackp-no_context k c.args.args (name_of s c.receiver-ctx.result) (grind (arith, nat_tests, c.if-args-ne0.false)) c.receiver-ctx.ensures.is (sym c.is_context.ensures ∙ c.if-is_context.false))
