use Rattle.std.proofs.Common.{arith, sym, subst, ◌∙◌}
use Rattle.std.proofs.lemmas.Bool.Decides.{nat_tests}
use Rattle.cs_acts.specs.Names.{name_of}
use Rattle.cs_prim_ctx.specs.Answered.{PerformsInPlace}
use Rattle.cs_prim_ctx.proofs.Performing.{fails}
use Rattle.cs_prim_ctx.proofs.Rows.{slot_at-count, slot_at-index, slot_at-no_index}
use Rattle.cs_prim_ctx.proofs.slot_at.Goals as goal

pub returns-then-args-ne1 : goal.returns-then-args-ne1
returns-then-args-ne1 g c =
    let s = g.W.World.stored c.args.w.now in
    let k = g.W.World.view c.args.w.now in
    fails s (g.W.World.layout c.args.w.now) k _ c.requires.ready
    (slot_at-count k c.args.args (λ e. grind (arith, nat_tests, c.if-args-ne1.true, e)))

pub returns-in-Some : goal.returns-in-Some
returns-in-Some g c =
    let s = g.W.World.stored c.args.w.now in
    let k = g.W.World.view c.args.w.now in
    subst (PerformsInPlace (g.W.World.stored c.args.w.now) (g.W.World.stored c.answer_field.new.w) (g.W.World.layout c.args.w.now) (g.W.World.layout c.answer_field.new.w) (g.W.World.view c.args.w.now) (g.W.World.view c.answer_field.new.w) c.answer_field.result)
    (slot_at-index k c.args.args (name_of s c.argument.result) (name_of s c.receiver-ctx.result) c.in-Some.i (grind (arith, nat_tests, c.if-args-ne1.false)) c.argument.ensures.is (sym c.in-Some.is ∙ c.slot_index.ensures.value s c.argument.ensures.sound) c.receiver-ctx.ensures.is c.requires.context)
    c.answer_field.ensures

pub returns-in-None : goal.returns-in-None
returns-in-None g c =
    let s = g.W.World.stored c.args.w.now in
    let k = g.W.World.view c.args.w.now in
    fails s (g.W.World.layout c.args.w.now) k _ c.requires.ready
    (slot_at-no_index k c.args.args (name_of s c.argument.result) (grind (arith, nat_tests, c.if-args-ne1.false)) c.argument.ensures.is (sym c.in-None.is ∙ c.slot_index.ensures.value s c.argument.ensures.sound))
