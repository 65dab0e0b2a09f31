use Rattle.std.proofs.Common.{arith, ap, sym, subst, ◌∙◌}
use Rattle.std.proofs.lemmas.Bool.Decides.{nat_tests}
use Rattle.cs_model.specs.PrimTable.{kept_prim}
use Rattle.cs_prim_ctx.specs.Answered.{PerformsInPlace}
use Rattle.cs_prim_ctx.proofs.Rows.{is_212, prim-210, prim-212, prim-73}
use Rattle.cs_prim_ctx.proofs.primitive.Goals as goal

pub returns-then-number-eq-SLOT_AT-clause-gives : goal.returns-then-number-eq-SLOT_AT-clause-gives
returns-then-number-eq-SLOT_AT-clause-gives g c =
    let k = g.W.World.view c.args.w.now in
    (subst (PerformsInPlace (g.W.World.stored c.args.w.now) (g.W.World.stored c.slot_at.new.w) (g.W.World.layout c.args.w.now) (g.W.World.layout c.slot_at.new.w) (g.W.World.view c.args.w.now) (g.W.World.view c.slot_at.new.w) c.slot_at.result)
    (prim-73 k c.args.args ∙ ap (λ n. kept_prim n c.args.args k) (sym (grind (arith, nat_tests, c.if-number-eq-SLOT_AT.true))))
    c.slot_at.ensures).gives

pub returns-then-number-eq-SLOT_AT-clause-exact : goal.returns-then-number-eq-SLOT_AT-clause-exact
returns-then-number-eq-SLOT_AT-clause-exact g c =
    let k = g.W.World.view c.args.w.now in
    (subst (PerformsInPlace (g.W.World.stored c.args.w.now) (g.W.World.stored c.slot_at.new.w) (g.W.World.layout c.args.w.now) (g.W.World.layout c.slot_at.new.w) (g.W.World.view c.args.w.now) (g.W.World.view c.slot_at.new.w) c.slot_at.result)
    (prim-73 k c.args.args ∙ ap (λ n. kept_prim n c.args.args k) (sym (grind (arith, nat_tests, c.if-number-eq-SLOT_AT.true))))
    c.slot_at.ensures).exact

pub returns-then-number-eq-SLOT_AT-clause-contexts : goal.returns-then-number-eq-SLOT_AT-clause-contexts
returns-then-number-eq-SLOT_AT-clause-contexts g c =
    let k = g.W.World.view c.args.w.now in
    (subst (PerformsInPlace (g.W.World.stored c.args.w.now) (g.W.World.stored c.slot_at.new.w) (g.W.World.layout c.args.w.now) (g.W.World.layout c.slot_at.new.w) (g.W.World.view c.args.w.now) (g.W.World.view c.slot_at.new.w) c.slot_at.result)
    (prim-73 k c.args.args ∙ ap (λ n. kept_prim n c.args.args k) (sym (grind (arith, nat_tests, c.if-number-eq-SLOT_AT.true))))
    c.slot_at.ensures).contexts

pub returns-then-number-eq-STACK_AT-clause-gives : goal.returns-then-number-eq-STACK_AT-clause-gives
returns-then-number-eq-STACK_AT-clause-gives g c =
    let k = g.W.World.view c.args.w.now in
    (subst (PerformsInPlace (g.W.World.stored c.args.w.now) (g.W.World.stored c.stack_at.new.w) (g.W.World.layout c.args.w.now) (g.W.World.layout c.stack_at.new.w) (g.W.World.view c.args.w.now) (g.W.World.view c.stack_at.new.w) c.stack_at.result)
    (prim-210 k c.args.args ∙ ap (λ n. kept_prim n c.args.args k) (sym (grind (arith, nat_tests, c.if-number-eq-STACK_AT.true))))
    c.stack_at.ensures).gives

pub returns-then-number-eq-STACK_AT-clause-exact : goal.returns-then-number-eq-STACK_AT-clause-exact
returns-then-number-eq-STACK_AT-clause-exact g c =
    let k = g.W.World.view c.args.w.now in
    (subst (PerformsInPlace (g.W.World.stored c.args.w.now) (g.W.World.stored c.stack_at.new.w) (g.W.World.layout c.args.w.now) (g.W.World.layout c.stack_at.new.w) (g.W.World.view c.args.w.now) (g.W.World.view c.stack_at.new.w) c.stack_at.result)
    (prim-210 k c.args.args ∙ ap (λ n. kept_prim n c.args.args k) (sym (grind (arith, nat_tests, c.if-number-eq-STACK_AT.true))))
    c.stack_at.ensures).exact

pub returns-then-number-eq-STACK_AT-clause-contexts : goal.returns-then-number-eq-STACK_AT-clause-contexts
returns-then-number-eq-STACK_AT-clause-contexts g c =
    let k = g.W.World.view c.args.w.now in
    (subst (PerformsInPlace (g.W.World.stored c.args.w.now) (g.W.World.stored c.stack_at.new.w) (g.W.World.layout c.args.w.now) (g.W.World.layout c.stack_at.new.w) (g.W.World.view c.args.w.now) (g.W.World.view c.stack_at.new.w) c.stack_at.result)
    (prim-210 k c.args.args ∙ ap (λ n. kept_prim n c.args.args k) (sym (grind (arith, nat_tests, c.if-number-eq-STACK_AT.true))))
    c.stack_at.ensures).contexts

pub returns-else-number-eq-STACK_AT-clause-gives : goal.returns-else-number-eq-STACK_AT-clause-gives
returns-else-number-eq-STACK_AT-clause-gives g c =
    let k = g.W.World.view c.args.w.now in
    (subst (PerformsInPlace (g.W.World.stored c.args.w.now) (g.W.World.stored c.stack_pointer.new.w) (g.W.World.layout c.args.w.now) (g.W.World.layout c.stack_pointer.new.w) (g.W.World.view c.args.w.now) (g.W.World.view c.stack_pointer.new.w) c.stack_pointer.result)
    (prim-212 k c.args.args ∙ ap (λ n. kept_prim n c.args.args k) (sym (is_212 k c.args.number c.args.args c.requires.number (λ e. grind (arith, nat_tests, c.if-number-eq-SLOT_AT.false, e)) (λ e. grind (arith, nat_tests, c.if-number-eq-STACK_AT.false, e)))))
    c.stack_pointer.ensures).gives

pub returns-else-number-eq-STACK_AT-clause-exact : goal.returns-else-number-eq-STACK_AT-clause-exact
returns-else-number-eq-STACK_AT-clause-exact g c =
    let k = g.W.World.view c.args.w.now in
    (subst (PerformsInPlace (g.W.World.stored c.args.w.now) (g.W.World.stored c.stack_pointer.new.w) (g.W.World.layout c.args.w.now) (g.W.World.layout c.stack_pointer.new.w) (g.W.World.view c.args.w.now) (g.W.World.view c.stack_pointer.new.w) c.stack_pointer.result)
    (prim-212 k c.args.args ∙ ap (λ n. kept_prim n c.args.args k) (sym (is_212 k c.args.number c.args.args c.requires.number (λ e. grind (arith, nat_tests, c.if-number-eq-SLOT_AT.false, e)) (λ e. grind (arith, nat_tests, c.if-number-eq-STACK_AT.false, e)))))
    c.stack_pointer.ensures).exact

pub returns-else-number-eq-STACK_AT-clause-contexts : goal.returns-else-number-eq-STACK_AT-clause-contexts
returns-else-number-eq-STACK_AT-clause-contexts g c =
    let k = g.W.World.view c.args.w.now in
    (subst (PerformsInPlace (g.W.World.stored c.args.w.now) (g.W.World.stored c.stack_pointer.new.w) (g.W.World.layout c.args.w.now) (g.W.World.layout c.stack_pointer.new.w) (g.W.World.view c.args.w.now) (g.W.World.view c.stack_pointer.new.w) c.stack_pointer.result)
    (prim-212 k c.args.args ∙ ap (λ n. kept_prim n c.args.args k) (sym (is_212 k c.args.number c.args.args c.requires.number (λ e. grind (arith, nat_tests, c.if-number-eq-SLOT_AT.false, e)) (λ e. grind (arith, nat_tests, c.if-number-eq-STACK_AT.false, e)))))
    c.stack_pointer.ensures).contexts
