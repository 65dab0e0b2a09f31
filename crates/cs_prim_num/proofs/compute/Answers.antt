use Rattle.cs_acts.specs.Arithmetic.{primitive_of}
use Rattle.cs_prim_num.proofs.Performing.{answers, fails}
use Rattle.cs_prim_num.proofs.Rows.{computed_row, wrong_count}
use Rattle.cs_prim_num.proofs.compute.Goals as goal

pub returns-then-args-ne1-clause-performs : goal.returns-then-args-ne1-clause-performs
returns-then-args-ne1-clause-performs g c =
    let s = g.W.World.stored c.args.w.now in
    let k = g.W.World.view c.args.w.now in
    fails s (g.W.World.layout c.args.w.now) k _ c.requires.ready (wrong_count k (primitive_of c.args.operation) c.args.args c.if-args-ne1.true)

pub returns-in-Some-clause-performs : goal.returns-in-Some-clause-performs
returns-in-Some-clause-performs g c =
    let s = g.W.World.stored c.args.w.now in
    let k = g.W.World.view c.args.w.now in
    answers s (g.W.World.stored c.answer.new.w) (g.W.World.layout c.args.w.now) (g.W.World.layout c.answer.new.w) k (g.W.World.view c.answer.new.w) _ _ c.answer.ensures
    (computed_row k (primitive_of c.args.operation) c.args.args _ c.if-args-ne1.false c.in-Some.ensures.value.is)

pub returns-in-None-clause-performs : goal.returns-in-None-clause-performs
returns-in-None-clause-performs g c =
    let s = g.W.World.stored c.args.w.now in
    let k = g.W.World.view c.args.w.now in
    fails s (g.W.World.layout c.args.w.now) k _ c.requires.ready (computed_row k (primitive_of c.args.operation) c.args.args _ c.if-args-ne1.false c.in-None.ensures.value.is)
