use Rattle.std.proofs.Common.{◌<◌, ◌∙◌, true, false, sym, arith, IsSome}
use Rattle.std.proofs.lemmas.Bool.Decides.{nat_tests}
use Rattle.cs_model.specs.PrimUnwind.{is_goal}
use Rattle.cs_model.specs.Return.{is_marked}
use Rattle.cs_unwind.proofs.Searches.{if_sender, rest_ends, rest_goal, rest_goes_on, rest_marked, rest_too_far, stands_there, told}
use Rattle.cs_unwind.proofs.marks.search_mark.Goals as goal
use Rattle.cs_unwind.proofs.marks.search_mark.Goals.{then-is_gone-via-then-is_gone, then-is_gone-via-else-is_gone+then-is_goal}

pub returns-then-is_gone-clause-found : goal.returns-then-is_gone-clause-found
returns-then-is_gone-clause-found g c =
    let k = g.W.World.view c.args.w.now in
    let o = g.W.World.act c.args.w.now c.loop.here in
    let less : c.loop.counter < 1048576 = grind (arith, nat_tests, c.loop-test.true) in
    elim c.then-is_gone.branch [
      | then-is_gone-via-then-is_gone w ↦ rest_ends k c.args.number c.args.goal o c.loop.counter _ c.loop.invariant.rest (sym w.if-is_gone.true ∙ c.is_gone.ensures ∙ c.loop.invariant.gone)
      | then-is_gone-via-else-is_gone+then-is_goal w ↦ rest_goal k c.args.number c.args.goal o c.loop.counter _ c.loop.invariant.rest less
          (stands_there o (sym w.if-is_gone.false ∙ c.is_gone.ensures ∙ c.loop.invariant.gone)) (told o (is_goal c.args.goal) _ true w.if-is_goal.true w.is_goal.ensures)
    ]

pub returns-then-is_marked-clause-found : goal.returns-then-is_marked-clause-found
returns-then-is_marked-clause-found g c =
    let k = g.W.World.view c.args.w.now in
    let o = g.W.World.act c.args.w.now c.loop.here in
    let less : c.loop.counter < 1048576 = grind (arith, nat_tests, c.loop-test.true) in
    rest_marked k c.args.number c.args.goal o c.loop.counter _ c.loop.invariant.rest less (stands_there o (sym c.if-is_gone.false ∙ c.is_gone.ensures ∙ c.loop.invariant.gone))
    (told o (is_goal c.args.goal) _ false c.if-is_goal.false c.is_goal.ensures) (told o (is_marked k c.args.number) _ true c.if-is_marked.true c.is_marked.ensures)

pub loop-preserved : goal.loop-preserved
loop-preserved g c =
    let k = g.W.World.view c.args.w.now in
    let o = g.W.World.act c.args.w.now c.loop.here in
    let less : c.loop.counter < 1048576 = grind (arith, nat_tests, c.loop-test.true) in
    let there : IsSome o = stands_there o (sym c.if-is_gone.false ∙ c.is_gone.ensures ∙ c.loop.invariant.gone) in
    record {
      gone = c.sender_act-here.ensures.gone;
      context = if_sender k o _ there c.sender_act-here.ensures.value;
      rest = rest_goes_on k c.args.number c.args.goal o _ c.loop.counter _ c.loop.invariant.rest less there
          (told o (is_goal c.args.goal) _ false c.if-is_goal.false c.is_goal.ensures) (told o (is_marked k c.args.number) _ false c.if-is_marked.false c.is_marked.ensures) c.sender_act-here.ensures.value;
    }

pub returns-then-is_gone-2-clause-found : goal.returns-then-is_gone-2-clause-found
returns-then-is_gone-2-clause-found g c =
    rest_ends (g.W.World.view c.args.w.now) c.args.number c.args.goal (g.W.World.act c.args.w.now c.loop.here) c.loop.counter _ c.loop.invariant.rest (sym c.if-is_gone-2.true ∙ c.is_gone-2.ensures ∙ c.loop.invariant.gone)

pub returns-else-is_gone-2-clause-found : goal.returns-else-is_gone-2-clause-found
returns-else-is_gone-2-clause-found g c =
    rest_too_far (g.W.World.view c.args.w.now) c.args.number c.args.goal (g.W.World.act c.args.w.now c.loop.here) c.loop.counter _ c.loop.invariant.rest
    (grind (arith, nat_tests, c.loop-test.false, c.loop.auto.counter-end)) (sym c.if-is_gone-2.false ∙ c.is_gone-2.ensures ∙ c.loop.invariant.gone)
