use Rattle.std.proofs.Common.{◌≡◌, ◌∙◌, Some, sym, subst}
use Rattle.std.proofs.lemmas.Bool.{false≢true}
use Rattle.cs_model.specs.PrimTable.{kept_prim}
use Rattle.cs_unwind.specs.Numbers.{HasNumber}
use Rattle.cs_unwind.specs.Performed.{Performs}
use Rattle.cs_unwind.specs.Primitive.{entered_from}
use Rattle.cs_unwind.proofs.NumberRows.{evaluates_row, fails_row, prim-195, prim-197, prim-206}
use Rattle.cs_unwind.proofs.Performing.{fails}
use Rattle.cs_unwind.proofs.perform.Goals as goal

pub unreachable-requires : goal.unreachable-requires
unreachable-requires g c = absurd (false≢true (sym c.in_default.ensures ∙ c.requires.number))

pub returns-in-FindUnwindMark : goal.returns-in-FindUnwindMark
returns-in-FindUnwindMark g c =
    let k = g.W.World.view c.args.w.now in
    let is : 195 ≡ c.args.number = sym (subst (λ p. HasNumber (Some p) c.args.number) c.in-FindUnwindMark.is c.in-Some.ensures) in
    subst (λ n. (Performs (g.W.World.stored c.args.w.now) (g.W.World.stored c.unwind_mark.new.w) (g.W.World.layout c.args.w.now) (g.W.World.layout c.unwind_mark.new.w) k (entered_from k n) (g.W.World.view c.unwind_mark.new.w) c.unwind_mark.result (kept_prim n c.args.args k))) is
    (subst (λ o. (Performs (g.W.World.stored c.args.w.now) (g.W.World.stored c.unwind_mark.new.w) (g.W.World.layout c.args.w.now) (g.W.World.layout c.unwind_mark.new.w) k (entered_from k 195) (g.W.World.view c.unwind_mark.new.w) c.unwind_mark.result o)) (prim-195 k c.args.args) c.unwind_mark.ensures)

pub returns-in-FindHandlerMark : goal.returns-in-FindHandlerMark
returns-in-FindHandlerMark g c =
    let k = g.W.World.view c.args.w.now in
    let is : 197 ≡ c.args.number = sym (subst (λ p. HasNumber (Some p) c.args.number) c.in-FindHandlerMark.is c.in-Some.ensures) in
    subst (λ n. (Performs (g.W.World.stored c.args.w.now) (g.W.World.stored c.handler_mark.new.w) (g.W.World.layout c.args.w.now) (g.W.World.layout c.handler_mark.new.w) k (entered_from k n) (g.W.World.view c.handler_mark.new.w) c.handler_mark.result (kept_prim n c.args.args k))) is
    (subst (λ o. (Performs (g.W.World.stored c.args.w.now) (g.W.World.stored c.handler_mark.new.w) (g.W.World.layout c.args.w.now) (g.W.World.layout c.handler_mark.new.w) k (entered_from k 197) (g.W.World.view c.handler_mark.new.w) c.handler_mark.result o)) (prim-197 k c.args.args) c.handler_mark.ensures)

pub returns-in-EvaluateArray : goal.returns-in-EvaluateArray
returns-in-EvaluateArray g c =
    let k = g.W.World.view c.args.w.now in
    let is : 206 ≡ c.args.number = sym (subst (λ p. HasNumber (Some p) c.args.number) c.in-EvaluateArray.is c.in-Some.ensures) in
    subst (λ n. (Performs (g.W.World.stored c.args.w.now) (g.W.World.stored c.evaluate_array.new.w) (g.W.World.layout c.args.w.now) (g.W.World.layout c.evaluate_array.new.w) k (entered_from k n) (g.W.World.view c.evaluate_array.new.w) c.evaluate_array.result (kept_prim n c.args.args k))) is
    (subst (λ o. (Performs (g.W.World.stored c.args.w.now) (g.W.World.stored c.evaluate_array.new.w) (g.W.World.layout c.args.w.now) (g.W.World.layout c.evaluate_array.new.w) k (entered_from k 206) (g.W.World.view c.evaluate_array.new.w) c.evaluate_array.result o)) (prim-206 k c.args.args) c.evaluate_array.ensures)

pub returns-in-Mark : goal.returns-in-Mark
returns-in-Mark g c =
    let k = g.W.World.view c.args.w.now in
    fails (g.W.World.stored c.args.w.now) (g.W.World.layout c.args.w.now) k _ _ c.requires.ready (fails_row k c.args.args c.args.number (subst (λ p. HasNumber (Some p) c.args.number) c.in-Mark.is c.in-Some.ensures))

pub returns-in-Evaluate : goal.returns-in-Evaluate
returns-in-Evaluate g c =
    let k = g.W.World.view c.args.w.now in
    let row = evaluates_row k c.args.args c.args.number c.in-Evaluate.wanted (sym (subst (λ p. HasNumber (Some p) c.args.number) c.in-Evaluate.is c.in-Some.ensures)) in
    subst (λ from. (Performs (g.W.World.stored c.args.w.now) (g.W.World.stored c.evaluate.new.w) (g.W.World.layout c.args.w.now) (g.W.World.layout c.evaluate.new.w) k from (g.W.World.view c.evaluate.new.w) c.evaluate.result (kept_prim c.args.number c.args.args k))) row.from
    (subst (λ o. (Performs (g.W.World.stored c.args.w.now) (g.W.World.stored c.evaluate.new.w) (g.W.World.layout c.args.w.now) (g.W.World.layout c.evaluate.new.w) k k (g.W.World.view c.evaluate.new.w) c.evaluate.result o)) row.is c.evaluate.ensures)
