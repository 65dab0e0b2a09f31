use Rattle.std.specs.Option.{option_map_or}
use Rattle.cs_heap.specs.Object.{Object}
use Rattle.cs_model.specs.SavedFile.{halves}
use Rattle.std.proofs.Common.{◌+◌, Option, option_map, refl, ap, sym, ◌∙◌, arith}
use Rattle.cs_save.proofs.Written.{on_err, at_number, none_at, objects_more, objects_broke, loop_begun}
use Rattle.cs_save.proofs.births.put_each_birth.Goals as goal

pub loop-number-init : goal.loop-number-init
loop-number-init g c = record {
  at = c.first-at.ensures;
  written = loop_begun _;
}

pub unreachable-requires : goal.unreachable-requires
unreachable-requires g c =
    let none = none_at c.args.heap.now.objects c.loop-number._number (sym c.loop-number.invariant.at ∙ ap (option_map (λ o. o.0)) c.in_default.is) in
    omega (arith, none, c.requires.count, c.loop-number-test.true)

pub birth-requires : goal.birth-requires
birth-requires g c = (at_number c.args.heap.now.objects c.loop-number._number c.in-Some.o.0 (sym c.loop-number.invariant.at ∙ ap (option_map (λ o. o.0)) c.in-Some.is)).object

pub next-at-requires : goal.next-at-requires
next-at-requires g c = (at_number c.args.heap.now.objects c.loop-number._number c.in-Some.o.0 (sym c.loop-number.invariant.at ∙ ap (option_map (λ o. o.0)) c.in-Some.is)).object

pub loop-number-preserved : goal.loop-number-preserved
loop-number-preserved g c =
    let here = at_number c.args.heap.now.objects c.loop-number._number c.in-Some.o.0 (sym c.loop-number.invariant.at ∙ ap (option_map (λ o. o.0)) c.in-Some.is) in
    record {
      at = c.next-at.ensures ∙ here.next;
      written = objects_more _ _ _ (λ (x : Object). halves x.birth) c.args.heap.now.objects 0 c.loop-number._number (c.loop-number._number + 1) c.in-Some.o.0 (halves c.birth.result) here
          (λ x e. ap halves (c.birth.ensures ∙ ap (λ (o : Option Object). option_map_or (λ y. y.birth) o 0) e))
          (omega arith) refl c.loop-number.invariant.written c.in_ok-put_long.ensures.ok;
    }

pub returns-in_err-put_long-clause-err : goal.returns-in_err-put_long-clause-err
returns-in_err-put_long-clause-err g c =
    let here = at_number c.args.heap.now.objects c.loop-number._number c.in-Some.o.0 (sym c.loop-number.invariant.at ∙ ap (option_map (λ o. o.0)) c.in-Some.is) in
    on_err c.from_residual.result _ (objects_broke _ _ _ (λ (x : Object). halves x.birth) c.args.heap.now.objects 0 c.loop-number._number c.args.count c.in-Some.o.0 (halves c.birth.result) here
    (λ x e. ap halves (c.birth.ensures ∙ ap (λ (o : Option Object). option_map_or (λ y. y.birth) o 0) e))
    (omega arith) c.loop-number-test.true c.loop-number.invariant.written c.in_err-put_long.ensures.err)
