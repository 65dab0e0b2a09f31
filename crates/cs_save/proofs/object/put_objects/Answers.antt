use Rattle.std.specs.Prelude.{flat_map}
use Rattle.std.specs.Option.{option_map_or}
use Rattle.cs_heap.specs.Object.{Object}
use Rattle.cs_model.specs.Words.{bytes_of_words}
use Rattle.cs_model.specs.SavedFile.{saved_words}
use Rattle.cs_save.specs.Filed.{filed, saved_at}
use Rattle.std.proofs.Common.{◌≡◌, ℕ, ◌+◌, ◌-◌, [], take, drop, Option, option_map, refl, ap, sym, ◌∙◌, arith}
use Rattle.cs_save.proofs.Written.{on_err, at_number, none_at, objects_more, objects_broke, loop_begun, went_same}
use Rattle.cs_save.proofs.object.put_objects.Goals as goal

pub loop-number-init : goal.loop-number-init
loop-number-init g c = record {
  at = c.requires.at;
  from = omega arith;
  written =
      let none : 0 ≡ c.args.from - c.args.from = omega arith in
      went_same _ _ _ _ (ap (λ (n : ℕ). bytes_of_words (flat_map (λ (x : Object). saved_words (filed x)) (take n (drop c.args.from c.args.heap.now.objects)))) none) (loop_begun _);
}

pub unreachable-requires : goal.unreachable-requires
unreachable-requires g c =
    let none = none_at c.args.heap.now.objects c.loop-number._number (sym c.loop-number.invariant.at ∙ ap (option_map (λ o. o.0)) c.in_default.is) in
    omega (arith, none, c.requires.end, c.loop-number-test.true)

pub put_object-requires-clause-object : goal.put_object-requires-clause-object
put_object-requires-clause-object g c = (at_number c.args.heap.now.objects c.loop-number._number c.in-Some.o.0 (sym c.loop-number.invariant.at ∙ ap (option_map (λ o. o.0)) c.in-Some.is)).object

pub next-at-requires : goal.next-at-requires
next-at-requires g c = (at_number c.args.heap.now.objects c.loop-number._number c.in-Some.o.0 (sym c.loop-number.invariant.at ∙ ap (option_map (λ o. o.0)) c.in-Some.is)).object

pub loop-number-preserved : goal.loop-number-preserved
loop-number-preserved g c =
    let here = at_number c.args.heap.now.objects c.loop-number._number c.in-Some.o.0 (sym c.loop-number.invariant.at ∙ ap (option_map (λ o. o.0)) c.in-Some.is) in
    record {
      at = c.next-at.ensures ∙ here.next;
      from = omega (arith, c.loop-number.invariant.from);
      written = objects_more _ _ _ (λ (x : Object). saved_words (filed x)) c.args.heap.now.objects c.args.from c.loop-number._number (c.loop-number._number + 1) c.in-Some.o.0 (saved_at c.args.heap.now.objects c.in-Some.o.0) here
          (λ x e. ap (λ (o : Option Object). option_map_or (λ y. saved_words (filed y)) o []) e)
          (c.loop-number.invariant.from) refl c.loop-number.invariant.written c.in_ok-put_object.ensures.ok;
    }

pub returns-in_err-put_object-clause-err : goal.returns-in_err-put_object-clause-err
returns-in_err-put_object-clause-err g c =
    let here = at_number c.args.heap.now.objects c.loop-number._number c.in-Some.o.0 (sym c.loop-number.invariant.at ∙ ap (option_map (λ o. o.0)) c.in-Some.is) in
    on_err c.from_residual.result _ (objects_broke _ _ _ (λ (x : Object). saved_words (filed x)) c.args.heap.now.objects c.args.from c.loop-number._number c.args.end c.in-Some.o.0 (saved_at c.args.heap.now.objects c.in-Some.o.0) here
    (λ x e. ap (λ (o : Option Object). option_map_or (λ y. saved_words (filed y)) o []) e)
    (c.loop-number.invariant.from) c.loop-number-test.true c.loop-number.invariant.written c.in_err-put_object.ensures.err)
