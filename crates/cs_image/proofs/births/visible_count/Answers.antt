use Rattle.std.proofs.Common.{◌≡◌, true, false, List, length, drop, filter, ap, arith}
use Rattle.std.proofs.lemmas.Bool.Decides.{nat_tests}
use Rattle.std.proofs.Math.ListN.{drop_of_length-le}
use Rattle.cs_model.specs.ImageFile.{FileObject, is_visible, visible}
use Rattle.cs_image.specs.Heap.{seen}
use Rattle.cs_image.proofs.Loadings.{next_counted, next_hidden}
use Rattle.cs_image.proofs.births.visible_count.Goals as goal
use Rattle.cs_image.proofs.births.visible_count.Goals.{then-o-ne16, else-o-ne16}

pub loop-number-init : goal.loop-number-init
unfolding visible
loop-number-init c = record { counted = omega arith; few = omega arith }

pub loop-number-preserved : goal.loop-number-preserved
loop-number-preserved c = elim c.if-o-ne16.branch [
  | then-o-ne16 w ↦
      let visible_one : is_visible (seen c.object-o.result) ≡ true = grind (arith, nat_tests, w.if-o-ne16.true) in
      let next = next_counted c.args.file.now.objects c.loop-number.number (seen c.object-o.result) c.object-o.ensures.value visible_one in
      record {
        counted = omega (arith, next, w.count-is, c.loop-number.invariant.counted);
        few = omega (arith, w.count-is, c.loop-number.invariant.few);
      }
  | else-o-ne16 w ↦
      let hidden : is_visible (seen c.object-o.result) ≡ false = grind (arith, nat_tests, w.if-o-ne16.false) in
      let next = next_hidden c.args.file.now.objects c.loop-number.number (seen c.object-o.result) c.object-o.ensures.value hidden in
      record {
        counted = omega (arith, next, w.count-is, c.loop-number.invariant.counted);
        few = omega (arith, w.count-is, c.loop-number.invariant.few);
      }
]

pub returns : goal.returns
returns c =
    let none : length (filter is_visible (drop c.loop-number.number c.args.file.now.objects)) ≡ 0 =
    ap (λ (xs : List FileObject). length (filter is_visible xs)) (drop_of_length-le c.args.file.now.objects (omega arith)) in
    omega (arith, c.loop-number.invariant.counted, none)
