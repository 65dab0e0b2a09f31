use Rattle.std.proofs.Common.{◌∙◌, arith, sym}
use Rattle.cs_inspect.proofs.Sides.{objects_end, objects_left, objects_more, objects_stop}
use Rattle.cs_inspect.proofs.comparison.first_difference.Goals as goal

pub loop-place-preserved : goal.loop-place-preserved
loop-place-preserved c =
    objects_more c.args.a.now.addresses.now.keys c.args.a.now.image.now.heap.objects c.args.b.now.addresses.now.keys c.args.b.now.image.now.heap.objects c.requires.first c.requires.second c.requires.objects_first c.requires.objects_second c.loop-place.place c.same_at-same.result (omega arith) (omega arith) c.same_at-same.ensures c.if-not-same.false ∙ c.loop-place.invariant

pub returns-then-not-same : goal.returns-then-not-same
returns-then-not-same c =
    objects_stop c.args.a.now.addresses.now.keys c.args.a.now.image.now.heap.objects c.args.b.now.addresses.now.keys c.args.b.now.image.now.heap.objects c.requires.first c.requires.second c.requires.objects_first c.requires.objects_second c.loop-place.place c.same_at-same.result (omega arith) (omega arith) c.same_at-same.ensures c.if-not-same.true ∙ c.loop-place.invariant

pub returns-then-len : goal.returns-then-len
returns-then-len c = objects_end c.args.a.now.addresses.now.keys c.args.a.now.image.now.heap.objects c.args.b.now.addresses.now.keys c.args.b.now.image.now.heap.objects c.requires.first c.requires.second c.requires.objects_first c.requires.objects_second c.loop-place.place (omega (arith, c.loop-place-test.false, c.min-common.ensures, c.len.ensures.len, c.len-2.ensures.len, c.len-3.ensures.len, c.len-4.ensures.len, c.if-len.true)) (omega (arith, c.loop-place-test.false, c.min-common.ensures, c.len.ensures.len, c.len-2.ensures.len, c.len-3.ensures.len, c.len-4.ensures.len, c.if-len.true)) ∙ c.loop-place.invariant

pub returns-else-len : goal.returns-else-len
returns-else-len c =
    objects_left c.args.a.now.addresses.now.keys c.args.a.now.image.now.heap.objects c.args.b.now.addresses.now.keys c.args.b.now.image.now.heap.objects c.requires.first c.requires.second c.requires.objects_first c.requires.objects_second c.loop-place.place c.min-common.result c.len.result c.len-2.result c.len.ensures.len c.len-2.ensures.len c.min-common.ensures c.loop-place-test.false c.loop-place.auto.place-end
    (λ s. c.if-len.false (c.len-3.ensures.len ∙ sym c.len.ensures.len ∙ s ∙ c.len-2.ensures.len ∙ sym c.len-4.ensures.len))
    ∙ c.loop-place.invariant
