use Rattle.std.proofs.Common.{option_map, ap, sym, ◌∙◌, arith}
use Rattle.cs_save.proofs.Written.{at_number, none_at, used_least}
use Rattle.cs_save.proofs.object.object_count.Goals as goal

pub returns-in_default : goal.returns-in_default
returns-in_default c =
    let none = none_at c.args.heap.now.objects c.loop-count.count (sym c.loop-count.invariant.at ∙ ap (option_map (λ o. o.0)) c.in_default.is) in
    omega (arith, none, c.loop-count.invariant.count)

pub next-at-requires : goal.next-at-requires
next-at-requires c = (at_number c.args.heap.now.objects c.loop-count.count c.in-Some.o.0 (sym c.loop-count.invariant.at ∙ ap (option_map (λ o. o.0)) c.in-Some.is)).object

pub loop-count-preserved : goal.loop-count-preserved
loop-count-preserved c =
    let here = at_number c.args.heap.now.objects c.loop-count.count c.in-Some.o.0 (sym c.loop-count.invariant.at ∙ ap (option_map (λ o. o.0)) c.in-Some.is) in
    record { at = c.next-at.ensures ∙ here.next; count = omega (arith, here.below) }

pub returns : goal.returns
returns c = let least = used_least c.args.heap.now.objects in
    omega (arith, least, c.used_words-most.ensures.value, c.loop-count.invariant.count, c.loop-count-test.false)
