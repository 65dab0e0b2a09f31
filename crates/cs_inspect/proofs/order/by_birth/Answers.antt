use Rattle.std.proofs.Common.{subst, sym}
use Rattle.cs_inspect.proofs.Ordering.{Walked, walk_begins, walk_ends, walk_falls_from, walk_goes_on, walk_object}
use Rattle.cs_inspect.proofs.order.by_birth.Goals as goal

pub loop-object-init : goal.loop-object-init
loop-object-init c =
    subst (λ es. Walked c.args.heap.now.objects c.first-object.result es) (sym c.new-births.ensures.empty) (walk_begins c.args.heap.now.objects c.first-object.result c.first-object.ensures)

pub birth-requires : goal.birth-requires
birth-requires c = walk_object c.args.heap.now.objects c.in-Some.o c.loop-object.births.entries (subst (λ p. Walked c.args.heap.now.objects p c.loop-object.births.entries) c.in-Some.is c.loop-object.invariant)

pub next-object-requires : goal.next-object-requires
next-object-requires c = walk_object c.args.heap.now.objects c.in-Some.o c.loop-object.births.entries (subst (λ p. Walked c.args.heap.now.objects p c.loop-object.births.entries) c.in-Some.is c.loop-object.invariant)

pub loop-object-smaller : goal.loop-object-smaller
loop-object-smaller c =
    walk_falls_from c.args.heap.now.objects c.in-Some.o c.loop-object.object c.next-object.result c.loop-object.births.entries c.in-Some.is c.loop-object.invariant c.next-object.ensures

pub loop-object-preserved : goal.loop-object-preserved
loop-object-preserved c =
    walk_goes_on c.args.heap.now.objects c.in-Some.o c.next-object.result c.birth.result c.loop-object.births.entries c.insert.new.self.entries c.requires
    (subst (λ p. Walked c.args.heap.now.objects p c.loop-object.births.entries) c.in-Some.is c.loop-object.invariant) c.birth.ensures c.in_ok-insert.ensures.entries c.next-object.ensures

pub returns : goal.returns
returns c = walk_ends c.args.heap.now.objects c.loop-object.births.entries (subst (λ p. Walked c.args.heap.now.objects p c.loop-object.births.entries) c.in_default.is c.loop-object.invariant)
