use Rattle.std.proofs.Common.{refl, arith}
use Rattle.std.specs.Vec.{with_item}
use Rattle.cs_heap.specs.declared.Heap.TheInside.{Inside}
use Rattle.cs_heap.proofs.Places.{object_above}
use Rattle.cs_heap.proofs.Seen.{seen, there_is, watch_is_begun}
use Rattle.cs_heap.proofs.Heap.watch.Goals as goal

pub unit_of-place-requires : goal.unit_of-place-requires
unit_of-place-requires c = object_above c.args.self.now.objects c.args.o.0 c.requires

pub index_mut-requires : goal.index_mut-requires
index_mut-requires c = let s = seen c.self.inside c.args.self.now c.self.invariant c.self.view_is c.args.o.0 c.requires in
    omega (arith, (there_is c.self.inside c.args.self.now.objects c.args.o.0 s).marks_within, c.unit_of-place.ensures, c.self.inside.marks.ok.0)

pub invariant_of-self : goal.invariant_of-self
invariant_of-self c =
    let new : Inside = record { words = c.self.inside.words; births = c.self.inside.births; marks = with_item c.self.inside.marks c.unit_of-place.result 2; limit = c.self.inside.limit; dirty = c.self.inside.dirty } in
    (watch_is_begun c.self.inside new c.args.self.now c.args.o.0 c.unit_of-place.result c.self.invariant c.self.view_is c.requires c.unit_of-place.ensures refl refl refl
    (record { limit = refl; words = omega arith; births = omega arith; marks = omega arith }) refl).sound

pub returns : goal.returns
returns c =
    let new : Inside = record { words = c.self.inside.words; births = c.self.inside.births; marks = with_item c.self.inside.marks c.unit_of-place.result 2; limit = c.self.inside.limit; dirty = c.self.inside.dirty } in
    (watch_is_begun c.self.inside new c.args.self.now c.args.o.0 c.unit_of-place.result c.self.invariant c.self.view_is c.requires c.unit_of-place.ensures refl refl refl
    (record { limit = refl; words = omega arith; births = omega arith; marks = omega arith }) refl).view_is
