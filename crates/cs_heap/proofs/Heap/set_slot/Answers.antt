use Rattle.std.proofs.Common.{◌<◌, ◌||◌, ap₂, length, refl, arith}
use Rattle.cs_heap.specs.Object.{Memory, Object, is_watched}
use Rattle.std.specs.Vec.{with_item}
use Rattle.cs_heap.specs.declared.Heap.TheInside.{Inside}
use Rattle.cs_heap.proofs.Seen.{dirty_seen, field_is, has_slot, seen_slot, word_stored}
use Rattle.cs_heap.proofs.OneObject.{fits_body}
use Rattle.cs_heap.proofs.Heap.set_slot.Goals as goal

pub is_watched-requires : goal.is_watched-requires
is_watched-requires c = has_slot c.args.self.now.objects c.args.o.0 c.args.i c.requires

pub slot_place-requires : goal.slot_place-requires
slot_place-requires c = (seen_slot c.self.inside c.args.self.now c.self.invariant c.self.view_is c.args.o.0 c.args.i c.requires).known_there.above

pub index_mut-requires : goal.index_mut-requires
index_mut-requires c =
    let s = seen_slot c.self.inside c.args.self.now c.self.invariant c.self.view_is c.args.o.0 c.args.i c.requires in
    let less : c.args.i < length s.found.split.x.words = omega (arith, c.requires, field_is c.self.inside c.args.self.now.objects c.args.o.0 s (λ (x : Object). length x.words)) in
    omega (arith, less, s.known_there.there.body_within, fits_body (length s.found.split.x.words), c.slot_place.ensures, c.self.inside.words.ok.0)

pub invariant_of-self : goal.invariant_of-self
invariant_of-self c =
    let m : Memory = c.args.self.now in
    let new : Inside = record { words = with_item c.self.inside.words c.slot_place.result c.args.v.0; births = c.self.inside.births; marks = c.self.inside.marks; limit = c.self.inside.limit; dirty = c.self.inside.dirty || c.is_watched.result } in
    (word_stored c.self.inside new m c.args.o.0 c.slot_place.result c.args.i c.args.v.0 (m.dirty || is_watched m c.args.o.0) c.self.invariant c.self.view_is c.requires c.slot_place.ensures refl refl refl
    (record { limit = refl; words = omega arith; births = omega arith; marks = omega arith })
    (ap₂ (λ a b. a || b) (dirty_seen c.self.inside m c.self.view_is) c.is_watched.ensures)).sound

pub returns : goal.returns
returns c =
    let m : Memory = c.args.self.now in
    let new : Inside = record { words = with_item c.self.inside.words c.slot_place.result c.args.v.0; births = c.self.inside.births; marks = c.self.inside.marks; limit = c.self.inside.limit; dirty = c.self.inside.dirty || c.is_watched.result } in
    (word_stored c.self.inside new m c.args.o.0 c.slot_place.result c.args.i c.args.v.0 (m.dirty || is_watched m c.args.o.0) c.self.invariant c.self.view_is c.requires c.slot_place.ensures refl refl refl
    (record { limit = refl; words = omega arith; births = omega arith; marks = omega arith })
    (ap₂ (λ a b. a || b) (dirty_seen c.self.inside m c.self.view_is) c.is_watched.ensures)).view_is
