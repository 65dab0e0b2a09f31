use Rattle.std.proofs.Common.{ℕ, ◌<◌, ◌/◌, ◌%◌, ◌∙◌, ap, length, refl, arith}
use Rattle.cs_heap.specs.Object.{Memory, Object, slot_count_of, with_byte_in, slot_set}
use Rattle.std.specs.Vec.{with_item}
use Rattle.cs_heap.specs.declared.Heap.TheInside.{Inside}
use Rattle.cs_heap.proofs.Seen.{dirty_seen, field_is, seen_slot, word_stored}
use Rattle.cs_heap.proofs.OneObject.{fits_body}
use Rattle.cs_heap.proofs.Heap.set_byte.Goals as goal

pub slot_place-requires : goal.slot_place-requires
slot_place-requires c = (seen_slot c.self.inside c.args.self.now c.self.invariant c.self.view_is c.args.o.0 (c.args.i / 4) (omega (arith, c.requires))).known_there.above

pub index_mut-requires : goal.index_mut-requires
index_mut-requires c =
    let slot : c.args.i / 4 < slot_count_of c.args.self.now.objects c.args.o.0 = omega (arith, c.requires) in
    let s = seen_slot c.self.inside c.args.self.now c.self.invariant c.self.view_is c.args.o.0 (c.args.i / 4) slot in
    let less : c.args.i / 4 < length s.found.split.x.words = omega (arith, slot, field_is c.self.inside c.args.self.now.objects c.args.o.0 s (λ (x : Object). length x.words)) in
    omega (arith, less, s.known_there.there.body_within, fits_body (length s.found.split.x.words), c.slot_place.ensures, c.self.inside.words.ok.0)

pub invariant_of-self : goal.invariant_of-self
invariant_of-self c =
    let m : Memory = c.args.self.now in
    let v : ℕ = c.with_byte_in-word.result in
    let new : Inside = record { words = with_item c.self.inside.words c.slot_place.result v; births = c.self.inside.births; marks = c.self.inside.marks; limit = c.self.inside.limit; dirty = c.self.inside.dirty } in
    (word_stored c.self.inside new m c.args.o.0 c.slot_place.result (c.args.i / 4) v m.dirty c.self.invariant c.self.view_is (omega (arith, c.requires)) c.slot_place.ensures refl refl refl
    (record { limit = refl; words = omega arith; births = omega arith; marks = omega arith }) (dirty_seen c.self.inside m c.self.view_is)).sound

pub returns : goal.returns
returns c =
    let m : Memory = c.args.self.now in
    let v : ℕ = c.with_byte_in-word.result in
    let new : Inside = record { words = with_item c.self.inside.words c.slot_place.result v; births = c.self.inside.births; marks = c.self.inside.marks; limit = c.self.inside.limit; dirty = c.self.inside.dirty } in
    (word_stored c.self.inside new m c.args.o.0 c.slot_place.result (c.args.i / 4) v m.dirty c.self.invariant c.self.view_is (omega (arith, c.requires)) c.slot_place.ensures refl refl refl
    (record { limit = refl; words = omega arith; births = omega arith; marks = omega arith }) (dirty_seen c.self.inside m c.self.view_is)).view_is
    ∙ ap (λ (n : ℕ). let stored : Memory = record m { objects = slot_set m.objects c.args.o.0 (c.args.i / 4) n } in stored)
    (c.with_byte_in-word.ensures ∙ ap (λ (n : ℕ). with_byte_in n (c.args.i % 4) c.args.b) c.slot.ensures)
