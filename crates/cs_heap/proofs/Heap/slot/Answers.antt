use Rattle.std.proofs.Common.{◌+◌, ◌*◌, ◌<◌, length, get_or, sym, ◌∙◌, arith}
use Rattle.cs_heap.specs.Object.{Object}
use Rattle.cs_heap.proofs.Seen.{field_is, read_is, seen_slot}
use Rattle.cs_heap.proofs.Standing.{unit_of}
use Rattle.cs_heap.proofs.OneObject.{fits_body}
use Rattle.cs_heap.proofs.Heap.slot.Goals as goal

pub slot_place-requires : goal.slot_place-requires
slot_place-requires c = (seen_slot c.self.inside c.args.self.now c.self.invariant c.self.view_is c.args.o.0 c.args.i c.requires).known_there.above

pub index-requires : goal.index-requires
index-requires c =
    let s = seen_slot c.self.inside c.args.self.now c.self.invariant c.self.view_is c.args.o.0 c.args.i c.requires in
    let less : c.args.i < length s.found.split.x.words = omega (arith, c.requires, field_is c.self.inside c.args.self.now.objects c.args.o.0 s (λ (x : Object). length x.words)) in
    omega (arith, less, s.known_there.there.body_within, fits_body (length s.found.split.x.words), c.slot_place.ensures, c.self.inside.words.ok.0)

pub returns : goal.returns
returns c =
    let s = seen_slot c.self.inside c.args.self.now c.self.invariant c.self.view_is c.args.o.0 c.args.i c.requires in
    let t = s.known_there.there in
    let x : Object = s.found.split.x in
    let less : c.args.i < length x.words = omega (arith, c.requires, field_is c.self.inside c.args.self.now.objects c.args.o.0 s (λ (y : Object). length y.words)) in
    read_is c.self.inside.words.items c.slot_place.result (2 * unit_of c.args.o.0 + 2 + c.args.i) c.index.result.now c.slot_place.ensures
    (omega (arith, less, t.body_within, fits_body (length x.words))) c.index.ensures
    ∙ t.slot_is c.args.i less ∙ sym (field_is c.self.inside c.args.self.now.objects c.args.o.0 s (λ (y : Object). get_or y.words c.args.i 0))
