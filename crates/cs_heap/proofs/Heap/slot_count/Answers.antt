use Rattle.std.proofs.Common.{ℕ, ◌*◌, List, length, ap, ap₂, sym, ◌∙◌, arith}
use Rattle.cs_heap.specs.Object.{Object}
use Rattle.cs_heap.specs.Layout.{count_in, unit_header}
use Rattle.cs_word.specs.declared.header.Header.{Header}
use Rattle.cs_heap.proofs.OneObject.{fits_body}
use Rattle.cs_heap.proofs.Seen.{field_is, seen}
use Rattle.cs_heap.proofs.Heap.slot_count.Goals as goal

pub unit_of-requires : goal.unit_of-requires
unit_of-requires c = (seen c.self.inside c.args.self.now c.self.invariant c.self.view_is c.args.o.0 c.requires).known_there.above

pub slot_count_at-requires-clause-within : goal.slot_count_at-requires-clause-within
slot_count_at-requires-clause-within c = let s = seen c.self.inside c.args.self.now c.self.invariant c.self.view_is c.args.o.0 c.requires in
    omega (arith, s.known_there.there.body_within, c.unit_of.ensures, ap length c.deref.ensures.value)

pub slot_count_at-requires-clause-before : goal.slot_count_at-requires-clause-before
slot_count_at-requires-clause-before c =
    let s = seen c.self.inside c.args.self.now c.self.invariant c.self.view_is c.args.o.0 c.requires in
    let t = s.known_there.there in
    let slots = ap (λ (h : Header). h.slots) (ap₂ (λ (ws : List ℕ) (u : ℕ). unit_header ws (2 * u)) c.deref.ensures.value c.unit_of.ensures ∙ t.header_is) in
    λ top. let above = t.before (omega (arith, slots, top)) in omega (arith, above, c.unit_of.ensures)

pub returns-clause-value : goal.returns-clause-value
returns-clause-value c =
    let s = seen c.self.inside c.args.self.now c.self.invariant c.self.view_is c.args.o.0 c.requires in
    c.slot_count_at.ensures ∙ ap₂ count_in c.deref.ensures.value c.unit_of.ensures
    ∙ s.known_there.there.count_is ∙ sym (field_is c.self.inside c.args.self.now.objects c.args.o.0 s (λ (x : Object). length x.words))

-- an object lies within the words, of which there are at most as many as the limit
pub returns-clause-most : goal.returns-clause-most
returns-clause-most c =
    let s = seen c.self.inside c.args.self.now c.self.invariant c.self.view_is c.args.o.0 c.requires in
    let count = ap₂ count_in c.deref.ensures.value c.unit_of.ensures ∙ s.known_there.there.count_is in
    omega (arith, c.slot_count_at.ensures, count, s.known_there.there.body_within, fits_body (length s.found.split.x.words), c.self.invariant.within, c.self.invariant.most)
