use Rattle.std.proofs.Common.{◌≡◌, ℕ, ◌+◌, ◌*◌, List, [], ◌∷◌, ◌++◌, length, ap, ap₂, sym, ◌∙◌, arith, subst, append_assoc, length-append}
use Rattle.cs_heap.specs.Object.{Object, body_units, used}
use Rattle.cs_heap.specs.Object.{address_of}
use Rattle.cs_heap.specs.Layout.{AreObjectsLaid, address_from, count_in, unit_header}
use Rattle.cs_word.specs.declared.header.Header.{Header}
use Rattle.cs_heap.proofs.Marks.{walk}
use Rattle.cs_heap.proofs.Places.{next_of-found, object_above, used-push}
use Rattle.cs_heap.proofs.Seen.{seen}
use Rattle.cs_heap.proofs.Standing.{laid_seen, length-marks, length-all_words}
use Rattle.cs_heap.proofs.Heap.next.Goals as goal

pub unit_of-unit-requires : goal.unit_of-unit-requires
unit_of-unit-requires c = object_above c.args.self.now.objects c.args.o.0 c.requires

pub slot_count_at-slots-requires-clause-within : goal.slot_count_at-slots-requires-clause-within
slot_count_at-slots-requires-clause-within c = let s = seen c.self.inside c.args.self.now c.self.invariant c.self.view_is c.args.o.0 c.requires in
    omega (arith, s.known_there.there.body_within, c.unit_of-unit.ensures, ap length c.deref.ensures.value)

pub slot_count_at-slots-requires-clause-before : goal.slot_count_at-slots-requires-clause-before
slot_count_at-slots-requires-clause-before c =
    let s = seen c.self.inside c.args.self.now c.self.invariant c.self.view_is c.args.o.0 c.requires in
    let t = s.known_there.there in
    let slots = ap (λ (h : Header). h.slots) (ap₂ (λ (ws : List ℕ) (u : ℕ). unit_header ws (2 * u)) c.deref.ensures.value c.unit_of-unit.ensures ∙ t.header_is) in
    λ top. let above = t.before (omega (arith, slots, top)) in omega (arith, above, c.unit_of-unit.ensures)

pub object_from-requires : goal.object_from-requires
object_from-requires c =
    let laid = laid_seen c.self.inside c.args.self.now c.self.invariant c.self.view_is in
    omega (arith, ap length c.deref-2.ensures.value, length-marks c.self.inside c.args.self.now.objects laid, ap length laid.words, length-all_words c.args.self.now.objects, c.self.invariant.within, c.self.invariant.most)

pub returns : goal.returns
returns c =
    let s = seen c.self.inside c.args.self.now c.self.invariant c.self.view_is c.args.o.0 c.requires in
    let p = s.found.split in
    let count : c.slot_count_at-slots.result ≡ length p.x.words =
    c.slot_count_at-slots.ensures ∙ ap₂ count_in c.deref.ensures.value c.unit_of-unit.ensures ∙ s.known_there.there.count_is in
    let body : c.body_units.result ≡ body_units (length p.x.words) = c.body_units.ensures ∙ ap body_units count in
    let regrouped : p.before ++ p.x ∷ p.after ≡ (p.before ++ p.x ∷ []) ++ p.after = sym (append_assoc p.before (p.x ∷ []) p.after) in
    let behind : 2 * (c.unit_of-unit.result + 1 + c.body_units.result) ≡ used (p.before ++ p.x ∷ []) =
    omega (arith, c.unit_of-unit.ensures, body, s.known_there.place, used-push p.before p.x) in
    let one_more : length (p.before ++ p.x ∷ []) ≡ s.index + 1 = omega (arith, p.count, length-append p.before (p.x ∷ [])) in
    c.object_from.ensures ∙ ap (λ (marks : List ℕ). address_from marks (c.unit_of-unit.result + 1 + c.body_units.result)) c.deref-2.ensures.value
    ∙ walk c.self.inside (p.before ++ p.x ∷ []) p.after (subst (λ (xs : List Object). AreObjectsLaid c.self.inside xs) regrouped s.known_there.parts)
    (c.unit_of-unit.result + 1 + c.body_units.result) behind
    ∙ ap₂ address_of (sym (p.list ∙ regrouped)) one_more
    ∙ sym (next_of-found c.args.self.now.objects c.args.o.0 s.index s.found)
