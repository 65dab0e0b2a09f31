use Rattle.std.proofs.Common.{◌≡◌, ℕ, ◌+◌, ◌*◌, ◌<◌, false, get_or, Some, None, is_some, refl, ap, sym, ◌∙◌, arith, eqb}
use Rattle.std.proofs.Common.{not, ltb}
use Rattle.cs_heap.specs.Object.{base}
use Rattle.std.proofs.lemmas.Bool.Decides.{nat_tests}
use Rattle.cs_heap.specs.Object.{object_place, is_object}
use Rattle.cs_heap.specs.Layout.{unit_in}
use Rattle.cs_heap.proofs.Marks.{marked_found, nonzero, is_marked, same_test, unit_in_is, unit_in_of}
use Rattle.cs_heap.proofs.Seen.{read_is, seen}
use Rattle.cs_heap.proofs.Standing.{laid_seen, unit_of}
use Rattle.cs_heap.proofs.Heap.is_object.Goals as goal

pub returns-then-unit-len : goal.returns-then-unit-len
returns-then-unit-len c =
    let address : ℕ = c.args.o.0 in
    let u : ℕ = c.in-Some.unit in
    let at : address ≡ base + 8 * u = unit_in_is address u (sym c.unit_at.ensures ∙ c.in-Some.is) in
    let read : c.index.result.now ≡ get_or c.self.inside.marks.items u 0 =
    read_is c.self.inside.marks.items u u c.index.result.now refl (omega (arith, c.if-unit-len.true, c.len.ensures, c.self.inside.marks.ok.0)) c.index.ensures in
    same_test (not (eqb c.index.result.now 0)) (is_object c.args.self.now.objects address)
    (λ t. ap (λ (a : ℕ). is_some (object_place c.args.self.now.objects a)) at
    ∙ marked_found c.self.inside c.args.self.now.objects (laid_seen c.self.inside c.args.self.now c.self.invariant c.self.view_is) u (λ z. nonzero c.index.result.now t (read ∙ z)))
    (λ t. let s = seen c.self.inside c.args.self.now c.self.invariant c.self.view_is c.args.o.0 t in
    let same : u ≡ unit_of address = omega (arith, at) in
    is_marked c.index.result.now (omega (arith, read, ap (λ (v : ℕ). get_or c.self.inside.marks.items v 0) same, s.known_there.there.mark_is)))

pub returns-else-unit-len : goal.returns-else-unit-len
returns-else-unit-len c =
    let address : ℕ = c.args.o.0 in
    let u : ℕ = c.in-Some.unit in
    let at : address ≡ base + 8 * u = unit_in_is address u (sym c.unit_at.ensures ∙ c.in-Some.is) in
    same_test (ltb u c.len.result) (is_object c.args.self.now.objects address)
    (λ t. let less : u < c.len.result = grind (arith, nat_tests) in absurd (omega (arith, less, c.if-unit-len.false)))
    (λ t. let s = seen c.self.inside c.args.self.now c.self.invariant c.self.view_is c.args.o.0 t in
    absurd (omega (arith, at, s.known_there.there.body_within, s.known_there.there.marks_length, c.if-unit-len.false, c.len.ensures, c.self.inside.marks.ok.0)))

pub returns-in-None : goal.returns-in-None
returns-in-None c =
    let address : ℕ = c.args.o.0 in
    same_test false (is_object c.args.self.now.objects address) (λ t. absurd (cc))
    (λ t. let s = seen c.self.inside c.args.self.now c.self.invariant c.self.view_is c.args.o.0 t in
    let unit_is : unit_in address ≡ Some (unit_of address) = unit_in_of address s.known_there.above s.known_there.aligned in
    let none_is : unit_in address ≡ None = sym c.unit_at.ensures ∙ c.in-None.is in
    absurd (cc))
