use Rattle.std.proofs.Common.{ℕ, ◌*◌, List, length, ap, ap₂, sym, ◌∙◌, arith, subst}
use Rattle.cs_heap.specs.Object.{Object}
use Rattle.cs_heap.specs.Format.{format_allows}
use Rattle.cs_heap.specs.Layout.{unit_header}
use Rattle.cs_word.specs.Header.{IsWritable}
use Rattle.cs_word.specs.declared.header.Header.{Header}
use Rattle.cs_heap.proofs.Seen.{field_is, header_is, seen, writable}
use Rattle.cs_heap.proofs.Heap.header.Goals as goal

pub unit_of-requires : goal.unit_of-requires
unit_of-requires c = (seen c.self.inside c.args.self.now c.self.invariant c.self.view_is c.args.o.0 c.requires).known_there.above

pub header_at-requires : goal.header_at-requires
header_at-requires c = let s = seen c.self.inside c.args.self.now c.self.invariant c.self.view_is c.args.o.0 c.requires in
    omega (arith, s.known_there.there.body_within, c.unit_of.ensures, ap length c.deref.ensures.value)

pub returns-clause-value : goal.returns-clause-value
returns-clause-value c =
    let s = seen c.self.inside c.args.self.now c.self.invariant c.self.view_is c.args.o.0 c.requires in
    c.header_at.ensures ∙ ap₂ (λ (ws : List ℕ) (u : ℕ). unit_header ws (2 * u)) c.deref.ensures.value c.unit_of.ensures
    ∙ s.known_there.there.header_is ∙ sym (header_is c.self.inside c.args.self.now.objects c.args.o.0 s)

pub returns-clause-writable : goal.returns-clause-writable
returns-clause-writable c =
    let s = seen c.self.inside c.args.self.now c.self.invariant c.self.view_is c.args.o.0 c.requires in
    let is = c.header_at.ensures ∙ ap₂ (λ (ws : List ℕ) (u : ℕ). unit_header ws (2 * u)) c.deref.ensures.value c.unit_of.ensures
    ∙ s.known_there.there.header_is in
    subst (λ (h : Header). IsWritable h) (sym is) (writable c.self.inside c.args.self.now.objects c.args.o.0 s)

pub returns-clause-shape : goal.returns-clause-shape
returns-clause-shape c =
    let s = seen c.self.inside c.args.self.now c.self.invariant c.self.view_is c.args.o.0 c.requires in
    let is = c.header_at.ensures ∙ ap₂ (λ (ws : List ℕ) (u : ℕ). unit_header ws (2 * u)) c.deref.ensures.value c.unit_of.ensures
    ∙ s.known_there.there.header_is in
    ap₂ format_allows (ap (λ (h : Header). h.format) is) (field_is c.self.inside c.args.self.now.objects c.args.o.0 s (λ (x : Object). length x.words))
    ∙ s.known_there.there.storable.shape
