use Rattle.std.proofs.Common.{ℕ, refl, ap, arith}
use Rattle.cs_heap.specs.declared.Heap.TheInside.{Inside}
use Rattle.cs_word.specs.Header.{header_bits}
use Rattle.cs_word.specs.declared.header.Header.{Header}
use Rattle.cs_heap.proofs.Seen.{hash_is_stored, seen}
use Rattle.cs_heap.proofs.Heap.set_hash.Goals as goal

pub unit_of-requires : goal.unit_of-requires
unit_of-requires c = (seen c.self.inside c.args.self.now c.self.invariant c.self.view_is c.args.o.0 c.requires.object).known_there.above

pub set_header-requires-clause-unit : goal.set_header-requires-clause-unit
set_header-requires-clause-unit c = let s = seen c.self.inside c.args.self.now c.self.invariant c.self.view_is c.args.o.0 c.requires.object in
    omega (arith, s.known_there.there.body_within, c.unit_of.ensures, c.self.inside.words.ok.0)

pub invariant_of-self : goal.invariant_of-self
invariant_of-self c =
    let new : Inside = record { words = c.set_header.new.words; births = c.self.inside.births; marks = c.self.inside.marks; limit = c.self.inside.limit; dirty = c.self.inside.dirty } in
    let bits : ℕ = header_bits (record c.header.result { hash = c.args.h }) in
    (hash_is_stored c.self.inside new c.args.self.now c.args.o.0 c.unit_of.result c.args.h bits c.self.invariant c.self.view_is c.requires.object c.requires.below c.unit_of.ensures
    (ap (λ (a : Header). header_bits (record a { hash = c.args.h })) c.header.ensures.value) c.set_header.ensures.items refl refl
    (record { limit = refl; words = c.set_header.ensures.capacity; births = omega arith; marks = omega arith }) refl).sound

pub returns : goal.returns
returns c =
    let new : Inside = record { words = c.set_header.new.words; births = c.self.inside.births; marks = c.self.inside.marks; limit = c.self.inside.limit; dirty = c.self.inside.dirty } in
    let bits : ℕ = header_bits (record c.header.result { hash = c.args.h }) in
    (hash_is_stored c.self.inside new c.args.self.now c.args.o.0 c.unit_of.result c.args.h bits c.self.invariant c.self.view_is c.requires.object c.requires.below c.unit_of.ensures
    (ap (λ (a : Header). header_bits (record a { hash = c.args.h })) c.header.ensures.value) c.set_header.ensures.items refl refl
    (record { limit = refl; words = c.set_header.ensures.capacity; births = omega arith; marks = omega arith }) refl).view_is
