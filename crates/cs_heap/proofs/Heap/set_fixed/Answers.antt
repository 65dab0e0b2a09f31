use Rattle.std.proofs.Common.{◌≡◌, ℕ, ◌+◌, ◌*◌, ◌/◌, ◌^◌, ◌<◌, Bool, cond, bit_and, bit_or, refl, ap, ◌∙◌, arith}
use Rattle.cs_heap.specs.declared.Heap.TheInside.{Inside}
use Rattle.cs_heap.specs.Object.{Memory, flags_of}
use Rattle.cs_word.specs.Header.{flag_bits, header_bits}
use Rattle.cs_word.specs.declared.header.Flags.{Flags}
use Rattle.cs_word.specs.declared.header.Header.{Header}
use Rattle.cs_word.proofs.Headers.{set_immutable}
use Rattle.cs_heap.specs.Object.{Object}
use Rattle.cs_heap.proofs.Seen.{field_is, fixed_is_stored, seen, there_is}
use Rattle.cs_heap.proofs.Heap.set_fixed.Goals as goal

pub unit_of-requires : goal.unit_of-requires
unit_of-requires c = (seen c.self.inside c.args.self.now c.self.invariant c.self.view_is c.args.o.0 c.requires).known_there.above

pub set_header-requires-clause-unit : goal.set_header-requires-clause-unit
set_header-requires-clause-unit c = let s = seen c.self.inside c.args.self.now c.self.invariant c.self.view_is c.args.o.0 c.requires in
    omega (arith, s.known_there.there.body_within, c.unit_of.ensures, c.self.inside.words.ok.0)

abbrev made_flags : ℕ → Flags
made_flags k = record { 0 = k }

pub invariant_of-self : goal.invariant_of-self
invariant_of-self c =
    let m : Memory = c.args.self.now in
    let a : ℕ = c.args.o.0 in
    let on : Bool = c.args.on in
    let n : ℕ = flags_of m.objects a in
    let new : Inside = record { words = c.set_header.new.words; births = c.self.inside.births; marks = c.self.inside.marks; limit = c.self.inside.limit; dirty = c.self.inside.dirty } in
    let s = seen c.self.inside m c.self.invariant c.self.view_is a c.requires in
    let small : n < 2 ^ 8 = omega (arith, field_is c.self.inside m.objects a s (λ (x : Object). flag_bits x.flags), (there_is c.self.inside m.objects a s).storable.flags) in
    let was : c.header-header.result.flags.0 ≡ n = ap (λ (h : Header). h.flags.0) c.header-header.ensures.value in
    let is : c.set.new.self.0 ≡ n / 2 * 2 + cond on 1 0 = c.set.ensures tt ∙ ap (λ (k : ℕ). cond on (bit_or k 1) (bit_and k 254)) was ∙ set_immutable on n small in
    (fixed_is_stored c.self.inside new m a c.unit_of.result on c.set.new.self (header_bits (record c.header-header.result { flags = c.set.new.self })) c.self.invariant c.self.view_is c.requires c.unit_of.ensures
    (ap made_flags is) (ap (λ (h : Header). header_bits (record h { flags = c.set.new.self })) c.header-header.ensures.value)
    c.set_header.ensures.items refl refl
    (record { limit = refl; words = c.set_header.ensures.capacity; births = omega arith; marks = omega arith }) refl).sound

pub returns : goal.returns
returns c =
    let m : Memory = c.args.self.now in
    let a : ℕ = c.args.o.0 in
    let on : Bool = c.args.on in
    let n : ℕ = flags_of m.objects a in
    let new : Inside = record { words = c.set_header.new.words; births = c.self.inside.births; marks = c.self.inside.marks; limit = c.self.inside.limit; dirty = c.self.inside.dirty } in
    let s = seen c.self.inside m c.self.invariant c.self.view_is a c.requires in
    let small : n < 2 ^ 8 = omega (arith, field_is c.self.inside m.objects a s (λ (x : Object). flag_bits x.flags), (there_is c.self.inside m.objects a s).storable.flags) in
    let was : c.header-header.result.flags.0 ≡ n = ap (λ (h : Header). h.flags.0) c.header-header.ensures.value in
    let is : c.set.new.self.0 ≡ n / 2 * 2 + cond on 1 0 = c.set.ensures tt ∙ ap (λ (k : ℕ). cond on (bit_or k 1) (bit_and k 254)) was ∙ set_immutable on n small in
    (fixed_is_stored c.self.inside new m a c.unit_of.result on c.set.new.self (header_bits (record c.header-header.result { flags = c.set.new.self })) c.self.invariant c.self.view_is c.requires c.unit_of.ensures
    (ap made_flags is) (ap (λ (h : Header). header_bits (record h { flags = c.set.new.self })) c.header-header.ensures.value)
    c.set_header.ensures.items refl refl
    (record { limit = refl; words = c.set_header.ensures.capacity; births = omega arith; marks = omega arith }) refl).view_is
