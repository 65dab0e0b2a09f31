use Rattle.std.proofs.Common.{sym, ◌∙◌, arith}
use Rattle.cs_lookup.proofs.Finding.{dictionary_named, lookup_begins, lookup_finds, lookup_goes_on, lookup_loops, lookup_missing}
use Rattle.cs_lookup.proofs.find.Goals as goal

pub loop-init : goal.loop-init
loop-init c = lookup_begins _ c.args.class.0 c.args.selector.0 c.requires.class

pub returns-then-not-has_slots-clause-lookup : goal.returns-then-not-has_slots-clause-lookup
returns-then-not-has_slots-clause-lookup c = λ k has.
    lookup_missing _ k c.args.class.0 c.args.selector.0 c.loop.counter c.loop.class.0 c.requires.sound has c.loop.invariant (sym c.has_slots.ensures ∙ c.if-not-has_slots.true)

pub method_in-requires-clause-dictionary : goal.method_in-requires-clause-dictionary
method_in-requires-clause-dictionary c = dictionary_named _ c.loop.class.0 c.slot.result.0 c.requires.sound (sym c.has_slots.ensures ∙ c.if-not-has_slots.false) c.slot.ensures

pub returns-in-Some-clause-lookup : goal.returns-in-Some-clause-lookup
returns-in-Some-clause-lookup c = λ k has.
    lookup_finds _ k c.args.class.0 c.args.selector.0 c.loop.counter c.loop.class.0 c.slot.result.0 c.in-Some.method c.requires.sound has c.loop.invariant c.loop-test.true
    (sym c.has_slots.ensures ∙ c.if-not-has_slots.false) c.slot.ensures (c.in-Some.ensures.found k has)

pub loop-preserved : goal.loop-preserved
loop-preserved c =
    lookup_goes_on _ c.args.class.0 c.args.selector.0 c.loop.counter c.loop.class.0 c.slot.result.0 c.slot-class.result.0 c.requires.sound c.loop.invariant c.loop-test.true
    (sym c.has_slots.ensures ∙ c.if-not-has_slots.false) c.slot.ensures c.slot-class.ensures (λ k has. c.in_default.ensures.found k has)

pub returns-then-has_slots-clause-lookup : goal.returns-then-has_slots-clause-lookup
returns-then-has_slots-clause-lookup c = λ k has.
    lookup_loops _ k c.args.class.0 c.args.selector.0 c.loop.counter c.loop.class.0 c.requires.sound has c.loop.invariant (omega (arith, c.loop-test.false)) (sym c.has_slots-2.ensures ∙ c.if-has_slots.true)

pub returns-else-has_slots-clause-lookup : goal.returns-else-has_slots-clause-lookup
returns-else-has_slots-clause-lookup c = λ k has.
    lookup_missing _ k c.args.class.0 c.args.selector.0 c.loop.counter c.loop.class.0 c.requires.sound has c.loop.invariant (sym c.has_slots-2.ensures ∙ c.if-has_slots.false)
