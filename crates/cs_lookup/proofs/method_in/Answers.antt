use Rattle.std.proofs.Common.{◌≡◌, ℕ, suc, ◌+◌, ◌<◌, ◌^◌, true, ap, sym, ◌∙◌, arith}
use Rattle.std.specs.Prelude.{◌==◌, slice_get}
use Rattle.cs_heap.specs.Object.{slot_count_of, slot_of}
use Rattle.cs_model.specs.Lookup.{if_method}
use Rattle.cs_classes.specs.Meaning.{ref_of}
use Rattle.cs_classes.specs.Sound.{is_reference}
use Rattle.cs_lookup.proofs.Finding.{dictionary_begins, dictionary_ends, from_position, none_found, some_found, values_of, next_other, next_same, no_dictionary}
use Rattle.cs_lookup.proofs.Reading.{has_words}
use Rattle.cs_lookup.proofs.method_in.Goals as goal
use Rattle.cs_lookup.proofs.method_in.Goals.{then-eq+else-is_some, else-eq}

pub returns-then-not-has_slots-clause-found : goal.returns-then-not-has_slots-clause-found
returns-then-not-has_slots-clause-found c = λ k has.
    sym (no_dictionary _ k _ c.args.dictionary.0 c.requires.sound has c.requires.dictionary (sym c.has_slots.ensures ∙ c.if-not-has_slots.true))

pub loop-position-init : goal.loop-position-init
loop-position-init c = λ k has. dictionary_begins _ k _ c.args.dictionary.0 c.requires.sound has (sym c.has_slots.ensures ∙ c.if-not-has_slots.false)

pub method_at-value-requires-clause-values : goal.method_at-value-requires-clause-values
method_at-value-requires-clause-values c =
    let words = has_words _ 2 c.args.dictionary.0 c.requires.sound (sym c.has_slots.ensures ∙ c.if-not-has_slots.false) in
    ap (is_reference c.args.heap.now.objects) c.slot-values.ensures ∙ words.reference 1 (omega (arith, words.enough))

pub returns-then-is_some-clause-found : goal.returns-then-is_some-clause-found
returns-then-is_some-clause-found c = λ k has.
    let words = has_words _ 2 c.args.dictionary.0 c.requires.sound (sym c.has_slots.ensures ∙ c.if-not-has_slots.false) in
    let fits : c.args.selector.0 < 2 ^ 32 = omega arith in
    let slot_fits : slot_of c.args.heap.now.objects c.args.dictionary.0 (c.loop-position.position + 2) < 2 ^ 32 = omega (arith, c.slot.ensures) in
    let within : c.loop-position.position + 2 < slot_count_of c.args.heap.now.objects c.args.dictionary.0 = omega (arith, c.loop-position-test.true, c.slot_count-position-end.ensures) in
    let same : (slot_of c.args.heap.now.objects c.args.dictionary.0 (c.loop-position.position + 2) == c.args.selector.0) ≡ true = ap (λ (n : ℕ). n == c.args.selector.0) (sym c.slot.ensures) ∙ sym c.eq.ensures ∙ c.if-eq.true in
    let value = c.method_at-value.ensures.value k has ∙ ap (λ (n : ℕ). if_method k (slice_get (values_of k (ref_of c.args.heap.now.objects n)) c.loop-position.position)) c.slot-values.ensures in
    some_found _ c.method_at-value.result (from_position c.args.heap.now.objects k (ref_of c.args.heap.now.objects c.args.selector.0) c.args.dictionary.0 (suc c.loop-position.position)) (sym c.is_some.ensures ∙ c.if-is_some.true)
    ∙ sym (next_same _ k c.args.dictionary.0 c.args.selector.0 c.loop-position.position c.requires.sound words c.requires.selector fits slot_fits within same _ value)
    ∙ sym (c.loop-position.invariant k has)

pub loop-position-preserved : goal.loop-position-preserved
loop-position-preserved c = λ k has.
    let words = has_words _ 2 c.args.dictionary.0 c.requires.sound (sym c.has_slots.ensures ∙ c.if-not-has_slots.false) in
    let fits : c.args.selector.0 < 2 ^ 32 = omega arith in
    let slot_fits : slot_of c.args.heap.now.objects c.args.dictionary.0 (c.loop-position.position + 2) < 2 ^ 32 = omega (arith, c.slot.ensures) in
    let within : c.loop-position.position + 2 < slot_count_of c.args.heap.now.objects c.args.dictionary.0 = omega (arith, c.loop-position-test.true, c.slot_count-position-end.ensures) in
    let test : (slot_of c.args.heap.now.objects c.args.dictionary.0 (c.loop-position.position + 2) == c.args.selector.0) ≡ c.eq.result = ap (λ (n : ℕ). n == c.args.selector.0) (sym c.slot.ensures) ∙ sym c.eq.ensures in
    let one : suc c.loop-position.position ≡ c.loop-position.position + 1 = omega arith in
    c.loop-position.invariant k has
    ∙ elim c.if-eq.branch [
      | then-eq+else-is_some w ↦
          let value = w.method_at-value.ensures.value k has ∙ ap (λ (n : ℕ). if_method k (slice_get (values_of k (ref_of c.args.heap.now.objects n)) c.loop-position.position)) c.slot-values.ensures in
          next_same _ k c.args.dictionary.0 c.args.selector.0 c.loop-position.position c.requires.sound words c.requires.selector fits slot_fits within (test ∙ w.if-eq.true) _ value
          ∙ none_found _ w.method_at-value.result _ (sym w.is_some.ensures ∙ w.if-is_some.false)
      | else-eq w ↦ next_other _ k c.args.dictionary.0 c.args.selector.0 c.loop-position.position c.requires.sound words c.requires.selector fits slot_fits within (test ∙ w.if-eq.false)
    ]
    ∙ ap (from_position c.args.heap.now.objects k (ref_of c.args.heap.now.objects c.args.selector.0) c.args.dictionary.0) one

pub returns-clause-found : goal.returns-clause-found
returns-clause-found c = λ k has.
    let words = has_words _ 2 c.args.dictionary.0 c.requires.sound (sym c.has_slots.ensures ∙ c.if-not-has_slots.false) in
    sym (c.loop-position.invariant k has ∙ dictionary_ends _ k _ c.args.dictionary.0 c.loop-position.position words (omega (arith, c.loop-position-test.false, c.slot_count-position-end.ensures)))
