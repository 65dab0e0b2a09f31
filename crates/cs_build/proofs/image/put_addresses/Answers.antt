use Rattle.std.proofs.Common.{◌≡◌, ℕ, ◌+◌, ◌*◌, List, [], ◌∷◌, ◌++◌, map, take, ap, sym, ◌∙◌, arith, append_assoc}
use Rattle.std.proofs.lemmas.List.{take_all}
use Rattle.cs_model.specs.SavedFile.{saved_size, saved_base, words_before}
use Rattle.cs_build.specs.Laid.{Laid, laid_by, laid_slots, laid_size, addresses_from}
use Rattle.cs_build.proofs.Putting.{map_last, size_last, addresses_last, size_within, slots_within}
use Rattle.cs_build.specs.declared.object.Object.{Object}
use Rattle.cs_build.proofs.image.put_addresses.Goals as goal

pub object_size-place-requires : goal.object_size-place-requires
object_size-place-requires c = omega (
  arith,
  c.requires,
  c.slot_count-slots.ensures,
  slots_within (laid_slots (laid_by c.object-item.result)),
  size_within laid_by c.args.objects.now c.loop-object.object-index c.object-item.result c.object-item.is c.loop-object-test.true,
)

pub overflow_add-place : goal.overflow_add-place
overflow_add-place c = omega (arith, c.requires, c.loop-object.invariant.0, size_within laid_by c.args.objects.now c.loop-object.object-index c.object-item.result c.object-item.is c.loop-object-test.true, c.words_before.ensures ∙ ap words_before c.slot_count-slots.ensures)

pub overflow_mul-place : goal.overflow_mul-place
overflow_mul-place c = omega (arith, c.requires, c.loop-object.invariant.0, size_within laid_by c.args.objects.now c.loop-object.object-index c.object-item.result c.object-item.is c.loop-object-test.true, c.words_before.ensures ∙ ap words_before c.slot_count-slots.ensures)

pub overflow_add-from : goal.overflow_add-from
overflow_add-from c = omega (arith, c.requires, c.loop-object.invariant.0, size_within laid_by c.args.objects.now c.loop-object.object-index c.object-item.result c.object-item.is c.loop-object-test.true, c.words_before.ensures ∙ ap words_before c.slot_count-slots.ensures, c.from.ensures)

pub overflow_cast-from : goal.overflow_cast-from
overflow_cast-from c = omega (arith, c.requires, c.loop-object.invariant.0, size_within laid_by c.args.objects.now c.loop-object.object-index c.object-item.result c.object-item.is c.loop-object-test.true, c.words_before.ensures ∙ ap words_before c.slot_count-slots.ensures, c.from.ensures)

pub overflow_add-place-in-loop-object : goal.overflow_add-place-in-loop-object
overflow_add-place-in-loop-object c = omega (arith, c.requires, c.loop-object.invariant.0, size_within laid_by c.args.objects.now c.loop-object.object-index c.object-item.result c.object-item.is c.loop-object-test.true, c.object_size-place.ensures ∙ ap saved_size c.slot_count-slots.ensures)

pub loop-object-preserved : goal.loop-object-preserved
loop-object-preserved c =
    let before : List Laid = map laid_by (take c.loop-object.object-index c.args.objects.now) in
    let more : map laid_by (take (c.loop-object.object-index + 1) c.args.objects.now) ≡ map laid_by (take c.loop-object.object-index c.args.objects.now) ++ laid_by c.object-item.result ∷ [] =
    map_last laid_by c.args.objects.now c.loop-object.object-index c.object-item.result c.object-item.is c.loop-object-test.true in
    let size : c.object_size-place.result ≡ saved_size (laid_slots (laid_by c.object-item.result)) = c.object_size-place.ensures ∙ ap saved_size c.slot_count-slots.ensures in
    let word : c.from.result + 4 * (c.loop-object.place + c.words_before.result) ≡ saved_base + 4 * (c.loop-object.place + words_before (laid_slots (laid_by c.object-item.result))) =
    omega (arith, c.from.ensures, c.words_before.ensures ∙ ap words_before c.slot_count-slots.ensures) in (
      omega (arith, c.loop-object.invariant.0, ap laid_size more, size_last before (laid_by c.object-item.result), size),
      c.in_ok-push.ensures.items
          ∙ ap (λ (xs : List ℕ). xs ++ (c.from.result + 4 * (c.loop-object.place + c.words_before.result)) ∷ []) c.loop-object.invariant.1
          ∙ append_assoc c.args.addresses.now.items (addresses_from c.args.place before) ((c.from.result + 4 * (c.loop-object.place + c.words_before.result)) ∷ [])
          ∙ ap (λ (w : ℕ). c.args.addresses.now.items ++ (addresses_from c.args.place before ++ w ∷ [])) word
          ∙ ap (λ (xs : List ℕ). c.args.addresses.now.items ++ xs) (sym (addresses_last c.args.place before (laid_by c.object-item.result) c.loop-object.place c.loop-object.invariant.0))
          ∙ ap (λ (ls : List Laid). c.args.addresses.now.items ++ addresses_from c.args.place ls) (sym more),
    )

pub returns-clause-behind : goal.returns-clause-behind
returns-clause-behind c = c.loop-object.invariant.0
    ∙ ap (λ (xs : List Object). c.args.place + laid_size (map laid_by xs)) (take_all c.loop-object.object-index c.args.objects.now c.loop-object-test.false)
