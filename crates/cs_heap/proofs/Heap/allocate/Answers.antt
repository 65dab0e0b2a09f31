use Rattle.std.proofs.Common.{◌≡◌, ℕ, List, ◌++◌, length, refl, ap, sym, ◌∙◌, arith, length-append}
use Rattle.std.specs.Ordering.{nat_cmp}
use Rattle.std.specs.FinSet.{FinSet, contains}
use Rattle.cs_heap.specs.Object.{Object, base, new_object, new_slot}
use Rattle.cs_heap.specs.Layout.{marked, watched_in}
use Rattle.cs_heap.proofs.Watching.{watched_in-new, watched_in-past}
use Rattle.cs_heap.specs.declared.Heap.TheInside.{Inside}
use Rattle.cs_heap.proofs.OneObject.{births_of_is, length-copies, marks_of_is}
use Rattle.cs_heap.proofs.Seen.{length-new_row, new_row, new_storable, new_words, object_is_added}
use Rattle.cs_heap.proofs.Standing.{laid_seen, length-all_births, length-all_words, length-marks}
use Rattle.cs_heap.proofs.Heap.allocate.Goals as goal

pub push_object-requires-clause-room : goal.push_object-requires-clause-room
push_object-requires-clause-room c = let laid = laid_seen c.self.inside c.args.self.now c.self.invariant c.self.view_is in
    omega (arith, c.self.invariant.word_room, c.used_words.ensures.value, c.from.ensures, c.from-2.ensures, c.size.ensures, c.if-from-size.false, ap length laid.words, ap length laid.births, length-marks c.self.inside c.args.self.now.objects laid, length-all_words c.args.self.now.objects, length-all_births c.args.self.now.objects, c.self.inside.words.ok.0, c.self.inside.births.ok.0, c.self.inside.marks.ok.0)

pub push_marked-requires : goal.push_marked-requires
push_marked-requires c = let laid = laid_seen c.self.inside c.args.self.now c.self.invariant c.self.view_is in
    omega (arith, c.self.invariant.birth_room, c.used_words.ensures.value, c.from.ensures, c.from-2.ensures, c.size.ensures, c.if-from-size.false, ap length laid.words, ap length laid.births, length-marks c.self.inside c.args.self.now.objects laid, length-all_words c.args.self.now.objects, length-all_births c.args.self.now.objects, c.self.inside.words.ok.0, c.self.inside.births.ok.0, c.self.inside.marks.ok.0)

pub push_marked-requires-2 : goal.push_marked-requires-2
push_marked-requires-2 c = let laid = laid_seen c.self.inside c.args.self.now c.self.invariant c.self.view_is in
    omega (arith, c.self.invariant.mark_room, c.used_words.ensures.value, c.from.ensures, c.from-2.ensures, c.size.ensures, c.if-from-size.false, ap length laid.words, ap length laid.births, length-marks c.self.inside c.args.self.now.objects laid, length-all_words c.args.self.now.objects, length-all_births c.args.self.now.objects, c.self.inside.words.ok.0, c.self.inside.births.ok.0, c.self.inside.marks.ok.0)

pub address-requires : goal.address-requires
address-requires c = let laid = laid_seen c.self.inside c.args.self.now c.self.invariant c.self.view_is in
    omega (arith, c.self.invariant.most, c.len.ensures, c.units_before.ensures, c.used_words.ensures.value, c.from.ensures, c.from-2.ensures, c.size.ensures, c.if-from-size.false, ap length laid.words, ap length laid.births, length-marks c.self.inside c.args.self.now.objects laid, length-all_words c.args.self.now.objects, length-all_births c.args.self.now.objects, c.self.inside.words.ok.0, c.self.inside.births.ok.0, c.self.inside.marks.ok.0)

pub returns-clause-address : goal.returns-clause-address
returns-clause-address c = let laid = laid_seen c.self.inside c.args.self.now c.self.invariant c.self.view_is in
    omega (arith, c.address.ensures, c.len.ensures, c.units_before.ensures, c.used_words.ensures.value, c.from.ensures, c.from-2.ensures, c.size.ensures, c.if-from-size.false, ap length laid.words, ap length laid.births, length-marks c.self.inside c.args.self.now.objects laid, length-all_words c.args.self.now.objects, length-all_births c.args.self.now.objects, c.self.inside.words.ok.0, c.self.inside.births.ok.0, c.self.inside.marks.ok.0)

pub invariant_of-self : goal.invariant_of-self
invariant_of-self c =
    let laid = laid_seen c.self.inside c.args.self.now c.self.invariant c.self.view_is in
    let new : Inside = record { words = c.push_object.new.words; births = c.push_marked.new.row; marks = c.push_marked-2.new.row; limit = c.self.inside.limit; dirty = c.self.inside.dirty } in
    let y : Object = new_object c.args.class c.args.format c.args.slots c.args.birth in
    let count : length y.words ≡ c.args.slots = length-copies c.args.slots (new_slot c.args.format) in
    (object_is_added c.self.inside new c.args.self.now y c.self.invariant c.self.view_is
    (new_storable c.args.class c.args.format c.args.slots c.args.birth c.requires.class c.requires.shape c.ranges.slots.fits)
    (c.push_object.ensures.items ∙ ap (λ (zs : List ℕ). c.self.inside.words.items ++ zs) (new_words c.args.class c.args.format c.args.slots c.args.birth c.empty.result c.min.result c.new_slot.result (c.empty.ensures tt) c.min.ensures c.new_slot.ensures))
    (c.push_marked.ensures.items ∙ ap (λ (zs : List ℕ). c.self.inside.births.items ++ zs) (ap (marked 0 c.args.birth) (sym count) ∙ sym (births_of_is y)))
    (c.push_marked-2.ensures.items ∙ ap (λ (zs : List ℕ). c.self.inside.marks.items ++ zs) (ap (marked 0 1) (sym count) ∙ sym (marks_of_is y)))
    refl
    (omega (arith, ap length c.push_object.ensures.items, length-append c.self.inside.words.items (new_row c.args.class c.args.format c.args.slots c.empty.result c.min.result c.new_slot.result), length-new_row c.args.class c.args.format c.args.slots c.empty.result c.min.result c.new_slot.result, c.used_words.ensures.value, c.from.ensures, c.from-2.ensures, c.size.ensures, c.if-from-size.false, ap length laid.words, ap length laid.births, length-marks c.self.inside c.args.self.now.objects laid, length-all_words c.args.self.now.objects, length-all_births c.args.self.now.objects, c.self.inside.words.ok.0, c.self.inside.births.ok.0, c.self.inside.marks.ok.0))
    (record { limit = refl; words = c.push_object.ensures.capacity; births = c.push_marked.ensures.capacity; marks = c.push_marked-2.ensures.capacity })).sound

pub returns-clause-added : goal.returns-clause-added
returns-clause-added c =
    let laid = laid_seen c.self.inside c.args.self.now c.self.invariant c.self.view_is in
    let new : Inside = record { words = c.push_object.new.words; births = c.push_marked.new.row; marks = c.push_marked-2.new.row; limit = c.self.inside.limit; dirty = c.self.inside.dirty } in
    let y : Object = new_object c.args.class c.args.format c.args.slots c.args.birth in
    let count : length y.words ≡ c.args.slots = length-copies c.args.slots (new_slot c.args.format) in
    (object_is_added c.self.inside new c.args.self.now y c.self.invariant c.self.view_is
    (new_storable c.args.class c.args.format c.args.slots c.args.birth c.requires.class c.requires.shape c.ranges.slots.fits)
    (c.push_object.ensures.items ∙ ap (λ (zs : List ℕ). c.self.inside.words.items ++ zs) (new_words c.args.class c.args.format c.args.slots c.args.birth c.empty.result c.min.result c.new_slot.result (c.empty.ensures tt) c.min.ensures c.new_slot.ensures))
    (c.push_marked.ensures.items ∙ ap (λ (zs : List ℕ). c.self.inside.births.items ++ zs) (ap (marked 0 c.args.birth) (sym count) ∙ sym (births_of_is y)))
    (c.push_marked-2.ensures.items ∙ ap (λ (zs : List ℕ). c.self.inside.marks.items ++ zs) (ap (marked 0 1) (sym count) ∙ sym (marks_of_is y)))
    refl
    (omega (arith, ap length c.push_object.ensures.items, length-append c.self.inside.words.items (new_row c.args.class c.args.format c.args.slots c.empty.result c.min.result c.new_slot.result), length-new_row c.args.class c.args.format c.args.slots c.empty.result c.min.result c.new_slot.result, c.used_words.ensures.value, c.from.ensures, c.from-2.ensures, c.size.ensures, c.if-from-size.false, ap length laid.words, ap length laid.births, length-marks c.self.inside c.args.self.now.objects laid, length-all_words c.args.self.now.objects, length-all_births c.args.self.now.objects, c.self.inside.words.ok.0, c.self.inside.births.ok.0, c.self.inside.marks.ok.0))
    (record { limit = refl; words = c.push_object.ensures.capacity; births = c.push_marked.ensures.capacity; marks = c.push_marked-2.ensures.capacity })).view_is

pub returns-clause-unwatched : goal.returns-clause-unwatched
returns-clause-unwatched c =
    ap (λ (w : FinSet nat_cmp). contains w c.address.result.0)
    (ap (watched_in base) (c.push_marked-2.ensures.items) ∙ watched_in-new c.self.inside.marks.items base c.args.slots)
    ∙ watched_in-past c.self.inside.marks.items base c.address.result.0 (omega (arith, c.address.ensures, c.len.ensures, c.self.inside.marks.ok.0))
